-- The made machine's pin has a route.
use Rattle.codec_graph.specs.declared.pin_kind.PinKind.TheVariants.{Analog}
use Rattle.std.proofs.Common.{◌≡◌, ◌==◌, ◌+◌, ◌-◌, ℕ, zero, suc, Bool, true, false, not, cond, List, [], ◌∷◌, map, Option, Some, None, refl, sym, ap, subst, ◌∙◌, arith, eqb-true}
use Rattle.std.specs.Prelude.{◌&&◌, ◌||◌, Contains, slice_get, nat_lt}
use Rattle.std.proofs.lemmas.List.Elements.{All-nil, All-cons}
use Rattle.std.proofs.lemmas.Bool.{and_parts}
use Rattle.codec_graph.specs.declared.raw.RawNode.{RawNode}
use Rattle.codec_graph.specs.Candidates.{is_candidate, is_candidate_node}
use Rattle.codec_graph.specs.Widget.{node_at, is_inner}
use Rattle.hda_files.specs.declared.machine.Machine.{Machine}
use Rattle.route_planner.specs.declared.routes.Hop.{Hop}
use Rattle.route_planner.specs.declared.routes.Route.{Route}
use Rattle.route_planner.specs.declared.routes.Outcome.{Outcome}
use Rattle.route_planner.specs.declared.routes.Outcome.TheVariants as outcome
use Rattle.route_planner.specs.declared.routes.PinPlan.{PinPlan}
use Rattle.route_planner.specs.declared.routes.Plan.{Plan}
use Rattle.route_planner.specs.Plans.{IsOpenPath, IsOutcome, IsPlan, LeavesOpen}
use Rattle.route_planner.specs.Paths.{IsAdmissible, can_carry, can_be_left_as, passes}
use Rattle.driver_agenda.specs.Planned.{has_route, have_route, is_route}
use Rattle.laws_start.specs.Tasks.{HavePlans}
use Rattle.made_inputs.specs.MadeMachine.{made_codec, made_machine, widgets}
use Rattle.made_inputs.specs.MadeSound.{made_format}

-- ---- the one candidate

-- each item passes a test with its place, counted from a number
abbrev all_from : {X : Type 0} → (ℕ → X → Bool) → ℕ → List X → Bool
all_from test from [] = true
all_from test from (x ∷ xs) = test from x && all_from test (from + 1) xs

passes_at : {X : Type 0} (test : ℕ → X → Bool) (from : ℕ) (xs : List X) (k : ℕ) (x : X) → all_from test from xs ≡ true → slice_get xs k ≡ Some x → test (from + k) x ≡ true
passes_at test from [] k x all there = cc
passes_at test from (y ∷ xs) zero x all there =
    let same : y ≡ x = cc in
    ap (λ (n : ℕ). test n x) (omega arith) ∙ ap (test from) (sym same) ∙ (and_parts (test from y) (all_from test (from + 1) xs) all).0
passes_at test from (y ∷ xs) (suc k) x all there =
    ap (λ (n : ℕ). test n x) (omega arith) ∙ passes_at test (from + 1) xs k x (and_parts (test from y) (all_from test (from + 1) xs) all).1 there

abbrev is_pin_or_none : ℕ → RawNode → Bool
is_pin_or_none place node = not (is_candidate_node node) || place == 18

all_so : all_from is_pin_or_none 0 widgets ≡ true
all_so = refl

or_by : (candidate there : Bool) → candidate ≡ true → (not candidate || there) ≡ true → there ≡ true
or_by true there is either = either
or_by false there is either = cc

pub candidate_is : (nid : ℕ) → is_candidate made_codec nid ≡ true → nid ≡ 20
candidate_is nid is = by (nat_lt nid made_codec.first) (node_at made_codec nid) refl is
  where
    by : (below : Bool) (found : Option RawNode) → cond below None (slice_get widgets (nid - made_codec.first)) ≡ found → passes is_candidate_node found ≡ true → nid ≡ 20
    by below None found candidate = cc
    by true (Some node) found candidate = cc
    by false (Some node) found candidate =
        let place = eqb-true (0 + (nid - 2)) 18 (or_by (is_candidate_node node) (0 + (nid - 2) == 18) candidate (passes_at is_pin_or_none 0 widgets (nid - 2) node all_so found)) in
        omega (arith, place)

-- ---- its path

abbrev path : Route
path = record { hops = record { nid = 20; index = 0 } ∷ record { nid = 12; index = 0 } ∷ []; converter = 2 }

abbrev first_hop : Hop
first_hop = record { nid = 20; index = 0 }

abbrev second_hop : Hop
second_hop = record { nid = 12; index = 0 }

some_path : IsAdmissible made_codec made_format 20 path
some_path = record {
  path = record {
    leaves_pin = λ none. cc;
    leads = (refl, (refl, refl));
    passes_inner = All-cons (λ (hop : Hop). passes is_inner (node_at made_codec hop.nid) ≡ true) second_hop [] refl
        (All-nil (λ (hop : Hop). passes is_inner (node_at made_codec hop.nid) ≡ true));
    ends = refl;
  };
  carried = All-cons (λ (nid : ℕ). passes (can_carry Analog) (node_at made_codec nid) ≡ true) 20 (12 ∷ 2 ∷ []) refl
      (All-cons (λ (nid : ℕ). passes (can_carry Analog) (node_at made_codec nid) ≡ true) 12 (2 ∷ []) refl
      (All-cons (λ (nid : ℕ). passes (can_carry Analog) (node_at made_codec nid) ≡ true) 2 [] refl
      (All-nil (λ (nid : ℕ). passes (can_carry Analog) (node_at made_codec nid) ≡ true))));
  left_well = All-cons (λ (hop : Hop). passes (can_be_left_as Analog made_codec hop.index) (node_at made_codec hop.nid) ≡ true) first_hop (second_hop ∷ []) refl
      (All-cons (λ (hop : Hop). passes (can_be_left_as Analog made_codec hop.index) (node_at made_codec hop.nid) ≡ true) second_hop [] refl
      (All-nil (λ (hop : Hop). passes (can_be_left_as Analog made_codec hop.index) (node_at made_codec hop.nid) ≡ true)));
  supported = refl;
}

open_path : (pair : ℕ) → IsOpenPath made_codec made_format [] pair 20 path
open_path pair = (some_path, All-nil (λ (entry : PinPlan). LeavesOpen made_codec path pair entry.pair entry.outcome))

pub outcome_is : (pair : ℕ) (outcome : Outcome) → IsOutcome made_codec made_format [] pair 20 outcome → is_route outcome ≡ true
outcome_is pair (outcome.Route route) is = refl
outcome_is pair outcome.Blocked is = absurd (is.1 path (open_path pair))
outcome_is pair outcome.NoPath is = absurd (is path some_path)

-- ---- the plan

abbrev pin_of : PinPlan → ℕ
pin_of entry = entry.pin

or_true : (b : Bool) → b ≡ true → (rest : Bool) → (b || rest) ≡ true
or_true true is rest = refl
or_true false is rest = cc

routed_by : (entries : List PinPlan) → IsPlan made_codec made_format (record { pins = entries }) → has_route (record { pins = entries }) ≡ true
routed_by [] plan = (let there : Contains (map pin_of []) 20 = (plan.pins.in_order.exactly 20).1 refl in absurd (omega (arith, there.1)))
routed_by (entry ∷ entries) plan =
    let candidate : is_candidate made_codec entry.pin ≡ true = (plan.pins.in_order.exactly entry.pin).0 (0, omega arith, refl) in
    let is = candidate_is entry.pin candidate in
    or_true (is_route entry.outcome)
    (outcome_is entry.pair entry.outcome (subst (λ (pin : ℕ). IsOutcome made_codec made_format [] entry.pair pin entry.outcome) is plan.outcomes.0)) (has_route (record { pins = entries }))

plans_routed : (plans : List Plan) → HavePlans made_format made_machine.codecs plans → have_route plans ≡ true
plans_routed [] have = absurd have
plans_routed (plan ∷ plans) have =
    let is : IsPlan made_codec made_format plan = have.0 in
    or_true (has_route plan) (routed_by plan.pins is) (have_route plans)

pub routed : (machine : Machine) (plans : List Plan) → machine ≡ made_machine → HavePlans made_format machine.codecs plans → have_route plans ≡ true
routed machine plans is have = plans_routed plans (subst (λ (machine : Machine). HavePlans made_format machine.codecs plans) is have)
