-- The made machine takes 44 commands.
use Rattle.std.proofs.Common.{◌≡◌, ◌≢◌, ℕ, zero, suc, true, false, List, [], ◌∷◌, refl, sym, ap, subst, ◌∙◌, arith}
use Rattle.std.specs.Prelude.{All, MatchOption, drop, slice_get}
use Rattle.std.proofs.lemmas.List.Elements.{All-head, All-tail}
use Rattle.codec_graph.specs.Widget.{node_at, is_inner, is_output_converter}
use Rattle.codec_graph.specs.Candidates.{is_candidate}
use Rattle.route_planner.specs.declared.routes.Hop.{Hop}
use Rattle.route_planner.specs.declared.routes.Route.{Route}
use Rattle.route_planner.specs.declared.routes.Outcome.{Outcome}
use Rattle.route_planner.specs.declared.routes.Outcome.TheVariants as outcome
use Rattle.route_planner.specs.declared.routes.PinPlan.{PinPlan}
use Rattle.route_planner.specs.declared.routes.Plan.{Plan}
use Rattle.codec_graph.specs.Order.{comes_before}
use Rattle.route_planner.specs.Paths.{IsAdmissible, LeadsTo, passes}
use Rattle.route_planner.specs.Plans.{IsOutcome, IsPlan}
use Rattle.driver_agenda.specs.Planned.{is_route}
use Rattle.codec_walk.specs.Commands.{walk_commands}
use Rattle.setup_verbs.specs.Roles.{role_of}
use Rattle.setup_verbs.specs.VerbList.{setup_verbs_as, to_all}
use Rattle.codec_graph.specs.declared.pin_kind.PinKind.TheVariants.{Analog}
use Rattle.laws_start.specs.Tasks.{HavePlans}
use Rattle.program_runs.specs.Histories.{command_total}
use Rattle.made_inputs.specs.MadeMachine.{made_codec, made_machine}
use Rattle.made_inputs.specs.MadeSound.{made_format}
use Rattle.program_runs.proofs.Callers.{candidate_is, outcome_is}

-- ---- the one path

abbrev path : Route
path = record { hops = record { nid = 20; index = 0 } ∷ record { nid = 12; index = 0 } ∷ []; converter = 2 }

abbrev IsInner : Hop → Type 0
IsInner hop = passes is_inner (node_at made_codec hop.nid) ≡ true

-- from the pin just the mixer is reached
from_pin : (index : ℕ) (hops : List Hop) (to : ℕ) → MatchOption (slice_get (12 ∷ []) index) ⊥ (λ (next : ℕ). LeadsTo made_codec next hops to) → (index ≡ 0) × LeadsTo made_codec 12 hops to
from_pin zero hops to leads = (refl, leads)
from_pin (suc index) hops to leads = absurd leads

abbrev FromMixer : (index : ℕ) → List Hop → ℕ → Type 0
FromMixer zero hops to = LeadsTo made_codec 2 hops to
FromMixer (suc zero) hops to = LeadsTo made_codec 11 hops to
FromMixer (suc (suc index)) hops to = ⊥

from_mixer : (index : ℕ) (hops : List Hop) (to : ℕ) → MatchOption (slice_get (2 ∷ 11 ∷ []) index) ⊥ (λ (next : ℕ). LeadsTo made_codec next hops to) → FromMixer index hops to
from_mixer zero hops to leads = leads
from_mixer (suc zero) hops to leads = leads
from_mixer (suc (suc index)) hops to leads = absurd leads

not_inner : (nid at : ℕ) → nid ≡ at → passes is_inner (node_at made_codec at) ≡ false → passes is_inner (node_at made_codec nid) ≡ true → ⊥
not_inner nid at is out inner = let both : true ≡ false = sym inner ∙ ap (λ (n : ℕ). passes is_inner (node_at made_codec n)) is ∙ out in cc

not_converter : (nid at : ℕ) → at ≡ nid → passes is_output_converter (node_at made_codec at) ≡ false → passes is_output_converter (node_at made_codec nid) ≡ true → ⊥
not_converter nid at is out ends = let both : true ≡ false = sym ends ∙ ap (λ (n : ℕ). passes is_output_converter (node_at made_codec n)) (sym is) ∙ out in cc

-- the converter ends it
converter_last : (hops : List Hop) (to : ℕ) → LeadsTo made_codec 2 hops to → All IsInner hops → (hops ≡ []) × (2 ≡ to)
converter_last [] to leads inner = (refl, leads)
converter_last (hop ∷ hops) to leads inner = absurd (not_inner hop.nid 2 leads.0 refl (All-head IsInner hop hops inner))

dead_end : (hops : List Hop) (to : ℕ) → LeadsTo made_codec 11 hops to → All IsInner hops → passes is_output_converter (node_at made_codec to) ≡ true → ⊥
dead_end [] to leads inner ends = not_converter to 11 leads refl ends
dead_end (hop ∷ hops) to leads inner ends = not_inner hop.nid 11 leads.0 refl (All-head IsInner hop hops inner)

abbrev hop_at : (nid index : ℕ) → Hop
hop_at nid index = record { nid = nid; index = index }

hop_is : (nid index at place : ℕ) → nid ≡ at → index ≡ place → hop_at nid index ≡ hop_at at place
hop_is nid index at place one two = ap (λ (n : ℕ). hop_at n index) one ∙ ap (λ (n : ℕ). hop_at at n) two

mixer_on : (index : ℕ) (hops : List Hop) (to : ℕ) → FromMixer index hops to → All IsInner hops → passes is_output_converter (node_at made_codec to) ≡ true → (index ≡ 0) × (hops ≡ []) × (2 ≡ to)
mixer_on zero hops to leads inner ends = (let last = converter_last hops to leads inner in (refl, last.0, last.1))
mixer_on (suc zero) hops to leads inner ends = absurd (dead_end hops to leads inner ends)
mixer_on (suc (suc index)) hops to leads inner ends = absurd leads

after_pin : (hops : List Hop) (to : ℕ) → LeadsTo made_codec 12 hops to → All IsInner hops → passes is_output_converter (node_at made_codec to) ≡ true → (hops ≡ record { nid = 12; index = 0 } ∷ []) × (2 ≡ to)
after_pin [] to leads inner ends = absurd (not_converter to 12 leads refl ends)
after_pin (hop ∷ hops) to leads inner ends =
    let on = mixer_on hop.index hops to (from_mixer hop.index hops to leads.1) (All-tail IsInner hop hops inner) ends in
    (ap (λ (rest : List Hop). hop ∷ rest) on.1 ∙ ap (λ (one : Hop). one ∷ []) (hop_is hop.nid hop.index 12 0 leads.0 on.0), on.2)

one_path : (hops : List Hop) (to : ℕ) → hops ≢ [] → LeadsTo made_codec 20 hops to → All IsInner (drop 1 hops) → passes is_output_converter (node_at made_codec to) ≡ true → (hops ≡ path.hops) × (2 ≡ to)
one_path [] to some leads inner ends = absurd (some refl)
one_path (hop ∷ hops) to some leads inner ends =
    let first = from_pin hop.index hops to leads.1 in
    let rest = after_pin hops to first.1 inner ends in
    (ap (λ (rest : List Hop). hop ∷ rest) rest.0 ∙ ap (λ (one : Hop). one ∷ record { nid = 12; index = 0 } ∷ []) (hop_is hop.nid hop.index 20 0 leads.0 first.0), rest.1)

route_is : (route : Route) → IsAdmissible made_codec made_format 20 route → route ≡ path
route_is route is =
    let one = one_path route.hops route.converter is.path.leaves_pin is.path.leads is.path.passes_inner is.path.ends in
    ap (λ (hops : List Hop). record { hops = hops; converter = route.converter }) one.0 ∙ ap (λ (to : ℕ). record { hops = path.hops; converter = to }) (sym one.1)

-- ---- the one plan

abbrev entry_with : (pair : ℕ) → PinPlan
entry_with pair = record { pin = 20; pair = pair; outcome = outcome.Route path }

outcome_is_path : (pair : ℕ) (found : Outcome) → IsOutcome made_codec made_format [] pair 20 found → is_route found ≡ true → found ≡ outcome.Route path
outcome_is_path pair (outcome.Route route) is routed = ap outcome.Route (route_is route is.0.0)
outcome_is_path pair outcome.Blocked is routed = cc
outcome_is_path pair outcome.NoPath is routed = cc

abbrev pin_of : PinPlan → ℕ
pin_of entry = entry.pin

pins_are : (entries : List PinPlan) → IsPlan made_codec made_format (record { pins = entries }) → (pair : ℕ) × (entries ≡ entry_with pair ∷ [])
pins_are [] plan = (let there = (plan.pins.in_order.exactly 20).1 refl in absurd (omega (arith, there.1)))
pins_are (entry ∷ []) plan =
    let candidate : is_candidate made_codec entry.pin ≡ true = (plan.pins.in_order.exactly entry.pin).0 (0, omega arith, refl) in
    let pin_is = candidate_is entry.pin candidate in
    let here : IsOutcome made_codec made_format [] entry.pair 20 entry.outcome = subst (λ (pin : ℕ). IsOutcome made_codec made_format [] entry.pair pin entry.outcome) pin_is plan.outcomes.0 in
    let way = outcome_is_path entry.pair entry.outcome here (outcome_is entry.pair entry.outcome here) in
    (entry.pair, ap (λ (pin : ℕ). record { pin = pin; pair = entry.pair; outcome = entry.outcome } ∷ []) pin_is ∙ ap (λ (found : Outcome). record { pin = 20; pair = entry.pair; outcome = found } ∷ []) way)
pins_are (entry ∷ other ∷ entries) plan =
    let candidate : is_candidate made_codec entry.pin ≡ true = (plan.pins.in_order.exactly entry.pin).0 (0, omega arith, refl) in
    let candidate' : is_candidate made_codec other.pin ≡ true = (plan.pins.in_order.exactly other.pin).0 (1, omega arith, refl) in
    let before : comes_before made_codec entry.pin other.pin ≡ true = plan.pins.in_order.ascending 0 1 0 (omega arith) (omega arith) in
    let never : comes_before made_codec 20 20 ≡ true =
    subst (λ (pin : ℕ). comes_before made_codec 20 pin ≡ true) (candidate_is other.pin candidate') (subst (λ (pin : ℕ). comes_before made_codec pin other.pin ≡ true) (candidate_is entry.pin candidate) before) in
    cc

-- ---- so many commands

count_with : (pair : ℕ) → command_total Analog made_format made_machine (record { pins = entry_with pair ∷ [] } ∷ []) ≡ 44
unfolding walk_commands role_of setup_verbs_as to_all
count_with pair = refl

pub commands_are : (plans : List Plan) → HavePlans made_format made_machine.codecs plans → command_total Analog made_format made_machine plans ≡ 44
commands_are [] have = absurd have
commands_are (plan ∷ []) have =
    let pins = pins_are plan.pins have.0 in
    ap (λ (pins : List PinPlan). command_total Analog made_format made_machine (record { pins = pins } ∷ [])) pins.1 ∙ count_with pins.0
commands_are (plan ∷ other ∷ plans) have = absurd have.1
