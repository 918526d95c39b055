-- A graph has one plan, and each of its routes is an admissible path.
use Rattle.std.proofs.Common.{◌≡◌, ◌==◌, ◌&&◌, ◌||◌, ◌⊎◌, ℕ, Bool, true, List, [], ◌∷◌, ◌++◌, map, get_or, refl, sym, ap, subst, ◌∙◌, inl, inr, suc, arith}
use Rattle.std.specs.Prelude.{All, AllPairs, Contains, nat_lt}
use Rattle.std.proofs.lemmas.Bool.Decides.{nat_tests}
use Rattle.std.proofs.lemmas.List.Elements.{All-nil, All-cons, All-head, All-tail, Contains-append_right, Contains-append_cases}
use Rattle.codec_graph.specs.declared.raw.RawCodec.{RawCodec}
use Rattle.codec_graph.specs.Widget.{node_at}
use Rattle.stream_format.specs.declared.format.Format.{Format}
use Rattle.codec_graph.specs.declared.pin_kind.PinKind.{PinKind}
use Rattle.route_planner.specs.declared.routes.Outcome.{Outcome}
use Rattle.route_planner.specs.declared.routes.Outcome.TheVariants as outcome
use Rattle.route_planner.specs.declared.routes.PinPlan.{PinPlan}
use Rattle.route_planner.specs.declared.routes.Plan.{Plan}
use Rattle.codec_graph.specs.Order.{association_of, sequence_of, comes_before, IsOrderAs}
use Rattle.route_planner.specs.Pairs.{pair_as}
use Rattle.route_planner.specs.Plans.{IsOutcomeAs, HaveOutcomesAs, IsPlanAs, IsAdmissibleOutcomeAs, HasAdmissibleRoutesAs}
use Rattle.route_planner.specs.Laws.{IsOnlyPlanAs}
use Rattle.route_planner.proofs.Unique.{least_is_one}
use Rattle.codec_graph.proofs.Callers.{same_order}

same_outcome : (kind : PinKind) (codec : RawCodec) (format : Format) (earlier : List PinPlan) (pair pin : ℕ) (o p : Outcome) → IsOutcomeAs kind codec format earlier pair pin o → IsOutcomeAs kind codec format earlier pair pin p → o ≡ p
same_outcome kind codec format earlier pair pin (outcome.Route one) (outcome.Route other) is twin = ap outcome.Route (least_is_one kind codec format earlier pair pin one other is twin)
same_outcome kind codec format earlier pair pin (outcome.Route one) outcome.Blocked is twin = absurd (twin.1 one is.0)
same_outcome kind codec format earlier pair pin (outcome.Route one) outcome.NoPath is twin = absurd (twin one is.0.0)
same_outcome kind codec format earlier pair pin outcome.Blocked (outcome.Route other) is twin = absurd (is.1 other twin.0)
same_outcome kind codec format earlier pair pin outcome.Blocked outcome.Blocked is twin = refl
same_outcome kind codec format earlier pair pin outcome.Blocked outcome.NoPath is twin = absurd (twin is.0.0 is.0.1)
same_outcome kind codec format earlier pair pin outcome.NoPath (outcome.Route other) is twin = absurd (is other twin.0.0)
same_outcome kind codec format earlier pair pin outcome.NoPath outcome.Blocked is twin = absurd (is twin.0.0 twin.0.1)
same_outcome kind codec format earlier pair pin outcome.NoPath outcome.NoPath is twin = refl

abbrev entry_of : ℕ → ℕ → Outcome → PinPlan
entry_of pin pair o = record { pin = pin; pair = pair; outcome = o }

pub same_entry : (one other : PinPlan) → one.pin ≡ other.pin → one.pair ≡ other.pair → one.outcome ≡ other.outcome → one ≡ other
same_entry one other pin pair o = let whole : entry_of one.pin one.pair one.outcome ≡ entry_of other.pin other.pair other.outcome = cc in whole

abbrev pins_of : List PinPlan → List ℕ
pins_of entries = map (λ (entry : PinPlan). entry.pin) entries

same_entries : (kind : PinKind) (codec : RawCodec) (format : Format) (earlier entries others : List PinPlan) → pins_of entries ≡ pins_of others → All (λ (entry : PinPlan). entry.pair ≡ pair_as kind codec format.channels entry.pin) entries → All (λ (entry : PinPlan). entry.pair ≡ pair_as kind codec format.channels entry.pin) others → HaveOutcomesAs kind codec format earlier entries → HaveOutcomesAs kind codec format earlier others → entries ≡ others
same_entries kind codec format earlier [] [] pins pairs twins have had = refl
same_entries kind codec format earlier [] (other ∷ others) pins pairs twins have had = cc
same_entries kind codec format earlier (entry ∷ entries) [] pins pairs twins have had = cc
same_entries kind codec format earlier (entry ∷ entries) (other ∷ others) pins pairs twins have had =
    let pin : entry.pin ≡ other.pin = cc in
    let rest_pins : pins_of entries ≡ pins_of others = cc in
    let paired = All-head (λ (entry : PinPlan). entry.pair ≡ pair_as kind codec format.channels entry.pin) entry entries pairs in
    let twinned = All-head (λ (entry : PinPlan). entry.pair ≡ pair_as kind codec format.channels entry.pin) other others twins in
    let pair : entry.pair ≡ other.pair = paired ∙ (ap (pair_as kind codec format.channels) pin ∙ sym twinned) in
    let had_here = subst (λ (n : ℕ). IsOutcomeAs kind codec format earlier entry.pair n other.outcome) (sym pin) (subst (λ (n : ℕ). IsOutcomeAs kind codec format earlier n other.pin other.outcome) (sym pair) had.0) in
    let same = same_entry entry other pin pair (same_outcome kind codec format earlier entry.pair entry.pin entry.outcome other.outcome have.0 had_here) in
    let had_rest = subst (λ (e : PinPlan). HaveOutcomesAs kind codec format (earlier ++ e ∷ []) others) (sym same) had.1 in
    let rest = same_entries kind codec format (earlier ++ entry ∷ []) entries others rest_pins (All-tail (λ (entry : PinPlan). entry.pair ≡ pair_as kind codec format.channels entry.pin) entry entries pairs) (All-tail (λ (entry : PinPlan). entry.pair ≡ pair_as kind codec format.channels entry.pin) other others twins) have.1 had_rest in
    cc

abbrev plan_of : List PinPlan → Plan
plan_of pins = record { pins = pins }

pub only_plan : (kind : PinKind) (codec : RawCodec) (format : Format) (plan : Plan) → IsPlanAs kind codec format plan → IsOnlyPlanAs kind codec format plan
only_plan kind codec format plan is other twin =
    ap plan_of (same_entries kind codec format [] other.pins plan.pins (same_order kind codec (pins_of other.pins) (pins_of plan.pins) twin.pins.in_order is.pins.in_order) twin.pins.pairs is.pins.pairs twin.outcomes is.outcomes)

admissible_outcome : (kind : PinKind) (codec : RawCodec) (format : Format) (earlier : List PinPlan) (pair pin : ℕ) (o : Outcome) → IsOutcomeAs kind codec format earlier pair pin o → IsAdmissibleOutcomeAs kind codec format pin o
admissible_outcome kind codec format earlier pair pin (outcome.Route route) is = is.0.0
admissible_outcome kind codec format earlier pair pin outcome.Blocked is = tt
admissible_outcome kind codec format earlier pair pin outcome.NoPath is = tt

pub admissible_entries : (kind : PinKind) (codec : RawCodec) (format : Format) (earlier entries : List PinPlan) → HaveOutcomesAs kind codec format earlier entries → All (λ (entry : PinPlan). IsAdmissibleOutcomeAs kind codec format entry.pin entry.outcome) entries
admissible_entries kind codec format earlier [] have = All-nil (λ (entry : PinPlan). IsAdmissibleOutcomeAs kind codec format entry.pin entry.outcome)
admissible_entries kind codec format earlier (entry ∷ entries) have =
    All-cons (λ (entry : PinPlan). IsAdmissibleOutcomeAs kind codec format entry.pin entry.outcome) entry entries (admissible_outcome kind codec format earlier entry.pair entry.pin entry.outcome have.0) (admissible_entries kind codec format (earlier ++ entry ∷ []) entries have.1)

pub admissible_routes : (kind : PinKind) (codec : RawCodec) (format : Format) (plan : Plan) → IsPlanAs kind codec format plan → HasAdmissibleRoutesAs kind codec format plan
admissible_routes kind codec format plan is = record { pins = is.pins; admissible = admissible_entries kind codec format [] plan.pins is.outcomes }
