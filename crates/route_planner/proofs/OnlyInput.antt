-- A graph has one plan for an input.
use Rattle.std.proofs.Common.{◌≡◌, ℕ, List, [], ◌∷◌, refl, sym, ap, subst, ◌∙◌, inl, inr, arith}
use Rattle.std.proofs.lemmas.Bool.{cases_eq}
use Rattle.codec_graph.specs.declared.raw.RawCodec.{RawCodec}
use Rattle.stream_format.specs.declared.format.Format.{Format}
use Rattle.route_planner.specs.declared.routes.Route.{Route}
use Rattle.route_planner.specs.declared.routes.Outcome.TheVariants as outcome
use Rattle.route_planner.specs.declared.routes.PinPlan.{PinPlan}
use Rattle.route_planner.specs.declared.routes.Plan.{Plan}
use Rattle.route_planner.specs.Paths.{LeadsTo, IsNoLarger}
use Rattle.route_planner.specs.Inputs.{IsNoLargerInput, IsLeastInput, IsFirstInput, IsInputEntry, AreInputEntries, IsInputPlan, IsOnlyInputPlan}
use Rattle.codec_graph.proofs.Callers.{asymmetric}
use Rattle.route_planner.proofs.OnlyPlan.{same_entry}
use Rattle.route_planner.proofs.Unique.{same_paths}

-- two paths of which neither is larger begin at one converter
same_converter : (one other : Route) → IsNoLargerInput one other → IsNoLargerInput other one → one.converter ≡ other.converter
same_converter one other small large =
    elim small [
      | inl less ↦ elim large [ inl more ↦ absurd (omega arith) | inr even ↦ absurd (omega (arith, even.0)) ]
      | inr even ↦ elim large [
        | inl more ↦ absurd (omega (arith, even.0))
        | inr odd ↦ elim even.1 [
          | inl lower ↦ elim odd.1 [ inl upper ↦ absurd (omega arith) | inr same ↦ absurd (omega (arith, same.0)) ]
          | inr same ↦ same.0
        ]
      ]
    ]

-- and of paths from one converter it is the order of paths of a pin
by_hops : (one other : Route) → one.converter ≡ other.converter → IsNoLargerInput one other → IsNoLarger one other
by_hops one other same small =
    elim small [
      | inl less ↦ inl less
      | inr even ↦ elim even.1 [
        | inl lower ↦ absurd (omega arith)
        | inr indexes ↦ inr (even.0, indexes.1)
      ]
    ]

same_least : (codec : RawCodec) (format : Format) (pin : ℕ) (one other : Route) → IsLeastInput codec format pin one → IsLeastInput codec format pin other → one ≡ other
same_least codec format pin one other is twin =
    let small = is.least other twin.admissible in
    let large = twin.least one is.admissible in
    let same = same_converter one other small large in
    let leads = subst (λ (n : ℕ). LeadsTo codec n other.hops pin) (sym same) twin.admissible.path.leads in
    same_paths codec one.converter pin one other same is.admissible.path.leads leads (by_hops one other same small) (by_hops other one (sym same) large)

same_first : (codec : RawCodec) (format : Format) (pin other : ℕ) → IsFirstInput codec format pin → IsFirstInput codec format other → pin ≡ other
same_first codec format pin other is twin =
    elim (cases_eq pin other) [
      | inl same ↦ same
      | inr ne ↦ absurd (asymmetric codec pin other (is.before other twin.candidate twin.has_path (λ e. ne (sym e))) (twin.before pin is.candidate is.has_path ne))
    ]

same_input : (codec : RawCodec) (format : Format) (entry other : PinPlan) → IsInputEntry codec format entry → IsInputEntry codec format other → entry ≡ other
same_input codec format entry other is twin =
    let pin = same_first codec format entry.pin other.pin is.first twin.first in
    let least = subst (λ (n : ℕ). IsLeastInput codec format n twin.route) (sym pin) twin.least in
    let route = same_least codec format entry.pin is.route twin.route is.least least in
    same_entry entry other pin (is.pair ∙ sym twin.pair) (is.outcome_is ∙ (ap outcome.Route route ∙ sym twin.outcome_is))

same_inputs : (codec : RawCodec) (format : Format) (entries others : List PinPlan) → AreInputEntries codec format entries → AreInputEntries codec format others → entries ≡ others
same_inputs codec format [] [] are twins = refl
same_inputs codec format [] (other ∷ []) are twins = absurd (are other.pin twins.first.candidate twins.first.has_path)
same_inputs codec format [] (other ∷ next ∷ others) are twins = absurd twins
same_inputs codec format (entry ∷ []) [] are twins = absurd (twins entry.pin are.first.candidate are.first.has_path)
same_inputs codec format (entry ∷ []) (other ∷ []) are twins = ap (λ (e : PinPlan). e ∷ []) (same_input codec format entry other are twins)
same_inputs codec format (entry ∷ []) (other ∷ next ∷ others) are twins = absurd twins
same_inputs codec format (entry ∷ next ∷ entries) others are twins = absurd are

abbrev plan_of : List PinPlan → Plan
plan_of pins = record { pins = pins }

pub one_plan : (codec : RawCodec) (format : Format) (first second : Plan) → IsInputPlan codec format first → IsInputPlan codec format second → first ≡ second
one_plan codec format first second is twin = ap plan_of (same_inputs codec format first.pins second.pins is twin)

pub only_input_plan : (codec : RawCodec) (format : Format) (plan : Plan) → IsInputPlan codec format plan → IsOnlyInputPlan codec format plan
only_input_plan codec format plan is other twin = one_plan codec format other plan twin is
