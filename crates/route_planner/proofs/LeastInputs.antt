-- The least admissible path of a pin, from one converter after another.
use Rattle.std.proofs.Common.{◌≡◌, ◌≢◌, ◌<◌, ◌≤◌, ◌+◌, ℕ, true, false, length, Option, Some, None, sym, ◌∙◌, inl, inr, arith}
use Rattle.std.proofs.lemmas.Bool.{cases_eq, cases_lt, ltb-true, ltb-false, false≢true}
use Rattle.codec_graph.specs.declared.raw.RawCodec.{RawCodec}
use Rattle.codec_graph.specs.Widget.{is_input_converter}
use Rattle.stream_format.specs.declared.format.Format.{Format}
use Rattle.route_planner.specs.declared.routes.Route.{Route}
use Rattle.route_planner.specs.Inputs.{IsInputAdmissible, IsNoLargerInput}
use Rattle.route_planner.specs.FoundInputs.{HasNoPathFrom, IsLeastFrom, IsLeastBelow, IsFoundBelow, IsFoundInput, is_shorter}
use Rattle.route_planner.specs.Search.{IsBounded}
use Rattle.route_planner.specs.Ways.{AreNoLarger}
use Rattle.route_planner.proofs.InputPaths.{passes_below}

pub none_below : (codec : RawCodec) (format : Format) (pin : ℕ) → IsFoundBelow codec format pin 0 None
none_below codec format pin other right less = omega arith

-- no path from one more node: what was found stays
pub found_without : (codec : RawCodec) (format : Format) (pin from : ℕ) (found : Option Route) → HasNoPathFrom codec format pin from → IsFoundBelow codec format pin from found → IsFoundBelow codec format pin (from + 1) found
found_without codec format pin from None none below = λ other right less.
    let apart : other.converter ≢ from = none other right in
    below other right (omega arith)
found_without codec format pin from (Some route) none below = record {
  begins = omega (arith, below.begins);
  admissible = below.admissible;
  least = λ other right less.
      let apart : other.converter ≢ from = none other right in
      below.least other right (omega arith);
}

-- how the order of paths from one converter is that of paths from any
no_larger_from : (route other : Route) → route.converter ≡ other.converter → AreNoLarger route.hops other.hops → IsNoLargerInput route other
no_larger_from route other same small =
    elim small [
      | inl less ↦ inl less
      | inr even ↦ inr (even.0, inr (same, even.1))
    ]

no_longer : (route other : Route) → IsNoLargerInput route other → length route.hops ≤ length other.hops
no_longer route other small = elim small [ inl less ↦ omega arith | inr even ↦ omega (arith, even.0) ]

no_longer_from : (route other : Route) → AreNoLarger route.hops other.hops → length route.hops ≤ length other.hops
no_longer_from route other small = elim small [ inl less ↦ omega arith | inr even ↦ omega (arith, even.0) ]

-- a shorter path from one more node takes the place of what was found
pub found_shorter : (codec : RawCodec) (format : Format) (pin from : ℕ) (found : Option Route) (route : Route) → IsLeastFrom codec format pin from route → is_shorter route found ≡ true → IsFoundBelow codec format pin from found → IsLeastBelow codec format pin (from + 1) route
found_shorter codec format pin from None route here shorter below = record {
  begins = omega (arith, here.begins);
  admissible = here.admissible;
  least = λ other right less. elim (cases_eq other.converter from) [
    | inl same ↦ no_larger_from route other (here.begins ∙ sym same) (here.least other right same)
    | inr apart ↦ absurd (below other right (omega arith))
  ];
}
found_shorter codec format pin from (Some best) route here shorter below =
    let less_hops : length route.hops < length best.hops = ltb-true (length route.hops) (length best.hops) shorter in
    record {
      begins = omega (arith, here.begins);
      admissible = here.admissible;
      least = λ other right less. elim (cases_eq other.converter from) [
        | inl same ↦ no_larger_from route other (here.begins ∙ sym same) (here.least other right same)
        | inr apart ↦ let small = no_longer best other (below.least other right (omega arith)) in inl (omega arith)
      ];
    }

-- and one that is not shorter does not
pub found_longer : (codec : RawCodec) (format : Format) (pin from : ℕ) (found : Option Route) (route : Route) → IsLeastFrom codec format pin from route → is_shorter route found ≡ false → IsFoundBelow codec format pin from found → IsFoundBelow codec format pin (from + 1) found
found_longer codec format pin from None route here longer below = absurd (false≢true (sym longer))
found_longer codec format pin from (Some best) route here longer below =
    let no_less : length best.hops ≤ length route.hops = ltb-false (length route.hops) (length best.hops) longer in
    record {
      begins = omega (arith, below.begins);
      admissible = below.admissible;
      least = λ other right less. elim (cases_eq other.converter from) [
        | inl same ↦
            let small = no_longer_from route other (here.least other right same) in
            elim (cases_lt (length best.hops) (length other.hops)) [
              | inl fewer ↦ inl fewer
              | inr more ↦ inr (omega arith, inl (omega (arith, below.begins)))
            ]
        | inr apart ↦ below.least other right (omega arith)
      ];
    }

-- all converters are below 128
begins_below : (codec : RawCodec) (format : Format) (pin : ℕ) (other : Route) → IsBounded codec → IsInputAdmissible codec format pin other → other.converter < 128
begins_below codec format pin other bounded right = passes_below codec is_input_converter other.converter bounded right.path.begins

pub found_all : (codec : RawCodec) (format : Format) (pin below : ℕ) (found : Option Route) → IsBounded codec → 128 ≤ below → IsFoundBelow codec format pin below found → IsFoundInput codec format pin found
found_all codec format pin below None bounded whole is = λ path.
    let within = begins_below codec format pin path.0 bounded path.1 in
    is path.0 path.1 (omega arith)
found_all codec format pin below (Some route) bounded whole is = record {
  admissible = is.admissible;
  least = λ other right.
      let within = begins_below codec format pin other bounded right in
      is.least other right (omega arith);
}
