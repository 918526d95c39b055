-- A plan grows by one entry after another.
use Rattle.std.proofs.Common.{◌≡◌, ◌<◌, ◌≤◌, ◌+◌, ℕ, List, [], ◌∷◌, ◌++◌, map, take, length, get_or, refl, sym, ap, subst, ◌∙◌, append_assoc}
use Rattle.std.specs.Prelude.{All}
use Rattle.std.proofs.lemmas.List.{append-nil, map-append, take_more, take_all}
use Rattle.std.proofs.lemmas.List.Elements.{All-push, All-nil}
use Rattle.codec_graph.specs.declared.raw.RawCodec.{RawCodec}
use Rattle.stream_format.specs.declared.format.Format.{Format}
use Rattle.codec_graph.specs.declared.pin_kind.PinKind.{PinKind}
use Rattle.route_planner.specs.declared.routes.PinPlan.{PinPlan}
use Rattle.codec_graph.specs.Order.{IsOrderAs}
use Rattle.route_planner.specs.Pairs.{pair_as}
use Rattle.route_planner.specs.Plans.{IsOutcomeAs, HaveOutcomesAs, IsPlanAs}
use Rattle.route_planner.specs.Found.{IsEntry}

HaveOutcomes-push : (kind : PinKind) (codec : RawCodec) (format : Format) (earlier entries : List PinPlan) (entry : PinPlan) → HaveOutcomesAs kind codec format earlier entries → IsOutcomeAs kind codec format (earlier ++ entries) entry.pair entry.pin entry.outcome → HaveOutcomesAs kind codec format earlier (entries ++ entry ∷ [])
HaveOutcomes-push kind codec format earlier [] entry have is = (subst (λ (all : List PinPlan). IsOutcomeAs kind codec format all entry.pair entry.pin entry.outcome) (append-nil earlier) is, tt)
HaveOutcomes-push kind codec format earlier (first ∷ entries) entry have is =
    (have.0, HaveOutcomes-push kind codec format (earlier ++ first ∷ []) entries entry have.1 (subst (λ (all : List PinPlan). IsOutcomeAs kind codec format all entry.pair entry.pin entry.outcome) (sym (append_assoc earlier (first ∷ []) entries)) is))

-- the entries of the first pins of the order
pub record AreEntries (kind : PinKind) (codec : RawCodec) (format : Format) (pins : List ℕ) (count : ℕ) (entries : List PinPlan) : Type 0 where
  pub in_order : map (λ (entry : PinPlan). entry.pin) entries ≡ take count pins
  pub pairs : All (λ (entry : PinPlan). entry.pair ≡ pair_as kind codec format.channels entry.pin) entries
  pub outcomes : HaveOutcomesAs kind codec format [] entries

pub AreEntries-none : (kind : PinKind) (codec : RawCodec) (format : Format) (pins : List ℕ) → AreEntries kind codec format pins 0 []
AreEntries-none kind codec format pins = record {
  in_order = refl;
  pairs = All-nil (λ (entry : PinPlan). entry.pair ≡ pair_as kind codec format.channels entry.pin);
  outcomes = tt;
}

pub AreEntries-more : (kind : PinKind) (codec : RawCodec) (format : Format) (pins : List ℕ) (count : ℕ) (entries : List PinPlan) (entry : PinPlan) → count < length pins → AreEntries kind codec format pins count entries → IsEntry kind codec format entries (get_or pins count 0) entry → AreEntries kind codec format pins (count + 1) (entries ++ entry ∷ [])
AreEntries-more kind codec format pins count entries entry within before is = record {
  in_order = map-append (λ (entry : PinPlan). entry.pin) entries (entry ∷ []) ∙ (rw (before.in_order, is.of_pin) (sym (take_more pins count 0 within)));
  pairs = All-push (λ (entry : PinPlan). entry.pair ≡ pair_as kind codec format.channels entry.pin) entries entry before.pairs (is.of_pair ∙ ap (pair_as kind codec format.channels) (sym is.of_pin));
  outcomes = HaveOutcomes-push kind codec format [] entries entry before.outcomes (subst (λ (pin : ℕ). IsOutcomeAs kind codec format entries entry.pair pin entry.outcome) (sym is.of_pin) is.of_outcome);
}

pub IsPlan-all : (kind : PinKind) (codec : RawCodec) (format : Format) (pins : List ℕ) (count : ℕ) (entries : List PinPlan) → IsOrderAs kind codec pins → length pins ≤ count → AreEntries kind codec format pins count entries → IsPlanAs kind codec format record { pins = entries }
IsPlan-all kind codec format pins count entries order all are = record {
  pins = record {
    in_order = subst (λ (list : List ℕ). IsOrderAs kind codec list) (sym (are.in_order ∙ take_all count pins all)) order;
    pairs = are.pairs;
  };
  outcomes = are.outcomes;
}
