-- The signals of a codec that were never renewed.
use Rattle.codec_graph.specs.declared.pin_kind.PinKind.{PinKind}
use Rattle.std.proofs.Common.{◌≡◌, ◌<◌, ◌==◌, ◌||◌, ◌↔◌, ◌+◌, ℕ, zero, suc, Bool, true, false, List, [], ◌∷◌, ◌++◌, length, get_or, Option, Some, None, refl, sym, ap, subst, ◌∙◌, arith, eq-eqb, pred}
use Rattle.std.specs.Prelude.{Contains, slice_get, MatchOption, option_map}
use Rattle.std.specs.Option.{unwrap_or}
use Rattle.std.specs.List.{list_any}
use Rattle.std.proofs.lemmas.Map.Views.{Contains-from_any}
use Rattle.std.proofs.lemmas.Bool.{eqb-true, or_right}
use Rattle.std.proofs.lemmas.List.{length-append}
use Rattle.std.proofs.lemmas.List.Elements.{All-nil, All-push}
use Rattle.codec_graph.specs.Kinds.{is_candidate_as}
use Rattle.codec_graph.specs.CodecStates.{CodecState}
use Rattle.codec_graph.specs.Order.{IsOrderAs}
use Rattle.stream_format.specs.declared.format.Format.{Format}
use Rattle.stream_format.specs.Layouts.{layout, layout_of}
use Rattle.stream_format.specs.Words.{format_word, HasNoFormat}
use Rattle.codec_sound.specs.Keeping.{KeptSignals, AreKept, signal_by_as, with_signals}
use Rattle.codec_sound.proofs.Callers.{AreKept-with_signals, kept_pins-with_signals}
use Rattle.hda_controller.specs.Keeping.{signal_set, IsKeptFor}
use Rattle.hda_controller.specs.Openings.{IsFresh, AreFresh}
use Rattle.hda_controller.proofs.Renewed.{by-set, with-agree}

same_test : (a : ℕ) → (a == a) ≡ true
same_test a = eq-eqb a a refl

any_from : (pin : ℕ) (pins : List ℕ) (k : ℕ) → k < length pins → get_or pins k pin ≡ pin → list_any (λ other. pin == other) pins ≡ true
any_from pin [] k within is = absurd (omega (arith, within))
any_from pin (p ∷ pins) zero within is = subst (λ (q : ℕ). ((pin == q) || list_any (λ other. pin == other) pins) ≡ true) (sym is) (ap (λ (b : Bool). b || list_any (λ other. pin == other) pins) (same_test pin))
any_from pin (p ∷ pins) (suc k) within is = or_right (pin == p) (list_any (λ other. pin == other) pins) (any_from pin pins k (omega (arith, within)) is)

-- a pin that is there exactly where this test says so is found by it
found_by : (pin : ℕ) (pins : List ℕ) (test found : Bool) → list_any (λ other. pin == other) pins ≡ found → (Contains pins pin ↔ (test ≡ true)) → found ≡ test
found_by pin pins true true is exactly = refl
found_by pin pins false false is exactly = refl
found_by pin pins false true is exactly = sym (exactly.0 (Contains-from_any {eq = λ (a b : ℕ). a == b} (λ x y e. eqb-true x y e) pin pins is))
found_by pin pins true false is exactly = sym is ∙ (let there = exactly.1 refl in any_from pin pins there.0 there.1 there.2)

pub any_is : (pin : ℕ) (pins : List ℕ) (test : Bool) → (Contains pins pin ↔ (test ≡ true)) → list_any (λ other. pin == other) pins ≡ test
any_is pin pins test exactly = found_by pin pins test (list_any (λ other. pin == other) pins) refl exactly

-- ---- one codec

pub fresh_is : (kind : PinKind) (codec : CodecState) (pins : List ℕ) (format : Option Format) → IsOrderAs kind codec.graph pins → option_map layout format ≡ layout_of 0 → MatchOption format (HasNoFormat 0) (λ f. format_word f ≡ 0)
    → IsFresh kind codec (record { pins = with_signals (signal_by_as kind codec.graph codec.settings 0 format) pins; renewals = 0 })
fresh_is kind codec pins format order reading inverse = record {
  fits = record {
    pins = λ pin. ap (list_any (λ (other : ℕ). pin == other)) (kept_pins-with_signals (signal_by_as kind codec.graph codec.settings 0 format) pins)
        ∙ any_is pin pins (is_candidate_as kind codec.graph pin) (order.exactly pin);
    signals = subst (AreKept (signal_set kind codec.graph codec.settings 0 0)) (sym (with-agree (signal_by_as kind codec.graph codec.settings 0 format) (signal_set kind codec.graph codec.settings 0 0) pins (by-set kind codec 0 0 format reading inverse)))
        (AreKept-with_signals (signal_set kind codec.graph codec.settings 0 0) pins);
  };
  count = refl;
}

-- ---- codec by codec

pub fresh_none : (kind : PinKind) → AreFresh kind [] []
fresh_none kind = record {
  fit = record { count = refl; each = λ place codec one at there. (let never : None ≡ Some codec = at in cc) };
  counts = All-nil (λ (one : KeptSignals). one.renewals ≡ 0);
}

-- what stands at a place of two lists that grew by one each
pushed_there : (kind : PinKind) (codecs : List CodecState) (kept : List KeptSignals) (codec : CodecState) (one : KeptSignals) → length kept ≡ length codecs
    → ((place : ℕ) (c : CodecState) (k : KeptSignals) → slice_get codecs place ≡ Some c → slice_get kept place ≡ Some k → IsKeptFor kind 0 0 c.graph c.settings k)
    → IsKeptFor kind 0 0 codec.graph codec.settings one → (place : ℕ) (c : CodecState) (k : KeptSignals) → slice_get (codecs ++ codec ∷ []) place ≡ Some c → slice_get (kept ++ one ∷ []) place ≡ Some k
    → IsKeptFor kind 0 0 c.graph c.settings k
pushed_there kind [] [] codec one size each is zero c k at there =
    subst (λ (c : CodecState). IsKeptFor kind 0 0 c.graph c.settings k) (ap (λ (o : Option CodecState). unwrap_or o codec) at)
    (subst (λ (k : KeptSignals). IsKeptFor kind 0 0 codec.graph codec.settings k) (ap (λ (o : Option KeptSignals). unwrap_or o one) there) is)
pushed_there kind [] [] codec one size each is (suc place) c k at there = (let never : None ≡ Some c = at in cc)
pushed_there kind [] (k0 ∷ kept) codec one size each is place c k at there = absurd (omega (arith, size))
pushed_there kind (c0 ∷ codecs) [] codec one size each is place c k at there = absurd (omega (arith, size))
pushed_there kind (c0 ∷ codecs) (k0 ∷ kept) codec one size each is zero c k at there = each zero c k at there
pushed_there kind (c0 ∷ codecs) (k0 ∷ kept) codec one size each is (suc place) c k at there =
    pushed_there kind codecs kept codec one (ap pred size) (λ p c k a t. each (suc p) c k a t) is place c k at there

pub fresh_push : (kind : PinKind) (codecs : List CodecState) (kept : List KeptSignals) (codec : CodecState) (one : KeptSignals) → AreFresh kind codecs kept → IsFresh kind codec one → AreFresh kind (codecs ++ codec ∷ []) (kept ++ one ∷ [])
fresh_push kind codecs kept codec one are is = record {
  fit = record {
    count = length-append kept (one ∷ []) ∙ (ap (λ (n : ℕ). n + 1) are.fit.count ∙ sym (length-append codecs (codec ∷ [])));
    each = pushed_there kind codecs kept codec one are.fit.count are.fit.each is.fits;
  };
  counts = All-push (λ (one : KeptSignals). one.renewals ≡ 0) kept one are.counts is.count;
}
