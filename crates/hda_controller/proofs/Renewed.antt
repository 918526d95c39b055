-- Kept signals that are worked out anew are those of the moment.
use Rattle.codec_graph.specs.declared.pin_kind.PinKind.{PinKind}
use Rattle.std.proofs.Common.{◌≡◌, ◌≢◌, ◌<◌, ◌==◌, ◌⊎◌, inl, inr, ℕ, zero, suc, pred, List, [], ◌∷◌, length, map, take, set, get_or, Option, Some, None, refl, sym, ap, ◌∙◌, arith}
use Rattle.std.specs.Prelude.{slice_get, slice_index, MatchOption, option_map}
use Rattle.std.specs.Option.{unwrap_or}
use Rattle.std.specs.List.{list_any}
use Rattle.codec_graph.specs.Kinds.{is_candidate_as}
use Rattle.codec_graph.specs.CodecStates.{CodecState}
use Rattle.stream_format.specs.declared.format.Format.{Format}
use Rattle.stream_format.specs.Layouts.{Layout, layout, layout_of}
use Rattle.stream_format.specs.Words.{format_word, HasNoFormat}
use Rattle.codec_sound.specs.declared.signals.Signal.{Signal}
use Rattle.heard_frames.specs.HeardLists.{signal_with_as}
use Rattle.codec_sound.specs.Keeping.{KeptSignals, signal_by_as, with_signals, renewed, counted_on}
use Rattle.codec_sound.proofs.Callers.{AreKept-renewed, pins_of_renewed, renewed-agree}
use Rattle.heard_frames.proofs.Callers.{signal_by-word}
use Rattle.hda_controller.specs.Keeping.{signal_laid, signal_set, IsKeptFor}
use Rattle.hda_controller.specs.Renewing.{renewed_for, all_renewed, one_renewed}

-- ---- signals

-- the signal of a link frame's codec is that of its parts
pub laid-with : (kind : PinKind) (codec : CodecState) (tag word pin : ℕ) (o : Option Layout) → signal_with_as kind (Some codec) tag word o pin ≡ signal_laid kind codec.graph codec.settings tag word o pin
laid-with kind codec tag word pin None = refl
laid-with kind codec tag word pin (Some layout) = refl

pub set-with : (kind : PinKind) (codec : CodecState) (tag word pin : ℕ) → signal_set kind codec.graph codec.settings tag word pin ≡ signal_with_as kind (Some codec) tag word (layout_of word) pin
unfolding signal_set
set-with kind codec tag word pin = sym (laid-with kind codec tag word pin (layout_of word))

pub by-set : (kind : PinKind) (codec : CodecState) (tag word : ℕ) (format : Option Format) → option_map layout format ≡ layout_of word → MatchOption format (HasNoFormat word) (λ f. format_word f ≡ word)
    → (pin : ℕ) → signal_by_as kind codec.graph codec.settings tag format pin ≡ signal_set kind codec.graph codec.settings tag word pin
by-set kind codec tag word format reading inverse pin = signal_by-word kind codec tag word pin format reading inverse ∙ sym (set-with kind codec tag word pin)

pub with-agree : (f g : ℕ → Signal) (pins : List ℕ) → ((pin : ℕ) → f pin ≡ g pin) → with_signals f pins ≡ with_signals g pins
with-agree f g [] same = refl
with-agree f g (pin ∷ pins) same =
    ap (λ (s : Signal). (pin, s) ∷ with_signals f pins) (same pin) ∙ ap (λ (rest : List (ℕ × Signal)). (pin, g pin) ∷ rest) (with-agree f g pins same)

pub renewed_by_word : (kind : PinKind) (codec : CodecState) (tag word : ℕ) (format : Option Format) (one : KeptSignals) → option_map layout format ≡ layout_of word
    → MatchOption format (HasNoFormat word) (λ f. format_word f ≡ word)
    → record { pins = renewed (signal_by_as kind codec.graph codec.settings tag format) one.pins; renewals = counted_on one.renewals } ≡ renewed_for kind tag word codec one
renewed_by_word kind codec tag word format one reading inverse =
    ap (λ (pins : List (ℕ × Signal)). record { pins = pins; renewals = counted_on one.renewals })
    (renewed-agree (signal_by_as kind codec.graph codec.settings tag format) (signal_set kind codec.graph codec.settings tag word) one.pins (by-set kind codec tag word format reading inverse))

module _ (kind : PinKind) (tag word : ℕ) where
  -- worked out anew, they are those of the codec, whatever they were before
  pub renewed_fits : (tag_before word_before : ℕ) (before codec : CodecState) (one : KeptSignals) → before.graph ≡ codec.graph → IsKeptFor kind tag_before word_before before.graph before.settings one
      → IsKeptFor kind tag word codec.graph codec.settings (renewed_for kind tag word codec one)
  renewed_fits tag_before word_before before codec one graphs is = record {
    pins = λ pin. ap (list_any (λ (other : ℕ). pin == other)) (pins_of_renewed (signal_set kind codec.graph codec.settings tag word) one.pins) ∙ (is.pins pin ∙ ap (λ graph. is_candidate_as kind graph pin) graphs);
    signals = AreKept-renewed (signal_set kind codec.graph codec.settings tag word) one.pins;
  }

  -- ---- all of them

  pub length-all : (codecs : List CodecState) (kept : List KeptSignals) → length kept ≡ length codecs → length (all_renewed kind tag word codecs kept) ≡ length codecs
  length-all [] kept is = is
  length-all (codec ∷ codecs) [] is = is
  length-all (codec ∷ codecs) (one ∷ kept) is = ap suc (length-all codecs kept (ap pred is))

  pub all_there : (codecs : List CodecState) (kept : List KeptSignals) (place : ℕ) (codec : CodecState) (one : KeptSignals) → slice_get codecs place ≡ Some codec
      → slice_get (all_renewed kind tag word codecs kept) place ≡ Some one → (before : KeptSignals) × (slice_get kept place ≡ Some before) × (renewed_for kind tag word codec before ≡ one)
  all_there [] kept place codec one at there = (let never : None ≡ Some codec = at in cc)
  all_there (c ∷ codecs) [] place codec one at there = (let never : None ≡ Some one = there in cc)
  all_there (c ∷ codecs) (k ∷ kept) zero codec one at there =
      (k, refl, ap (λ (found : Option CodecState). renewed_for kind tag word (unwrap_or found c) k) (sym at) ∙ ap (λ (found : Option KeptSignals). unwrap_or found one) there)
  all_there (c ∷ codecs) (k ∷ kept) (suc place) codec one at there = all_there codecs kept place codec one at there

  pub renewals-all : (codecs : List CodecState) (kept : List KeptSignals) → length kept ≡ length codecs
      → map (λ one. one.renewals) (all_renewed kind tag word codecs kept) ≡ map counted_on (map (λ one. one.renewals) kept)
  renewals-all [] [] is = refl
  renewals-all [] (one ∷ kept) is = absurd (omega arith)
  renewals-all (codec ∷ codecs) [] is = refl
  renewals-all (codec ∷ codecs) (one ∷ kept) is = ap (λ (rest : List ℕ). counted_on one.renewals ∷ rest) (renewals-all codecs kept (ap pred is))

  -- one more
  pub all_more : (codecs : List CodecState) (kept : List KeptSignals) (place : ℕ) (codec : CodecState) (one : KeptSignals) → place < length codecs → place < length kept
      → codec ≡ get_or codecs place codec → one ≡ get_or (all_renewed kind tag word (take place codecs) kept) place one
      → set (all_renewed kind tag word (take place codecs) kept) place (renewed_for kind tag word codec one) ≡ all_renewed kind tag word (take (suc place) codecs) kept
  all_more [] kept place codec one within inside at there = absurd (omega (arith, within))
  all_more (c ∷ codecs) [] place codec one within inside at there = absurd (omega (arith, inside))
  all_more (c ∷ codecs) (k ∷ kept) zero codec one within inside at there =
      ap (λ (first : KeptSignals). first ∷ kept) (ap (λ (o : CodecState). renewed_for kind tag word o one) at ∙ ap (renewed_for kind tag word c) there)
  all_more (c ∷ codecs) (k ∷ kept) (suc place) codec one within inside at there =
      ap (λ (rest : List KeptSignals). renewed_for kind tag word c k ∷ rest) (all_more codecs kept place codec one (omega (arith, within)) (omega (arith, inside)) at there)

  -- ---- one of them

  pub set_one : (codecs : List CodecState) (kept : List KeptSignals) (place : ℕ) (codec : CodecState) (one : KeptSignals) → place < length codecs → place < length kept
      → codec ≡ get_or codecs place codec → one ≡ get_or kept place one → set kept place (renewed_for kind tag word codec one) ≡ one_renewed kind tag word codecs place kept
  set_one [] kept place codec one within inside at there = absurd (omega (arith, within))
  set_one (c ∷ codecs) [] place codec one within inside at there = absurd (omega (arith, inside))
  set_one (c ∷ codecs) (k ∷ kept) zero codec one within inside at there =
      ap (λ (first : KeptSignals). first ∷ kept) (ap (λ (o : CodecState). renewed_for kind tag word o one) at ∙ ap (renewed_for kind tag word c) there)
  set_one (c ∷ codecs) (k ∷ kept) (suc place) codec one within inside at there =
      ap (λ (rest : List KeptSignals). k ∷ rest) (set_one codecs kept place codec one (omega (arith, within)) (omega (arith, inside)) at there)

  pub length-one : (codecs : List CodecState) (place : ℕ) (kept : List KeptSignals) → length kept ≡ length codecs → length (one_renewed kind tag word codecs place kept) ≡ length codecs
  length-one [] place kept is = is
  length-one (codec ∷ codecs) place [] is = is
  length-one (codec ∷ codecs) zero (one ∷ kept) is = is
  length-one (codec ∷ codecs) (suc place) (one ∷ kept) is = ap suc (length-one codecs place kept (ap pred is))

  pub renewals-one : (codecs : List CodecState) (place : ℕ) (kept : List KeptSignals) → length kept ≡ length codecs
      → map (λ one. one.renewals) (one_renewed kind tag word codecs place kept) ≡ set (map (λ one. one.renewals) kept) place (counted_on (slice_index (map (λ one. one.renewals) kept) place))
  renewals-one [] place [] is = refl
  renewals-one [] place (one ∷ kept) is = absurd (omega arith)
  renewals-one (codec ∷ codecs) place [] is = refl
  renewals-one (codec ∷ codecs) zero (one ∷ kept) is = refl
  renewals-one (codec ∷ codecs) (suc place) (one ∷ kept) is = ap (λ (rest : List ℕ). one.renewals ∷ rest) (renewals-one codecs place kept (ap pred is))

  -- what stands at a place after one was worked out: that one, or what stood there
  abbrev pub One : ℕ → ℕ → CodecState → KeptSignals → KeptSignals → Type 0
  One place other codec before one = ((other ≡ place) × (renewed_for kind tag word codec before ≡ one)) ⊎ ((other ≢ place) × (before ≡ one))

  pub one_there : (codecs : List CodecState) (place : ℕ) (kept : List KeptSignals) (other : ℕ) (codec : CodecState) (one : KeptSignals) → slice_get codecs other ≡ Some codec
      → slice_get (one_renewed kind tag word codecs place kept) other ≡ Some one → (before : KeptSignals) × (slice_get kept other ≡ Some before) × One place other codec before one
  one_there [] place kept other codec one at there = (let never : None ≡ Some codec = at in cc)
  one_there (c ∷ codecs) place [] other codec one at there = (let never : None ≡ Some one = there in cc)
  one_there (c ∷ codecs) zero (k ∷ kept) zero codec one at there =
      (k, refl, inl (refl, ap (λ (found : Option CodecState). renewed_for kind tag word (unwrap_or found c) k) (sym at) ∙ ap (λ (found : Option KeptSignals). unwrap_or found one) there))
  one_there (c ∷ codecs) zero (k ∷ kept) (suc other) codec one at there = (one, there, inr ((λ same. omega (arith, same)), refl))
  one_there (c ∷ codecs) (suc place) (k ∷ kept) zero codec one at there = (k, refl, inr ((λ same. omega (arith, same)), ap (λ (found : Option KeptSignals). unwrap_or found k) there))
  one_there (c ∷ codecs) (suc place) (k ∷ kept) (suc other) codec one at there =
      let rest = one_there codecs place kept other codec one at there in (
        rest.0,
        rest.1,
        elim rest.2 [
          | inl hit ↦ inl (ap suc hit.0, hit.1)
          | inr apart ↦ inr ((λ same. apart.0 (ap pred same)), apart.1)
        ],
      )
