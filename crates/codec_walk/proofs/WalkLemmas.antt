-- The steps of a whole walk go on with the dialogue.
use Rattle.std.proofs.Common.{◌≡◌, ◌<◌, ◌-◌, ℕ, zero, suc, List, [], ◌∷◌, refl, ap, arith}
use Rattle.codec_graph.specs.declared.raw.RawNode.{RawNode}
use Rattle.codec_graph.specs.declared.raw.RawCodec.{RawCodec}
use Rattle.codec_walk.specs.declared.words.CodecWord.{CodecWord}
use Rattle.codec_walk.specs.declared.words.CodecWord.TheVariants.{Vendor}
use Rattle.codec_walk.specs.declared.step.Step.TheVariants.{Codec, Capabilities}
use Rattle.codec_walk.specs.Words.{later_codec, with_codec_word}
use Rattle.codec_walk.specs.Walks.{unknown, from_codec, from_widgets, from_count, walk}
use Rattle.codec_walk.specs.Steps.{from_walk}
use Rattle.codec_walk.proofs.StepLemmas.{with_word_nodes}

module _ (node : RawNode) (nid left : ℕ) where
  pub begins : (codec : RawCodec) (address : ℕ) → codec ≡ unknown address → from_walk (Codec Vendor) codec node nid left ≡ walk address
  unfolding walk from_codec
  begins codec address is = ap (λ (codec : RawCodec). from_walk (Codec Vendor) codec node nid left) is

  codec_more : (codec : RawCodec) (next : CodecWord) (words : List CodecWord) → words ≡ next ∷ later_codec next
      → from_walk (Codec next) codec node nid left ≡ from_codec words codec from_count
  unfolding from_codec
  codec_more codec next words are = rw are refl

  -- a word of the codec is put, and another one is left
  pub word_more : (old new : RawCodec) (nodes : List RawNode) (word next : CodecWord) (answer : ℕ)
      → new ≡ with_codec_word old word answer → later_codec word ≡ next ∷ later_codec next
      → from_walk (Codec next) (record new { nodes = nodes }) node nid left
      ≡ from_codec (later_codec word) (with_codec_word (record old { nodes = nodes }) word answer) from_count
  word_more old new nodes word next answer put are =
      rw (put, with_word_nodes old nodes word answer) (codec_more (record (with_codec_word old word answer) { nodes = nodes }) next (later_codec word) are)

  pub widgets_more : (codec : RawCodec) → 0 < left → from_walk Capabilities codec node nid (left - 1) ≡ from_widgets left nid codec
  widgets_more codec some = by left some
    where
      by : (n : ℕ) → 0 < n → from_walk Capabilities codec node nid (n - 1) ≡ from_widgets n nid codec
      by zero some = absurd (omega arith)
      by (suc n) some = let e : suc n - 1 ≡ n = omega arith in rw e refl

-- a word of the codec is put, and none is left
pub word_none : (old new : RawCodec) (nodes : List RawNode) (word : CodecWord) (answer : ℕ)
    → new ≡ with_codec_word old word answer → later_codec word ≡ []
    → from_count (record new { nodes = nodes })
    ≡ from_codec (later_codec word) (with_codec_word (record old { nodes = nodes }) word answer) from_count
unfolding from_codec
word_none old new nodes word answer put none =
    rw (put, with_word_nodes old nodes word answer, none) refl
