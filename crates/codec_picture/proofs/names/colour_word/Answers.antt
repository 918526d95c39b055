use Rattle.std.proofs.Common.{◌≡◌, ◌∙◌, ℕ, ap}
use Rattle.codec_picture.specs.Names.{colours, word_at}
use Rattle.codec_picture.proofs.names.colour_word.Goals as goal

-- the rows are the definition's, one by one
pub returns : goal.returns
unfolding colours
returns c =
    let word : c.word_at.result.now ≡ word_at colours c.bits_of.result = rw c.as_slice.ensures at c.word_at.ensures in
    word ∙ ap (λ (place : ℕ). word_at colours place) c.bits_of.ensures.value
