use Rattle.std.proofs.Common.{◌≡◌, ◌∙◌, ℕ, ap}
use Rattle.codec_picture.specs.Names.{chassis, word_at}
use Rattle.codec_picture.proofs.names.chassis_word.Goals as goal

-- the rows are the definition's, one by one
pub returns : goal.returns
unfolding chassis
returns c =
    let word : c.word_at.result.now ≡ word_at chassis c.bits_of.result = rw c.as_slice.ensures at c.word_at.ensures in
    word ∙ ap (λ (place : ℕ). word_at chassis place) c.bits_of.ensures.value
