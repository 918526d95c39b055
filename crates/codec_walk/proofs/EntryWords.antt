-- Words of entries, one less at a time.
use Rattle.std.proofs.Common.{◌≡◌, ◌+◌, ◌*◌, ◌-◌, ℕ, suc, Bool, true, false, refl, arith}
use Rattle.verb_codes.specs.Lists.{entries_per_word}
use Rattle.codec_walk.specs.Words.{words_for}

-- a word of entries less
pub place_more : (long : Bool) (word : ℕ) → (word + 1) * entries_per_word long ≡ word * entries_per_word long + entries_per_word long
place_more true word = omega arith
place_more false word = omega arith

pub place_none : (long : Bool) → 0 * entries_per_word long ≡ 0
place_none true = refl
place_none false = refl

pub none_left : (long : Bool) (left : ℕ) → 0 ≡ words_for long left → left ≡ 0
none_left true left e = omega arith
none_left false left e = omega arith

pub more_left : (long : Bool) (left words : ℕ) → suc words ≡ words_for long left → words ≡ words_for long (left - entries_per_word long)
more_left true left words e = omega arith
more_left false left words e = omega arith
