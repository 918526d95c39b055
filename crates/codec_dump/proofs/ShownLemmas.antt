-- What is shown of characters.
use Rattle.std.proofs.Common.{◌≡◌, ◌≤◌, ℕ, Bool, true, false, refl, arith}
use Rattle.std.specs.Prelude.{◌==◌, ◌||◌, if◌then◌else◌, nat_lt}
use Rattle.std.specs.Char.{encode_utf8}
use Rattle.std.proofs.lemmas.Grind.{common_steps}
use Rattle.codec_dump.specs.Texts.{shown_byte, shown}

-- a byte from 128 on is shown as it is
high_byte : (b : ℕ) → 128 ≤ b → shown_byte b ≡ b
high_byte b high = grind (arith, common_steps)

-- a character is shown byte by byte
pub shown_char : (c : ℕ) → encode_utf8 (shown_byte c) ≡ shown (encode_utf8 c)
unfolding encode_utf8
shown_char c = by_test (nat_lt c 128) refl
  where
    low : (b : Bool) → (nat_lt c 32 || c == 127) ≡ b → nat_lt c 128 ≡ true → encode_utf8 (if b then 63 else c) ≡ shown (encode_utf8 c)
    low true e small = grind (arith, common_steps)
    low false e small = grind (arith, common_steps)

    by_test : (b : Bool) → nat_lt c 128 ≡ b → encode_utf8 (shown_byte c) ≡ shown (encode_utf8 c)
    by_test true e = low (nat_lt c 32 || c == 127) refl e
    by_test false e = grind (arith, common_steps, high_byte)
