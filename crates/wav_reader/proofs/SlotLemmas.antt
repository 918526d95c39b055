-- The slots of a group, byte by byte.
use Rattle.std.proofs.Common.{◌≡◌, ◌≤◌, ◌<◌, ℕ, suc, ◌+◌, true, false, List, [], ◌∷◌, length, take, drop, get_or, refl, ap, ◌∙◌, drop-cons, arith}
use Rattle.stream_format.specs.declared.format.Bits.TheVariants.{B16, B24, B32}
use Rattle.wav_reader.specs.Readers.{slots}

-- one byte, and those behind it
byte_at : (count : ℕ) (bytes : List ℕ) (at : ℕ) → at < length bytes → take (suc count) (drop at bytes) ≡ get_or bytes at 0 ∷ take count (drop (suc at) bytes)
byte_at count bytes at inside = ap (take (suc count)) (drop-cons bytes at 0 inside)

-- two, three and four bytes from a place on
pub pair_at : (bytes : List ℕ) (at : ℕ) → at + 1 < length bytes → take 2 (drop at bytes) ≡ get_or bytes at 0 ∷ get_or bytes (at + 1) 0 ∷ []
pair_at bytes at inside =
    byte_at 1 bytes at (omega (arith, inside))
    ∙ ap (λ rest. get_or bytes at 0 ∷ rest) (byte_at 0 bytes (suc at) (omega (arith, inside)))
    ∙ ap (λ next. get_or bytes at 0 ∷ get_or bytes next 0 ∷ []) (omega arith)

pub three_at : (bytes : List ℕ) (at : ℕ) → at + 2 < length bytes → take 3 (drop at bytes) ≡ get_or bytes at 0 ∷ get_or bytes (at + 1) 0 ∷ get_or bytes (at + 2) 0 ∷ []
three_at bytes at inside =
    byte_at 2 bytes at (omega (arith, inside))
    ∙ ap (λ rest. get_or bytes at 0 ∷ rest) (pair_at bytes (suc at) (omega (arith, inside)))
    ∙ ap (λ next. get_or bytes at 0 ∷ get_or bytes next 0 ∷ get_or bytes (suc at + 1) 0 ∷ []) (omega arith)
    ∙ ap (λ last. get_or bytes at 0 ∷ get_or bytes (at + 1) 0 ∷ get_or bytes last 0 ∷ []) (omega arith)

pub four_at : (bytes : List ℕ) (at : ℕ) → at + 3 < length bytes
    → take 4 (drop at bytes) ≡ get_or bytes at 0 ∷ get_or bytes (at + 1) 0 ∷ get_or bytes (at + 2) 0 ∷ get_or bytes (at + 3) 0 ∷ []
four_at bytes at inside =
    byte_at 3 bytes at (omega (arith, inside))
    ∙ ap (λ rest. get_or bytes at 0 ∷ rest) (three_at bytes (suc at) (omega (arith, inside)))
    ∙ ap (λ next. get_or bytes at 0 ∷ get_or bytes next 0 ∷ get_or bytes (suc at + 1) 0 ∷ get_or bytes (suc at + 2) 0 ∷ []) (omega arith)
    ∙ ap (λ next. get_or bytes at 0 ∷ get_or bytes (at + 1) 0 ∷ get_or bytes next 0 ∷ get_or bytes (suc at + 2) 0 ∷ []) (omega arith)
    ∙ ap (λ last. get_or bytes at 0 ∷ get_or bytes (at + 1) 0 ∷ get_or bytes (at + 2) 0 ∷ get_or bytes last 0 ∷ []) (omega arith)

pub four_doubled : (bytes : List ℕ) → 8 ≤ length bytes
    → slots true B16 bytes 4
    ≡ get_or bytes 0 0 ∷ get_or bytes 1 0 ∷ get_or bytes 0 0 ∷ get_or bytes 1 0 ∷ get_or bytes 2 0 ∷ get_or bytes 3 0 ∷ get_or bytes 2 0 ∷ get_or bytes 3 0
    ∷ get_or bytes 4 0 ∷ get_or bytes 5 0 ∷ get_or bytes 4 0 ∷ get_or bytes 5 0 ∷ get_or bytes 6 0 ∷ get_or bytes 7 0 ∷ get_or bytes 6 0 ∷ get_or bytes 7 0 ∷ []
unfolding slots
four_doubled bytes many =
    let first = pair_at bytes 0 (omega arith) in
    let second = pair_at bytes 2 (omega arith) in
    let third = pair_at bytes 4 (omega arith) in
    let fourth = pair_at bytes 6 (omega arith) in
    rw (first, second, third, fourth) refl

pub two_doubled : (bytes : List ℕ) → 8 ≤ length bytes
    → slots true B32 bytes 2
    ≡ get_or bytes 0 0 ∷ get_or bytes 1 0 ∷ get_or bytes 2 0 ∷ get_or bytes 3 0 ∷ get_or bytes 0 0 ∷ get_or bytes 1 0 ∷ get_or bytes 2 0 ∷ get_or bytes 3 0
    ∷ get_or bytes 4 0 ∷ get_or bytes 5 0 ∷ get_or bytes 6 0 ∷ get_or bytes 7 0 ∷ get_or bytes 4 0 ∷ get_or bytes 5 0 ∷ get_or bytes 6 0 ∷ get_or bytes 7 0 ∷ []
unfolding slots
two_doubled bytes many =
    let first = four_at bytes 0 (omega arith) in
    let second = four_at bytes 4 (omega arith) in
    rw (first, second) refl

pub four_widened : (bytes : List ℕ) → 12 ≤ length bytes
    → slots false B24 bytes 4
    ≡ 0 ∷ get_or bytes 0 0 ∷ get_or bytes 1 0 ∷ get_or bytes 2 0 ∷ 0 ∷ get_or bytes 3 0 ∷ get_or bytes 4 0 ∷ get_or bytes 5 0
    ∷ 0 ∷ get_or bytes 6 0 ∷ get_or bytes 7 0 ∷ get_or bytes 8 0 ∷ 0 ∷ get_or bytes 9 0 ∷ get_or bytes 10 0 ∷ get_or bytes 11 0 ∷ []
unfolding slots
four_widened bytes many =
    let first = three_at bytes 0 (omega arith) in
    let second = three_at bytes 3 (omega arith) in
    let third = three_at bytes 6 (omega arith) in
    let fourth = three_at bytes 9 (omega arith) in
    rw (first, second, third, fourth) refl

pub two_widened : (bytes : List ℕ) → 6 ≤ length bytes
    → slots true B24 bytes 2
    ≡ 0 ∷ get_or bytes 0 0 ∷ get_or bytes 1 0 ∷ get_or bytes 2 0 ∷ 0 ∷ get_or bytes 0 0 ∷ get_or bytes 1 0 ∷ get_or bytes 2 0
    ∷ 0 ∷ get_or bytes 3 0 ∷ get_or bytes 4 0 ∷ get_or bytes 5 0 ∷ 0 ∷ get_or bytes 3 0 ∷ get_or bytes 4 0 ∷ get_or bytes 5 0 ∷ []
unfolding slots
two_widened bytes many =
    let first = three_at bytes 0 (omega arith) in
    let second = three_at bytes 3 (omega arith) in
    rw (first, second) refl
