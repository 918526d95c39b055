-- The addresses of codecs. High Definition Audio 1.0a, 3.3.9.
use Rattle.std.specs.Prelude.{ℕ, zero, suc, ◌++◌, List, [], ◌∷◌, take, if◌then◌else◌}
use Rattle.verb_codes.specs.Words.{has_bit}

-- those below this number whose bits are set, ascending
abbrev pub addresses_below : (bits most : ℕ) → List ℕ
addresses_below bits zero = []
addresses_below bits (suc most) = addresses_below bits most ++ (if has_bit bits most then most ∷ [] else [])

-- how many codecs are walked at most. This project's own
abbrev pub most_codecs : ℕ
most_codecs = 4

-- the lowest of them, so many at most
abbrev pub addresses_in : (bits : ℕ) → List ℕ
addresses_in bits = take most_codecs (addresses_below bits 15)
