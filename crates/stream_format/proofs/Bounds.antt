-- No frame has more blocks than the most of its rate.
use Rattle.std.proofs.Common.{◌≡◌, ℕ, zero, suc, ◌*◌, ◌%◌, ◌≤◌, Bool, true, ◌&&◌, nat_le, List, [], ◌∷◌, slice_index, refl, arith}
use Rattle.std.proofs.Math.Nat.{mul-le-mul_right}
use Rattle.stream_format.specs.declared.format.Rate.{Rate}
use Rattle.stream_format.specs.declared.format.Rate.TheVariants.{R8, R16, R44, R48, R96, R192}
use Rattle.stream_format.specs.declared.format.Format.{Format}
use Rattle.stream_format.specs.Cadence.{blocks_of, most_blocks, block_bytes, most_bytes, cadence, cadence_44}

abbrev are_at_most : ℕ → List ℕ → Bool
are_at_most most [] = true
are_at_most most (x ∷ xs) = nat_le x most && are_at_most most xs

each : (most : ℕ) (xs : List ℕ) → are_at_most most xs ≡ true → (k : ℕ) → slice_index xs k ≤ most
each most [] h k = omega arith
each most (x ∷ xs) h zero = grind (arith, h)
each most (x ∷ xs) h (suc k) = each most xs (grind (arith, h)) k

pub bounded : (rate : Rate) (frame : ℕ) → blocks_of rate frame ≤ most_blocks rate
unfolding blocks_of cadence_44
bounded R8 frame = each 1 (cadence R8) refl (frame % 6)
bounded R16 frame = each 1 (cadence R16) refl (frame % 3)
bounded R44 frame = each 1 cadence_44 refl (frame % 160)
bounded R48 frame = each 1 (cadence R48) refl (frame % 1)
bounded R96 frame = each 2 (cadence R96) refl (frame % 1)
bounded R192 frame = each 4 (cadence R192) refl (frame % 1)

-- nor more bytes than the most of its format
pub most-bounds : (format : Format) (frame : ℕ) → blocks_of format.rate frame * block_bytes format ≤ most_bytes format
most-bounds format frame = mul-le-mul_right (block_bytes format) (bounded format.rate frame)
