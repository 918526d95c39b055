-- What a piece that is stored in memory changes.
use Rattle.std.proofs.Common.{◌≡◌, ◌<◌, ◌≤◌, ◌+◌, ℕ, Bool, true, false, List, ◌++◌, length, take, drop, slice_index, if◌then◌else◌, refl, inl, inr, arith, rules, tests}
use Rattle.std.proofs.lemmas.List.{places}
use Rattle.world_rings.specs.Memory.{stored, IsOutside, PieceStored}

piece_size : (at : ℕ) (piece memory : List ℕ) → at + length piece ≤ length memory → length (take at memory ++ (piece ++ drop (at + length piece) memory)) ≡ length memory
piece_size at piece memory fits = search (rules, places)

piece_below : (at other : ℕ) (piece memory : List ℕ) → at + length piece ≤ length memory → other < at → slice_index (take at memory ++ (piece ++ drop (at + length piece) memory)) other ≡ slice_index memory other
piece_below at other piece memory fits below = search (rules, places)

piece_above : (at other : ℕ) (piece memory : List ℕ) → at + length piece ≤ length memory → at + length piece ≤ other → slice_index (take at memory ++ (piece ++ drop (at + length piece) memory)) other ≡ slice_index memory other
piece_above at other piece memory fits above = search (rules, places)

piece_inside : (at place : ℕ) (piece memory : List ℕ) → at + length piece ≤ length memory → place < length piece → slice_index (take at memory ++ (piece ++ drop (at + length piece) memory)) (at + place) ≡ slice_index piece place
piece_inside at place piece memory fits within = search (rules, places)

piece_stored : (at : ℕ) (piece memory : List ℕ) → at + length piece ≤ length memory → PieceStored at piece memory (take at memory ++ (piece ++ drop (at + length piece) memory))
piece_stored at piece memory fits = record {
  size = piece_size at piece memory fits;
  outside = λ other apart. elim apart [ inl below ↦ piece_below at other piece memory fits below | inr above ↦ piece_above at other piece memory fits above ];
  inside = λ place within. piece_inside at place piece memory fits within;
}

stored_by : (fits : Bool) (at : ℕ) (piece memory : List ℕ) → (fits ≡ true → at + length piece ≤ length memory)
    → let new = if fits then take at memory ++ (piece ++ drop (at + length piece) memory) else memory in
    (length new ≡ length memory) × ((other : ℕ) → IsOutside at (length piece) other → slice_index new other ≡ slice_index memory other)
stored_by true at piece memory fits = let p = piece_stored at piece memory (fits refl) in (p.size, p.outside)
stored_by false at piece memory fits = (refl, λ other apart. refl)

-- a piece stored, where it fits or else not, changes nothing outside
pub stored_outside : (at : ℕ) (piece memory : List ℕ) → (length (stored memory at piece) ≡ length memory) × ((other : ℕ) → IsOutside at (length piece) other → slice_index (stored memory at piece) other ≡ slice_index memory other)
stored_outside at piece memory = stored_by _ at piece memory (λ fits. search (rules, tests))

stored_at : (fits : Bool) (at : ℕ) (piece memory : List ℕ) → fits ≡ true → at + length piece ≤ length memory
    → PieceStored at piece memory (if fits then take at memory ++ (piece ++ drop (at + length piece) memory) else memory)
stored_at true at piece memory is fits = piece_stored at piece memory fits
stored_at false at piece memory is fits = cc

pub piece_is_stored : (at : ℕ) (piece memory : List ℕ) → at + length piece ≤ length memory → PieceStored at piece memory (stored memory at piece)
piece_is_stored at piece memory fits = stored_at _ at piece memory (search (rules, tests)) fits
