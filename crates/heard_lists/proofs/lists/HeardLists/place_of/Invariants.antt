use Rattle.std.proofs.Common.{◌≡◌, ◌<◌, ℕ, get_or, drop}
use Rattle.std.specs.List.{find}
use Rattle.heard_lists.specs.Listings.{is_of, pins_of}
use Rattle.heard_lists.proofs.lists.HeardLists.place_of.Given as goal

-- no list so far is the pin's
abbrev pub invariant-loop-place : goal.invariant-loop-place
invariant-loop-place l =
    (find (is_of l.codec l.pin) (drop l.place l.self) ≡ find (is_of l.codec l.pin) l.self)
    × ((k : ℕ) → k < l.place → get_or (pins_of l.self) k (l.codec, l.pin) ≡ (l.codec, l.pin) → ⊥)
