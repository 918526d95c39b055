use Rattle.std.proofs.Common.{◌≡◌, ◌≢◌, ℕ, ◌+◌, ◌-◌, ◌^◌, ◌≤◌, ◌<◌, List}
use Rattle.hda_outside.proofs.Lengths.{LiesIn}
use Rattle.hda_outside.proofs.reading.file_length.Given as goal

-- The length lies between two bounds, which are half as far apart after each turn.
abbrev pub invariant-loop : goal.invariant-loop
invariant-loop g l =
    record {
      ordered : l.low ≤ l.high;
      within : l.high ≤ l.most;
      near : l.high - l.low < 2 ^ (64 - l.counter);
      told : g.S.Shelf.told l.shelf ≡ g.S.Shelf.told l.fn.shelf;
      lies : LiesIn (g.S.Shelf.told l.fn.shelf) l.name l.low l.high;
      given : g.S.Shelf.given l.shelf ≤ g.S.Shelf.given l.fn.shelf + l.counter;
      given_rises : g.S.Shelf.given l.fn.shelf ≤ g.S.Shelf.given l.shelf;
      asked : (other : List ℕ) → other ≢ l.name → g.S.Shelf.asked l.shelf other ≡ g.S.Shelf.asked l.fn.shelf other;
      later : (other : List ℕ) → g.S.Shelf.faults l.fn.shelf other ≤ g.S.Shelf.faults l.shelf other;
      empties_later : (other : List ℕ) → g.S.Shelf.empties l.fn.shelf other ≤ g.S.Shelf.empties l.shelf other;
    }
