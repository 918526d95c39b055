use Rattle.std.proofs.Common.{◌≡◌, ◌≢◌, ℕ, ◌+◌, ◌-◌, ◌≤◌, List, length, Some, None}
use Rattle.hda_outside.specs.Shelf.{Files, file_of}
use Rattle.hda_outside.specs.Pieces.{HoldsFront}
use Rattle.hda_outside.proofs.pieces.read_piece.Given as goal

-- So many bytes were read, which are the first of the piece, and so many were given at most.
abbrev pub invariant-loop-count : goal.invariant-loop-count
invariant-loop-count g l =
    record {
      within : l.count ≤ length l.buf;
      told : g.S.Shelf.told l.shelf ≡ g.S.Shelf.told l.initial.shelf;
      front : (files : Files) → g.S.Shelf.told l.initial.shelf ≡ Some files → (file : List ℕ) → file_of files l.name ≡ Some file
          → HoldsFront file l.from l.buf l.count;
      there : (files : Files) → g.S.Shelf.told l.initial.shelf ≡ Some files → file_of files l.name ≡ None → l.count ≡ 0;
      given : g.S.Shelf.given l.shelf ≤ g.S.Shelf.given l.initial.shelf + l.count;
      given_rises : g.S.Shelf.given l.initial.shelf ≤ g.S.Shelf.given l.shelf;
      empties : g.S.Shelf.empties l.shelf l.name ≡ g.S.Shelf.empties l.initial.shelf l.name;
      asked : (other : List ℕ) → other ≢ l.name → g.S.Shelf.asked l.shelf other ≡ g.S.Shelf.asked l.initial.shelf other;
      later : (other : List ℕ) → g.S.Shelf.faults l.initial.shelf other ≤ g.S.Shelf.faults l.shelf other;
      empties_later : (other : List ℕ) → g.S.Shelf.empties l.initial.shelf other ≤ g.S.Shelf.empties l.shelf other;
    }

abbrev pub decreases-loop-count : goal.decreases-loop-count
decreases-loop-count g l = length l.buf - l.count
