use Rattle.std.proofs.Common.{◌≡◌, ◌≢◌, ℕ, ◌+◌, ◌-◌, ◌≤◌, ◌++◌, drop, List, vec_len, Some}
use Rattle.hda_outside.specs.Shelf.{Files, file_of}
use Rattle.hda_outside.proofs.reading.read_all.Given as goal

-- The bytes so far are the file's front, and what was given and counted since the call began.
abbrev pub invariant-loop-bytes : goal.invariant-loop-bytes
invariant-loop-bytes g l =
    record {
      room : vec_len l.buffer ≡ 65536;
      within : vec_len l.bytes ≤ l.most;
      told : g.S.Shelf.told l.shelf ≡ g.S.Shelf.told l.fn.shelf;
      front : (files : Files) → g.S.Shelf.told l.fn.shelf ≡ Some files → (file : List ℕ) → file_of files l.name ≡ Some file
          → l.bytes.items ++ drop (vec_len l.bytes) file ≡ file;
      given : g.S.Shelf.given l.shelf ≤ g.S.Shelf.given l.fn.shelf + vec_len l.bytes;
      given_rises : g.S.Shelf.given l.fn.shelf ≤ g.S.Shelf.given l.shelf;
      asked : (other : List ℕ) → other ≢ l.name → g.S.Shelf.asked l.shelf other ≡ g.S.Shelf.asked l.fn.shelf other;
      later : (other : List ℕ) → g.S.Shelf.faults l.fn.shelf other ≤ g.S.Shelf.faults l.shelf other;
      empties_later : (other : List ℕ) → g.S.Shelf.empties l.fn.shelf other ≤ g.S.Shelf.empties l.shelf other;
    }

abbrev pub decreases-loop-bytes : goal.decreases-loop-bytes
decreases-loop-bytes g l = l.most - vec_len l.bytes
