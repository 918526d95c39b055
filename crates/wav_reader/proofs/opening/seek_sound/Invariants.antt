use Rattle.std.proofs.Common.{◌≡◌, ◌≢◌, ◌≤◌, ℕ, ◌+◌, ◌-◌, List, length}
use Rattle.wav_reader.specs.Heads.{head_in}
use Rattle.wav_reader.specs.Shelves.{Tells}
use Rattle.wav_reader.proofs.HeadLemmas.{head_after}
use Rattle.wav_reader.proofs.opening.seek_sound.Given as goal

-- The rest of the file says where the sound is, and no more than its bytes so far were given.
abbrev pub invariant-loop-at : goal.invariant-loop-at
invariant-loop-at g l =
    record {
      told : g.S.Shelf.told l.shelf ≡ g.S.Shelf.told l.fn.shelf;
      exact : (file : List ℕ) → Tells (g.S.Shelf.told l.fn.shelf) l.name file → length file ≡ l.file_len → head_after file l.found l.at ≡ head_in file;
      given : g.S.Shelf.given l.shelf + 12 ≤ g.S.Shelf.given l.fn.shelf + l.at;
      given_rises : g.S.Shelf.given l.fn.shelf ≤ g.S.Shelf.given l.shelf;
      asked : (other : List ℕ) → other ≢ l.name → g.S.Shelf.asked l.shelf other ≡ g.S.Shelf.asked l.fn.shelf other;
      later : (other : List ℕ) → g.S.Shelf.faults l.fn.shelf other ≤ g.S.Shelf.faults l.shelf other;
      empties_later : (other : List ℕ) → g.S.Shelf.empties l.fn.shelf other ≤ g.S.Shelf.empties l.shelf other;
    }

abbrev pub decreases-loop-at : goal.decreases-loop-at
decreases-loop-at g l = l.file_len - l.at
