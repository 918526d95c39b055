use Rattle.std.proofs.Common.{◌≡◌, ◌≢◌, ◌≤◌, ◌*◌, ◌-◌, ℕ, List, Ok, string_bytes}
use Rattle.wav_reader.specs.Opening.{head_in_file}
use Rattle.wav_reader.specs.Readers.{AreGivenFor, ReadsOn, seen_under, slot_length}
use Rattle.wav_reader.proofs.sound_files.SoundFile.read_samples.Given as goal

-- So many samples were read.
abbrev pub invariant-loop-done : goal.invariant-loop-done
invariant-loop-done g l =
    record {
      within : l.done ≤ l.samples;
      reads : ReadsOn (l.done * slot_length l.self.head.mono l.self.head.format.bits) (string_bytes l.self.name) (head_in_file l.self.head) l.taken
          (seen_under (g.S.Shelf.told l.fn.shelf) (g.S.Shelf.faults l.fn.shelf) (g.S.Shelf.empties l.fn.shelf) (g.S.Shelf.given l.fn.shelf) (string_bytes l.self.name))
          (seen_under (g.S.Shelf.told l.shelf) (g.S.Shelf.faults l.shelf) (g.S.Shelf.empties l.shelf) (g.S.Shelf.given l.shelf) (string_bytes l.self.name))
          l.fn.held l.held (Ok tt);
      given : AreGivenFor l.self.head.mono l.self.head.format.bits l.fn.held l.held (g.S.Shelf.given l.fn.shelf) (g.S.Shelf.given l.shelf) (Ok tt);
      asked : (other : List ℕ) → other ≢ string_bytes l.self.name → g.S.Shelf.asked l.shelf other ≡ g.S.Shelf.asked l.fn.shelf other;
      later : (other : List ℕ) → g.S.Shelf.faults l.fn.shelf other ≤ g.S.Shelf.faults l.shelf other;
      empties_later : (other : List ℕ) → g.S.Shelf.empties l.fn.shelf other ≤ g.S.Shelf.empties l.shelf other;
    }

abbrev pub decreases-loop-done : goal.decreases-loop-done
decreases-loop-done g l = l.samples - l.done
