use Rattle.std.proofs.Common.{◌≡◌, ℕ, List, drop, map}
use Rattle.hda_world.specs.declared.entry.MemoryPiece.{MemoryPiece}
use Rattle.hda_world.specs.Journals.{event_of}
use Rattle.trace_lines.specs.Purposes.{first_put}
use Rattle.trace_lines.proofs.purposes.first_put.Given as goal

-- the first is among the entries that are left
abbrev pub invariant-loop-entry : goal.invariant-loop-entry
invariant-loop-entry l =
    (pieces : List MemoryPiece) (bytes : List ℕ)
    → first_put l.register (map (event_of pieces bytes) l.entries) ≡ first_put l.register (map (event_of pieces bytes) (drop l.entry-index l.entries))
