use Rattle.std.proofs.Common.{◌≡◌, ◌≤◌}
use Rattle.heard_lists.specs.Readers.{IsStart}
use Rattle.heard_lists.proofs.reader.find.Given as goal

-- the start is that of the piece that is looked at
abbrev pub invariant-loop-place : goal.invariant-loop-place
invariant-loop-place l = record {
  starts : IsStart l.pieces l.start;
  before : l.start.item ≤ l.number;
  here : l.start.piece ≡ l.place;
}
