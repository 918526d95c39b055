use Rattle.std.proofs.Common.{◌≡◌, take, sum_by}
use Rattle.schedule_reader.specs.Counts.{item_steps, item_frames}
use Rattle.schedule_reader.specs.Left.{held}
use Rattle.schedule_reader.proofs.counts.tally_of_items.Given as goal

-- what was passed so far
abbrev pub invariant-loop-item : goal.invariant-loop-item
invariant-loop-item l = record {
  steps : l.tally.steps ≡ held (sum_by item_steps (take l.item-index l.items));
  frames : l.tally.frames ≡ held (sum_by item_frames (take l.item-index l.items));
}
