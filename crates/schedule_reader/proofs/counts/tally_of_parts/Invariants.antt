use Rattle.std.proofs.Common.{◌≡◌, take, sum_by}
use Rattle.schedule_reader.specs.Counts.{items_in, item_steps, item_frames}
use Rattle.schedule_reader.specs.Left.{held}
use Rattle.schedule_reader.proofs.counts.tally_of_parts.Given as goal

-- what was passed so far
abbrev pub invariant-loop-part : goal.invariant-loop-part
invariant-loop-part l = record {
  steps : l.tally.steps ≡ held (sum_by (λ part. sum_by item_steps (items_in part)) (take l.part-index l.parts));
  frames : l.tally.frames ≡ held (sum_by (λ part. sum_by item_frames (items_in part)) (take l.part-index l.parts));
}
