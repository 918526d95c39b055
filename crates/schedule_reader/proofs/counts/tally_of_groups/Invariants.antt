use Rattle.std.proofs.Common.{◌≡◌, take, sum_by}
use Rattle.schedule_reader.specs.Counts.{group_steps, group_frames}
use Rattle.schedule_reader.specs.Left.{held}
use Rattle.schedule_reader.proofs.counts.tally_of_groups.Given as goal

-- what was passed so far
abbrev pub invariant-loop-group : goal.invariant-loop-group
invariant-loop-group l = record {
  steps : l.tally.steps ≡ held (sum_by group_steps (take l.group-index l.groups));
  frames : l.tally.frames ≡ held (sum_by group_frames (take l.group-index l.groups));
}
