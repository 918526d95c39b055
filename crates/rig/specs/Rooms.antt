-- Which steps the device makes before an access, and the room that a run asks. This project's own.
use Rattle.std.specs.Prelude.{ℕ, List, [], length, sum_by, slice_get, Option, Some, None}
use Rattle.world_steps.specs.declared.Step.{Step}
use Rattle.schedule_reader.specs.declared.schedule.Group.{Group}
use Rattle.rig.specs.Recordings.{items_for}

-- the steps of a group, if there is one
abbrev pub steps_of : Option Group → List Step
steps_of None = []
steps_of (Some group) = group.steps

-- those before the access of this number, counted from 0
abbrev pub steps_before : ℕ → List Group → List Step
steps_before number groups = steps_of (slice_get groups number)

-- how many steps some groups have
abbrev pub step_count : List Group → ℕ
step_count groups = sum_by (λ group. length group.steps) groups

-- and for how many items in each list they ask room
abbrev pub item_count : List Group → ℕ
item_count groups = sum_by (λ group. items_for group.steps) groups
