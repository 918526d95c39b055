-- The ranges that the grammar keeps. This project's own format.
use Rattle.std.specs.Prelude.{◌≤◌, All}
use Rattle.world_steps.specs.declared.Step.{Step}
use Rattle.world_steps.specs.declared.Step.TheVariants.{Corb, Answer, Lose, Rirb, Fetch, Link, Plug, Unplug}
use Rattle.schedule_reader.specs.declared.schedule.Schedule.{Schedule}
use Rattle.schedule_reader.specs.declared.schedule.Part.{Part}
use Rattle.schedule_reader.specs.declared.schedule.Item.{Item}
use Rattle.schedule_reader.specs.declared.schedule.Item.TheVariants.{Device, Drive}
use Rattle.schedule_reader.specs.declared.schedule.Group.{Group}

-- codecs 0 to 14, streams 0 and 1, 1 to 65,535 bytes, 1 to 1,000,000 frames, node identifiers 1 to 127
abbrev pub IsStepInRange : Step → Type 0
IsStepInRange Corb = Unit {0}
IsStepInRange (Answer codec) = codec ≤ 14
IsStepInRange (Lose codec) = codec ≤ 14
IsStepInRange Rirb = Unit {0}
IsStepInRange (Fetch stream bytes) = (stream ≤ 1) × (1 ≤ bytes) × (bytes ≤ 65535)
IsStepInRange (Link frames) = (1 ≤ frames) × (frames ≤ 1000000)
IsStepInRange (Plug codec nid) = (codec ≤ 14) × (1 ≤ nid) × (nid ≤ 127)
IsStepInRange (Unplug codec nid) = (codec ≤ 14) × (1 ≤ nid) × (nid ≤ 127)

abbrev pub IsGroupInRange : Group → Type 0
IsGroupInRange group = All IsStepInRange group.steps

abbrev pub IsItemInRange : Item → Type 0
IsItemInRange (Device step) = IsStepInRange step
IsItemInRange (Drive line) = All IsGroupInRange line.groups

-- a part is passed 1 to 1,000,000 times
pub record IsPartInRange (part : Part) : Type 0 where
  pub once : 1 ≤ part.times
  pub most : part.times ≤ 1000000
  pub items : All IsItemInRange part.items

abbrev pub IsInRange : Schedule → Type 0
IsInRange schedule = All IsPartInRange schedule.parts
