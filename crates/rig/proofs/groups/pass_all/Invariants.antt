use Rattle.std.proofs.Common.{◌≡◌, ◌+◌, ℕ, take}
use Rattle.hda_world.specs.Tellings.{Went}
use Rattle.rig.specs.Recordings.{HasRoomFor}
use Rattle.rig.specs.Rigs.{told_of, sound_given}
use Rattle.rig.specs.Rooms.{step_count, item_count}
use Rattle.rig.specs.Stretches.{all_steps_in}
use Rattle.rig.proofs.groups.pass_all.Given as goal

-- the steps of the first groups were made
abbrev pub invariant-loop-group : goal.invariant-loop-group
invariant-loop-group l = record {
  told : Went (told_of l.fn.recording) (told_of l.recording) (all_steps_in (take l.group-index l.groups));
  machine : l.recording.machine ≡ l.fn.recording.machine;
  kind : l.recording.kind ≡ l.fn.recording.kind;
  sound : sound_given l.recording ≡ sound_given l.fn.recording;
  room : (entries bytes items : ℕ) → HasRoomFor (step_count (take l.group-index l.groups) + entries) bytes (item_count (take l.group-index l.groups) + items)
      l.fn.recording.journal l.fn.recording.heard l.fn.recording.came → HasRoomFor entries bytes items l.recording.journal l.recording.heard l.recording.came;
}
