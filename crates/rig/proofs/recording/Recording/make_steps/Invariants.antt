use Rattle.std.proofs.Common.{◌≡◌, ◌+◌, ℕ, map, take}
use Rattle.hda_world.specs.Events.{Stepped}
use Rattle.hda_world.specs.Tellings.{Went}
use Rattle.rig.specs.Recordings.{HasRoomFor, items_for}
use Rattle.rig.specs.Rigs.{told_of, sound_given}
use Rattle.rig.proofs.recording.Recording.make_steps.Given as goal

-- the first of the steps were made
abbrev pub invariant-loop-step : goal.invariant-loop-step
invariant-loop-step l = record {
  told : Went (told_of l.fn.self) (told_of l.self) (map Stepped (take l.step-index l.steps));
  machine : l.self.machine ≡ l.fn.self.machine;
  kind : l.self.kind ≡ l.fn.self.kind;
  sound : sound_given l.self ≡ sound_given l.fn.self;
  room : (entries bytes items : ℕ) → HasRoomFor (l.step-index + entries) bytes (items_for (take l.step-index l.steps) + items) l.fn.self.journal l.fn.self.heard l.fn.self.came
      → HasRoomFor entries bytes items l.self.journal l.self.heard l.self.came;
}
