-- The schedule that is made of a number: it sets one codec up that needs 44 commands, and then plays in turns. This
-- project's own.
use Rattle.std.specs.Prelude.{◌≡◌, ◌≤◌, ◌<◌, ℕ, zero, suc, ◌+◌, ◌*◌, ◌%◌, List, [], ◌∷◌, ◌++◌, false, sum}
use Rattle.std.specs.List.{flat_map}
use Rattle.world_steps.specs.declared.Step.TheVariants.{Corb, Answer, Rirb, Fetch, Link}
use Rattle.schedule_reader.specs.declared.schedule.Schedule.{Schedule}
use Rattle.schedule_reader.specs.declared.schedule.Item.{Item}
use Rattle.schedule_reader.specs.declared.schedule.Item.TheVariants.{Device, Drive}
use Rattle.made_inputs.specs.MadeSound.{frames_for}

-- the numbers by which turns differ: the first is the number itself, and each other is made of the one before
abbrev pub draw : (number turn : ℕ) → ℕ
draw number zero = number
draw number (suc turn) = (1103515245 * draw number turn + 12345) % 2147483648

-- how many link frames a turn has, counted from 1
abbrev pub turn_frames : (number turn : ℕ) → ℕ
turn_frames number turn = 16 + draw number turn % 32

-- those of the first so many turns
abbrev pub turns : (number count : ℕ) → List ℕ
turns number zero = []
turns number (suc count) = turns number count ++ turn_frames number (suc count) ∷ []

-- so many turns are made of a number: as few as have no fewer link frames than the sound has frames
pub record AreTurns (number count : ℕ) : Type 0 where
  pub enough : frames_for number ≤ sum (turns number count)
  pub fewest : (fewer : ℕ) → fewer < count → sum (turns number fewer) < frames_for number

-- a call of the driver that may write so many bytes
abbrev pub call_with : (budget : ℕ) → Item
call_with budget = Drive (record { irq = false; budget = budget; groups = [] })

-- the reset, until codecs have said that they are there
abbrev pub reset_items : List Item
reset_items = call_with 0 ∷ Device (Link 25) ∷ call_with 0 ∷ []

-- a command, and its answer
abbrev pub command_items : List Item
command_items = call_with 0 ∷ Device Corb ∷ Device (Answer 0) ∷ Device Rirb ∷ []

-- a turn: a call, a FIFO full of sound, and so many link frames
abbrev pub turn_items : (frames : ℕ) → List Item
turn_items frames = call_with 100000 ∷ Device (Fetch 1 192) ∷ Device (Link frames) ∷ []

-- the last answer is read, so many turns play, and one more call follows
abbrev pub sound_items : (number count : ℕ) → List Item
sound_items number count = call_with 0 ∷ [] ++ flat_map turn_items (turns number count) ++ call_with 100000 ∷ []

-- the schedule with so many turns
abbrev pub schedule_with : (number count : ℕ) → Schedule
schedule_with number count = record {
  parts = record { times = 1; items = reset_items }
      ∷ record { times = 44; items = command_items }
      ∷ record { times = 1; items = sound_items number count } ∷ [];
}

-- the schedule that is made of a number
pub record IsMadeSchedule (number : ℕ) (schedule : Schedule) : Type 0 where
  pub count : ℕ
  pub turns : AreTurns number count
  pub is : schedule ≡ schedule_with number count
