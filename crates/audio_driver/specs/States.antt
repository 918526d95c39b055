-- How far a driver has come, its sound with it. This project's own.
use Rattle.std.specs.Prelude.{◌≡◌, ◌&&◌, ℕ, Bool, true, false, List, drop}
use Rattle.period_writer.specs.declared.course.Ran.{Ran}
use Rattle.period_writer.specs.declared.course.Ran.TheVariants as ran
use Rattle.period_writer.specs.declared.course.Course.{Course}
use Rattle.period_writer.specs.Runs.{Tally}
use Rattle.period_writer.specs.Writers.{WriterState, tally_of, periods_of}
use Rattle.driver_progress.specs.declared.phase.Phase.{Phase}
use Rattle.driver_progress.specs.declared.phase.Phase.TheVariants.{Playing, Drained, Late}
use Rattle.driver_progress.specs.Phases.{is_ready}
use Rattle.driver_progress.specs.Tasks.{Task}
use Rattle.driver_progress.specs.States.{State}
use Rattle.driver_bring_up.specs.declared.bringing.BringUp.{BringUp}
use Rattle.wav_reader.specs.Supplies.{Supplied, EndsWith}
use Rattle.driver_bring_up.specs.Calls as bringing

-- the phase: that of the bring-up until the first run, and from then on by how the last run ended
abbrev pub played_as : Ran → Phase
played_as ran.Playing = Playing
played_as ran.Drained = Drained
played_as (ran.Late from to limit) = Late from to limit

abbrev pub phase_if : (started : Bool) → Phase → Ran → Phase
phase_if false phase ran = phase
phase_if true phase ran = played_as ran

-- with a tally of runs
abbrev pub phase_with : BringUp → Tally → Phase
phase_with bring_up tally = phase_if tally.course.started bring_up.phase tally.course.ran

abbrev pub state_with : BringUp → Tally → State
state_with bring_up tally = record (bringing.state_of bring_up) { phase = phase_with bring_up tally; tally = tally }

-- with a writer
abbrev pub phase_of : BringUp → WriterState → Phase
phase_of bring_up writer = phase_with bring_up (tally_of writer)

abbrev pub state_of : BringUp → WriterState → State
state_of bring_up writer = state_with bring_up (tally_of writer)

-- whether a driver that plays has come so far that its calls play
abbrev pub plays_now : (play : Bool) → BringUp → Bool
plays_now play bring_up = play && is_ready bring_up.phase

-- whether a run of the writer comes next: none was late, and the sound was not all played
abbrev pub is_open : Ran → Bool
is_open ran.Playing = true
is_open ran.Drained = false
is_open (ran.Late from to limit) = false

-- whether the stream plays
abbrev pub is_playing : Course → Bool
is_playing course = course.started && is_open course.ran

-- whether a run was late
abbrev pub was_late : Ran → Bool
was_late ran.Playing = false
was_late ran.Drained = false
was_late (ran.Late from to limit) = true

-- of this sound what was not written yet is left. After a late run, which is not recorded and after which none comes,
-- nothing is said of it
abbrev pub IsLeft : (pcm : List ℕ) → Course → (supply : List ℕ) → Type 0
IsLeft pcm course supply = was_late course.ran ≡ false → supply ≡ drop course.used pcm

-- a task of a driver with these blocks and this sound: its ring and its blocks, and of the sound what it did not write
-- yet is left
pub record IsTaskOf (bring_up : BringUp) (writer : WriterState) (supply : List ℕ) (task : Task) : Type 0 where
  pub rings : bringing.IsTaskOf bring_up task
  pub geometry : task.geometry ≡ writer.geometry
  pub list : task.blocks.list ≡ writer.list.address
  pub periods : task.blocks.periods ≡ periods_of writer
  pub sound : IsLeft task.pcm writer.course supply
  pub plays : task.plays ≡ true

-- while the stream plays, this sound to come ends where the supply does
abbrev pub EndsWhilePlaying : Course → Supplied → (sound : List ℕ) → Type 0
EndsWhilePlaying course supply sound = course.started ≡ true → is_open course.ran ≡ true → EndsWith supply sound
