-- Which schedules serve a driver: its codecs announce themselves, each command is answered before the next call, and
-- calls that play come in time. So a user can tell by reading the lines of a schedule, with repeats written out. This
-- project's own.
use Rattle.std.specs.Prelude.{◌≡◌, ◌≤◌, ◌<◌, ℕ, ◌+◌, false, List, All, Some, slice_get}
use Rattle.world_steps.specs.declared.Step.{Step}
use Rattle.world_steps.specs.declared.Step.TheVariants as step
use Rattle.schedule_reader.specs.declared.schedule.Group.{Group}
use Rattle.schedule_reader.specs.declared.schedule.DriverLine.{DriverLine}
use Rattle.hda_world.specs.declared.step.TheConstants.{FRAMES_TO_DISCOVERY}
use Rattle.laws_serving.specs.ServingDevices.{KeepAnswers, ComeInOrder, round_trip}
use Rattle.laws_serving.specs.Rounds.{Round, Rounds, frames_of_line, frames_of_steps, frames_to}

-- ---- what may stand in it

-- a step that fetches bytes of a stream or lets link frames pass
abbrev pub IsOfStreams : Step → Type 0
IsOfStreams step.Corb = ⊥
IsOfStreams (step.Answer codec) = ⊥
IsOfStreams (step.Lose codec) = ⊥
IsOfStreams step.Rirb = ⊥
IsOfStreams (step.Fetch stream most) = Unit {0}
IsOfStreams (step.Link frames) = Unit {0}
IsOfStreams (step.Plug codec nid) = ⊥
IsOfStreams (step.Unplug codec nid) = ⊥

abbrev pub HasStreamsAlone : Group → Type 0
HasStreamsAlone group = All IsOfStreams group.steps

-- a call is for no interrupt, and meanwhile bytes are fetched and link frames pass, and nothing else
pub record IsCalmCall (line : DriverLine) : Type 0 where
  pub no_interrupt : line.irq ≡ false
  pub groups : All HasStreamsAlone line.groups

-- and after it no answer is lost, and nothing is plugged in or out
pub record IsCalmRound (round : Round) : Type 0 where
  pub line : IsCalmCall round.line
  pub steps : KeepAnswers round.steps

-- ---- the commands

-- at least 25 link frames stand between the first driver line and the second
abbrev pub Announces : List Round → Type 0
Announces rounds =
    (first second : Round) → slice_get rounds 0 ≡ Some first → slice_get rounds 1 ≡ Some second
    → FRAMES_TO_DISCOVERY ≤ frames_of_steps first.steps

-- for each of so many commands: behind the driver line that sends it CORB's engine hands it over, the codec answers,
-- and RIRB's engine writes the answer, before the next driver line. The third driver line sends the first command.
-- Which codec is asked need not be known: it is so for each of these addresses
abbrev pub AnswersEach : (codecs : List ℕ) (commands : ℕ) → List Round → Type 0
AnswersEach codecs commands rounds =
    (command : ℕ) (round : Round) → command < commands → slice_get rounds (2 + command) ≡ Some round
    → All (λ (codec : ℕ). ComeInOrder (round_trip codec) round.steps) codecs

-- a schedule serves the bring-up of codecs with these addresses, which takes so many commands
pub record ServesCommands (codecs : List ℕ) (commands : ℕ) (all : Rounds) : Type 0 where
  pub before : KeepAnswers all.before
  pub rounds : All IsCalmRound all.rounds
  pub announces : Announces all.rounds
  pub answers : AnswersEach codecs commands all.rounds

-- ---- the sound

-- from the first call that plays on, the driver line after the one that finds the last answer, the next one ends within
-- so many link frames of the begin of each, and behind the last one no more pass
abbrev pub ComeInTime : (commands limit : ℕ) → List Round → Type 0
ComeInTime commands limit rounds =
    (index : ℕ) (round : Round) → slice_get rounds (3 + commands + index) ≡ Some round
    → frames_to round (slice_get rounds (4 + commands + index)) ≤ limit

-- and none lasts longer than so many
abbrev pub AreQuick : (commands slack : ℕ) → List Round → Type 0
AreQuick commands slack rounds =
    (index : ℕ) (round : Round) → slice_get rounds (3 + commands + index) ≡ Some round
    → frames_of_line round.line ≤ slack

-- a schedule serves the sound after so many commands, through a ring that allows so many link frames from run to run,
-- and so many within a run that takes silence back
pub record ServesSound (commands limit slack : ℕ) (rounds : List Round) : Type 0 where
  pub in_time : ComeInTime commands limit rounds
  pub quick : AreQuick commands slack rounds

-- each call that plays may write a whole ring
abbrev pub MayFillTheRing : (commands ring : ℕ) → List Round → Type 0
MayFillTheRing commands ring rounds =
    (index : ℕ) (round : Round) → slice_get rounds (3 + commands + index) ≡ Some round → ring ≤ round.line.budget
