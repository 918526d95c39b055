-- That a driver that plays keeps to progress, as it is told, and that its sound is heard. This project's own.
use Rattle.std.specs.Prelude.{◌≡◌, ◌⊎◌, false, true, ℕ, Bool, List, [], ◌∷◌, map, All, Option, Some}
use Rattle.verb_codes.specs.declared.verbs.Command.{Command}
use Rattle.codec_graph.specs.declared.raw.RawCodec.{RawCodec}
use Rattle.codec_graph.specs.CodecStates.{CodecState}
use Rattle.codec_graph.specs.Settings.{Entries}
use Rattle.route_planner.specs.declared.routes.Plan.{Plan}
use Rattle.route_setup.specs.Means.{Means}
use Rattle.world_steps.specs.declared.Step.{Step}
use Rattle.hda_world.specs.Events.{Event, Stepped, Begin, End, IsNoStep}
use Rattle.hda_world.specs.Tellings.{Telling, world_of, Went, Accessed}
use Rattle.period_writer.specs.Runs.{Tally, tally_opened}
use Rattle.period_writer.specs.Outcomes.{HasNotWrapped}
use Rattle.driver_progress.specs.declared.phase.Phase.TheVariants.{Ready}
use Rattle.driver_progress.specs.Tasks.{Task, DriverLine}
use Rattle.driver_progress.specs.States.{state_opened}
use Rattle.driver_progress.specs.Progress as trail
use Rattle.driver_progress.specs.Progress.{IsProgress}
use Rattle.driver_bring_up.specs.declared.bringing.BringUp.{BringUp}
use Rattle.driver_bring_up.specs.Calls as bringing
use Rattle.laws_bring_up.specs.Stretches.{HasFound, IsAtRest}
use Rattle.laws_bring_up.specs.Standing.{IsBroughtUp, IsEnded}
use Rattle.laws_bring_up.specs.SettingUp.{StaysSetUp}
use Rattle.laws_bring_up.specs.Keeping as told
use Rattle.audio_driver.specs.States.{plays_now, state_with, IsTaskOf}
use Rattle.audio_driver.specs.Sounding as sounding
use Rattle.laws_stream.specs.Resting.{Rests, AreApartFrom}
use Rattle.laws_stream.specs.Lives.{Along, IsStopped, HasStopped}
use Rattle.laws_stream.specs.Ending.{HearTheLine}
use Rattle.laws_driver.specs.Sounding.{Parts, state_in, ring_in, tally_in, IsYetSilent, IsSounding, AreSetUpIn}

-- ---- between two calls

-- no sound was played yet: the driver brings its codecs up
pub record IsSilent (means : Means) (verbs : RawCodec → List Command) (graphs : List RawCodec) (task : Task)
    (lines left : List DriverLine) (parts : Parts) (telling : Telling) : Type 0 where
  pub under_way : told.BringUpGoesOn means verbs graphs task lines left parts.bring_up telling
  pub silent : IsYetSilent task parts telling

-- it plays, or has played
pub record IsHeard (means : Means) (graphs : List RawCodec) (task : Task) (lines left : List DriverLine) (parts : Parts)
    (telling : Telling) : Type 0 where
  pub rest : IsAtRest task lines left (state_in parts) telling
  pub set_up : StaysSetUp means graphs task lines telling
  pub sounds : IsSounding means graphs task parts telling

abbrev pub DriverGoesOn : (means : Means) (verbs : RawCodec → List Command) (graphs : List RawCodec) (task : Task)
    (lines left : List DriverLine) (parts : Parts) → Telling → Type 0
DriverGoesOn means verbs graphs task lines left parts telling =
    IsSilent means verbs graphs task lines left parts telling ⊎ IsHeard means graphs task lines left parts telling

-- ---- a call and the last one

-- of a driver that is to play or not: where calls do not play yet it is one of the bring-up, else one that plays
pub record Calls (means : Means) (play irq : Bool) (budget : ℕ) (old new : Parts) (before after : Option Telling)
    : Type 0 where
  pub leads : plays_now play old.bring_up ≡ false → bringing.Leads means irq old.bring_up new.bring_up before after
  pub kept : bringing.IsKept old.bring_up new.bring_up
  pub writer : plays_now play old.bring_up ≡ false → new.writer ≡ old.writer
  pub supply : plays_now play old.bring_up ≡ false → new.supply ≡ old.supply
  pub sounds : plays_now play old.bring_up ≡ true → sounding.PlaysSound irq budget old.bring_up new.bring_up old.writer
      new.writer old.supply new.supply before after

-- so too the last one, which leaves this bring-up and this tally
pub record Closes (means : Means) (play : Bool) (old : Parts) (ended : BringUp) (tally : Tally)
    (before after : Option Telling) : Type 0 where
  pub ends : plays_now play old.bring_up ≡ false → bringing.Ends means old.bring_up ended before after
  pub recorded : plays_now play old.bring_up ≡ false → tally ≡ tally_in old
  pub sounds : plays_now play old.bring_up ≡ true → sounding.EndsSound old.bring_up ended old.writer tally old.supply
      before after

-- ---- at the end

-- the stream was never set going, and link frames carried nothing
pub record WasNeverHeard (telling : Telling) : Type 0 where
  pub stopped : Along IsStopped telling.journal telling.start
  pub none : (world_of telling).carried ≡ []

-- it was set going once and stopped, and codecs that were set up heard the line, where the device made no step in the
-- last stretch, of which these are the events
pub record WasHeard (means : Means) (graphs : List RawCodec) (task : Task) (tally : Tally) (last : List Event)
    (telling : Telling) : Type 0 where
  pub started : tally.course.started ≡ true
  pub lived : HasStopped telling
  pub codecs : List CodecState
  pub set_up : AreSetUpIn means graphs codecs
  pub hear : All IsNoStep last → HearTheLine codecs task.geometry.format task.pcm tally (world_of telling).carried

-- all that is then known: the journal is progress and leads to the driver's state, each stretch found what it was to
-- find, which graphs were walked, all codecs were set up at every moment from the last answer on, and what was heard
pub record DriverHasGone (means : Means) (graphs : List RawCodec) (task : Task) (lines : List DriverLine)
    (ended : BringUp) (tally : Tally) (last : List Event) (telling : Telling) : Type 0 where
  pub progress : IsProgress task lines telling
  pub finds : HasFound task lines telling
  pub state_is : trail.state_of task lines telling ≡ state_with ended tally
  pub ended_is : IsEnded graphs task ended
  -- where sound was played the bring-up was over
  pub ready : tally.course.started ≡ true → ended.phase ≡ Ready
  pub set_up : StaysSetUp means graphs task lines telling
  pub heard : ((tally ≡ tally_opened) × WasNeverHeard telling) ⊎ WasHeard means graphs task tally last telling

-- ---- how it is led on

pub record KeepsPlaying (means : Means) (verbs : RawCodec → List Command) (graphs : List RawCodec) (task : Task)
    : Type 0 where
  -- where nothing happened yet
  pub begins : (lines : List DriverLine) (parts : Parts) (telling : Telling) → telling.journal ≡ []
      → bringing.state_of parts.bring_up ≡ state_opened
      → IsBroughtUp means verbs graphs task 0 parts.bring_up (world_of telling) → tally_in parts ≡ tally_opened
      → (task.plays ≡ true → IsTaskOf parts.bring_up parts.writer parts.supply task)
      → AreApartFrom (ring_in parts) parts.bring_up.engine.rirb.address
      → Rests parts.writer.geometry.fifo (world_of telling) → DriverGoesOn means verbs graphs task lines lines parts
      telling
  -- steps of the device
  pub steps : (lines left : List DriverLine) (parts : Parts) (steps : List Step) (old new : Telling)
      → Went old new (map Stepped steps) → DriverGoesOn means verbs graphs task lines left parts old
      → DriverGoesOn means verbs graphs task lines left parts new
  -- a stretch of a line, while WALCLK has not wrapped: just the accesses that are expected are made, and it leads where
  -- progress says
  pub runs : (lines left : List DriverLine) (line : DriverLine) (old new : Parts) (before begun made after : Telling)
      → Accessed before begun Begin → Calls means task.plays line.irq line.budget old new (Some begun) (Some made)
      → Accessed made after End → HasNotWrapped (world_of made)
      → DriverGoesOn means verbs graphs task lines (line ∷ left) old before
      → DriverGoesOn means verbs graphs task lines left new after
  -- and the closing one, in which WALCLK has not wrapped at any moment
  pub ends : (lines : List DriverLine) (old : Parts) (ended : BringUp) (tally : Tally) (last : List Event)
      (before begun made after : Telling) → Accessed before begun Begin
      → Closes means task.plays old ended tally (Some begun) (Some made)
      → Accessed made after End → Went before after last → Along HasNotWrapped last (world_of before)
      → DriverGoesOn means verbs graphs task lines [] old before
      → DriverHasGone means graphs task lines ended tally last after
