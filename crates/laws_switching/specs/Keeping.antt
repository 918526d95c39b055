-- How a driver that switches speakers is led on, as it is told, from the first line on that begins at `Ready`. This
-- project's own.
use Rattle.std.specs.Prelude.{◌≡◌, ℕ, false, List, ◌∷◌, [], map, length, Some}
use Rattle.verb_codes.specs.declared.verbs.Command.{Command}
use Rattle.codec_graph.specs.declared.raw.RawCodec.{RawCodec}
use Rattle.stream_format.specs.declared.format.Format.{Format}
use Rattle.route_planner.specs.declared.routes.Plan.{Plan}
use Rattle.world_steps.specs.declared.Step.{Step}
use Rattle.hda_world.specs.Events.{Event, Stepped, Begin, End}
use Rattle.hda_world.specs.Tellings.{Telling, world_of, Went, Accessed}
use Rattle.period_writer.specs.Courses.{IsCourse}
use Rattle.period_writer.specs.Standing.{size_of}
use Rattle.period_writer.specs.Writers.{ring_of}
use Rattle.period_writer.specs.Outcomes.{HasNotWrapped}
use Rattle.driver_progress.specs.declared.phase.Phase.TheVariants.{Ready}
use Rattle.driver_progress.specs.Tasks.{Task, DriverLine}
use Rattle.driver_agenda.specs.Planned.{ArePlansBy}
use Rattle.driver_bring_up.specs.declared.jacks.Jacks.{Jacks}
use Rattle.laws_bring_up.specs.Standing.{IsTaskOfCodecs}
use Rattle.laws_stream.specs.Lives.{Along}
use Rattle.laws_driver.specs.Sounding.{Parts}
use Rattle.jack_switch.specs.SwitchRules.{SwitchState}
use Rattle.jack_switch.specs.JackDrivers.{JackDriverState, IsJackDriver, IsTaskOfSwitching, KeepsJackDriver}
use Rattle.jack_switch.specs.JackCalls.{Switches, EndsSwitching}
use Rattle.laws_switching.specs.Coming.{IsComing}
use Rattle.laws_switching.specs.Turned.{outputs}
use Rattle.laws_switching.specs.Switching.{IsMadeOf, SwitchGoesOn, SwitchHasGone}

-- what a driver is to do that switches: codecs with these graphs, each with its plan, are set up for its stream, and no
-- sound is played until then
pub record IsTaskToSwitch (format : Format) (verbs : RawCodec → List Command) (graphs : List RawCodec)
    (plans : List Plan) (task : Task) : Type 0 where
  pub of : IsTaskOfCodecs (outputs format) verbs graphs task
  pub planned : ArePlansBy (outputs format).IsPlanBy graphs plans
  pub silent : task.plays ≡ false
  pub format_is : task.geometry.format ≡ format

-- the stretch of the first line that begins at `Ready`: a driver that switches was made of the parts, and the line is
-- its first call
abbrev pub Turns : (format : Format) (verbs : RawCodec → List Command) (graphs : List RawCodec) (plans : List Plan)
    (task : Task) → Type 0
Turns format verbs graphs plans task =
    (lines left : List DriverLine) (line : DriverLine) (parts : Parts) (old new : JackDriverState)
    (supply supply' : List ℕ) (before begun made after : Telling)
    → parts.bring_up.phase ≡ Ready → IsMadeOf parts plans old → IsJackDriver old
    → IsTaskOfSwitching old supply task → Accessed before begun Begin
    → Switches line.irq line.budget old new supply supply' (Some begun) (Some made) → KeepsJackDriver old new
    → Accessed made after End → HasNotWrapped (world_of made)
    → IsComing (outputs format) verbs graphs plans task lines (line ∷ left) parts before
    → SwitchGoesOn format graphs plans task lines left supply' new after

module _ (format : Format) (graphs : List RawCodec) (plans : List Plan) (task : Task)
  where
    -- steps of the device
    abbrev pub GoesOnOverSteps : Type 0
    GoesOnOverSteps = (lines left : List DriverLine) (supply : List ℕ) (driver : JackDriverState) (steps : List Step)
        (old new : Telling) → Went old new (map Stepped steps)
        → SwitchGoesOn format graphs plans task lines left supply driver old
        → SwitchGoesOn format graphs plans task lines left supply driver new

    -- a stretch of a later line
    abbrev pub GoesOnOverCalls : Type 0
    GoesOnOverCalls = (lines left : List DriverLine) (line : DriverLine) (old new : JackDriverState)
        (supply supply' : List ℕ) (before begun made after : Telling) → IsJackDriver old → Accessed before begun Begin
        → Switches line.irq line.budget old new supply supply' (Some begun) (Some made) → KeepsJackDriver old new
        → Accessed made after End → HasNotWrapped (world_of made)
        → SwitchGoesOn format graphs plans task lines (line ∷ left) supply old before
        → SwitchGoesOn format graphs plans task lines left supply' new after

    -- and the closing one, in which WALCLK has not wrapped at any moment
    abbrev pub Ends : Type 0
    Ends = (lines : List DriverLine) (supply : List ℕ) (old : JackDriverState) (ended : SwitchState) (jacks : Jacks)
        (last : List Event) (before begun made after : Telling) → IsJackDriver old
        → IsCourse (size_of (ring_of old.writer)) (length old.writer.runs) old.writer.course
        → Accessed before begun Begin → EndsSwitching old ended jacks supply (Some begun) (Some made)
        → Accessed made after End → Went before after last → Along HasNotWrapped last (world_of before)
        → SwitchGoesOn format graphs plans task lines [] supply old before
        → SwitchHasGone format graphs plans task lines old.sent ended last after

-- ---- how it is led on

pub record KeepsSwitching (format : Format) (verbs : RawCodec → List Command) (graphs : List RawCodec)
    (plans : List Plan) (task : Task) : Type 0 where
  pub turns : Turns format verbs graphs plans task
  pub steps : GoesOnOverSteps format graphs plans task
  pub calls : GoesOnOverCalls format graphs plans task
  pub ends : Ends format graphs plans task
