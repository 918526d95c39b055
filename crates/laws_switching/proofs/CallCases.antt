-- A call of a driver that switches goes on, whichever its case is: of the first line, and of a later one.
use Rattle.std.proofs.Common.{inl, inr, ℕ, List, ◌∷◌, Some}
use Rattle.verb_codes.specs.declared.verbs.Command.{Command}
use Rattle.codec_graph.specs.declared.raw.RawCodec.{RawCodec}
use Rattle.codec_graph.specs.CodecStates.{CodecState}
use Rattle.stream_format.specs.declared.format.Format.{Format}
use Rattle.route_planner.specs.declared.routes.Plan.{Plan}
use Rattle.hda_world.specs.Events.{End}
use Rattle.hda_world.specs.Tellings.{Telling, world_of, Accessed}
use Rattle.period_writer.specs.Outcomes.{HasNotWrapped}
use Rattle.driver_progress.specs.Tasks.{Task, DriverLine}
use Rattle.jack_switch.specs.JackDrivers.{JackDriverState, IsJackDriver, KeepsJackDriver}
use Rattle.jack_switch.specs.JackCalls.{Switches, Begins, GoesOn, SwitchTells}
use Rattle.laws_switching.specs.Switching.{SwitchGoesOn}
use Rattle.laws_switching.specs.Keeping.{Turns, GoesOnOverCalls}
use Rattle.laws_switching.proofs.BeforeTurn.{TurnLaws}
use Rattle.laws_switching.proofs.Opened.{IsOpened, switch_opens}
use Rattle.laws_switching.proofs.SwitchCalls.{still_call}
use Rattle.laws_switching.proofs.TurnOpens.{PartsStand, turned, turn_opens}
use Rattle.laws_switching.proofs.GivenUp.{StopLaws, gives_call}
use Rattle.laws_switching.proofs.Given.{Given}

module _ (format : Format) (graphs : List RawCodec) (plans : List Plan) (task : Task) (given : Given format graphs plans task) where
  -- a call with a first run goes on
  abbrev pub BeginsCall : Type 0
  BeginsCall =
      (lines left : List DriverLine) (line : DriverLine) (supply supply' : List ℕ) (start : List CodecState) (tf : ℕ) (old new : JackDriverState) (begun made after : Telling)
      (call : Switches line.irq line.budget old new supply supply' (Some begun) (Some made)) → KeepsJackDriver old new → IsJackDriver old → Begins line.irq line.budget old new supply call.made begun made
      → HasNotWrapped (world_of made) → Accessed made after End → IsOpened format graphs plans task given lines left (Some line) supply start tf old begun
      → SwitchGoesOn format graphs plans task lines left supply' new after

  -- and so does one with a later run
  abbrev pub GoesCall : Type 0
  GoesCall =
      (lines left : List DriverLine) (line : DriverLine) (supply supply' : List ℕ) (start : List CodecState) (tf : ℕ) (old new : JackDriverState) (begun made after : Telling)
      (call : Switches line.irq line.budget old new supply supply' (Some begun) (Some made)) → KeepsJackDriver old new → IsJackDriver old → GoesOn line.irq line.budget old new supply call.made begun made
      → HasNotWrapped (world_of made) → Accessed made after End → IsOpened format graphs plans task given lines left (Some line) supply start tf old begun
      → SwitchGoesOn format graphs plans task lines left supply' new after

  module _ (laws : StopLaws) (first : BeginsCall) (later : GoesCall) where
    opened_call : (lines left : List DriverLine) (line : DriverLine) (supply supply' : List ℕ) (start : List CodecState) (tf : ℕ) (old new : JackDriverState) (begun made after : Telling)
        (call : Switches line.irq line.budget old new supply supply' (Some begun) (Some made)) → KeepsJackDriver old new → IsJackDriver old → SwitchTells line.irq line.budget old new supply call.made begun made
        → HasNotWrapped (world_of made) → Accessed made after End → IsOpened format graphs plans task given lines left (Some line) supply start tf old begun
        → SwitchGoesOn format graphs plans task lines left supply' new after
    opened_call lines left line supply supply' start tf old new begun made after call keeps driver (inl still) small ends opened =
        still_call format graphs plans task given lines left line supply supply' start tf old new begun made after call keeps still ends opened
    opened_call lines left line supply supply' start tf old new begun made after call keeps driver (inr (inl begins)) small ends opened =
        first lines left line supply supply' start tf old new begun made after call keeps driver begins small ends opened
    opened_call lines left line supply supply' start tf old new begun made after call keeps driver (inr (inr (inl goes))) small ends opened =
        later lines left line supply supply' start tf old new begun made after call keeps driver goes small ends opened
    opened_call lines left line supply supply' start tf old new begun made after call keeps driver (inr (inr (inr gives))) small ends opened =
        gives_call format graphs plans task given laws lines left line supply supply' start tf old new begun made after call keeps driver gives ends opened

    -- of a later line
    pub calls_on : GoesOnOverCalls format graphs plans task
    calls_on lines left line old new supply supply' before begun made after driver begins call keeps ends small on =
        opened_call lines left line supply supply' on.turned.start on.turned.from old new begun made after call keeps driver call.tells.is small ends
        (switch_opens format graphs plans task given lines (line ∷ left) supply old before begun begins on)

    -- of the first line
    pub turns_on : (verbs : RawCodec → List Command) → TurnLaws → PartsStand format verbs graphs task → Turns format verbs graphs plans task
    turns_on verbs turn_laws stand lines left line parts old new supply supply' before begun made after ready of driver task_is begins call keeps ends small coming =
        let turn = turned format verbs graphs plans task given turn_laws stand lines left line parts old supply before ready of task_is coming in
        opened_call lines left line supply supply' turn.0.start turn.0.from old new begun made after call keeps driver call.tells.is small ends
        (turn_opens format verbs graphs plans task given turn_laws stand lines left line parts old supply before ready of task_is coming begun begins)
