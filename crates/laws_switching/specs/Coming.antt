-- How a driver is led on that is to switch speakers, as it is told, while it brings its codecs up: its rules wait. This
-- project's own.
use Rattle.std.specs.Prelude.{◌≡◌, false, List, [], ◌∷◌, map, All, None, Some}
use Rattle.verb_codes.specs.declared.verbs.Command.{Command}
use Rattle.codec_graph.specs.declared.raw.RawCodec.{RawCodec}
use Rattle.route_planner.specs.declared.routes.Plan.{Plan}
use Rattle.route_setup.specs.Means.{Means}
use Rattle.world_steps.specs.declared.Step.{Step}
use Rattle.hda_world.specs.Events.{Event, Stepped, Begin, End}
use Rattle.hda_world.specs.Tellings.{Telling, world_of, Went, Accessed}
use Rattle.period_writer.specs.Runs.{Tally, tally_opened as writer_opened}
use Rattle.period_writer.specs.Outcomes.{HasNotWrapped}
use Rattle.driver_progress.specs.Phases.{is_ready}
use Rattle.driver_progress.specs.Tasks.{Task, DriverLine}
use Rattle.driver_progress.specs.States.{state_opened}
use Rattle.driver_bring_up.specs.declared.bringing.BringUp.{BringUp}
use Rattle.driver_bring_up.specs.Calls as bringing
use Rattle.driver_rules.specs.Onward.{onward_of, later_of, IsOnward}
use Rattle.laws_settings.specs.Readings.{KeepsDefaults}
use Rattle.laws_bring_up.specs.Standing.{IsBroughtUp}
use Rattle.laws_stream.specs.Resting.{Rests, AreApartFrom}
use Rattle.laws_stream.specs.Lives.{Along}
use Rattle.laws_driver.specs.Sounding.{Parts, ring_in, tally_in}
use Rattle.laws_driver.specs.Keeping.{DriverGoesOn, DriverHasGone, WasNeverHeard, Calls, Closes}
use Rattle.jack_switch.specs.SwitchRules.{switch_rules}

-- a driver that plays nothing brings its codecs up, and its rules wait: no line has begun at `Ready`. Where it began
-- codecs had taken no command, and had their pins' defaults
pub record IsComing (means : Means) (verbs : RawCodec → List Command) (graphs : List RawCodec) (plans : List Plan)
    (task : Task) (lines left : List DriverLine) (parts : Parts) (telling : Telling) : Type 0 where
  pub under_way : DriverGoesOn means verbs graphs task lines left parts telling
  pub waits : (onward_of (switch_rules task graphs plans) task lines telling).later ≡ None
  pub none_taken : telling.start.commands ≡ []
  pub defaults : All KeepsDefaults telling.start.codecs

-- it was closed before it played: the journal is progress and its rules wait, and the stream was never set going
pub record HasNotSwitched (means : Means) (graphs : List RawCodec) (plans : List Plan) (task : Task)
    (lines : List DriverLine) (ended : BringUp) (tally : Tally) (last : List Event) (telling : Telling) : Type 0 where
  pub onward : IsOnward (switch_rules task graphs plans) task lines telling
  pub later_is : later_of (switch_rules task graphs plans) task lines telling ≡ None
  pub gone : DriverHasGone means graphs task lines ended tally last telling
  pub fresh : tally ≡ writer_opened
  pub never : WasNeverHeard telling

-- ---- how it is led on

pub record KeepsComing (means : Means) (verbs : RawCodec → List Command) (graphs : List RawCodec) (plans : List Plan)
    (task : Task) : Type 0 where
  -- where nothing happened yet
  pub begins : (lines : List DriverLine) (parts : Parts) (telling : Telling) → telling.journal ≡ []
      → telling.start.commands ≡ [] → bringing.state_of parts.bring_up ≡ state_opened
      → IsBroughtUp means verbs graphs task 0 parts.bring_up (world_of telling) → tally_in parts ≡ writer_opened
      → AreApartFrom (ring_in parts) parts.bring_up.engine.rirb.address
      → Rests parts.writer.geometry.fifo (world_of telling)
      → IsComing means verbs graphs plans task lines lines parts telling
  -- steps of the device
  pub steps : (lines left : List DriverLine) (parts : Parts) (steps : List Step) (old new : Telling)
      → Went old new (map Stepped steps) → IsComing means verbs graphs plans task lines left parts old
      → IsComing means verbs graphs plans task lines left parts new
  -- a stretch of a line that does not begin at `Ready`, while WALCLK has not wrapped
  pub calls : (lines left : List DriverLine) (line : DriverLine) (old new : Parts)
      (before begun made after : Telling) → Accessed before begun Begin → is_ready old.bring_up.phase ≡ false
      → Calls means false line.irq line.budget old new (Some begun) (Some made)
      → Accessed made after End → HasNotWrapped (world_of made)
      → IsComing means verbs graphs plans task lines (line ∷ left) old before
      → IsComing means verbs graphs plans task lines left new after
  -- the closing stretch of a driver that did not play, at `Ready` too
  pub shuts : (lines : List DriverLine) (old : Parts) (ended : BringUp) (tally : Tally) (last : List Event)
      (before begun made after : Telling) → Accessed before begun Begin
      → Closes means false old ended tally (Some begun) (Some made)
      → Accessed made after End → Went before after last → Along HasNotWrapped last (world_of before)
      → IsComing means verbs graphs plans task lines [] old before
      → HasNotSwitched means graphs plans task lines ended tally last after
