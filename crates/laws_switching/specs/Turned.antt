-- What the codecs of a driver that switches speakers were when it began to. This project's own.
use Rattle.std.specs.Prelude.{◌≡◌, ℕ, List, take, All, Contains}
use Rattle.std.specs.List.{AllZip}
use Rattle.codec_graph.specs.declared.raw.RawCodec.{RawCodec}
use Rattle.codec_graph.specs.CodecStates.{CodecState}
use Rattle.codec_graph.specs.Settings.{IsSettingsOf}
use Rattle.stream_format.specs.declared.format.Format.{Format}
use Rattle.route_planner.specs.declared.routes.Plan.{Plan}
use Rattle.route_setup.specs.Means.{Means, analog}
use Rattle.hda_world.specs.Worlds.{World}
use Rattle.command_engine.specs.Fetchings.{graphs_in}
use Rattle.laws_settings.specs.Histories.{Remembers, words_to}
use Rattle.laws_settings.specs.Frames.{RemembersFrames}
use Rattle.laws_settings.specs.PinControls.{last_control}
use Rattle.laws_bring_up.specs.SettingUp.{IsThere}
use Rattle.laws_speakers.specs.SwitchWords.{AreSwitching}
use Rattle.laws_speakers.specs.SetUpBut.{AreRoutesOn}
use Rattle.laws_switching.specs.Speakers.{is_switched}

-- analog outputs of the driver's stream, which has tag 1
abbrev pub outputs : Format → Means
outputs format = analog format 1

-- what the world's codecs were at the turn: they were set up, by commands that left the pins of all routes on, no link
-- frame had passed, and all commands since then switch speakers
pub record HasTurned (format : Format) (graphs : List RawCodec) (plans : List Plan) (world : World) : Type 0 where
  pub start : List CodecState
  pub from : ℕ
  pub remembers : Remembers start from world
  pub frames : RemembersFrames start from 0 world
  pub switching : AreSwitching (is_switched graphs plans) from world
  pub graphs_are : graphs_in start ≡ graphs
  pub settings : All (λ (codec : CodecState). IsSettingsOf codec.graph codec.settings) start
  pub set_up : (graph : RawCodec) → Contains graphs graph → IsThere (outputs format) graph start
  pub routes : AllZip (λ (graph : RawCodec) (plan : Plan). AreRoutesOn
      (λ pin. last_control pin (words_to graph.address (take from world.commands))) plan) graphs plans
