-- That all codecs are set up at every moment from the last answer on, but for the speakers that are off. This project's
-- own.
use Rattle.std.specs.Prelude.{◌≡◌, ℕ, true, List, Some}
use Rattle.std.specs.List.{AllZip}
use Rattle.codec_graph.specs.declared.raw.RawCodec.{RawCodec}
use Rattle.codec_graph.specs.CodecStates.{CodecState}
use Rattle.stream_format.specs.declared.format.Format.{Format}
use Rattle.route_planner.specs.declared.routes.Plan.{Plan}
use Rattle.hda_world.specs.Worlds.{World, codec_at}
use Rattle.hda_world.specs.Tellings.{Telling}
use Rattle.driver_progress.specs.Tasks.{Task, DriverLine}
use Rattle.driver_progress.specs.Progress.{Trail, trail_opened}
use Rattle.laws_settings.specs.Histories.{words_to}
use Rattle.laws_settings.specs.PinControls.{last_control}
use Rattle.laws_bring_up.specs.SettingUp.{are_answered, Always}
use Rattle.laws_speakers.specs.SetUpBut.{IsSetUpBut}

-- the codec with this graph is there, and each route of its plan is open, or its pin silent where the last SetPin that
-- the codec took has out enable clear
pub record IsThereBut (format : Format) (tag : ℕ) (graph : RawCodec) (plan : Plan) (world : World) : Type 0 where
  pub now : CodecState
  pub found : codec_at graph.address world.codecs ≡ Some now
  pub graph_is : now.graph ≡ graph
  pub opened : IsSetUpBut (λ pin. last_control pin (words_to graph.address world.commands)) now.graph now.settings plan
      format tag

-- so for each of some graphs with its plan
abbrev pub AreSetUpBut : (format : Format) (tag : ℕ) → List RawCodec → List Plan → World → Type 0
AreSetUpBut format tag graphs plans world =
    AllZip (λ (graph : RawCodec) (plan : Plan). IsThereBut format tag graph plan world) graphs plans

-- wherever all commands of the set-up are answered
abbrev pub SetUpButAt : (format : Format) (tag : ℕ) → List RawCodec → List Plan → Task → World → Trail → Type 0
SetUpButAt format tag graphs plans task world trail =
    are_answered task trail ≡ true → AreSetUpBut format tag graphs plans world

-- at every moment that is told
abbrev pub StaysSetUpBut : (format : Format) (tag : ℕ) → List RawCodec → List Plan → Task → (lines : List DriverLine)
    → Telling → Type 0
StaysSetUpBut format tag graphs plans task lines telling =
    Always (SetUpButAt format tag graphs plans task) task telling.journal telling.start (trail_opened lines)
