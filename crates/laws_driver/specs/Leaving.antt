-- What a driver leaves that is taken apart once its codecs are set up. This project's own, over High Definition Audio
-- 1.0a, 3.3.7 and 3.3.16.
use Rattle.std.specs.Prelude.{◌≡◌, ◌≤◌, true, ℕ, List, length, None}
use Rattle.codec_graph.specs.declared.raw.RawCodec.{RawCodec}
use Rattle.route_setup.specs.Means.{Means}
use Rattle.hda_registers.specs.Fields.{is_out_of_reset}
use Rattle.hda_world.specs.Worlds.{World}
use Rattle.hda_world.specs.Tellings.{Telling}
use Rattle.command_engine.specs.Fetchings.{Stands, graphs_in}
use Rattle.driver_progress.specs.declared.phase.Phase.TheVariants.{Ready}
use Rattle.driver_progress.specs.Tasks.{Task, DriverLine, walks_over}
use Rattle.driver_progress.specs.Progress.{trail_of}
use Rattle.laws_bring_up.specs.SettingUp.{AreSetUpForGood}
use Rattle.laws_stream.specs.Resting.{Rests, AreApartFrom}
use Rattle.laws_driver.specs.Sounding.{Parts, ring_in}

-- the engine stands to the world and has no command outstanding, CRST is 1, no stream runs and WALCLK is 500 times the
-- link frames since CRST rose, RIRB lies outside the writer's blocks, all codecs were walked, and they are set up for
-- good
pub record IsLeftStanding (means : Means) (graphs : List RawCodec) (parts : Parts) (world : World) : Type 0 where
  pub from : ℕ
  pub read : ℕ
  pub stands : Stands from read parts.bring_up.engine.corb.address parts.bring_up.engine.rirb.address
      parts.bring_up.engine.rings world
  pub answered : parts.bring_up.engine.rings.outstanding ≡ None
  pub out : is_out_of_reset world.registers.global ≡ true
  pub rests : Rests parts.writer.geometry.fifo world
  pub apart : AreApartFrom (ring_in parts) parts.bring_up.engine.rirb.address
  pub graphs_are : graphs_in world.codecs ≡ graphs
  pub walked : parts.bring_up.agenda.graphs.items ≡ graphs
  pub enough : length (walks_over graphs) ≤ parts.bring_up.sent
  pub good : AreSetUpForGood means graphs world

-- and progress came just as far
pub record IsLeftReady (task : Task) (lines : List DriverLine) (parts : Parts) (telling : Telling) : Type 0 where
  pub phase : (trail_of task lines telling).state.phase ≡ Ready
  pub sent : (trail_of task lines telling).state.sent ≡ parts.bring_up.sent
  pub rings : (trail_of task lines telling).state.rings ≡ parts.bring_up.engine.rings
