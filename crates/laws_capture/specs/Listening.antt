-- That an input hears its pin wherever all codecs are set up. This project's own.
use Rattle.std.specs.Prelude.{◌≡◌, ℕ, List, [], ◌∷◌, Contains}
use Rattle.std.specs.List.{zip}
use Rattle.codec_graph.specs.declared.raw.RawCodec.{RawCodec}
use Rattle.stream_format.specs.declared.format.Format.{Format}
use Rattle.route_planner.specs.declared.routes.Route.{Route}
use Rattle.route_planner.specs.declared.routes.Outcome.TheVariants as outcome
use Rattle.route_planner.specs.declared.routes.PinPlan.{PinPlan}
use Rattle.route_planner.specs.declared.routes.Plan.{Plan}
use Rattle.route_setup.specs.Means.{Means}
use Rattle.hda_files.specs.declared.machine.CodecFile.{CodecFile}
use Rattle.hda_world.specs.Worlds.{World}
use Rattle.hda_world.specs.Streaming.{HasFetchedAll}
use Rattle.command_engine.specs.Fetchings.{graphs_in}
use Rattle.laws_bring_up.specs.SettingUp.{AreSetUp}
use Rattle.laws_recording.specs.Sound.{HearsGiven}

-- wherever all codecs with these graphs are set up and no command is left, the one converter that takes a stream of the
-- format hears this pin
abbrev pub HearsWhereOpen : (means : Means) → (graphs : List RawCodec) → Format → (nid : ℕ) → Type 0
HearsWhereOpen means graphs format nid =
    (world : World) → graphs_in world.codecs ≡ graphs → AreSetUp means graphs world → HasFetchedAll world
    → HearsGiven format nid world

-- of the plans of some codecs that of the codec at an address has one entry, of this pin with a route
pub record RecordsPin (address : ℕ) (files : List CodecFile) (plans : List Plan) (nid : ℕ) : Type 0 where
  pub file : CodecFile
  pub plan : Plan
  pub among : Contains (zip files plans) (file, plan)
  pub address_is : file.graph.address ≡ address
  pub entry : PinPlan
  pub one : plan.pins ≡ entry ∷ []
  pub pin_is : entry.pin ≡ nid
  pub route : Route
  pub routed : entry.outcome ≡ outcome.Route route
