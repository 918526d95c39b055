-- A driver that was just opened stands to the start of a machine.
use Rattle.std.proofs.Common.{◌≡◌, ℕ, Bool, List, [], ◌∷◌, length, refl, sym, ap, subst, ◌∙◌, arith}
use Rattle.std.proofs.lemmas.List.{length-replicate}
use Rattle.std.proofs.lemmas.Nat.Bits.{bit_at-zero}
use Rattle.codec_graph.specs.declared.raw.RawCodec.{RawCodec}
use Rattle.stream_format.specs.declared.format.Format.{Format}
use Rattle.route_planner.specs.declared.routes.Plan.{Plan}
use Rattle.route_planner.specs.Plans.{IsPlan}
use Rattle.route_setup.specs.Means.{Means}
use Rattle.hda_files.specs.declared.machine.CodecFile.{CodecFile}
use Rattle.hda_files.specs.declared.machine.Machine.{Machine}
use Rattle.hda_files.specs.Machines.{IsSound}
use Rattle.hda_world.specs.declared.world.TheConstants.{REGION_BYTES}
use Rattle.hda_controller.specs.Openings.{codecs_in}
use Rattle.rig.specs.Replays.{zeros, start_of}
use Rattle.command_engine.specs.declared.ring_places.RingPlaces.{RingPlaces}
use Rattle.command_engine.specs.Fetchings.{HasBlocks, AscendFrom, AscendByAddress, graphs_in}
use Rattle.period_writer.specs.declared.geometry.Geometry.{Geometry}
use Rattle.period_writer.specs.Writers.{WriterState}
use Rattle.driver_progress.specs.declared.phase.Phase.{Phase}
use Rattle.driver_progress.specs.declared.phase.Phase.TheVariants.{Reset}
use Rattle.driver_progress.specs.States.{State, state_opened}
use Rattle.driver_progress.specs.Beginning.{HasOnly}
use Rattle.period_writer.specs.Runs.{tally_opened}
use Rattle.driver_bring_up.specs.declared.bringing.BringUp.{BringUp}
use Rattle.driver_bring_up.specs.Calls.{state_of, IsTaskOf}
use Rattle.driver_progress.specs.Tasks.{Task}
use Rattle.verb_codes.specs.declared.verbs.Command.{Command}
use Rattle.hda_world.specs.Worlds.{World}
use Rattle.laws_settings.specs.Readings.{KeepsDefaults}
use Rattle.std.specs.Prelude.{All}
use Rattle.audio_driver.specs.Opening.{IsOpened}
use Rattle.laws_bring_up.specs.Standing.{CanBegin, StandsIn, IsBroughtUp}
use Rattle.heard_lists.specs.Listings.{graphs_in as graphs_of}
use Rattle.laws_start.specs.Tasks.{verbs_meant, task_meant, blocks_of}
use Rattle.laws_start.specs.Reading.{IsWhole}
use Rattle.laws_start.specs.Starting.{BeginsAt}
use Rattle.laws_start.proofs.Tasked.{stand_by_address}

-- ---- the start of a machine

zeros_length : (size : ℕ) → length (zeros size) ≡ size
unfolding zeros
zeros_length size = length-replicate size 0

pub graphs_there : (files : List CodecFile) → graphs_in (codecs_in files) ≡ graphs_of files
graphs_there [] = refl
graphs_there (file ∷ files) = ap (λ (graphs : List RawCodec). file.graph ∷ graphs) (graphs_there files)

none_announced : (size : ℕ) (machine : Machine) → HasOnly (start_of size machine)
none_announced size machine bit set = (let none = bit_at-zero bit in absurd (omega (arith, none, set)))

can_begin : (bring_up : BringUp) (machine : Machine) (size : ℕ) → HasBlocks bring_up.engine.corb.address bring_up.engine.rirb.address REGION_BYTES → size ≡ REGION_BYTES → IsSound machine → IsWhole machine → bring_up.sent ≡ 0 → bring_up.agenda.graphs.items ≡ []
    → CanBegin bring_up (start_of size machine)
can_begin bring_up machine size blocks whole_region sound whole sent walked = record {
  can = record {
    blocks = subst (HasBlocks bring_up.engine.corb.address bring_up.engine.rirb.address) (sym (zeros_length size ∙ whole_region)) blocks;
    ascend = subst (λ (graphs : List RawCodec). AscendFrom 0 graphs) (sym (graphs_there machine.codecs)) (stand_by_address 0 machine.codecs sound.ascending sound.each (λ some. omega arith));
    only = none_announced size machine;
  };
  stopped = refl;
  defaults = whole.defaults;
  none_sent = sent;
  none_walked = walked;
}

-- ---- a driver that was just opened

abbrev state_with : Phase → (kept sent : ℕ) → RingPlaces → State
state_with phase kept sent rings = record { phase = phase; kept = kept; sent = sent; rings = rings; tally = tally_opened }

opened_state : (bring_up : BringUp) (geometry : Geometry) (most : ℕ) (writer : WriterState) → IsOpened geometry most bring_up writer → state_of bring_up ≡ state_opened
opened_state bring_up geometry most writer opened =
    ap (λ (phase : Phase). state_with phase bring_up.kept bring_up.sent bring_up.engine.rings) opened.phase
    ∙ ap (λ (kept : ℕ). state_with Reset kept bring_up.sent bring_up.engine.rings) opened.kept
    ∙ ap (λ (sent : ℕ). state_with Reset 0 sent bring_up.engine.rings) opened.sent
    ∙ ap (λ (rings : RingPlaces). state_with Reset 0 0 rings) opened.rings

pub begins : (means : Means) (machine : Machine) (plans : List Plan) (geometry : Geometry) (plays : Bool) (pcm : List ℕ) (most : ℕ) (bring_up : BringUp) (writer : WriterState) → IsSound machine → IsWhole machine → IsOpened geometry most bring_up writer
    → BeginsAt means machine plans (task_meant means machine plans geometry plays pcm (blocks_of bring_up writer)) bring_up
begins means machine plans geometry plays pcm most bring_up writer sound whole opened =
    let task = task_meant means machine plans geometry plays pcm (blocks_of bring_up writer) in
    record {
      stands = record {
        blocks = record { corb = refl; rirb = refl };
        graphs_are = graphs_there machine.codecs;
        stage = subst (λ (phase : Phase). StandsIn phase means (verbs_meant means machine.codecs plans) (graphs_of machine.codecs) task 0 bring_up (start_of REGION_BYTES machine)) (sym opened.phase)
            (can_begin bring_up machine REGION_BYTES opened.blocks refl sound whole opened.sent opened.graphs);
      };
      state = opened_state bring_up geometry most writer opened;
    }

-- so it stands to every world of which nothing was asked yet
pub stands_before : (means : Means) (verbs : RawCodec → List Command) (task : Task) (geometry : Geometry) (most : ℕ) (bring_up : BringUp) (writer : WriterState) (world : World)
    → IsOpened geometry most bring_up writer → IsTaskOf bring_up task → length world.memory ≡ REGION_BYTES → AscendByAddress world.codecs → HasOnly world → world.registers.global.corb_run ≡ 0 → All KeepsDefaults world.codecs
    → IsBroughtUp means verbs (graphs_in world.codecs) task 0 bring_up world × (state_of bring_up ≡ state_opened)
stands_before means verbs task geometry most bring_up writer world opened blocks whole ascend only stopped defaults = (
  record {
    blocks = blocks;
    graphs_are = refl;
    stage = subst (λ (phase : Phase). StandsIn phase means verbs (graphs_in world.codecs) task 0 bring_up world) (sym opened.phase)
        (record {
          can = record { blocks = subst (HasBlocks bring_up.engine.corb.address bring_up.engine.rirb.address) (sym whole) opened.blocks; ascend = ascend; only = only };
          stopped = stopped;
          defaults = defaults;
          none_sent = opened.sent;
          none_walked = opened.graphs;
        });
  },
  opened_state bring_up geometry most writer opened,
)
