-- A driver that was just opened for a capture can begin its task over a machine whose input pins are given a sound.
use Rattle.std.proofs.Common.{◌≡◌, ℕ, false, List, [], refl, sym, ap, subst, ◌∙◌}
use Rattle.verb_codes.specs.declared.verbs.Command.{Command}
use Rattle.codec_graph.specs.declared.raw.RawCodec.{RawCodec}
use Rattle.route_setup.specs.Means.{Means}
use Rattle.route_planner.specs.declared.routes.Plan.{Plan}
use Rattle.hda_files.specs.declared.machine.Machine.{Machine}
use Rattle.schedule_reader.specs.declared.schedule.Schedule.{Schedule}
use Rattle.hda_world.specs.declared.world.TheConstants.{REGION_BYTES}
use Rattle.hda_world.specs.Worlds.{World, given_sound}
use Rattle.period_writer.specs.declared.geometry.Geometry.{Geometry}
use Rattle.period_writer.specs.Runs.{tally_opened}
use Rattle.period_writer.specs.Writers.{WriterState, ring_of, tally_of}
use Rattle.driver_progress.specs.declared.phase.Phase.{Phase}
use Rattle.driver_progress.specs.declared.phase.Phase.TheVariants.{Reset}
use Rattle.driver_progress.specs.Tasks.{Task}
use Rattle.driver_bring_up.specs.declared.bringing.BringUp.{BringUp}
use Rattle.audio_driver.specs.Opening.{IsOpened}
use Rattle.laws_bring_up.specs.Standing.{CanBegin, StandsIn, IsBroughtUp}
use Rattle.laws_stream.specs.Resting.{Rests, AreApartFrom}
use Rattle.laws_start.specs.Tasks.{verbs_meant}
use Rattle.laws_start.specs.Starting.{BeginsAt}
use Rattle.laws_capture.specs.Capturing.{IsComing}
use Rattle.rig.specs.Replays.{start_of, telling_given}
use Rattle.heard_lists.specs.Listings.{graphs_in}
use Rattle.program_runs.specs.Lines.{lines_of}
use Rattle.program_captures.specs.declared.terms.CaptureTerms.{CaptureTerms}
use Rattle.program_captures.specs.Capturing.{IsCaptureTask, means_of, total_of, parts_with}
use Rattle.program_captures.proofs.Going.{KeepsFor}

-- ---- the given sound changes nothing of what a bring-up asks

begin_given : (bring_up : BringUp) (sound : List ℕ) (world : World) → CanBegin bring_up world → CanBegin bring_up (given_sound sound world)
begin_given bring_up sound world can = record {
  can = record { blocks = can.can.blocks; ascend = can.can.ascend; only = can.can.only };
  stopped = can.stopped;
  defaults = can.defaults;
  none_sent = can.none_sent;
  none_walked = can.none_walked;
}

-- and other blocks of a ring do not either
stands_given : (means : Means) (verbs : RawCodec → List Command) (graphs : List RawCodec) (task other : Task) (bring_up : BringUp) (sound : List ℕ) (world : World) → bring_up.phase ≡ Reset
    → other.blocks.corb ≡ bring_up.engine.corb.address → other.blocks.rirb ≡ bring_up.engine.rirb.address → IsBroughtUp means verbs graphs task 0 bring_up world → IsBroughtUp means verbs graphs other 0 bring_up (given_sound sound world)
stands_given means verbs graphs task other bring_up sound world reset corb rirb stands = record {
  blocks = record { corb = corb; rirb = rirb };
  graphs_are = stands.graphs_are;
  stage = subst (λ (phase : Phase). StandsIn phase means verbs graphs other 0 bring_up (given_sound sound world)) (sym reset)
      (begin_given bring_up sound world (subst (λ (phase : Phase). StandsIn phase means verbs graphs task 0 bring_up world) reset stands.stage));
}

-- ---- the start

pub comes_from : (terms : CaptureTerms) → KeepsFor terms → (machine : Machine) (plans : List Plan) (sound : List ℕ) (schedule : Schedule) (first task : Task) (nid most : ℕ) (bring_up : BringUp) (writer : WriterState)
    → IsOpened terms.geometry most bring_up writer → tally_of writer ≡ tally_opened → AreApartFrom (ring_of writer) bring_up.engine.rirb.address → terms.geometry.fifo ≡ machine.fifo → BeginsAt (means_of terms) machine plans first bring_up
    → Rests machine.fifo (start_of REGION_BYTES machine) → task.blocks.corb ≡ bring_up.engine.corb.address → task.blocks.rirb ≡ bring_up.engine.rirb.address
    → IsCaptureTask terms (verbs_meant (means_of terms) machine.codecs plans) (graphs_in machine.codecs) task nid
    → IsComing (means_of terms) (verbs_meant (means_of terms) machine.codecs plans) (graphs_in machine.codecs) task (total_of terms) (lines_of schedule) (lines_of schedule) (parts_with bring_up writer) (telling_given REGION_BYTES machine sound [])
comes_from terms keeps machine plans sound schedule first task nid most bring_up writer opened fresh apart fifo begins rests corb rirb is =
    let verbs = verbs_meant (means_of terms) machine.codecs plans in
    let graphs = graphs_in machine.codecs in
    let start = start_of REGION_BYTES machine in
    (keeps verbs graphs task nid is).begins (lines_of schedule) (parts_with bring_up writer) (telling_given REGION_BYTES machine sound []) refl begins.state
    (stands_given (means_of terms) verbs graphs first task bring_up sound start opened.phase corb rirb begins.stands) fresh apart
    (subst (λ (bytes : ℕ). Rests bytes start) (sym (ap (λ (ring : Geometry). ring.fifo) opened.geometry_is ∙ fifo)) rests) refl
