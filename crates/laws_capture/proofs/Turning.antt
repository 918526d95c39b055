-- The turn: a driver that brought its codecs up becomes one that records.
use Rattle.std.proofs.Common.{◌≡◌, ◌≤◌, ◌||◌, inl, inr, ℕ, Bool, true, false, List, [], ◌∷◌, length, Some, refl, sym, ap, subst, ◌∙◌, arith, rules, tests}
use Rattle.std.specs.Prelude.{nat_le, slice_index, ◌+◌}
use Rattle.std.proofs.lemmas.List.{length-map}
use Rattle.verb_codes.specs.declared.verbs.Command.{Command}
use Rattle.codec_graph.specs.declared.raw.RawCodec.{RawCodec}
use Rattle.route_setup.specs.Means.{Means}
use Rattle.dma_pool.specs.declared.blocks.Lent.{Lent}
use Rattle.hda_world.specs.declared.world.TheConstants.{REGION_BYTES}
use Rattle.hda_world.specs.Events.{Begin, End}
use Rattle.hda_world.specs.Tellings.{Telling, world_of, Accessed}
use Rattle.command_engine.specs.Blocks.{rirb_bytes}
use Rattle.command_engine.specs.Fetchings.{Stands}
use Rattle.command_engine.specs.Engines.{EngineState}
use Rattle.command_engine.specs.declared.ring_places.RingPlaces.{RingPlaces}
use Rattle.period_writer.specs.declared.geometry.Geometry.{Geometry}
use Rattle.period_writer.specs.Blocks.{are_apart, addresses_of}
use Rattle.period_writer.specs.Outcomes.{HasNotWrapped}
use Rattle.hda_capture.specs.Recordings.{RecordTally, tally_opened}
use Rattle.hda_capture.specs.Recorders.{RecorderState, IsRecorder, tally_of, periods_of, measures_of}
use Rattle.driver_progress.specs.declared.phase.Phase.TheVariants.{Ready}
use Rattle.driver_progress.specs.Phases.{is_ready}
use Rattle.driver_progress.specs.Tasks.{Task, DriverLine, walks_over}
use Rattle.driver_progress.specs.States.{State}
use Rattle.driver_rules.specs.Onward.{IsOnwardOpen}
use Rattle.driver_rules.proofs.Callers.{rest_waits, rules_turn}
use Rattle.laws_stream.specs.Resting.{Rests, IsApartFrom, AreApartFrom}
use Rattle.laws_recording.specs.Filling.{recorder_ring}
use Rattle.laws_driver.specs.Sounding.{Parts}
use Rattle.laws_driver.specs.Keeping.{IsSilent}
use Rattle.laws_driver.specs.Leaving.{IsLeftStanding, IsLeftReady}
use Rattle.recording_driver.specs.RecordRules.{RecordState, record_begun, record_rules}
use Rattle.recording_driver.specs.RecordingDrivers.{RecordingState, record_state, IsRecordingDriver, IsTaskOfRecording, IsBesideRecorder}
use Rattle.recording_driver.specs.RecordingCalls.{Records}
use Rattle.laws_capture.specs.Taking.{HasNotStarted}
use Rattle.laws_capture.specs.Capturing.{IsComing, IsMadeOf, CaptureGoesOn}
use Rattle.laws_capture.proofs.StaysGood.{begin_good}
use Rattle.laws_capture.proofs.BesideRules.{IsBesideRules, begin_beside}
use Rattle.laws_capture.proofs.QuietJournal.{no_runs}
use Rattle.laws_capture.proofs.RunsTold.{RecordsAll, begin_runs}
use Rattle.laws_capture.proofs.StreamLooks.{mark_takes}
use Rattle.laws_capture.proofs.BringingUp.{silent_of}
use Rattle.laws_capture.proofs.RecordCalls.{IsOpened, record_call}
use Rattle.laws_capture.proofs.Given.{Given}

-- ---- RIRB lies outside the recorder's blocks

apart_by : (rirb address bytes : ℕ) → are_apart rirb rirb_bytes address bytes ≡ true → IsApartFrom rirb address bytes
apart_by rirb address bytes apart = by (nat_le (rirb + rirb_bytes) address) refl apart
  where
    by : (test : Bool) → nat_le (rirb + rirb_bytes) address ≡ test → (test || nat_le (address + bytes) rirb) ≡ true → IsApartFrom rirb address bytes
    by true is apart = let above : rirb + rirb_bytes ≤ address = search (rules, tests) in inr above
    by false is apart = let below : address + bytes ≤ rirb = search (rules, tests) in inl below

ring_apart : (rirb : ℕ) (recorder : RecorderState) → IsRecorder recorder → IsBesideRecorder rirb rirb_bytes recorder → AreApartFrom (recorder_ring recorder) rirb
ring_apart rirb recorder is beside = record {
  list = apart_by rirb recorder.list.address _ beside.list;
  periods = λ index within.
      (let number = is.number in
      let long : length (addresses_of recorder.periods) ≡ length recorder.periods = length-map recorder.periods (λ (lent : Lent). lent.address) in
      apart_by rirb (slice_index (periods_of recorder) index) _ (beside.periods index (omega (arith, within, number, long))));
}

-- ---- the rules begin

state_by : (engine : EngineState) (recorder : RecorderState) (rings : RingPlaces) → engine.rings ≡ rings → tally_of recorder ≡ tally_opened → record_begun rings ≡ record { rings = engine.rings; tally = tally_of recorder }
state_by engine recorder rings same fresh =
    let state : RingPlaces → RecordTally → RecordState = λ rings tally. record { rings = rings; tally = tally } in
    ap (λ (rings : RingPlaces). state rings tally_opened) (sym same) ∙ ap (λ (tally : RecordTally). state engine.rings tally) (sym fresh)

module _ (means : Means) (verbs : RawCodec → List Command) (graphs : List RawCodec) (task : Task) (total nid : ℕ)
    (laws : Given means verbs graphs task nid) (lines left : List DriverLine) (line : DriverLine) (parts : Parts) (driver : RecordingState) (telling : Telling) (ready : parts.bring_up.phase ≡ Ready)
    (of : IsMadeOf parts total driver) (is_driver : IsRecordingDriver driver) (recorder : IsRecorder driver.recorder) (task_is : IsTaskOfRecording driver task)
    (region : length (world_of telling).memory ≡ REGION_BYTES) (coming : IsComing means verbs graphs task total lines (line ∷ left) parts telling) where
  silent : IsSilent means verbs graphs task lines (line ∷ left) parts telling
  silent = silent_of means verbs graphs task total nid laws lines (line ∷ left) parts telling coming.under_way

  left_so : IsLeftStanding means graphs parts (world_of telling) × IsLeftReady task lines parts telling
  left_so = laws.stand lines (line ∷ left) parts telling ready silent.silent.fresh coming.under_way

  standing : IsLeftStanding means graphs parts (world_of telling)
  standing = left_so.0

  progress : IsLeftReady task lines parts telling
  progress = left_so.1

  stands_so : Stands standing.from standing.read driver.engine.corb.address driver.engine.rirb.address driver.engine.rings (world_of telling)
  stands_so =
      subst (λ (engine : EngineState). Stands standing.from standing.read engine.corb.address engine.rirb.address engine.rings (world_of telling)) (sym of.engine) standing.stands

  unstarted : HasNotStarted graphs driver.engine driver.recorder (world_of telling)
  unstarted = record {
    fresh = of.fresh;
    none = of.none;
    region = region;
    graphs_are = standing.graphs_are;
    from = standing.from;
    read = standing.read;
    stands = stands_so;
    rests = subst (λ (geometry : Geometry). Rests geometry.fifo (world_of telling)) (sym of.geometry) standing.rests;
    apart = ring_apart driver.engine.rirb.address driver.recorder recorder is_driver.beside_rirb;
    none_came = coming.none_came;
  }

  -- what is known of the trail
  beside : IsBesideRules task lines driver.sent telling
  beside = record {
    finds = silent.under_way.rest.finds;
    phase_is = progress.phase;
    sent_is = progress.sent ∙ sym of.sent;
    answered = ap (λ (rings : RingPlaces). rings.outstanding) progress.rings ∙ standing.answered;
  }

  -- nothing was recorded, and no stretch was a run
  none_recorded : RecordsAll driver telling
  none_recorded =
      of.fresh
      ∙ sym (no_runs task (measures_of driver.recorder) lines telling (ap (λ (state : State). state.tally) silent.under_way.rest.state_is) silent.under_way.rest.within)

  pub turn_opens : (begun : Telling) → Accessed telling begun Begin → IsOpened means verbs graphs task nid laws lines left (Some line) driver begun
  turn_opens begun begins =
      let rings = parts.bring_up.engine.rings in
      let rest = silent.under_way.rest in
      let waits = rest_waits (record_rules task total) task lines (line ∷ left) telling rest.conforms rest.within rest.left_is coming.waits in
      let opened = rules_turn (record_rules task total) task lines left line rings telling begun begins (ap is_ready progress.phase) progress.rings waits in record {
        opened = subst (λ (total : ℕ). IsOnwardOpen (record_rules task total) task lines left (Some line) (Some (record_state driver)) [] begun) (sym of.total_is)
            (subst (λ (state : RecordState). IsOnwardOpen (record_rules task total) task lines left (Some line) (Some state) [] begun)
            (state_by driver.engine driver.recorder rings (ap (λ (engine : EngineState). engine.rings) of.engine) of.fresh) opened);
        beside = begin_beside task lines driver.sent telling begun begins beside;
        stays = begin_good means graphs task lines telling begun begins (record { set_up = silent.under_way.set_up; good = standing.good });
        of = record {
          task_is = task_is;
          walked = of.graphs ∙ standing.walked;
          enough = subst (λ (sent : ℕ). length (walks_over graphs) ≤ sent) (sym of.sent) standing.enough;
        };
        stream = mark_takes laws.came laws.recorder laws.taken graphs driver.engine driver.recorder Begin telling begun (tt {0}) begins (inl unstarted);
        runs = begin_runs task lines driver telling begun begins silent.under_way.rest.within none_recorded;
      }

  pub turns : (new : RecordingState) (begun made after : Telling) → Accessed telling begun Begin → Records line.irq driver new (Some begun) (Some made) → Accessed made after End → HasNotWrapped (world_of made)
      → CaptureGoesOn means graphs task lines left new after
  turns new begun made after begins call ends small =
      record_call means verbs graphs task nid laws lines left line driver new begun made after recorder call ends small (turn_opens begun begins)
