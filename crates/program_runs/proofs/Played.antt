-- What comes of playing.
use Rattle.std.proofs.Common.{◌≡◌, ◌≤◌, ℕ, Bool, true, false, List, length, refl, sym, ap, subst, ◌∙◌, inl, inr, arith}
use Rattle.std.specs.Prelude.{◌⊎◌, [], Contains, Option, None, Some, if◌then◌else◌}
use Rattle.std.specs.List.{AllZip}
use Rattle.std.proofs.lemmas.List.{get_or-map, length-map}
use Rattle.stream_format.specs.declared.format.Format.{Format}
use Rattle.stream_format.specs.Cadence.{block_bytes}
use Rattle.codec_graph.specs.declared.raw.RawCodec.{RawCodec}
use Rattle.codec_graph.specs.declared.pin_kind.PinKind.{PinKind}
use Rattle.route_planner.specs.declared.routes.Plan.{Plan}
use Rattle.wav_reader.specs.declared.wav.Wav.{Wav}
use Rattle.hda_files.specs.declared.machine.CodecFile.{CodecFile}
use Rattle.hda_files.specs.declared.machine.Machine.{Machine}
use Rattle.schedule_reader.specs.declared.schedule.Schedule.{Schedule}
use Rattle.hda_world.specs.declared.world.TheConstants.{REGION_BYTES}
use Rattle.hda_world.specs.Events.{Event}
use Rattle.hda_world.specs.Worlds.{CarriedFrame}
use Rattle.hda_world.specs.Tellings.{Telling, world_of}
use Rattle.driver_bring_up.specs.declared.answers.TheConstants.{TAG}
use Rattle.driver_progress.specs.States.{State}
use Rattle.period_writer.specs.declared.course.Ran.{Ran}
use Rattle.period_writer.specs.declared.course.Ran.TheVariants as ran
use Rattle.period_writer.specs.declared.geometry.Geometry.{Geometry}
use Rattle.period_writer.specs.Owning.{IsWritten}
use Rattle.period_writer.specs.Runs.{Tally, tally_opened, measures, tally_of_stretches}
use Rattle.audio_driver.specs.States.{phase_if, played_as, state_with}
use Rattle.audio_driver.specs.declared.driver.closing.Closed.{Closed}
use Rattle.driver_progress.specs.declared.phase.Phase.{Phase}
use Rattle.driver_progress.specs.declared.phase.Phase.TheVariants.{Ready, Playing, Drained, Late}
use Rattle.driver_progress.specs.Tasks.{Task, Blocks}
use Rattle.driver_progress.specs.Phases.{walked_all}
use Rattle.laws_stream.specs.Ending.{HearTheLine}
use Rattle.driver_bring_up.specs.Standing.{answers_of}
use Rattle.digital_out.specs.Means.{outputs}
use Rattle.laws_bring_up.specs.Standing.{AreWalked, WalkedIn}
use Rattle.laws_driver.specs.Sounding.{Parts}
use Rattle.laws_driver.specs.Keeping.{WasHeard, WasNeverHeard}
use Rattle.sound_report.specs.declared.played.Played.{Played}
use Rattle.rig.specs.Replays.{telling_from}
use Rattle.heard_lists.specs.Listings.{graphs_in}
use Rattle.program_runs.specs.Lines.{lines_of}
use Rattle.program_runs.specs.Ends.{play_can_end}
use Rattle.program_runs.specs.Outputs.{HavePlansOf}
use Rattle.program_runs.specs.Histories.{MakesProgress, StaysOpen, journal_of, telling_of_run}
use Rattle.program_runs.specs.FrameCounts.{written_by}
use Rattle.program_runs.specs.Hearing.{HasPlayedAll, HearTheirs, lists_heard}
use Rattle.driver_progress.specs.Stretches.{stretches_of}
use Rattle.program_runs.specs.Plays.{AreRecorded, IsHeard, Lived, end_in_phase, end_of_course, play_fault, played_task}
use Rattle.program_runs.proofs.Gone.{Gone, phase_left, played_phase, unplayed_ends}
use Rattle.program_runs.proofs.Hearing.{all_hear, none_hear}
use Rattle.driver_progress.proofs.Callers.{recorded_is}
use Rattle.program_runs.proofs.LineRecorded.{RunLaws, recorded_line}
use Rattle.program_runs.proofs.OpenRoutes.{stays_open}
use Rattle.program_runs.proofs.Phases.{plays_too}
use Rattle.program_runs.proofs.WalkedIn.{walked_in}
use Rattle.program_runs.proofs.Written.{drained_whole, written_within}

-- ---- graphs

abbrev graph_in : CodecFile → RawCodec
graph_in file = file.graph

graph_among : (files : List CodecFile) (file : CodecFile) → Contains files file → Contains (graphs_in files) file.graph
graph_among files file has =
    let long = length-map files graph_in in (has.0, omega (arith, long, has.1), get_or-map graph_in files has.0 file file.graph has.1 ∙ ap graph_in has.2)

-- ---- phases

-- it can end in any way in which a run does
ran_ends : (was : Ran) → play_can_end (played_as was) ≡ true
ran_ends ran.Playing = refl
ran_ends ran.Drained = refl
ran_ends (ran.Late from to limit) = refl

all_walked_if : (started : Bool) (phase : Phase) (was : Ran) (all : Type 0) → (started ≡ true → phase ≡ Ready) → WalkedIn phase all → walked_all (phase_if started phase was) ≡ true → all
all_walked_if true phase was all ready by is = walked_in Ready all refl (subst (λ (phase : Phase). WalkedIn phase all) (ready refl) by)
all_walked_if false phase was all ready by is = walked_in phase all is by

-- it tells how the last run ended
end_as : (was : Ran) → end_in_phase (played_as was) ≡ Some was
end_as ran.Playing = refl
end_as ran.Drained = refl
end_as (ran.Late from to limit) = refl

-- or that there was none
no_end : (phase : Phase) (all : Type 0) → WalkedIn phase all → end_in_phase phase ≡ None
no_end Playing all walked = absurd walked
no_end Drained all walked = absurd walked
no_end (Late from to limit) all walked = absurd walked
no_end phase all walked = refl

-- as the course of the runs does
same_end : (was : Ran) (started : Bool) (phase : Phase) (all : Type 0) → WalkedIn phase all → (if started then Some was else None) ≡ end_in_phase (phase_if started phase was)
same_end was true phase all walked = sym (end_as was)
same_end was false phase all walked = sym (no_end phase all walked)

-- ---- the run

-- what is told of a run is that of the state to which its journal leads
pub record IsDriven (kind : PinKind) (machine : Machine) (plans : List Plan) (wav : Wav) (schedule : Schedule) (task : Task) (state : State) (telling : Telling) (played : Played) : Type 0 where
  pub progress : MakesProgress machine schedule task state telling played.graphs
  pub opened : StaysOpen kind wav.format machine schedule task telling
  pub runs : AreRecorded schedule task state.phase state.tally telling played
  pub heard : IsHeard kind machine plans wav state.tally (world_of telling).carried played.heard
  pub ends : play_can_end state.phase ≡ true
  pub fault : played.fault ≡ play_fault state.phase state.sent played.commands (block_bytes wav.format) played.total state.tally.runs state.tally.silences

module _ (kind : PinKind) (machine : Machine) (plans : List Plan) (wav : Wav) (geometry : Geometry) (blocks : Blocks) (schedule : Schedule) (old : Parts) (closed : Closed) (journal : List Event)
    (gone : Gone (outputs kind) machine wav.format true (played_task kind machine plans wav geometry blocks) schedule old closed journal) where
  abbrev task : Task
  task = played_task kind machine plans wav geometry blocks

  abbrev telling : Telling
  telling = telling_from REGION_BYTES machine journal

  -- it can end in its phase
  pub playing_ends : play_can_end closed.phase ≡ true
  playing_ends = by gone.tally.course.started refl
    where
      by : (started : Bool) → gone.tally.course.started ≡ started → play_can_end closed.phase ≡ true
      by true some = ap play_can_end (played_phase (outputs kind) machine wav.format true task schedule old closed journal gone some) ∙ ran_ends gone.tally.course.ran
      by false none = plays_too closed.phase (unplayed_ends (outputs kind) machine wav.format true task schedule old closed journal gone none)

  -- no more was written than there is
  pub written_few : written_by closed.runs.items ≤ length wav.pcm
  written_few =
      subst (λ runs. written_by runs ≤ length wav.pcm) (sym gone.leaves.runs)
      (subst (λ state. written_by state.tally.runs ≤ length wav.pcm) gone.has.state_is (written_within task (lines_of schedule) telling))

  -- ---- what was heard

  abbrev carried : List CarriedFrame
  carried = (world_of telling).carried

  abbrev Heard : Type 0
  Heard = ((gone.tally ≡ tally_opened) × WasNeverHeard telling) ⊎ WasHeard (outputs kind wav.format TAG) (graphs_in machine.codecs) task gone.tally gone.last telling

  streamed : Heard → Lived (end_of_course gone.tally.course) gone.tally telling
  streamed (inl (none, never)) =
      subst (λ (end : Option Ran). Lived end gone.tally telling) (sym (ap (λ (tally : Tally). end_of_course tally.course) none)) (record { none = none; stopped = never.stopped; carried = never.none })
  streamed (inr was) = subst (λ (started : Bool). Lived (if started then Some gone.tally.course.ran else None) gone.tally telling) (sym was.started) was.lived

  end_is : end_of_course gone.tally.course ≡ end_in_phase (state_with gone.ended gone.tally).phase
  end_is = same_end gone.tally.course.ran gone.tally.course.started gone.ended.phase _ gone.has.ended_is.by_phase

  hears_by : HavePlansOf kind wav.format machine.codecs plans → geometry.format ≡ wav.format → Heard → AllZip (HearTheirs kind wav.format wav.pcm gone.tally carried) machine.codecs plans
  hears_by planned same (inl (none, never)) =
      subst (λ (frames : List CarriedFrame). AllZip (HearTheirs kind wav.format wav.pcm gone.tally frames) machine.codecs plans) (sym never.none)
      (subst (λ (tally : Tally). AllZip (HearTheirs kind wav.format wav.pcm tally []) machine.codecs plans) (sym none) (none_hear kind wav.format wav.pcm machine.codecs plans planned))
  hears_by planned same (inr was) =
      let hear = subst (λ (format : Format). HearTheLine was.codecs format wav.pcm gone.tally carried) same (was.hear gone.no_steps) in
      all_hear kind wav.format wav.pcm gone.tally carried was.codecs hear machine.codecs plans planned (λ file has. was.set_up file.graph (graph_among machine.codecs file has))

  -- what is told of it is that of the run that is kept
  pub driven : RunLaws → (played : Played) → journal_of played ≡ journal → geometry ≡ old.writer.geometry → geometry.format ≡ wav.format → HavePlansOf kind wav.format machine.codecs plans → played.graphs ≡ closed.graphs.items
      → played.runs ≡ closed.runs.items → played.silences ≡ closed.silences.items → played.heard ≡ lists_heard kind carried machine.codecs plans
      → played.fault ≡ play_fault closed.phase closed.sent played.commands (block_bytes wav.format) played.total closed.runs.items closed.silences.items
      → IsDriven kind machine plans wav schedule task (state_with gone.ended gone.tally) (telling_of_run machine played) played
  driven laws played told ring format planned graphs runs silences heard fault =
      subst (λ (events : List Event). IsDriven kind machine plans wav schedule task (state_with gone.ended gone.tally) (telling_from REGION_BYTES machine events) played) (sym told) (record {
        progress = record {
          progress = gone.has.progress;
          finds = gone.has.finds;
          state_is = gone.has.state_is;
          walked = subst (λ (walked : List RawCodec). AreWalked (graphs_in machine.codecs) walked task.walks gone.ended.sent (answers_of gone.ended.sent gone.ended.engine.rings.outstanding)) (sym walked) gone.has.ended_is.walked;
          all_walked = all_walked_if gone.tally.course.started gone.ended.phase gone.tally.course.ran (played.graphs ≡ graphs_in machine.codecs) gone.has.ready
              (subst (λ (walked : List RawCodec). WalkedIn gone.ended.phase (walked ≡ graphs_in machine.codecs)) (sym walked) gone.has.ended_is.by_phase);
        };
        opened = stays_open kind wav.format machine schedule task telling gone.has.set_up;
        runs = record {
          recorded = recorded;
          runs = runs ∙ gone.leaves.runs;
          silences = silences ∙ gone.leaves.silences;
          line = subst (IsWritten wav.pcm) (sym recorded) (recorded_line laws geometry wav.pcm (stretches_of (lines_of schedule) journal));
          end_is = end_is;
          stream = subst (λ (end : Option Ran). Lived end gone.tally telling) end_is (streamed gone.has.heard);
        };
        heard = record {
          lists_are = heard;
          hear = hears_by planned format gone.has.heard;
          whole = λ drained. subst (λ state. HasPlayedAll wav.pcm state.tally) gone.has.state_is (drained_whole task (lines_of schedule) telling (ap (λ state. state.tally.course.ran) gone.has.state_is ∙ drained));
        };
        ends = subst (λ (phase : Phase). play_can_end phase ≡ true) (phase_left (outputs kind) machine wav.format true task schedule old closed journal gone) playing_ends;
        fault = fault ∙ fault_left;
      })
    where
      recorded : gone.tally ≡ tally_of_stretches (measures geometry) (length wav.pcm) (stretches_of (lines_of schedule) journal)
      recorded = ap (λ state. state.tally) (sym gone.has.state_is) ∙ recorded_is task (lines_of schedule) telling

      walked : played.graphs ≡ gone.ended.agenda.graphs.items
      walked = graphs ∙ ap (λ graphs. graphs.items) gone.leaves.graphs

      fault_left : play_fault closed.phase closed.sent played.commands (block_bytes wav.format) played.total closed.runs.items closed.silences.items
          ≡ play_fault (state_with gone.ended gone.tally).phase gone.ended.sent played.commands (block_bytes wav.format) played.total gone.tally.runs gone.tally.silences
      fault_left =
          ap (λ (phase : Phase). play_fault phase closed.sent played.commands (block_bytes wav.format) played.total closed.runs.items closed.silences.items)
          (phase_left (outputs kind) machine wav.format true task schedule old closed journal gone)
          ∙ ap (λ (sent : ℕ). play_fault (state_with gone.ended gone.tally).phase sent played.commands (block_bytes wav.format) played.total closed.runs.items closed.silences.items) gone.leaves.sent
          ∙ ap (λ runs. play_fault (state_with gone.ended gone.tally).phase gone.ended.sent played.commands (block_bytes wav.format) played.total runs closed.silences.items) gone.leaves.runs
          ∙ ap (λ silences. play_fault (state_with gone.ended gone.tally).phase gone.ended.sent played.commands (block_bytes wav.format) played.total gone.tally.runs silences) gone.leaves.silences
