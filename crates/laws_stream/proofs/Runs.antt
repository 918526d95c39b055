-- A run leaves a stream that played as it ended.
use Rattle.std.proofs.Common.{◌≡◌, ◌+◌, ◌-◌, min, inr, ℕ, true, List, [], ◌∷◌, ◌++◌, drop, refl, sym, ap, subst, ◌∙◌, append_assoc, arith}
use Rattle.std.specs.Prelude.{All}
use Rattle.std.proofs.lemmas.List.Elements.{All-append, All-cons, All-nil}
use Rattle.std.specs.List.{range_with_len}
use Rattle.codec_graph.specs.CodecStates.{CodecState}
use Rattle.hda_registers.specs.declared.shapes.Width.TheVariants.{One, Four}
use Rattle.hda_registers.specs.declared.places.TheConstants.{WALCLK}
use Rattle.hda_world.specs.Worlds.{World}
use Rattle.hda_world.specs.Events.{Event, Read, Write, happens, after}
use Rattle.hda_world.specs.Tellings.{Telling, world_of, Went, Makes}
use Rattle.hda_world.specs.Moments.{AreWoven, AtEach}
use Rattle.hda_world.proofs.Callers.{world_of-went, woven}
use Rattle.period_writer.specs.declared.course.Ran.{Ran}
use Rattle.period_writer.specs.declared.course.Ran.TheVariants as ran
use Rattle.period_writer.specs.declared.registers.TheConstants.{CONTROL, POSITION}
use Rattle.period_writer.specs.Rings.{period_bytes}
use Rattle.period_writer.specs.Runs.{RunFacts, Tally, measures, run_sure, run_start, run_sound, run_reach}
use Rattle.period_writer.specs.Lines.{line_of, sound_and_silence}
use Rattle.period_writer.specs.Places.{line_writes, piece_write}
use Rattle.period_writer.specs.Playing.{run_writes, turn_accesses, play_accesses, finish_accesses, stop_accesses}
use Rattle.period_writer.specs.Standing.{Ring}
use Rattle.period_writer.specs.Owning.{IsOwned, Allowed, IsPlaying}
use Rattle.period_writer.specs.Outcomes.{RunTells, allowed_in}
use Rattle.period_writer.proofs.Callers.{still_on}
use Rattle.laws_hearing.specs.Steady.{LeavesSteady}
use Rattle.audio_driver.specs.States.{is_open}
use Rattle.laws_stream.specs.Lives.{Runs, IsStopped, Along, stops, IsGoing, HasStopped, Lives}
use Rattle.laws_stream.specs.Sounding.{StreamIs, IsHeardBy, StreamSounds}
use Rattle.laws_stream.proofs.Rows.{all_map, woven_last, went_same}
use Rattle.laws_stream.proofs.Lives.{goes_more, stops_now}
use Rattle.laws_stream.proofs.Beside.{Laws, heard_row}

-- ---- the accesses of a run

reads_steady : (at value : ℕ) → (events : List Event) → All LeavesSteady events → All LeavesSteady (Read at Four value ∷ events)
reads_steady at value events all = All-cons LeavesSteady (Read at Four value) events (tt {0}) all

pub stop_steady : All LeavesSteady (Write CONTROL One 0 ∷ [])
stop_steady = All-cons LeavesSteady (Write CONTROL One 0) [] (record { control = omega arith; corb = inr (omega arith) }, inr (refl, inr (inr (refl, refl)))) (All-nil LeavesSteady)

stops_steady : (was : Ran) → All LeavesSteady (stop_accesses was)
stops_steady ran.Playing = All-nil LeavesSteady
stops_steady ran.Drained = stop_steady
stops_steady (ran.Late from to limit) = stop_steady

module _ (ring : Ring) (tally : Tally) (facts : RunFacts) (pcm : List ℕ) where
  abbrev pub lines : List Event
  lines = run_writes (period_bytes ring.geometry.period) ring.periods (measures ring.geometry) tally.course facts pcm

  row_steady : (from to : ℕ) (written : List ℕ) → All LeavesSteady (line_writes (period_bytes ring.geometry.period) ring.periods from to written)
  row_steady from to written = all_map LeavesSteady (piece_write (period_bytes ring.geometry.period) ring.periods from to written) (λ period. tt {0}) (range_with_len _ _)

  lines_steady : All LeavesSteady lines
  lines_steady =
      let bytes = period_bytes ring.geometry.period in
      let m = measures ring.geometry in
      let start = run_start m tally.course facts in
      let sound = run_sound m tally.course facts in
      let reach = tally.course.reach in
      let reach' = run_reach m tally.course facts in
      let to = min reach (start + sound) in
      let over = to - start in
      All-append LeavesSteady (line_writes bytes ring.periods start to (sound_and_silence over over pcm)) (line_writes bytes ring.periods reach reach' (sound_and_silence (sound - over) (reach' - reach) (drop over pcm)))
      (row_steady start to (sound_and_silence over over pcm)) (row_steady reach reach' (sound_and_silence (sound - over) (reach' - reach) (drop over pcm)))

  run_steady : (later : List Event) → All LeavesSteady later → All LeavesSteady (Read WALCLK Four facts.from ∷ Read POSITION Four facts.lpib ∷ (lines ++ (Read WALCLK Four facts.to ∷ later)))
  run_steady later all =
      reads_steady WALCLK facts.from (Read POSITION Four facts.lpib ∷ (lines ++ (Read WALCLK Four facts.to ∷ later))) (reads_steady POSITION facts.lpib (lines ++ (Read WALCLK Four facts.to ∷ later))
      (All-append LeavesSteady lines (Read WALCLK Four facts.to ∷ later) lines_steady (reads_steady WALCLK facts.to later all)))

  pub play_steady : (was : Ran) → All LeavesSteady (play_accesses ring.geometry ring.periods tally.course facts pcm was)
  play_steady was = run_steady (stop_accesses was) (stops_steady was)

  pub finish_steady : All LeavesSteady (finish_accesses ring.geometry ring.periods tally.course facts pcm)
  finish_steady = run_steady (Write CONTROL One 0 ∷ []) stop_steady

  -- the last run and one that ends the stream stop it at last
  pub finish_is : finish_accesses ring.geometry ring.periods tally.course facts pcm ≡ turn_accesses ring.geometry ring.periods tally.course facts pcm ++ stops ∷ []
  finish_is = ap (λ (later : List Event). Read WALCLK Four facts.from ∷ Read POSITION Four facts.lpib ∷ later) (sym (append_assoc lines (Read WALCLK Four facts.to ∷ []) (stops ∷ [])))

-- ---- its moments

module _ (ring : Ring) (line : List ℕ) (sure clock : ℕ) (allowed : Allowed) where
  abbrev pub Owned : World → Event → Type 0
  Owned = IsOwned ring line sure clock allowed

  runs_here : (world : World) (event : Event) → Owned world event → Runs world
  runs_here world event owned = record { running = owned.owns.runs; no_error = owned.owns.no_error }

  pub runs_each : (events : List Event) (world : World) → AtEach Owned events world → Runs (after events world) → Along Runs events world
  runs_each [] world each ends = ends
  runs_each (event ∷ events) world each ends = (runs_here world event each.0, runs_each events (happens world event) each.1 ends)

  -- up to the last event
  pub runs_before : (during : List Event) (last : Event) (world : World) → AtEach Owned (during ++ last ∷ []) world → Along Runs during world
  runs_before [] last world each = runs_here world last each.0
  runs_before (event ∷ during) last world each = (runs_here world event each.0, runs_before during last (happens world event) each.1)

-- where it stops the stream at last
pub stopped_by : (ring : Ring) (line : List ℕ) (sure clock : ℕ) (allowed : Allowed) (made front events : List Event) (old new : Telling) → Makes made old new → made ≡ front ++ stops ∷ [] → Went old new events
    → AtEach (Owned ring line sure clock allowed) events (world_of old) → IsGoing old → IsStopped (world_of new) → HasStopped new
stopped_by ring line sure clock allowed made front events old new makes ends went moments going stopped =
    let weaving = woven makes in
    let (during, is) = woven_last front stops weaving.events (subst (λ (made : List Event). AreWoven made weaving.events) ends weaving.woven) in
    let same : events ≡ during ++ stops ∷ [] = went_same old new events weaving.events went weaving.went ∙ is in
    stops_now old new during (subst (Went old new) same went) going
    (runs_before ring line sure clock allowed during stops (world_of old) (subst (λ (events : List Event). AtEach (Owned ring line sure clock allowed) events (world_of old)) same moments))
    stopped

-- ---- a run

module _ (laws : Laws) (codecs : List CodecState) (ring : Ring) (pcm : List ℕ) (budget : ℕ) (tally tally' : Tally) (old new : Telling) (started : tally.course.started ≡ true) (heard : IsHeardBy codecs ring (world_of old)) (going : IsGoing old) where
  module _ (answer : Ran) (run : RunTells ring pcm budget tally answer tally' old new) where
    there : world_of new ≡ after run.events (world_of old)
    there = world_of-went old new run.events run.went

    heard_after : IsHeardBy codecs ring (world_of new)
    heard_after =
        heard_row laws codecs ring (play_accesses ring.geometry ring.periods tally.course run.facts (drop tally.course.used pcm) answer) old new run.made
        (play_steady ring tally run.facts (drop tally.course.used pcm) answer) heard

    stopped_after : play_accesses ring.geometry ring.periods tally.course run.facts (drop tally.course.used pcm) answer ≡ turn_accesses ring.geometry ring.periods tally.course run.facts (drop tally.course.used pcm) ++ stops ∷ []
        → IsStopped (world_of new) → HasStopped new
    stopped_after ends stopped =
        stopped_by ring (line_of tally pcm) (run_sure (measures ring.geometry) tally.course run.facts) tally.course.from (allowed_in ring tally run.facts)
        (play_accesses ring.geometry ring.periods tally.course run.facts (drop tally.course.used pcm) answer) (turn_accesses ring.geometry ring.periods tally.course run.facts (drop tally.course.used pcm))
        run.events old new run.made ends run.went run.moments going stopped

    going_after : IsPlaying ring pcm tally' (world_of new) → IsGoing new
    going_after playing =
        goes_more old new run.events run.went going
        (runs_each ring (line_of tally pcm) (run_sure (measures ring.geometry) tally.course run.facts) tally.course.from (allowed_in ring tally run.facts) run.events (world_of old) run.moments
        (subst Runs there (record { running = playing.stands.set.runs; no_error = playing.stands.set.no_error })))

  stream_after : (answer : Ran) → answer ≡ tally'.course.ran → RunTells ring pcm budget tally answer tally' old new → StreamIs answer ring pcm tally' (world_of new) × Lives (is_open answer) new
  stream_after ran.Playing is run = (run.ends, going_after ran.Playing run run.ends)
  stream_after ran.Drained is run =
      let drained = run.ends in
      (drained, stopped_after ran.Drained run (finish_is ring tally run.facts (drop tally.course.used pcm)) (record { stopped = drained.stopped; no_error = drained.no_error }))
  stream_after (ran.Late from to limit) is run =
      let was = run.ends in
      (was, stopped_after (ran.Late from to limit) run (finish_is ring tally run.facts (drop tally.course.used pcm)) (record { stopped = was.stopped; no_error = was.no_error }))

  pub run_sounds : (answer : Ran) → answer ≡ tally'.course.ran → RunTells ring pcm budget tally answer tally' old new → StreamSounds codecs ring pcm tally' new
  run_sounds answer is run =
      let led = stream_after answer is run in record {
        started = still_on (measures ring.geometry) tally tally' run.facts run.recorded started;
        heard = heard_after answer run;
        stream = subst (λ (was : Ran). StreamIs was ring pcm tally' (world_of new)) is led.0;
        lives = subst (λ (was : Ran). Lives (is_open was) new) is led.1;
      }
