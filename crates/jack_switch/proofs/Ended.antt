-- The last call of a driver that switches does what is said of it.
use Rattle.std.proofs.Common.{◌≡◌, ◌≤◌, ℕ, List, [], ◌∷◌, ◌++◌, append_assoc, length, Bool, true, false, if◌then◌else◌, Option, Some, None, inl, inr, refl, sym, ap, subst, ◌∙◌}
use Rattle.std.specs.Prelude.{◌&&◌, ◌⊎◌, drop}
use Rattle.std.specs.Option.{is_some, is_none}
use Rattle.hda_registers.specs.declared.shapes.Width.TheVariants.{One, Four}
use Rattle.hda_registers.specs.declared.places.TheConstants.{WALCLK}
use Rattle.hda_world.specs.Events.{Event, Read, Write}
use Rattle.hda_world.specs.Tellings.{Telling, Between, Makes}
use Rattle.hda_world.proofs.Callers.{row_both, told_both, told_map, told_pair}
use Rattle.command_engine.specs.declared.ring_places.RingPlaces.{RingPlaces}
use Rattle.command_engine.specs.Engines.{EngineState}
use Rattle.command_engine.specs.Entries.{responses_in, unasked_events_of}
use Rattle.command_engine.specs.Polling.{poll_accesses, found_by, rings_polled}
use Rattle.wav_reader.specs.Supplies.{MayGive, EndsWith}
use Rattle.period_writer.specs.declared.course.Ran.{Ran}
use Rattle.period_writer.specs.declared.registers.TheConstants.{CONTROL}
use Rattle.period_writer.specs.Courses.{IsCourse}
use Rattle.period_writer.specs.Outcomes.{FinishTellsOf}
use Rattle.period_writer.specs.Playing.{run_writes, finish_accesses}
use Rattle.period_writer.specs.Rings.{period_bytes}
use Rattle.period_writer.specs.Runs.{Tally, facts_of}
use Rattle.period_writer.specs.Writers.{WriterState, tally_of, measures_of, periods_of, ring_of, ring_size}
use Rattle.driver_progress.specs.Shutting.{shut_accesses}
use Rattle.driver_progress.specs.Tasks.{Task}
use Rattle.driver_progress.proofs.Callers.{accesses_both}
use Rattle.driver_bring_up.specs.Commanding.{entries_in, answer_in}
use Rattle.driver_bring_up.specs.declared.jacks.Jacks.{Jacks}
use Rattle.audio_driver.specs.States.{is_open, is_playing}
use Rattle.audio_driver.proofs.Accesses.{poll_are, finish_are, shut_are}
use Rattle.jack_rules.specs.Switching.{SwitchingState, told_all}
use Rattle.jack_switch.specs.SwitchRules.{SwitchState, is_on, is_overdue, clock_of}
use Rattle.jack_switch.specs.JackDrivers.{JackDriverState, switch_state}
use Rattle.jack_switch.specs.JackCalls.{EndsSwitching}
use Rattle.jack_switch.specs.JackSteps.{StaysNow, FinishesNow, StopsNow, EndsNow}
use Rattle.jack_switch.proofs.Last.{shuts_stretch, finished_to}
use Rattle.jack_switch.proofs.Interrupted.{IsSwitchStretch}
use Rattle.jack_switch.proofs.Seen.{run_entries}
use Rattle.jack_switch.proofs.Seeing.{poll_entries}
use Rattle.jack_switch.proofs.Runs.{clock_after, GoesBy, tally_to, looked_by, finishes_is, halts_is}
use Rattle.jack_switch.proofs.Called.{IsSupply, told_each, counts_by, counts_none, on_open}

abbrev state_by : RingPlaces → Tally → (clock : ℕ) → SwitchingState → Option ℕ → SwitchState
state_by rings tally clock switching given_up = record { rings = rings; tally = tally; clock = clock; switching = switching; given_up = given_up }

-- ---- where it ends

-- the clock at the end, by whether a last run was made
abbrev clock_at : (started on gave : Bool) → (clock : ℕ) → Tally → ℕ
clock_at started on gave clock tally = if started && on then (if gave then clock else clock_of tally) else clock

abbrev pub ended_by : JackDriverState → EngineState → WriterState → SwitchingState → (gave : Bool) → SwitchState
ended_by old engine writer switching gave = record {
  rings = engine.rings;
  tally = tally_of writer;
  clock = clock_at old.writer.course.started (is_on (switch_state old)) gave old.clock (tally_of writer);
  switching = switching;
  given_up = if gave then Some old.clock else old.given_up;
}

still_clock : (started on gave : Bool) (clock : ℕ) (tally : Tally) → (started ≡ false) ⊎ (on ≡ false) → clock_at started on gave clock tally ≡ clock
still_clock true true gave clock tally (inl still) = cc
still_clock true true gave clock tally (inr still) = cc
still_clock true false gave clock tally still = refl
still_clock false on gave clock tally still = refl

played_clock : (started on gave : Bool) (clock : ℕ) (tally : Tally) → started ≡ true → on ≡ true → gave ≡ false → clock_at started on gave clock tally ≡ clock_of tally
played_clock true true false clock tally started on gave = refl
played_clock true true true clock tally started on gave = cc
played_clock true false gave clock tally started on is = cc
played_clock false on gave clock tally started is none = cc

gave_clock : (started on gave : Bool) (clock : ℕ) (tally : Tally) → gave ≡ true → clock_at started on gave clock tally ≡ clock
gave_clock true true true clock tally gave = refl
gave_clock true true false clock tally gave = cc
gave_clock true false gave clock tally is = refl
gave_clock false on gave clock tally is = refl

-- ---- the stream does not play, or the driver gave up before

stays_ends : (old : JackDriverState) (engine' : EngineState) (writer' : WriterState) (switching' : SwitchingState) (jacks' : Jacks) (gave : Bool) (before middle after : Option Telling)
    → StaysNow (is_on (switch_state old)) old.engine engine' old.writer writer' old.switching switching' old.jacks jacks' gave before middle → Between (Makes shut_accesses) middle after → (sound : List ℕ)
    → EndsSwitching old (ended_by old engine' writer' switching' gave) jacks' sound before after
stays_ends old engine' writer' switching' jacks' gave before middle after now shut sound =
    let made : Between (Makes shut_accesses) before after = subst (λ (told : Option Telling). Between (Makes shut_accesses) told after) now.told_is shut in
    let ended = ended_by old engine' writer' switching' gave in
    let answered = is_some (answer_in old.engine.rings shut_accesses) in
    let same : ended ≡ switch_state old =
    ap (λ (engine : EngineState). ended_by old engine writer' switching' gave) now.engine_is
    ∙ ap (λ (writer : WriterState). ended_by old old.engine writer switching' gave) now.writer_is
    ∙ ap (λ (switching : SwitchingState). ended_by old old.engine old.writer switching gave) now.switching_is
    ∙ ap (λ (clock : ℕ). state_by old.engine.rings (tally_of old.writer) clock old.switching (if gave then Some old.clock else old.given_up)) (still_clock old.writer.course.started (is_on (switch_state old)) gave old.clock (tally_of old.writer) now.still)
    ∙ ap (λ (gave : Bool). state_by old.engine.rings (tally_of old.writer) old.clock old.switching (if gave then Some old.clock else old.given_up)) now.gave_none in record {
      made = shut_accesses;
      are = shut_are;
      by = made;
      is = λ task of. subst (λ (ended : SwitchState). IsSwitchStretch task old.graphs old.plans (switch_state old) None shut_accesses answered ended) (sym same)
          (shuts_stretch task old.graphs old.plans (switch_state old) answered now.still);
      counted = counts_none old.jacks jacks' shut_accesses refl now.jacks_are;
      tells = told_map (λ before after shut. inl (record { still = still_plays old now.still; made_is = refl; state = same; jacks_are = now.jacks_are })) made;
    }
  where
    silent : (started on : Bool) → started ≡ false → (started && on) ≡ false
    silent true on still = cc
    silent false on still = refl

    still_plays : (old : JackDriverState) → (old.writer.course.started ≡ false) ⊎ (is_on (switch_state old) ≡ false) → (is_playing old.writer.course ≡ false) ⊎ (is_on (switch_state old) ≡ false)
    still_plays old (inl fresh) = inl (silent old.writer.course.started (is_open old.writer.course.ran) fresh)
    still_plays old (inr over) = inr over

-- ---- it plays

last_entries : (writer : WriterState) (from lpib to : ℕ) (supply : List ℕ) → entries_in (finish_accesses writer.geometry (periods_of writer) writer.course (facts_of 0 (length supply) from lpib to) supply ++ shut_accesses) ≡ []
last_entries writer from lpib to supply =
    let facts = facts_of 0 (length supply) from lpib to in
    let m = measures_of writer in
    let writes = run_writes (period_bytes writer.geometry.period) (periods_of writer) m writer.course facts supply in
    ap entries_in (append_assoc writes (Read WALCLK Four to ∷ Write CONTROL One 0 ∷ []) shut_accesses) ∙ run_entries writer.geometry (periods_of writer) writer.course facts supply (Write CONTROL One 0 ∷ shut_accesses) refl

playing_is : (driver : JackDriverState) → driver.writer.course.started ≡ true → is_on (switch_state driver) ≡ true → is_playing driver.writer.course ≡ true
playing_is driver started on = ap (λ (started : Bool). started && is_open driver.writer.course.ran) started ∙ on_open driver on

finishes_ends : (old : JackDriverState) (engine' : EngineState) (writer' : WriterState) (switching' : SwitchingState) (jacks' : Jacks) (gave : Bool) (before middle after : Option Telling)
    → FinishesNow (is_on (switch_state old)) old.clock old.engine engine' old.writer writer' old.supply old.switching switching' old.jacks jacks' gave before middle → Between (Makes shut_accesses) middle after
    → (sound : List ℕ) → MayGive old.supply sound → EndsWith old.supply sound → EndsSwitching old (ended_by old engine' writer' switching' gave) jacks' sound before after
finishes_ends old engine' writer' switching' jacks' gave before middle after now shut sound may ends =
    let more = on_open old now.on_is in
    let reads = now.looks.reads in
    let looks = now.looks.looks in
    let finishes = now.finishes sound may ends in
    let facts = facts_of 0 (length sound) finishes.from finishes.lpib finishes.to in
    let rings = rings_polled old.engine.rings reads in
    let switching = told_all old.switching (unasked_events_of (responses_in reads.entries)) (found_by old.engine.rings reads) in
    let poll = poll_accesses old.engine.rirb.address old.engine.rings reads in
    let run = finish_accesses old.writer.geometry (periods_of old.writer) old.writer.course facts sound in
    let made = poll ++ (run ++ shut_accesses) in
    let ended = ended_by old engine' writer' switching' gave in
    let clock : ended.clock ≡ finishes.to = played_clock old.writer.course.started (is_on (switch_state old)) gave old.clock (tally_of writer') now.started now.on_is now.gave_none
    ∙ ap clock_of finishes.tally_is ∙ clock_after (measures_of old.writer) (tally_of old.writer) facts in
    let leads : ended ≡ finished_to (looked_by old reads) finishes.to (tally_to old facts) =
    ap (λ (rings : RingPlaces). state_by rings (tally_of writer') ended.clock switching' ended.given_up) looks.rings
    ∙ ap (λ (clock : ℕ). state_by rings (tally_of writer') clock switching' ended.given_up) clock
    ∙ ap (λ (switching : SwitchingState). state_by rings (tally_of writer') finishes.to switching ended.given_up) looks.told
    ∙ ap (λ (gave : Bool). state_by rings (tally_of writer') finishes.to switching (if gave then Some old.clock else old.given_up)) now.gave_none
    ∙ ap (λ (tally : Tally). finished_to (looked_by old reads) finishes.to tally) finishes.tally_is in
    let time : is_overdue rings.outstanding old.clock ≡ false = sym (looks.overdue_is ∙ ap (λ (rings : RingPlaces). is_overdue rings.outstanding old.clock) looks.rings) in
    let goes : GoesBy old reads = record { on = now.on_is; started = now.started; more = more; new_ones = looks.new_ones } in
    let entries = poll_entries old.engine.rirb.address old.engine.rings reads (run ++ shut_accesses) looks.new_ones (last_entries old.writer finishes.from finishes.lpib finishes.to sound) in
    let run_told = λ (left : IsSupply sound old.writer.course.used). now.tells sound may ends left.pcm left.is in record {
      made = made;
      are = accesses_both poll (run ++ shut_accesses) (poll_are old.engine.rirb.address old.engine.rings reads) (accesses_both run shut_accesses (finish_are old.writer.geometry (periods_of old.writer) old.writer.course facts sound) shut_are);
      by = row_both looks.made (row_both finishes.made shut);
      is = λ task of. finishes_is old task sound reads finishes.from finishes.lpib finishes.to of goes time ended leads;
      counted = counts_by old.jacks jacks' made reads entries now.looks.counted;
      tells = told_map (λ before after both. inr (inl (record {
        plays = playing_is old now.started now.on_is;
        on = now.on_is;
        reads = reads;
        looked = both.0;
        looks = record { new_ones = looks.new_ones; made = both.1.0; tells = both.1.1 };
        run = run;
        ran = both.2.0;
        run_made = both.2.1.0;
        run_tells = λ pcm left. both.2.1.1 (record { pcm = pcm; is = left });
        shut = both.2.2;
        rings = looks.rings;
        kept = ap (λ (gave : Bool). if gave then Some old.clock else old.given_up) now.gave_none;
        entries = entries;
        made_is = refl;
      }))) (told_both (told_pair looks.made looks.tells) (told_both (told_pair finishes.made (told_each finishes.made run_told)) shut));
    }

-- or it gives up
stops_ends : (old : JackDriverState) (engine' : EngineState) (writer' : WriterState) (switching' : SwitchingState) (jacks' : Jacks) (gave : Bool) (before middle after : Option Telling)
    → StopsNow (is_on (switch_state old)) old.clock old.engine engine' old.writer writer' old.switching switching' old.jacks jacks' gave before middle → Between (Makes shut_accesses) middle after → (sound : List ℕ)
    → EndsSwitching old (ended_by old engine' writer' switching' gave) jacks' sound before after
stops_ends old engine' writer' switching' jacks' gave before middle after now shut sound =
    let reads = now.looks.reads in
    let looks = now.looks.looks in
    let rings = rings_polled old.engine.rings reads in
    let switching = told_all old.switching (unasked_events_of (responses_in reads.entries)) (found_by old.engine.rings reads) in
    let poll = poll_accesses old.engine.rirb.address old.engine.rings reads in
    let stop = Write CONTROL One 0 ∷ [] in
    let made = poll ++ (stop ++ shut_accesses) in
    let ended = ended_by old engine' writer' switching' gave in
    let clock : ended.clock ≡ old.clock = gave_clock old.writer.course.started (is_on (switch_state old)) gave old.clock (tally_of writer') now.gave_it in
    let leads : ended ≡ record (looked_by old reads) { given_up = Some old.clock } =
    ap (λ (rings : RingPlaces). state_by rings (tally_of writer') ended.clock switching' ended.given_up) looks.rings
    ∙ ap (λ (clock : ℕ). state_by rings (tally_of writer') clock switching' ended.given_up) clock
    ∙ ap (λ (switching : SwitchingState). state_by rings (tally_of writer') old.clock switching ended.given_up) looks.told
    ∙ ap (λ (gave : Bool). state_by rings (tally_of writer') old.clock switching (if gave then Some old.clock else old.given_up)) now.gave_it
    ∙ ap (λ (writer : WriterState). state_by rings (tally_of writer) old.clock switching (Some old.clock)) now.writer_is in
    let over : is_overdue rings.outstanding old.clock ≡ true = sym (looks.overdue_is ∙ ap (λ (rings : RingPlaces). is_overdue rings.outstanding old.clock) looks.rings) in
    let goes : GoesBy old reads = record { on = now.on_is; started = now.started; more = on_open old now.on_is; new_ones = looks.new_ones } in
    let entries = poll_entries old.engine.rirb.address old.engine.rings reads (stop ++ shut_accesses) looks.new_ones refl in record {
      made = made;
      are = accesses_both poll (stop ++ shut_accesses) (poll_are old.engine.rirb.address old.engine.rings reads) (tt {0}, shut_are);
      by = row_both looks.made (row_both now.stopped shut);
      is = λ task of. halts_is old task sound reads ended of goes over leads;
      counted = counts_by old.jacks jacks' made reads entries now.looks.counted;
      tells = told_map (λ before after both. inr (inr (record {
        plays = playing_is old now.started now.on_is;
        on = now.on_is;
        reads = reads;
        looked = both.0;
        looks = record { new_ones = looks.new_ones; made = both.1.0; tells = both.1.1 };
        stopped_at = both.2.0;
        stopped = both.2.1;
        shut = both.2.2;
        rings = looks.rings;
        given = ap (λ (gave : Bool). if gave then Some old.clock else old.given_up) now.gave_it;
        tally = ap (λ (writer : WriterState). tally_of writer) now.writer_is;
        entries = entries;
        made_is = refl;
      }))) (told_both (told_pair looks.made looks.tells) (told_both now.stopped shut));
    }

pub ends_switching : (old : JackDriverState) (engine' : EngineState) (writer' : WriterState) (switching' : SwitchingState) (jacks' : Jacks) (gave : Bool) (before middle after : Option Telling)
    → EndsNow (is_on (switch_state old)) old.clock old.engine engine' old.writer writer' old.supply old.switching switching' old.jacks jacks' gave before middle → Between (Makes shut_accesses) middle after
    → (sound : List ℕ) → MayGive old.supply sound → EndsWith old.supply sound → EndsSwitching old (ended_by old engine' writer' switching' gave) jacks' sound before after
ends_switching old engine' writer' switching' jacks' gave before middle after (inl stays) shut sound may ends = stays_ends old engine' writer' switching' jacks' gave before middle after stays shut sound
ends_switching old engine' writer' switching' jacks' gave before middle after (inr (inl finishes)) shut sound may ends = finishes_ends old engine' writer' switching' jacks' gave before middle after finishes shut sound may ends
ends_switching old engine' writer' switching' jacks' gave before middle after (inr (inr stops)) shut sound may ends = stops_ends old engine' writer' switching' jacks' gave before middle after stops shut sound
