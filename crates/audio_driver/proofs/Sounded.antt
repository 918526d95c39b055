-- A call of a driver that plays does what is said of it.
use Rattle.std.proofs.Common.{◌≡◌, ◌+◌, ◌-◌, min, append_assoc, if◌then◌else◌, ◌/◌, ℕ, List, [], ◌∷◌, ◌++◌, length, append-nil, Bool, true, false, Option, Some, None, refl, sym, ap, subst, inl, inr, ◌∙◌}
use Rattle.period_writer.specs.Lines.{sound_and_silence}
use Rattle.std.specs.Prelude.{◌⊎◌, not, drop}
use Rattle.std.specs.List.{range_with_len}
use Rattle.std.specs.Option.{is_some}
use Rattle.std.proofs.lemmas.List.{drop-drop}
use Rattle.verb_codes.specs.Words.{has_bit}
use Rattle.hda_registers.specs.declared.shapes.Width.TheVariants.{Four}
use Rattle.hda_registers.specs.declared.places.TheConstants.{WALCLK}
use Rattle.hda_world.specs.Events.{Event, Read}
use Rattle.hda_world.specs.Tellings.{Telling, Between, BetweenBy, Makes}
use Rattle.hda_world.proofs.Callers.{makes_both, row_both, told_both, told_map, told_pair}
use Rattle.command_engine.specs.declared.answers.Event as told
use Rattle.command_engine.specs.declared.ring_places.RingPlaces.{RingPlaces}
use Rattle.command_engine.specs.Polling.{asked_of, poll_accesses, found_by}
use Rattle.command_engine.specs.Entries.{responses_in, answer_among}
use Rattle.command_engine.proofs.Callers.{made_none}
use Rattle.period_writer.specs.declared.course.Ran.{Ran}
use Rattle.period_writer.specs.declared.course.Ran.TheVariants as ran
use Rattle.period_writer.specs.Rings.{period_bytes, ring_bytes}
use Rattle.period_writer.specs.Places.{line_writes, piece_write, touched}
use Rattle.period_writer.specs.Starting.{entry_write, run_accesses, start_accesses}
use Rattle.period_writer.specs.Playing.{run_writes, Starts, PlaysRun, run_bytes, stop_accesses, play_accesses}
use Rattle.period_writer.specs.Outcomes.{StartTellsOf, RunTellsOf}
use Rattle.period_writer.specs.Runs.{Measures, RunFacts, Tally, facts_of, run_reach, run_start, run_sound, is_late, is_late_since, tally_if, tally_after, tally_opened}
use Rattle.period_writer.specs.Writers.{WriterState, KeepsRing, tally_of, measures_of, periods_of, ring_of}
use Rattle.driver_progress.specs.declared.phase.Phase.{Phase}
use Rattle.driver_progress.specs.declared.phase.Phase.TheVariants.{Ready}
use Rattle.driver_progress.specs.Phases.{is_active}
use Rattle.driver_progress.specs.Interrupts.{interrupt_accesses}
use Rattle.driver_progress.proofs.Callers.{interrupt_unread, accesses_both}
use Rattle.driver_bring_up.specs.Commanding.{entries_in, answer_in, with_told}
use Rattle.driver_bring_up.specs.Counted.{IsCount}
use Rattle.driver_bring_up.specs.declared.bringing.BringUp.{BringUp}
use Rattle.driver_bring_up.specs.Calls.{IsKept, Listens}
use Rattle.driver_bring_up.specs.Told.{found_none}
use Rattle.driver_bring_up.proofs.Callers.{unread_none, answer_none, same_answer, same_found, interrupt_entries, inactive_stretch, none_stretch_of, interrupted_stretch}
use Rattle.audio_driver.specs.States.{phase_if, played_as, state_of, is_open, was_late, IsLeft}
use Rattle.audio_driver.specs.Sounding.{SoundTells, PlaysSound}
use Rattle.audio_driver.proofs.Accesses.{interrupt_are, poll_are, start_are, play_are}
use Rattle.audio_driver.proofs.Seeing.{writes_entries, poll_entries}
use Rattle.audio_driver.proofs.Stretches.{over_stretch, over_inactive, open_active}
use Rattle.audio_driver.proofs.Whole.{open_on_time, GoesTo, start_is, play_is}

-- ---- what is told for each value

each_by : {A : Type 0} (First : Telling → Telling → Type 0) (Second : A → Telling → Telling → Type 0) (old new : Option Telling) → BetweenBy First old new → ((one : A) → BetweenBy (Second one) old new) → BetweenBy (λ (old new : Telling). (one : A) → Second one old new) old new
each_by {A} First Second (Some a) (Some b) first second = second
each_by {A} First Second None None first second = tt
each_by {A} First Second (Some a) None first second = absurd first
each_by {A} First Second None (Some b) first second = absurd first

-- what is told of each value is told of all, where something is told
pub told_each : {A : Type 0} {First : Telling → Telling → Type 0} {Second : A → Telling → Telling → Type 0} {old new : Option Telling} → Between First old new → ((one : A) → Between (Second one) old new) → Between (λ (old new : Telling). (one : A) → Second one old new) old new
told_each {A} {First} {Second} {old} {new} first second = record { is = each_by First Second old new first.is (λ one. (second one).is) }

-- the sound that is left of what it was
pub record IsSupply (supply : List ℕ) (used : ℕ) : Type 0 where
  pub pcm : List ℕ
  pub is : supply ≡ drop used pcm

-- ---- the sound that is left

used_by : (late : Bool) (m : Measures) (tally : Tally) (facts : RunFacts) → was_late (tally_if late m tally facts).course.ran ≡ false → tally.course.used + run_sound m tally.course facts ≡ (tally_if late m tally facts).course.used
used_by true m tally facts on_time = by (is_late_since m tally.course facts) on_time where
  by : (since_first : Bool) → was_late (if since_first then ran.Late tally.course.from facts.to m.limit else ran.Late facts.from facts.to m.slack) ≡ false → tally.course.used + run_sound m tally.course facts ≡ tally.course.used
  by true e = cc
  by false e = cc
used_by false m tally facts on_time = refl

pub left_after : (pcm supply supply' : List ℕ) (m : Measures) (tally tally' : Tally) (facts : RunFacts) → was_late tally.course.ran ≡ false → tally' ≡ tally_after m tally facts → supply' ≡ drop (run_sound m tally.course facts) supply
    → IsLeft pcm tally.course supply → IsLeft pcm tally'.course supply'
left_after pcm supply supply' m tally tally' facts before tally_is is left = λ on_time.
    let sound = run_sound m tally.course facts in
    let after : was_late (tally_after m tally facts).course.ran ≡ false = ap (λ (tally : Tally). was_late tally.course.ran) (sym tally_is) ∙ on_time in
    is ∙ ap (λ (supply : List ℕ). drop sound supply) (left before) ∙ drop-drop sound tally.course.used pcm
    ∙ ap (λ (used : ℕ). drop used pcm) (used_by (is_late m tally.course facts) m tally facts after ∙ ap (λ (tally : Tally). tally.course.used) (sym tally_is))

pub counts_same : (made : List Event) (entries : List (List ℕ)) (old new : BringUp) → entries_in made ≡ entries → ((events : List told.Event) → IsCount events old.jacks → IsCount (with_told events entries) new.jacks)
    → (events : List told.Event) → IsCount events old.jacks → IsCount (with_told events (entries_in made)) new.jacks
counts_same made entries old new same counted events counts = subst (λ (entries : List (List ℕ)). IsCount (with_told events entries) new.jacks) (sym same) (counted events counts)

abbrev pub answer_of : RingPlaces → List (List ℕ) → Option ℕ
answer_of rings entries = answer_among (asked_of rings.outstanding) (responses_in entries)

-- ---- no run comes

over_phase : (old : BringUp) (writer : WriterState) → writer.course.started ≡ true → (state_of old writer).phase ≡ played_as writer.course.ran
over_phase old writer started = ap (λ (started : Bool). phase_if started old.phase writer.course.ran) started

pub over_sounds : (old : BringUp) (writer : WriterState) (supply : List ℕ) (budget : ℕ) (told : Option Telling) → writer.course.started ≡ true → is_open writer.course.ran ≡ false → PlaysSound false budget old old writer writer supply supply told told
over_sounds old writer supply budget told started over = record {
  made = [];
  are = tt {0};
  by = made_none told;
  is = λ task of. same_found (sym (answer_none old.engine.rings [] refl)) (over_stretch task (state_of old writer) budget writer.course.ran (over_phase old writer started) over);
  sound = λ pcm left. left;
  counted = λ events counts. counts;
  stays = record { corb = refl; rirb = refl; phase = refl; kept = refl; sent = refl; agenda = refl; geometry = refl; list = refl; periods = refl; records = refl };
  tells = told_map (λ before after makes. inl (record { cause = inr over; looks = inl refl; over = λ closed. refl; bring_up = refl; writer_is = refl })) (made_none told);
}

-- a call for an interrupt does not look for one then
pub over_sounds_irq : (old : BringUp) (writer : WriterState) (supply : List ℕ) (budget : ℕ) (told : Option Telling) → writer.course.started ≡ true → is_open writer.course.ran ≡ false → PlaysSound true budget old old writer writer supply supply told told
over_sounds_irq old writer supply budget told started over = record {
  made = [];
  are = tt {0};
  by = made_none told;
  is = λ task of. same_found (sym (answer_none old.engine.rings [] refl))
      (inactive_stretch task (state_of old writer) budget (ap is_active (over_phase old writer started) ∙ over_inactive writer.course.ran over));
  sound = λ pcm left. left;
  counted = λ events counts. counts;
  stays = record { corb = refl; rirb = refl; phase = refl; kept = refl; sent = refl; agenda = refl; geometry = refl; list = refl; periods = refl; records = refl };
  tells = told_map (λ before after makes. inl (record { cause = inr over; looks = inl refl; over = λ closed. refl; bring_up = refl; writer_is = refl })) (made_none told);
}

-- ---- the first run

start_entries : (writer : WriterState) (from in_reset ready to : ℕ) (written : List ℕ) → entries_in (start_accesses writer.geometry writer.list.address (periods_of writer) from in_reset ready to written) ≡ []
start_entries writer from in_reset ready to written =
    let bytes = period_bytes writer.geometry.period in
    let ring = ring_bytes writer.geometry.periods writer.geometry.period in
    let rest = run_accesses writer.list.address writer.geometry ++ Read WALCLK Four to ∷ [] in
    writes_entries (entry_write writer.list.address (periods_of writer) bytes) (range_with_len 0 (length (periods_of writer))) (line_writes bytes (periods_of writer) 0 ring written ++ rest) (λ number. refl)
    ∙ writes_entries (piece_write bytes (periods_of writer) 0 ring written) (range_with_len (0 / bytes) (touched bytes 0 ring)) rest (λ number. refl)

pub start_sounds : (old : BringUp) (writer writer' : WriterState) (supply supply' : List ℕ) (budget : ℕ) (before after : Option Telling) → old.phase ≡ Ready → writer.course.started ≡ false → tally_of writer ≡ tally_opened
    → Starts writer.geometry writer.list.address (periods_of writer) budget supply (tally_of writer) (tally_of writer') supply' before after
    → Between (StartTellsOf (ring_of writer) supply budget (tally_of writer) (tally_of writer')) before after → KeepsRing writer writer'
    → PlaysSound false budget old old writer writer' supply supply' before after
start_sounds old writer writer' supply supply' budget before after ready fresh opened starts tells same =
    let facts = facts_of budget (length supply) starts.from 0 starts.to in
    let written = run_bytes (measures_of writer) writer.course facts supply in
    let made = start_accesses writer.geometry writer.list.address (periods_of writer) starts.from starts.in_reset starts.ready starts.to written in
    let none = start_entries writer starts.from starts.in_reset starts.ready starts.to written in
    let on_time : was_late writer.course.ran ≡ false = ap (λ (tally : Tally). was_late tally.course.ran) opened in record {
      made = made;
      are = start_are writer.geometry writer.list.address (periods_of writer) starts.from starts.in_reset starts.ready starts.to written;
      by = starts.made;
      is = λ task of. same_found (sym (answer_none old.engine.rings made none)) (start_is task old writer writer' supply budget starts.from starts.in_reset starts.ready starts.to of ready opened starts.tally_is);
      sound = λ pcm left. left_after pcm supply supply' (measures_of writer) (tally_of writer) (tally_of writer') facts on_time starts.tally_is starts.pcm_is left;
      counted = counts_same made [] old old none (λ events counts. counts);
      stays = record { corb = refl; rirb = refl; phase = refl; kept = refl; sent = refl; agenda = refl; geometry = same.geometry; list = same.list; periods = same.periods; records = same.records };
      tells = told_map (λ before after both. inr (inl (record {
        fresh = fresh;
        first = [];
        is_before = refl;
        run = made;
        made_is = refl;
        begins = before;
        first_made = record { by = refl };
        run_made = both.0;
        tells = both.1;
        bring_up = refl;
      }))) (told_pair starts.made tells);
    }

-- ---- a later run

no_stop_entries : (was : Ran) → entries_in (stop_accesses was) ≡ []
no_stop_entries ran.Playing = refl
no_stop_entries ran.Drained = refl
no_stop_entries (ran.Late from to limit) = refl

-- a run reads no entry
pub run_entries : (writer : WriterState) (facts : RunFacts) (supply : List ℕ) (later : List Event) → entries_in later ≡ []
    → entries_in (run_writes (period_bytes writer.geometry.period) (periods_of writer) (measures_of writer) writer.course facts supply ++ Read WALCLK Four facts.to ∷ later) ≡ []
run_entries writer facts supply later none =
    let bytes = period_bytes writer.geometry.period in
    let m = measures_of writer in
    let start = run_start (measures_of writer) writer.course facts in
    let to = min writer.course.reach (run_start (measures_of writer) writer.course facts + run_sound (measures_of writer) writer.course facts) in
    let first = sound_and_silence (to - start) (to - start) supply in
    let second = sound_and_silence (run_sound (measures_of writer) writer.course facts - (to - start)) (run_reach (measures_of writer) writer.course facts - writer.course.reach) (drop (to - start) supply) in
    ap entries_in (append_assoc (line_writes bytes (periods_of writer) start to first) (line_writes bytes (periods_of writer) writer.course.reach (run_reach (measures_of writer) writer.course facts) second) (Read WALCLK Four facts.to ∷ later))
    ∙ writes_entries (piece_write bytes (periods_of writer) start to first) (range_with_len (start / bytes) (touched bytes start to)) (line_writes bytes (periods_of writer) writer.course.reach (run_reach (measures_of writer) writer.course facts) second ++ Read WALCLK Four facts.to ∷ later) (λ number. refl)
    ∙ writes_entries (piece_write bytes (periods_of writer) writer.course.reach (run_reach (measures_of writer) writer.course facts) second) (range_with_len (writer.course.reach / bytes) (touched bytes writer.course.reach (run_reach (measures_of writer) writer.course facts))) (Read WALCLK Four facts.to ∷ later) (λ number. refl)
    ∙ none

pub play_sounds : (old new : BringUp) (writer writer' : WriterState) (supply supply' : List ℕ) (budget : ℕ) (answer : Ran) (before middle after : Option Telling) → writer.course.started ≡ true → is_open writer.course.ran ≡ true
    → Listens old new before middle → IsKept old new → PlaysRun writer.geometry (periods_of writer) budget supply (tally_of writer) answer (tally_of writer') supply' middle after
    → ((pcm : List ℕ) → supply ≡ drop writer.course.used pcm → Between (RunTellsOf (ring_of writer) pcm budget (tally_of writer) answer (tally_of writer')) middle after) → KeepsRing writer writer'
    → PlaysSound false budget old new writer writer' supply supply' before after
play_sounds old new writer writer' supply supply' budget answer before middle after started more listens kept plays tells same =
    let facts = facts_of budget (length supply) plays.from plays.lpib plays.to in
    let was = writer'.course.ran in
    let poll = poll_accesses old.engine.rirb.address old.engine.rings listens.reads in
    let run = play_accesses writer.geometry (periods_of writer) writer.course facts supply was in
    let run_made : Between (Makes run) middle after = subst (λ (was : Ran). Between (Makes (play_accesses writer.geometry (periods_of writer) writer.course facts supply was)) middle after) plays.answer_is plays.made in
    let run_told = λ (left : IsSupply supply writer.course.used). subst (λ (was : Ran). Between (RunTellsOf (ring_of writer) left.pcm budget (tally_of writer) was (tally_of writer')) middle after) plays.answer_is (tells left.pcm left.is) in
    let entries = poll_entries old.engine.rirb.address old.engine.rings listens.reads run listens.new_ones (run_entries writer facts supply (stop_accesses was) (no_stop_entries was)) in
    let found : found_by old.engine.rings listens.reads ≡ answer_in old.engine.rings (poll ++ run) = ap (λ (entries : List (List ℕ)). answer_of old.engine.rings entries) (sym entries) in
    let goes : GoesTo old new writer (tally_of writer') supply budget plays.from plays.lpib plays.to listens.reads =
    record { started = started; more = more; new_ones = listens.new_ones; kept = listens.kept; sent = listens.sent; rings = listens.rings; tally_is = plays.tally_is } in record {
      made = poll ++ run;
      are = accesses_both poll run (poll_are old.engine.rirb.address old.engine.rings listens.reads) (play_are writer.geometry (periods_of writer) writer.course facts supply was);
      by = row_both listens.made run_made;
      is = λ task of. same_found found (play_is task old new writer writer' supply budget plays.from plays.lpib plays.to listens.reads of goes);
      sound = λ pcm left. left_after pcm supply supply' (measures_of writer) (tally_of writer) (tally_of writer') facts (open_on_time writer.course.ran more) plays.tally_is plays.pcm_is left;
      counted = counts_same (poll ++ run) listens.reads.entries old new entries listens.counted;
      stays = record { corb = kept.corb; rirb = kept.rirb; phase = listens.phase; kept = listens.kept; sent = listens.sent; agenda = listens.agenda; geometry = same.geometry; list = same.list; periods = same.periods; records = same.records };
      tells = told_map (λ before after both. inr (inr (record {
        started = started;
        more = more;
        first = [];
        is_before = refl;
        reads = listens.reads;
        run = run;
        made_is = refl;
        begins = both.0;
        first_made = both.1;
        run_made = both.2.0;
        tells = λ pcm left. both.2.1 (record { pcm = pcm; is = left });
        rings = listens.rings;
      }))) (told_both listens.made (told_pair run_made (told_each run_made run_told)));
    }

-- ---- calls for an interrupt

active_phase : (old : BringUp) (writer : WriterState) → old.phase ≡ Ready → is_open writer.course.ran ≡ true → is_active (state_of old writer).phase ≡ true
active_phase old writer ready more =
    ap (λ (phase : Phase). is_active (phase_if writer.course.started phase writer.course.ran)) ready
    ∙ open_active writer.course.started writer.course.ran more

never : false ≡ true → ⊥
never is = cc

-- there is none
pub quiet_sounds : (old : BringUp) (writer : WriterState) (supply : List ℕ) (budget interrupts stream : ℕ) (before after : Option Telling) → old.phase ≡ Ready → is_open writer.course.ran ≡ true → has_bit interrupts 31 ≡ false
    → Between (Makes (interrupt_accesses interrupts stream)) before after → PlaysSound true budget old old writer writer supply supply before after
quiet_sounds old writer supply budget interrupts stream before after ready more off looked =
    let made = interrupt_accesses interrupts stream in
    let none = unread_none made (interrupt_unread interrupts stream) in
    let active : is_active (state_of old writer).phase ≡ true = active_phase old writer ready more in record {
      made = made;
      are = interrupt_are interrupts stream;
      by = looked;
      is = λ task of. same_found (sym (answer_none old.engine.rings made none)) (none_stretch_of task (state_of old writer) budget interrupts stream off active);
      sound = λ pcm left. left;
      counted = counts_same made [] old old none (λ events counts. counts);
      stays = record { corb = refl; rirb = refl; phase = refl; kept = refl; sent = refl; agenda = refl; geometry = refl; list = refl; periods = refl; records = refl };
      tells = told_map (λ before after makes. inl (record { cause = inl (ap not off); looks = inr (record { interrupts = interrupts; stream = stream; is = refl }); over = λ closed. absurd (never (sym closed ∙ more)); bring_up = refl; writer_is = refl })) looked;
    }

-- there is one

alone : (first made : List Event) → first ≡ [] → first ++ made ≡ made
alone first made none = ap (λ (first : List Event). first ++ made) none

irq_tells : (old new : BringUp) (writer writer' : WriterState) (supply : List ℕ) (budget interrupts stream : ℕ) (made : List Event) (before middle after : Telling) → has_bit interrupts 31 ≡ true → is_open writer.course.ran ≡ true
    → Makes (interrupt_accesses interrupts stream) before middle → SoundTells false budget old new writer writer' supply made middle after
    → SoundTells true budget old new writer writer' supply (interrupt_accesses interrupts stream ++ made) before after
irq_tells old new writer writer' supply budget interrupts stream made before middle after on more looked (inl still) = still_by still.cause
  where
    still_by : (found_none false made ≡ true) ⊎ (is_open writer.course.ran ≡ false) → SoundTells true budget old new writer writer' supply (interrupt_accesses interrupts stream ++ made) before after
    still_by (inl none) = absurd (never none)
    still_by (inr over) = absurd (never (sym over ∙ more))
irq_tells old new writer writer' supply budget interrupts stream made before middle after on more looked (inr (inl begins)) =
    let looks = interrupt_accesses interrupts stream in inr (inl (record {
      fresh = begins.fresh;
      first = looks;
      is_before = record { interrupts = interrupts; stream = stream; on = on; is = refl };
      run = begins.run;
      made_is = ap (λ (made : List Event). looks ++ made) (begins.made_is ∙ alone begins.first begins.run begins.is_before);
      begins = begins.begins;
      first_made = subst (λ (first : List Event). Makes first before begins.begins) (ap (λ (first : List Event). looks ++ first) begins.is_before ∙ append-nil looks) (makes_both looked begins.first_made);
      run_made = begins.run_made;
      tells = begins.tells;
      bring_up = begins.bring_up;
    }))
irq_tells old new writer writer' supply budget interrupts stream made before middle after on more looked (inr (inr goes)) =
    let looks = interrupt_accesses interrupts stream in
    let poll = poll_accesses old.engine.rirb.address old.engine.rings goes.reads in inr (inr (record {
      started = goes.started;
      more = goes.more;
      first = looks;
      is_before = record { interrupts = interrupts; stream = stream; on = on; is = refl };
      reads = goes.reads;
      run = goes.run;
      made_is = ap (λ (made : List Event). looks ++ made) (goes.made_is ∙ alone goes.first (poll ++ goes.run) goes.is_before);
      begins = goes.begins;
      first_made = subst (λ (first : List Event). Makes first before goes.begins) (ap (λ (first : List Event). looks ++ first) (alone goes.first poll goes.is_before)) (makes_both looked goes.first_made);
      run_made = goes.run_made;
      tells = goes.tells;
      rings = goes.rings;
    }))

pub irq_sounds : (old new : BringUp) (writer writer' : WriterState) (supply supply' : List ℕ) (budget interrupts stream : ℕ) (before middle after : Option Telling) → old.phase ≡ Ready → is_open writer.course.ran ≡ true → has_bit interrupts 31 ≡ true
    → Between (Makes (interrupt_accesses interrupts stream)) before middle → PlaysSound false budget old new writer writer' supply supply' middle after → PlaysSound true budget old new writer writer' supply supply' before after
irq_sounds old new writer writer' supply supply' budget interrupts stream before middle after ready more on looked sounds =
    let made = interrupt_accesses interrupts stream ++ sounds.made in
    let entries = interrupt_entries interrupts stream sounds.made in
    let active : is_active (state_of old writer).phase ≡ true = active_phase old writer ready more in record {
      made = made;
      are = accesses_both (interrupt_accesses interrupts stream) sounds.made (interrupt_are interrupts stream) sounds.are;
      by = row_both looked sounds.by;
      is = λ task of. same_found (sym (same_answer old.engine.rings sounds.made made entries))
          (interrupted_stretch task (state_of old writer) budget sounds.made (is_some (answer_in old.engine.rings sounds.made)) (state_of new writer') interrupts stream on active (sounds.is task of));
      sound = sounds.sound;
      counted = counts_same made (entries_in sounds.made) old new entries sounds.counted;
      stays = sounds.stays;
      tells = told_map (λ before after both. irq_tells old new writer writer' supply budget interrupts stream sounds.made before both.0 after on more both.1 both.2) (told_both looked sounds.tells);
    }
