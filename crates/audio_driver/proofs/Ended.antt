-- The last call of a driver whose calls play does what is said of it.
use Rattle.std.proofs.Common.{◌≡◌, ℕ, List, [], ◌∷◌, ◌++◌, length, append_assoc, Bool, true, false, Option, refl, sym, ap, subst, inl, inr, ◌∙◌}
use Rattle.std.specs.Prelude.{◌&&◌, drop}
use Rattle.hda_registers.specs.declared.shapes.Width.TheVariants.{One, Four}
use Rattle.hda_registers.specs.declared.places.TheConstants.{WALCLK}
use Rattle.hda_world.specs.Events.{Read, Write}
use Rattle.hda_world.specs.Tellings.{Telling, Between, Makes}
use Rattle.hda_world.proofs.Callers.{row_both, told_both, told_map, told_pair}
use Rattle.command_engine.specs.Polling.{poll_accesses, found_by}
use Rattle.period_writer.specs.declared.course.Ran.{Ran}
use Rattle.period_writer.specs.declared.registers.TheConstants.{CONTROL}
use Rattle.period_writer.specs.Courses.{IsCourse}
use Rattle.period_writer.specs.Rings.{period_bytes}
use Rattle.period_writer.specs.Playing.{run_writes, Finishes, finish_accesses}
use Rattle.period_writer.specs.Outcomes.{FinishTellsOf}
use Rattle.period_writer.specs.Runs.{Tally, facts_of}
use Rattle.period_writer.specs.Writers.{WriterState, tally_of, measures_of, periods_of, ring_of, ring_size}
use Rattle.driver_progress.specs.declared.phase.Phase.{Phase}
use Rattle.driver_progress.specs.declared.phase.Phase.TheVariants.{Ready}
use Rattle.driver_progress.specs.Shutting.{shut_accesses}
use Rattle.driver_progress.proofs.Callers.{accesses_both}
use Rattle.driver_bring_up.specs.Commanding.{entries_in, answer_in}
use Rattle.driver_bring_up.specs.declared.bringing.BringUp.{BringUp}
use Rattle.driver_bring_up.specs.Calls.{Listens}
use Rattle.driver_bring_up.proofs.Callers.{answer_none, same_found}
use Rattle.audio_driver.specs.States.{phase_if, state_of, is_open, is_playing}
use Rattle.audio_driver.specs.Sounding.{EndsSound}
use Rattle.audio_driver.proofs.Accesses.{poll_are, finish_are, shut_are}
use Rattle.audio_driver.proofs.Seeing.{poll_entries}
use Rattle.audio_driver.proofs.Stretches.{silent_stretch}
use Rattle.audio_driver.proofs.Whole.{GoesTo, finish_is}
use Rattle.audio_driver.proofs.Sounded.{IsSupply, told_each, counts_same, run_entries, answer_of}

-- ---- the stream does not play

pub ends_alone : (old : BringUp) (writer : WriterState) (supply : List ℕ) (before after : Option Telling) → old.phase ≡ Ready → is_playing writer.course ≡ false → Between (Makes shut_accesses) before after
    → EndsSound old old writer (tally_of writer) supply before after
ends_alone old writer supply before after ready silent shut = record {
  made = shut_accesses;
  are = shut_are;
  by = shut;
  is = λ task of. same_found (sym (answer_none old.engine.rings shut_accesses refl))
      (silent_stretch task (state_of old writer) writer.course.started writer.course.ran (ap (λ (phase : Phase). phase_if writer.course.started phase writer.course.ran) ready) silent);
  counted = λ events counts. counts;
  phase = refl;
  sent = refl;
  agenda = refl;
  tells = told_map (λ before after made. inl (record { still = silent; made_is = refl; bring_up = refl; tally_is = refl })) shut;
}

-- ---- it plays

last_entries : (writer : WriterState) (from lpib to : ℕ) (supply : List ℕ) → entries_in (finish_accesses writer.geometry (periods_of writer) writer.course (facts_of 0 (length supply) from lpib to) supply ++ shut_accesses) ≡ []
last_entries writer from lpib to supply =
    let facts = facts_of 0 (length supply) from lpib to in
    let m = measures_of writer in
    let writes = run_writes (period_bytes writer.geometry.period) (periods_of writer) m writer.course facts supply in
    ap entries_in (append_assoc writes (Read WALCLK Four to ∷ Write CONTROL One 0 ∷ []) shut_accesses) ∙ run_entries writer facts supply (Write CONTROL One 0 ∷ shut_accesses) refl

pub ends_playing : (old new : BringUp) (writer : WriterState) (tally' : Tally) (supply : List ℕ) (answer : Ran) (before listened stopped after : Option Telling) → IsCourse (ring_size writer) (length writer.runs) writer.course
    → writer.course.started ≡ true → is_open writer.course.ran ≡ true
    → Listens old new before listened → Finishes writer.geometry (periods_of writer) supply (tally_of writer) answer tally' listened stopped
    → ((pcm : List ℕ) → supply ≡ drop writer.course.used pcm → Between (FinishTellsOf (ring_of writer) pcm (tally_of writer) answer tally') listened stopped) → Between (Makes shut_accesses) stopped after
    → EndsSound old new writer tally' supply before after
ends_playing old new writer tally' supply answer before listened stopped after course_is started more listens finishes tells shut =
    let facts = facts_of 0 (length supply) finishes.from finishes.lpib finishes.to in
    let was = tally'.course.ran in
    let poll = poll_accesses old.engine.rirb.address old.engine.rings listens.reads in
    let run = finish_accesses writer.geometry (periods_of writer) writer.course facts supply in
    let entries = poll_entries old.engine.rirb.address old.engine.rings listens.reads (run ++ shut_accesses) listens.new_ones (last_entries writer finishes.from finishes.lpib finishes.to supply) in
    let found : found_by old.engine.rings listens.reads ≡ answer_in old.engine.rings (poll ++ (run ++ shut_accesses)) = ap (λ (entries : List (List ℕ)). answer_of old.engine.rings entries) (sym entries) in
    let run_told = λ (left : IsSupply supply writer.course.used). subst (λ (was : Ran). Between (FinishTellsOf (ring_of writer) left.pcm (tally_of writer) was tally') listened stopped) finishes.answer_is (tells left.pcm left.is) in
    let playing : is_playing writer.course ≡ true = ap (λ (started : Bool). started && is_open writer.course.ran) started ∙ more in
    let goes : GoesTo old new writer tally' supply 0 finishes.from finishes.lpib finishes.to listens.reads =
    record { started = started; more = more; new_ones = listens.new_ones; kept = listens.kept; sent = listens.sent; rings = listens.rings; tally_is = finishes.tally_is } in record {
      made = poll ++ (run ++ shut_accesses);
      are = accesses_both poll (run ++ shut_accesses) (poll_are old.engine.rirb.address old.engine.rings listens.reads) (accesses_both run shut_accesses (finish_are writer.geometry (periods_of writer) writer.course facts supply) shut_are);
      by = row_both listens.made (row_both finishes.made shut);
      is = λ task of. same_found found (finish_is task old new writer tally' supply finishes.from finishes.lpib finishes.to listens.reads of goes);
      counted = counts_same (poll ++ (run ++ shut_accesses)) listens.reads.entries old new entries listens.counted;
      phase = listens.phase;
      sent = listens.sent;
      agenda = listens.agenda;
      tells = told_map (λ before after both. inr (record {
        plays = playing;
        course_is = course_is;
        reads = listens.reads;
        run = run;
        made_is = refl;
        begins = both.0;
        ends = both.2.0;
        listened = both.1;
        run_made = both.2.1.0;
        tells = λ pcm left. both.2.1.1 (record { pcm = pcm; is = left });
        shut = both.2.2;
        rings = listens.rings;
      })) (told_both listens.made (told_both (told_pair finishes.made (told_each finishes.made run_told)) shut));
    }
