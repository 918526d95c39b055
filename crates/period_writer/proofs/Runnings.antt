-- Runs, put together from their parts.
use Rattle.std.proofs.Common.{◌≡◌, ◌≤◌, ◌+◌, ◌-◌, ◌%◌, ◌∙◌, ℕ, Bool, false, List, [], ◌∷◌, ◌++◌, slice_index, refl, sym, Option, length, drop, ap, subst, arith, append_assoc, if◌then◌else◌}
use Rattle.std.specs.Prelude.{min}
use Rattle.hda_registers.specs.declared.shapes.Width.TheVariants.{One, Four}
use Rattle.hda_registers.specs.declared.places.TheConstants.{WALCLK}
use Rattle.hda_world.specs.Events.{Event, Read, Write}
use Rattle.hda_world.specs.Tellings.{Telling, Accessed, Between, Makes}
use Rattle.hda_world.proofs.Callers.{row_one, row_more, row_both}
use Rattle.period_writer.specs.declared.course.Course.{Course}
use Rattle.period_writer.specs.declared.course.Ran.{Ran}
use Rattle.period_writer.specs.declared.course.Ran.TheVariants.{Playing, Drained, Late}
use Rattle.period_writer.specs.declared.course.Run.{Run}
use Rattle.period_writer.specs.declared.course.Span.{Span}
use Rattle.period_writer.specs.declared.geometry.Geometry.{Geometry}
use Rattle.period_writer.specs.declared.registers.TheConstants.{CONTROL, POSITION}
use Rattle.period_writer.specs.Rings.{period_bytes, ring_bytes}
use Rattle.period_writer.specs.Lines.{sound_and_silence}
use Rattle.period_writer.specs.Places.{line_writes}
use Rattle.period_writer.specs.Runs.{RunFacts, Tally, Measures, measures, facts_of, run_reach, run_room, run_start, run_sound, whole_blocks, position_from, tally_after, Stretch, taken_up, taken_up_if}
use Rattle.period_writer.specs.Starting.{reset_accesses, entry_writes, run_accesses}
use Rattle.period_writer.specs.Playing.{Starts, PlaysRun, TakesTurn, Finishes, run_bytes, run_writes, writes_by, stop_accesses, turn_accesses}
use Rattle.period_writer.proofs.RowsWritten.{writes_first}

pub tally_same : (runs runs' : List Run) (silences silences' : List Span) (course course' : Course) → runs ≡ runs' → silences ≡ silences' → course ≡ course'
    → let one : Tally = record { runs = runs; silences = silences; course = course } in one ≡ record { runs = runs'; silences = silences'; course = course' }
tally_same runs runs' silences silences' course course' a b c = cc

-- what is written, by the numbers of the run
written : (m : Measures) (bytes : ℕ) (periods : List ℕ) (course : Course) (facts : RunFacts) (start sound reach : ℕ) (pcm : List ℕ) (old new : Option Telling)
    → start ≡ run_start m course facts → sound ≡ run_sound m course facts → reach ≡ run_reach m course facts
    → Between (Makes (writes_by bytes periods start sound course.reach reach pcm)) old new → Between (Makes (run_writes bytes periods m course facts pcm)) old new
written m bytes periods course facts start sound reach pcm old new starts sounds reaches made =
    subst (λ (n : ℕ). Between (Makes (writes_by bytes periods n (run_sound m course facts) course.reach (run_reach m course facts) pcm)) old new) starts
    (subst (λ (n : ℕ). Between (Makes (writes_by bytes periods start n course.reach (run_reach m course facts) pcm)) old new) sounds
    (subst (λ (n : ℕ). Between (Makes (writes_by bytes periods start sound course.reach n pcm)) old new) reaches made))

-- a run up to its stop
pub turn_so : (geometry : Geometry) (periods : List ℕ) (budget left from lpib to start reach sound : ℕ) (pcm pcm' : List ℕ) (tally tally' : Tally) (answer : Ran) (t0 t1 t2 t3 t4 : Option Telling)
    → left ≡ length pcm → start ≡ run_start (measures geometry) tally.course (facts_of budget left from lpib to) → reach ≡ run_reach (measures geometry) tally.course (facts_of budget left from lpib to) → sound ≡ run_sound (measures geometry) tally.course (facts_of budget left from lpib to)
    → tally' ≡ tally_after (measures geometry) tally (facts_of budget left from lpib to) → answer ≡ tally'.course.ran → pcm' ≡ drop sound pcm
    → Between (λ old new. Accessed old new (Read WALCLK Four from)) t0 t1 → Between (λ old new. Accessed old new (Read POSITION Four lpib)) t1 t2
    → Between (Makes (writes_by (period_bytes geometry.period) periods start sound tally.course.reach reach pcm)) t2 t3
    → Between (λ old new. Accessed old new (Read WALCLK Four to)) t3 t4
    → TakesTurn geometry periods budget pcm tally answer tally' pcm' t0 t4
turn_so geometry periods budget left from lpib to start reach sound pcm pcm' tally tally' answer t0 t1 t2 t3 t4 all starts reaches sounds after ends rest first second line last =
    let reaches' = subst (λ (n : ℕ). reach ≡ run_reach (measures geometry) tally.course (facts_of budget n from lpib to)) all reaches in
    let sounds' = subst (λ (n : ℕ). sound ≡ run_sound (measures geometry) tally.course (facts_of budget n from lpib to)) all sounds in
    let starts' = subst (λ (n : ℕ). start ≡ run_start (measures geometry) tally.course (facts_of budget n from lpib to)) all starts in
    let line' = written (measures geometry) (period_bytes geometry.period) periods tally.course (facts_of budget (length pcm) from lpib to) start sound reach pcm t2 t3 starts' sounds' reaches' line in
    record {
      from = from;
      lpib = lpib;
      to = to;
      tally_is = subst (λ (n : ℕ). tally' ≡ tally_after (measures geometry) tally (facts_of budget n from lpib to)) all after;
      answer_is = ends;
      made = row_more first (row_more second (row_both line' (row_one last)));
      pcm_is = rest ∙ ap (λ (n : ℕ). drop n pcm) sounds';
    }

-- what a run does up to its stop, and then the stop
stopped_after : (geometry : Geometry) (periods : List ℕ) (course : Course) (facts : RunFacts) (pcm : List ℕ) (stop : List Event) (t0 t1 t2 : Option Telling)
    → Between (Makes (turn_accesses geometry periods course facts pcm)) t0 t1 → Between (Makes stop) t1 t2
    → let line = run_writes (period_bytes geometry.period) periods (measures geometry) course facts pcm in
    Between (Makes (Read WALCLK Four facts.from ∷ Read POSITION Four facts.lpib ∷ (line ++ (Read WALCLK Four facts.to ∷ stop)))) t0 t2
stopped_after geometry periods course facts pcm stop t0 t1 t2 turn ends =
    let line = run_writes (period_bytes geometry.period) periods (measures geometry) course facts pcm in
    subst (λ (rest : List Event). Between (Makes (Read WALCLK Four facts.from ∷ Read POSITION Four facts.lpib ∷ rest)) t0 t2) (append_assoc line (Read WALCLK Four facts.to ∷ []) stop) (row_both turn ends)

pub plays_so : {geometry : Geometry} {periods : List ℕ} {budget : ℕ} {pcm pcm' : List ℕ} {tally tally' : Tally} {answer : Ran} {t0 t1 t2 : Option Telling}
    → TakesTurn geometry periods budget pcm tally answer tally' pcm' t0 t1 → Between (Makes (stop_accesses answer)) t1 t2 → PlaysRun geometry periods budget pcm tally answer tally' pcm' t0 t2
plays_so {geometry} {periods} {budget} {pcm} {pcm'} {tally} {tally'} {answer} {t0} {t1} {t2} turn stop = record {
  from = turn.from;
  lpib = turn.lpib;
  to = turn.to;
  tally_is = turn.tally_is;
  answer_is = turn.answer_is;
  made = stopped_after geometry periods tally.course (facts_of budget (length pcm) turn.from turn.lpib turn.to) pcm (stop_accesses answer) t0 t1 t2 turn.made stop;
  pcm_is = turn.pcm_is;
}

pub finishes_so : {geometry : Geometry} {periods : List ℕ} {pcm pcm' : List ℕ} {tally tally' : Tally} {answer : Ran} {t0 t1 t2 : Option Telling}
    → TakesTurn geometry periods 0 pcm tally answer tally' pcm' t0 t1 → Between (λ old new. Accessed old new (Write CONTROL One 0)) t1 t2 → Finishes geometry periods pcm tally answer tally' t0 t2
finishes_so {geometry} {periods} {pcm} {pcm'} {tally} {tally'} {answer} {t0} {t1} {t2} turn stop = record {
  from = turn.from;
  lpib = turn.lpib;
  to = turn.to;
  tally_is = turn.tally_is;
  answer_is = turn.answer_is;
  made = stopped_after geometry periods tally.course (facts_of 0 (length pcm) turn.from turn.lpib turn.to) pcm (Write CONTROL One 0 ∷ []) t0 t1 t2 turn.made (row_one stop);
}

-- with a budget of 0 no sound is written
none_written : (block room left : ℕ) → whole_blocks block (min 0 (min room left)) ≡ 0
none_written block room left = none (min 0 (min room left)) ((min 0 (min room left)) % block) (least (min room left)) where
  least : (n : ℕ) → min 0 n ≡ 0
  least n = grind arith

  none : (n rest : ℕ) → n ≡ 0 → n - rest ≡ 0
  none n rest is = omega (arith, is)

pub no_sound : {geometry : Geometry} {periods : List ℕ} {pcm pcm' : List ℕ} {tally tally' : Tally} {answer : Ran} {old new : Option Telling} → TakesTurn geometry periods 0 pcm tally answer tally' pcm' old new → pcm' ≡ pcm
no_sound {geometry} {periods} {pcm} {pcm'} {tally} turn =
    let m = measures geometry in
    turn.pcm_is ∙ ap (λ (n : ℕ). drop n pcm) (none_written m.block (run_room m tally.course (facts_of 0 (length pcm) turn.from turn.lpib turn.to)) (length pcm))

pub starts_so : (geometry : Geometry) (list : ℕ) (periods : List ℕ) (budget left from in_reset ready to start reach sound : ℕ) (pcm pcm' : List ℕ) (tally tally' : Tally) (t0 t1 t2 t3 t4 t5 t6 : Option Telling)
    → tally.course.started ≡ false → tally.course.reach ≡ 0
    → left ≡ length pcm → start ≤ tally.course.reach → start ≡ run_start (measures geometry) tally.course (facts_of budget left from 0 to) → reach ≡ run_reach (measures geometry) tally.course (facts_of budget left from 0 to) → sound ≡ run_sound (measures geometry) tally.course (facts_of budget left from 0 to)
    → tally' ≡ tally_after (measures geometry) tally (facts_of budget left from 0 to) → pcm' ≡ drop sound pcm
    → Between (λ old new. Accessed old new (Read WALCLK Four from)) t0 t1 → Between (Makes (reset_accesses in_reset ready)) t1 t2
    → Between (Makes (entry_writes list periods (period_bytes geometry.period))) t2 t3
    → Between (Makes (writes_by (period_bytes geometry.period) periods start sound tally.course.reach reach pcm)) t3 t4
    → Between (Makes (run_accesses list geometry)) t4 t5 → Between (λ old new. Accessed old new (Read WALCLK Four to)) t5 t6
    → Starts geometry list periods budget pcm tally tally' pcm' t0 t6
starts_so geometry list periods budget left from in_reset ready to start reach sound pcm pcm' tally tally' t0 t1 t2 t3 t4 t5 t6 fresh none all low starts reaches sounds after rest first reset entries line run last =
    let facts = facts_of budget (length pcm) from 0 to in
    let reaches' = subst (λ (n : ℕ). reach ≡ run_reach (measures geometry) tally.course (facts_of budget n from 0 to)) all reaches in
    let sounds' = subst (λ (n : ℕ). sound ≡ run_sound (measures geometry) tally.course (facts_of budget n from 0 to)) all sounds in
    let starts' = subst (λ (n : ℕ). start ≡ run_start (measures geometry) tally.course (facts_of budget n from 0 to)) all starts in
    let zero_start : start ≡ 0 = omega (arith, low, none) in
    let end : run_reach (measures geometry) tally.course (facts_of budget (length pcm) from 0 to) ≡ ring_bytes geometry.periods geometry.period =
    ap (λ (started : Bool). (if started then position_from (ring_bytes geometry.periods geometry.period) tally.course.at 0 else 0) + ring_bytes geometry.periods geometry.period) fresh ∙ omega arith in
    let is : writes_by (period_bytes geometry.period) periods start sound tally.course.reach reach pcm
    ≡ line_writes (period_bytes geometry.period) periods 0 (ring_bytes geometry.periods geometry.period) (run_bytes (measures geometry) tally.course (facts_of budget (length pcm) from 0 to) pcm) =
    ap (λ (n : ℕ). writes_by (period_bytes geometry.period) periods n sound tally.course.reach reach pcm) zero_start
    ∙ ap (λ (n : ℕ). writes_by (period_bytes geometry.period) periods 0 sound n reach pcm) none
    ∙ writes_first (period_bytes geometry.period) periods sound reach pcm
    ∙ ap (λ (n : ℕ). line_writes (period_bytes geometry.period) periods 0 reach (sound_and_silence n reach pcm)) sounds'
    ∙ ap (λ (n : ℕ). line_writes (period_bytes geometry.period) periods 0 n (sound_and_silence (run_sound (measures geometry) tally.course (facts_of budget (length pcm) from 0 to)) n pcm)) (reaches' ∙ end)
    ∙ ap (λ (n : ℕ). line_writes (period_bytes geometry.period) periods 0 (ring_bytes geometry.periods geometry.period) (sound_and_silence (run_sound (measures geometry) tally.course (facts_of budget (length pcm) from 0 to)) n pcm))
    (let begins = sym starts' ∙ zero_start in omega (arith, end, begins)) in
    let line'' = subst (λ (events : List Event). Between (Makes events) t3 t4) is line in
    record {
      from = from;
      in_reset = in_reset;
      ready = ready;
      to = to;
      made = row_more first (row_both reset (row_both entries (row_both line'' (row_both run (row_one last)))));
      tally_is = subst (λ (n : ℕ). tally' ≡ tally_after (measures geometry) tally (facts_of budget n from 0 to)) all after;
      pcm_is = rest ∙ ap (λ (n : ℕ). drop n pcm) sounds';
    }

-- ---- the same by what a stretch of accesses read

taken_by : (ran : Ran) → ran ≡ Playing → (m : Measures) (total : ℕ) (tally : Tally) (budget from to : ℕ) (lpibs : List ℕ)
    → taken_up_if ran (from ∷ to ∷ []) m total (record { budget = budget; clocks = from ∷ to ∷ []; lpibs = lpibs }) tally
    ≡ tally_after m tally (facts_of budget (total - tally.course.used) from (slice_index lpibs 0) to)
taken_by Playing is m total tally budget from to lpibs = refl
taken_by Drained is m total tally budget from to lpibs = cc
taken_by (Late early late most) is m total tally budget from to lpibs = cc

pub first_taken_up : (m : Measures) (total : ℕ) (tally : Tally) (budget from to : ℕ) → tally.course.ran ≡ Playing
    → taken_up m total tally (record { budget = budget; clocks = from ∷ to ∷ []; lpibs = [] }) ≡ tally_after m tally (facts_of budget (total - tally.course.used) from 0 to)
first_taken_up m total tally budget from to is = taken_by tally.course.ran is m total tally budget from to []

pub later_taken_up : (m : Measures) (total : ℕ) (tally : Tally) (budget from lpib to : ℕ) → tally.course.ran ≡ Playing
    → taken_up m total tally (record { budget = budget; clocks = from ∷ to ∷ []; lpibs = lpib ∷ [] }) ≡ tally_after m tally (facts_of budget (total - tally.course.used) from lpib to)
later_taken_up m total tally budget from lpib to is = taken_by tally.course.ran is m total tally budget from to (lpib ∷ [])

none_by : (ran : Ran) (m : Measures) (total : ℕ) (tally : Tally) (stretch : Stretch) → taken_up_if ran [] m total stretch tally ≡ tally
none_by Playing m total tally stretch = refl
none_by Drained m total tally stretch = refl
none_by (Late from to most) m total tally stretch = refl

one_by : (ran : Ran) (from : ℕ) (m : Measures) (total : ℕ) (tally : Tally) (stretch : Stretch) → taken_up_if ran (from ∷ []) m total stretch tally ≡ tally
one_by Playing from m total tally stretch = refl
one_by Drained from m total tally stretch = refl
one_by (Late early late most) from m total tally stretch = refl

pub none_taken_up : (m : Measures) (total : ℕ) (tally : Tally) (budget : ℕ) (lpibs : List ℕ) → taken_up m total tally (record { budget = budget; clocks = []; lpibs = lpibs }) ≡ tally
none_taken_up m total tally budget lpibs = none_by tally.course.ran m total tally (record { budget = budget; clocks = []; lpibs = lpibs })

pub one_taken_up : (m : Measures) (total : ℕ) (tally : Tally) (budget from : ℕ) (lpibs : List ℕ) → taken_up m total tally (record { budget = budget; clocks = from ∷ []; lpibs = lpibs }) ≡ tally
one_taken_up m total tally budget from lpibs = one_by tally.course.ran from m total tally (record { budget = budget; clocks = from ∷ []; lpibs = lpibs })
