-- No more sound is written than there is.
use Rattle.std.proofs.Common.{◌≡◌, ◌≤◌, ◌+◌, ◌-◌, ◌%◌, ◌==◌, ◌&&◌, if◌then◌else◌, ℕ, Bool, true, false, List, [], ◌∷◌, ◌++◌, length, refl, arith}
use Rattle.std.specs.Prelude.{min, nat_le, slice_index}
use Rattle.std.proofs.lemmas.Bool.Decides.{nat_tests}
use Rattle.std.proofs.Math.Nat.{min-le_right}
use Rattle.std.proofs.lemmas.List.Sums.{sum_by-append}
use Rattle.hda_world.specs.Worlds.{World}
use Rattle.hda_world.specs.Events.{Event, Stepped, Begin, End, Read, Write, DmaRead, DmaWrite, happens}
use Rattle.hda_world.specs.Tellings.{Telling}
use Rattle.period_writer.specs.declared.course.Run.{Run}
use Rattle.period_writer.specs.declared.course.Ran.{Ran}
use Rattle.period_writer.specs.declared.course.Ran.TheVariants as ran
use Rattle.period_writer.specs.declared.course.Course as played
use Rattle.period_writer.specs.Runs.{Measures, RunFacts, Stretch, Tally, facts_of, is_late, is_late_since, run_at, run_of, run_room, run_sound, run_sound_end, tally_if, tally_opened, taken_up_if, whole_blocks}
use Rattle.driver_progress.specs.Tasks.{Task, DriverLine}
use Rattle.driver_progress.specs.Progress.{Trail, trail_after, trail_of, trail_opened, ended, noted, state_of}
use Rattle.program_runs.specs.Hearing.{HasPlayedAll}
use Rattle.program_runs.specs.FrameCounts.{written_in, written_by}

-- the runs wrote what was used, which is no more than there is, and all of it once the line has drained
record IsWithin (total : ℕ) (tally : Tally) : Type 0 where
  pub used : written_by tally.runs ≡ tally.course.used
  pub few : tally.course.used ≤ total
  pub drained : tally.course.ran ≡ ran.Drained → (tally.course.used ≡ total) × (tally.course.sound_end ≤ tally.course.at)

one_more : (runs : List Run) (run : Run) → written_by (runs ++ run ∷ []) ≡ written_by runs + run.written
one_more runs run = let both = sum_by-append written_in runs (run ∷ []) in omega (arith, both)

no_more : (block bytes : ℕ) → whole_blocks block bytes ≤ bytes
no_more block bytes = let over = bytes % block in omega arith

sound_within : (m : Measures) (course : played.Course) (facts : RunFacts) → run_sound m course facts ≤ facts.left
sound_within m course facts =
    let least = min facts.budget (min (run_room m course facts) facts.left) in
    let inner = min-le_right (run_room m course facts) facts.left in
    let outer = min-le_right facts.budget (min (run_room m course facts) facts.left) in
    let whole = no_more m.block least in omega (arith, inner, outer, whole)

late_drained : (since_first : Bool) (course_from from to limit slack : ℕ) → (if since_first then ran.Late course_from to limit else ran.Late from to slack) ≡ ran.Drained → ⊥
late_drained true course_from from to limit slack is = cc
late_drained false course_from from to limit slack is = cc

playing_drained : ran.Playing ≡ ran.Drained → ⊥
playing_drained is = cc

drained_parts : (started left past : Bool) → (if started && left && past then ran.Drained else ran.Playing) ≡ ran.Drained → (left ≡ true) × (past ≡ true)
drained_parts true true true is = (refl, refl)
drained_parts true true false is = absurd (playing_drained is)
drained_parts true false past is = absurd (playing_drained is)
drained_parts false left past is = absurd (playing_drained is)

same_of : (a b : ℕ) → (a == b) ≡ true → a ≡ b
same_of a b is = grind (arith, nat_tests, is)

least_of : (a b : ℕ) → nat_le a b ≡ true → a ≤ b
least_of a b is = grind (arith, nat_tests, is)

within_if : (late : Bool) (total : ℕ) (m : Measures) (tally : Tally) (facts : RunFacts) → facts.left ≡ total - tally.course.used → IsWithin total tally → IsWithin total (tally_if late m tally facts)
within_if true total m tally facts left within = record { used = within.used; few = within.few; drained = λ is. absurd (late_drained (is_late_since m tally.course facts) tally.course.from facts.from facts.to m.limit m.slack is) }
within_if false total m tally facts left within =
    let more = one_more tally.runs (run_of m tally.course facts) in
    let used = within.used in
    let few = within.few in
    let sound = sound_within m tally.course facts in record {
      used = omega (arith, more, used);
      few = omega (arith, left, few, sound);
      drained = λ is. (
          let all = drained_parts tally.course.started (facts.left == run_sound m tally.course facts) (nat_le (run_sound_end m tally.course facts) (run_at m tally.course facts)) is in
          let whole = same_of facts.left (run_sound m tally.course facts) all.0 in (omega (arith, left, few, whole), least_of (run_sound_end m tally.course facts) (run_at m tally.course facts) all.1)
          );
    }

within_taken : (was : Ran) (clocks : List ℕ) (total : ℕ) (m : Measures) (stretch : Stretch) (tally : Tally) → IsWithin total tally → IsWithin total (taken_up_if was clocks m total stretch tally)
within_taken ran.Playing [] total m stretch tally within = within
within_taken ran.Playing (from ∷ []) total m stretch tally within = within
within_taken ran.Playing (from ∷ to ∷ []) total m stretch tally within =
    let facts = facts_of stretch.budget (total - tally.course.used) from (slice_index stretch.lpibs 0) to in within_if (is_late m tally.course facts) total m tally facts refl within
within_taken ran.Playing (from ∷ to ∷ other ∷ more) total m stretch tally within = within
within_taken ran.Drained clocks total m stretch tally within = within
within_taken (ran.Late from to limit) clocks total m stretch tally within = within

-- ---- of all that is told

abbrev HasWithin : Task → Trail → Type 0
HasWithin task trail = IsWithin (length task.pcm) trail.state.tally

within_ended : (task : Task) (trail : Trail) → HasWithin task trail → HasWithin task (ended task trail)
within_ended task trail within = within_taken trail.state.tally.course.ran _ (length task.pcm) _ _ trail.state.tally within

within_noted : (task : Task) (trail : Trail) (world : World) (event : Event) → HasWithin task trail → HasWithin task (noted task trail world event)
within_noted task trail world (Stepped step) within = within
within_noted task trail world Begin within = within
within_noted task trail world End within = within_ended task trail within
within_noted task trail world (Read at width value) within = within
within_noted task trail world (Write at width value) within = within
within_noted task trail world (DmaRead at bytes) within = within
within_noted task trail world (DmaWrite at bytes) within = within

within_after : (task : Task) (events : List Event) (world : World) (trail : Trail) → HasWithin task trail → HasWithin task (trail_after task events world trail)
within_after task [] world trail within = within
within_after task (event ∷ events) world trail within = within_after task events (happens world event) (noted task trail world event) (within_noted task trail world event within)

within_if_open : (within : Bool) (task : Task) (trail : Trail) → HasWithin task trail → HasWithin task (if within then ended task trail else trail)
within_if_open true task trail within = within_ended task trail within
within_if_open false task trail within = within

opened_within : (total : ℕ) → IsWithin total tally_opened
opened_within total = record { used = refl; few = omega arith; drained = λ is. absurd (playing_drained is) }

-- so the runs of a state to which progress leads wrote no more than there is
pub written_within : (task : Task) (lines : List DriverLine) (telling : Telling) → written_by (state_of task lines telling).tally.runs ≤ length task.pcm
written_within task lines telling =
    let trail = trail_of task lines telling in
    let within = within_if_open trail.within task trail (within_after task telling.journal telling.start (trail_opened lines) (record { used = refl; few = omega arith; drained = λ is. absurd (playing_drained is) })) in
    let used = within.used in
    let few = within.few in omega (arith, used, few)

-- they wrote what was used
pub used_written : (task : Task) (lines : List DriverLine) (telling : Telling) → written_by (state_of task lines telling).tally.runs ≡ (state_of task lines telling).tally.course.used
used_written task lines telling =
    let trail = trail_of task lines telling in
    (within_if_open trail.within task trail (within_after task telling.journal telling.start (trail_opened lines) (opened_within (length task.pcm)))).used

-- and once the line has drained all of it was written, and the link had played the last of it
pub drained_whole : (task : Task) (lines : List DriverLine) (telling : Telling) → (state_of task lines telling).tally.course.ran ≡ ran.Drained → HasPlayedAll task.pcm (state_of task lines telling).tally
drained_whole task lines telling is =
    let trail = trail_of task lines telling in
    let within = within_if_open trail.within task trail (within_after task telling.journal telling.start (trail_opened lines) (opened_within (length task.pcm))) in
    let all = within.drained is in record { written = all.0; past = all.1 }
