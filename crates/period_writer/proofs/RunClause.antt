-- What a later run tells, by how it ends.
use Rattle.std.proofs.Common.{◌≡◌, ℕ, Bool, true, false, List, [], ◌∷◌, Option, length, drop, refl, sym, ap, subst, ◌∙◌, if◌then◌else◌}
use Rattle.stream_format.proofs.Callers.{some_block}
use Rattle.hda_world.specs.Tellings.{Telling, Makes, Between, world_of}
use Rattle.hda_world.proofs.Callers.{told_map}
use Rattle.period_writer.specs.Playing.{PlaysRun, Finishes}
use Rattle.period_writer.specs.Standing.{Ring, size_of}
use Rattle.period_writer.specs.Outcomes.{HasNotWrapped}
use Rattle.hda_registers.specs.declared.shapes.Width.TheVariants.{One}
use Rattle.hda_world.specs.Worlds.{World}
use Rattle.hda_world.specs.Events.{Event, Write}
use Rattle.period_writer.specs.declared.registers.TheConstants.{CONTROL}
use Rattle.period_writer.specs.declared.course.Ran.{Ran}
use Rattle.period_writer.specs.declared.course.Ran.TheVariants.{Playing, Drained, Late}
use Rattle.period_writer.specs.Runs.{RunFacts, facts_of, Measures, Tally, is_late, is_late_since, has_drained, run_sure, tally_if, tally_after}
use Rattle.period_writer.specs.Courses.{IsCourse}
use Rattle.period_writer.specs.Lines.{line_of}
use Rattle.period_writer.specs.Runs.{measures}
use Rattle.period_writer.specs.Playing.{stop_accesses, turn_with}
use Rattle.period_writer.specs.Owning.{Agrees, IsPlaying}
use Rattle.period_writer.specs.Outcomes.{AgreesAs, WasStopped, TurnTells, RunTells, RunTellsOf, FinishTellsOf, EndsLast}
use Rattle.period_writer.proofs.RunTelling.{tells_playing, tells_late, tells_more, tells_drained}

module _ (ring : Ring) (pcm : List ℕ) (runs : ℕ) (tally : Tally) (facts : RunFacts) (is : IsCourse (size_of ring) runs tally.course) (left_is : facts.left ≡ length (drop tally.course.used pcm))
    (old new : Telling) (playing : IsPlaying ring pcm tally (world_of old)) (small : HasNotWrapped (world_of new)) where
  abbrev Turn : List Event → Type 0
  Turn stop = Makes (turn_with ring.geometry ring.periods tally.course facts (drop tally.course.used pcm) stop) old new

  abbrev m : Measures
  m = measures ring.geometry

  -- the tally and the answer of a late run, whichever limit it is late by
  abbrev LateTells : (Ended : Ran → Tally → World → Type 0) → Ran → Tally → Type 0
  LateTells Ended answer tally' = TurnTells ring pcm facts.budget tally (Write CONTROL One 0 ∷ []) tally' (AgreesAs answer pcm tally') (Ended answer tally') old new

  late_turn : is_late m tally.course facts ≡ true → Turn (Write CONTROL One 0 ∷ [])
      → TurnTells ring pcm facts.budget tally (Write CONTROL One 0 ∷ []) (tally_if true m tally facts) (Agrees (line_of tally pcm) (run_sure m tally.course facts)) (WasStopped ring pcm (tally_if true m tally facts)) old new
  late_turn late made = tells_late ring pcm runs tally facts (some_block ring.geometry.format) is playing.started playing.written left_is playing.since playing.clock_from old new (playing.stands, playing.paced) late made small

  -- ---- a run

  abbrev Tells : Ran → Tally → Type 0
  Tells answer tally' = RunTells ring pcm facts.budget tally answer tally' old new

  late_run : (since_first : Bool) (course_from from to limit slack : ℕ) → TurnTells ring pcm facts.budget tally (Write CONTROL One 0 ∷ []) (tally_if true m tally facts) (Agrees (line_of tally pcm) (run_sure m tally.course facts)) (WasStopped ring pcm (tally_if true m tally facts)) old new
      → Tells (if since_first then Late course_from to limit else Late from to slack) (tally_if true m tally facts)
  late_run true course_from from to limit slack tells = tells
  late_run false course_from from to limit slack tells = tells

  stop_late : (since_first : Bool) (course_from from to limit slack : ℕ) → stop_accesses (if since_first then Late course_from to limit else Late from to slack) ≡ Write CONTROL One 0 ∷ []
  stop_late true course_from from to limit slack = refl
  stop_late false course_from from to limit slack = refl

  in_time : (drained : Bool) → is_late m tally.course facts ≡ false → has_drained m tally.course facts ≡ drained
      → Turn (stop_accesses (if drained then Drained else Playing)) → Tells (if drained then Drained else Playing) (tally_if false m tally facts)
  in_time true late done made = tells_drained ring pcm runs tally facts (some_block ring.geometry.format) is playing.started playing.written left_is playing.since playing.clock_from done old new (playing.stands, playing.paced) late made small
  in_time false late more made = tells_playing ring pcm runs tally facts (some_block ring.geometry.format) is playing.started playing.written left_is playing.since playing.clock_from old new (playing.stands, playing.paced) late more made small

  by_late : (late : Bool) → is_late m tally.course facts ≡ late
      → Turn (stop_accesses (tally_if late m tally facts).course.ran) → Tells (tally_if late m tally facts).course.ran (tally_if late m tally facts)
  by_late true late made =
      late_run (is_late_since m tally.course facts) tally.course.from facts.from facts.to m.limit m.slack
      (late_turn late (subst Turn (stop_late (is_late_since m tally.course facts) tally.course.from facts.from facts.to m.limit m.slack) made))
  by_late false late made = in_time (has_drained m tally.course facts) late refl made

  pub run_tells : (answer : Ran) (tally' : Tally) → tally' ≡ tally_after m tally facts → answer ≡ tally'.course.ran → Turn (stop_accesses answer) → Tells answer tally'
  run_tells answer tally' after ends made =
      let ran : answer ≡ (tally_after m tally facts).course.ran = ends ∙ ap (λ (t : Tally). t.course.ran) after in
      subst (Tells answer) (sym after)
      (subst (λ (answer : Ran). Tells answer (tally_after m tally facts)) (sym ran)
      (by_late (is_late m tally.course facts) refl (subst (λ (answer : Ran). Turn (stop_accesses answer)) ran made)))

  -- ---- the last run

  abbrev Ending : Ran → Tally → Type 0
  Ending answer tally' = TurnTells ring pcm facts.budget tally (Write CONTROL One 0 ∷ []) tally' (AgreesAs answer pcm tally') (EndsLast answer ring pcm tally') old new

  late_last : (since_first : Bool) (course_from from to limit slack : ℕ) → TurnTells ring pcm facts.budget tally (Write CONTROL One 0 ∷ []) (tally_if true m tally facts) (Agrees (line_of tally pcm) (run_sure m tally.course facts)) (WasStopped ring pcm (tally_if true m tally facts)) old new
      → Ending (if since_first then Late course_from to limit else Late from to slack) (tally_if true m tally facts)
  late_last true course_from from to limit slack tells = tells
  late_last false course_from from to limit slack tells = tells

  last_in_time : (drained : Bool) → is_late m tally.course facts ≡ false → has_drained m tally.course facts ≡ drained
      → Turn (Write CONTROL One 0 ∷ []) → Ending (if drained then Drained else Playing) (tally_if false m tally facts)
  last_in_time true late done made = tells_drained ring pcm runs tally facts (some_block ring.geometry.format) is playing.started playing.written left_is playing.since playing.clock_from done old new (playing.stands, playing.paced) late made small
  last_in_time false late more made = tells_more ring pcm runs tally facts (some_block ring.geometry.format) is playing.started playing.written left_is playing.since playing.clock_from old new (playing.stands, playing.paced) late made small

  last_by_late : (late : Bool) → is_late m tally.course facts ≡ late → Turn (Write CONTROL One 0 ∷ []) → Ending (tally_if late m tally facts).course.ran (tally_if late m tally facts)
  last_by_late true late made = late_last (is_late_since m tally.course facts) tally.course.from facts.from facts.to m.limit m.slack (late_turn late made)
  last_by_late false late made = last_in_time (has_drained m tally.course facts) late refl made

  pub finish_tells : (answer : Ran) (tally' : Tally) → tally' ≡ tally_after m tally facts → answer ≡ tally'.course.ran → Turn (Write CONTROL One 0 ∷ []) → Ending answer tally'
  finish_tells answer tally' after ends made =
      let ran : answer ≡ (tally_after m tally facts).course.ran = ends ∙ ap (λ (t : Tally). t.course.ran) after in
      subst (Ending answer) (sym after)
      (subst (λ (answer : Ran). Ending answer (tally_after m tally facts)) (sym ran) (last_by_late (is_late m tally.course facts) refl made))

-- so does a run of a writer, wherever its platform tells
pub run_tells_of : (ring : Ring) (pcm : List ℕ) (runs budget : ℕ) (tally tally' : Tally) (answer : Ran) (left left' : List ℕ) (old new : Option Telling) → IsCourse (size_of ring) runs tally.course
    → left ≡ drop tally.course.used pcm → PlaysRun ring.geometry ring.periods budget left tally answer tally' left' old new → Between (RunTellsOf ring pcm budget tally answer tally') old new
run_tells_of ring pcm runs budget tally tally' answer left left' old new is lent plays =
    let facts = facts_of budget (length left) plays.from plays.lpib plays.to in
    told_map (λ old new made playing small.
    run_tells ring pcm runs tally facts is (ap length lent) old new playing small answer tally' plays.tally_is plays.answer_is
    (subst (λ (pcm : List ℕ). Makes (turn_with ring.geometry ring.periods tally.course facts pcm (stop_accesses answer)) old new) lent made)) plays.made

pub finish_tells_of : (ring : Ring) (pcm : List ℕ) (runs : ℕ) (tally tally' : Tally) (answer : Ran) (left : List ℕ) (old new : Option Telling) → IsCourse (size_of ring) runs tally.course
    → left ≡ drop tally.course.used pcm → Finishes ring.geometry ring.periods left tally answer tally' old new → Between (FinishTellsOf ring pcm tally answer tally') old new
finish_tells_of ring pcm runs tally tally' answer left old new is lent finishes =
    let facts = facts_of 0 (length left) finishes.from finishes.lpib finishes.to in
    told_map (λ old new made playing small.
    finish_tells ring pcm runs tally facts is (ap length lent) old new playing small answer tally' finishes.tally_is finishes.answer_is
    (subst (λ (pcm : List ℕ). Makes (turn_with ring.geometry ring.periods tally.course facts pcm (Write CONTROL One 0 ∷ [])) old new) lent made)) finishes.made
