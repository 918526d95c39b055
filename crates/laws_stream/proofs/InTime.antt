-- The last run of a stream that plays on: it is in time where the device makes no step in it, and its line goes on from the line before.
use Rattle.std.proofs.Common.{◌≡◌, ◌≤◌, ◌+◌, ◌-◌, ◌*◌, ◌/◌, ◌==◌, ◌&&◌, not, ℕ, min, Bool, true, false, if◌then◌else◌, List, [], ◌∷◌, ◌++◌, append_assoc, map, drop, refl, sym, ap, subst, ◌∙◌, arith, rules}
use Rattle.std.specs.Prelude.{All, nat_lt}
use Rattle.std.specs.List.{range_with_len}
use Rattle.std.proofs.Math.Nat.{mod-eq_of_lt}
use Rattle.std.proofs.lemmas.Bool.{or_parts}
use Rattle.hda_registers.specs.declared.shapes.Width.TheVariants.{One, Four}
use Rattle.hda_registers.specs.declared.places.TheConstants.{WALCLK}
use Rattle.hda_registers.specs.Access.{value_at}
use Rattle.hda_registers.specs.Fields.{Fields}
use Rattle.hda_registers.proofs.Callers.{read-wall_clock}
use Rattle.hda_world.specs.Worlds.{World}
use Rattle.hda_world.specs.Events.{Event, Read, Write, happens, AreHonest, IsNoStep}
use Rattle.hda_world.specs.Tellings.{Telling, world_of, Went}
use Rattle.hda_world.proofs.Callers.{woven}
use Rattle.period_writer.specs.declared.course.Course.{Course}
use Rattle.period_writer.specs.declared.course.Ran.TheVariants as ran
use Rattle.period_writer.specs.declared.registers.TheConstants.{CONTROL}
use Rattle.period_writer.specs.Rings.{period_bytes, whole_blocks}
use Rattle.period_writer.specs.Courses.{IsCourse}
use Rattle.period_writer.specs.Runs.{RunFacts, Tally, Measures, measures, run_cut, run_reach, run_room, run_start, run_sound, takes_back, is_late, is_late_since, is_slow, tally_if}
use Rattle.period_writer.specs.Lines.{IsLine, line_of, sound_and_silence}
use Rattle.period_writer.specs.Places.{line_writes, piece_write, touched}
use Rattle.period_writer.specs.Playing.{run_bytes, writes_by, finish_accesses}
use Rattle.period_writer.specs.Standing.{Ring, size_of, limit_in}
use Rattle.period_writer.specs.Owning.{IsPlaying}
use Rattle.period_writer.specs.Outcomes.{HasNotWrapped, FinishTells}
use Rattle.laws_stream.proofs.Rows.{woven_alone, went_same}

-- a run that takes nothing back appends to the line
abbrev pub GrowsLaw : Type 0
GrowsLaw = (m : Measures) (runs : ℕ) (tally : Tally) (facts : RunFacts) (pcm : List ℕ) → IsCourse m.ring runs tally.course → IsLine tally → takes_back m tally.course facts ≡ false
    → line_of (tally_if false m tally facts) pcm ≡ line_of tally pcm ++ run_bytes m tally.course facts (drop tally.course.used pcm)

-- the clock that it reads last, where the device makes no step
row_read : (bytes : ℕ) (periods : List ℕ) (from to : ℕ) (written : List ℕ) (xs : List ℕ) (rest : List Event) (world : World) {A : Type 0}
    → ((later : World) → later.registers ≡ world.registers → AreHonest rest later → A) → AreHonest (map (piece_write bytes periods from to written) xs ++ rest) world → A
row_read bytes periods from to written [] rest world goes honest = goes world refl honest
row_read bytes periods from to written (x ∷ xs) rest world goes honest = row_read bytes periods from to written xs rest (happens world (piece_write bytes periods from to written x)) goes honest.1

clock_read : (bytes : ℕ) (periods : List ℕ) (start sound reach reach' : ℕ) (pcm : List ℕ) (clock : ℕ) (later : List Event) (world : World)
    → AreHonest (writes_by bytes periods start sound reach reach' pcm ++ (Read WALCLK Four clock ∷ later)) world → clock ≡ value_at world.registers WALCLK Four
clock_read bytes periods start sound reach reach' pcm clock later world honest =
    row_read bytes periods start (min reach (start + sound)) _ (range_with_len (start / bytes) (touched bytes start (min reach (start + sound)))) (line_writes bytes periods reach reach' (sound_and_silence (sound - (min reach (start + sound) - start)) (reach' - reach) (drop (min reach (start + sound) - start) pcm)) ++ (Read WALCLK Four clock ∷ later)) world
    (λ middle same honest. row_read bytes periods reach reach' _ (range_with_len (reach / bytes) (touched bytes reach reach')) (Read WALCLK Four clock ∷ later) middle (λ last same' honest. honest.0 ∙ ap (λ (fields : Fields). value_at fields WALCLK Four) (same' ∙ same)) honest)
    (subst (λ (events : List Event). AreHonest events world) (append_assoc (line_writes bytes periods start (min reach (start + sound)) (sound_and_silence (min reach (start + sound) - start) (min reach (start + sound) - start) pcm)) (line_writes bytes periods reach reach' (sound_and_silence (sound - (min reach (start + sound) - start)) (reach' - reach) (drop (min reach (start + sound) - start) pcm))) (Read WALCLK Four clock ∷ later)) honest)

-- with a budget of 0 nothing is taken back
no_budget : (m : Measures) (course : Course) (facts : RunFacts) → facts.budget ≡ 0 → takes_back m course facts ≡ false
no_budget m course facts none = by (nat_lt (run_cut m course facts) course.reach) where
  least : (block budget n : ℕ) → budget ≡ 0 → whole_blocks block (min budget n) ≡ 0
  least block budget n e = grind (arith, e)

  silent : (run_sound m course facts == 0) ≡ true
  silent = ap (λ (n : ℕ). n == 0) (least m.block facts.budget (min (run_room m course facts) facts.left) none)

  by : (below : Bool) → (below && not (run_sound m course facts == 0)) ≡ false
  by true = ap not silent
  by false = refl

never_late : (since_first : Bool) (course_from from to limit slack : ℕ) → ran.Playing ≡ (if since_first then ran.Late course_from to limit else ran.Late from to slack) → ⊥
never_late true course_from from to limit slack is = cc
never_late false course_from from to limit slack is = cc

playing_late : (late : Bool) (m : Measures) (tally : Tally) (facts : RunFacts) → is_late m tally.course facts ≡ late → ran.Playing ≡ (tally_if late m tally facts).course.ran → is_late m tally.course facts ≡ false
playing_late true m tally facts is plays = absurd (never_late (is_late_since m tally.course facts) tally.course.from facts.from facts.to m.limit m.slack plays)
playing_late false m tally facts is plays = is

not_more : (a b : ℕ) → nat_lt a b ≡ false → b ≤ a
not_more a b e = search (rules, e)

few_frames : (frames clock from limit : ℕ) → clock ≡ 500 * frames → clock - from ≤ 500 * limit → 500 * frames ≤ from + 500 * limit
few_frames frames clock from limit is few = omega (arith, is, few)

module _ (grows : GrowsLaw) (ring : Ring) (pcm : List ℕ) (tally tally' : Tally) (runs : ℕ) (course : IsCourse (size_of ring) runs tally.course) (begins ends : Telling)
    (playing : IsPlaying ring pcm tally (world_of begins)) (small : HasNotWrapped (world_of begins)) (run : FinishTells ring pcm tally ran.Playing tally' begins ends) (plays : ran.Playing ≡ tally'.course.ran) where
  abbrev m : Measures
  m = measures ring.geometry

  in_time : is_late m tally.course run.facts ≡ false
  in_time = playing_late (is_late m tally.course run.facts) m tally run.facts refl (plays ∙ ap (λ (tally : Tally). tally.course.ran) run.recorded)

  back_none : takes_back m tally.course run.facts ≡ false
  back_none = no_budget m tally.course run.facts run.budget_is

  pub line_is : line_of tally' pcm ≡ line_of tally pcm ++ run_bytes m tally.course run.facts (drop tally.course.used pcm)
  line_is =
      ap (λ (tally : Tally). line_of tally pcm) (run.recorded ∙ ap (λ (late : Bool). tally_if late m tally run.facts) in_time)
      ∙ grows m runs tally run.facts pcm course playing.written.line back_none

  -- where the device makes no step
  module _ (events : List Event) (went : Went begins ends events) (alone : All IsNoStep events) where
    clock_is : run.facts.to ≡ 500 * (world_of begins).frames
    clock_is =
        let weaving = woven run.made in
        let same : weaving.events ≡ events = went_same begins ends weaving.events events weaving.went went in
        let made : weaving.events ≡ finish_accesses ring.geometry ring.periods tally.course run.facts (drop tally.course.used pcm) =
        woven_alone (finish_accesses ring.geometry ring.periods tally.course run.facts (drop tally.course.used pcm)) weaving.events weaving.woven (subst (All IsNoStep) (sym same) alone) in
        let honest = subst (λ (events : List Event). AreHonest events (world_of begins)) made weaving.went.honest in
        clock_read (period_bytes ring.geometry.period) ring.periods (run_start m tally.course run.facts) (run_sound m tally.course run.facts) tally.course.reach (run_reach m tally.course run.facts) (drop tally.course.used pcm) run.facts.to (Write CONTROL One 0 ∷ []) (world_of begins) honest.1.1
        ∙ read-wall_clock (world_of begins).registers ∙ playing.stands.clock_is ∙ mod-eq_of_lt small

    pub few : 500 * (world_of begins).frames ≤ tally.course.from + 500 * limit_in ring
    few =
        let late : nat_lt (500 * m.limit) (run.facts.to - tally.course.from) ≡ false =
        (let first = (or_parts (is_late_since m tally.course run.facts) (is_slow m tally.course run.facts) in_time).0 in sym (ap (λ (started : Bool). started && nat_lt (500 * m.limit) (run.facts.to - tally.course.from)) playing.started) ∙ first) in
        few_frames (world_of begins).frames run.facts.to tally.course.from (limit_in ring) clock_is (not_more (500 * limit_in ring) (run.facts.to - tally.course.from) late)
