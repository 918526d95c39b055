-- How a driver that has come up plays by a schedule that serves the sound, round by round.
use Rattle.std.proofs.Common.{◌≡◌, ◌≤◌, ◌⊎◌, inr, ℕ, zero, suc, ◌+◌, ◌-◌, ◌*◌, min, Bool, true, false, List, [], ◌∷◌, length, map, Option, None, Some, refl, sym, ap, subst, ◌∙◌, arith, if◌then◌else◌}
use Rattle.std.specs.Prelude.{slice_get}
use Rattle.std.specs.Option.{option_map}
use Rattle.std.proofs.lemmas.Option.{slice_get-map}
use Rattle.codec_graph.specs.declared.raw.RawCodec.{RawCodec}
use Rattle.hda_world.specs.Worlds.{World}
use Rattle.hda_world.specs.Steps.{after_steps}
use Rattle.hda_world.specs.Events.{Event}
use Rattle.period_writer.specs.declared.course.Ran.TheVariants as ended
use Rattle.period_writer.specs.Runs.{Measures, Tally, facts_of, measures, tally_if, has_drained}
use Rattle.driver_progress.specs.declared.phase.Phase.{Phase}
use Rattle.driver_progress.specs.declared.phase.Phase.TheVariants.{Ready, Playing, Drained}
use Rattle.driver_progress.specs.Tasks.{Task}
use Rattle.driver_progress.specs.States.{State}
use Rattle.driver_progress.specs.Next.{led, closed, phase_played, tally_next}
use Rattle.driver_progress.specs.Progress.{Trail, seen_in}
use Rattle.laws_serving.specs.Rounds.{Round, frames_of_line, frames_of_steps, frames_to}
use Rattle.laws_serving.specs.ServingSchedules.{ServesSound}
use Rattle.laws_serving.specs.Coming.{HasComeTo}
use Rattle.laws_serving.proofs.Notes.{trail_made}
use Rattle.laws_serving.proofs.Worlds.{IsTimed}
use Rattle.laws_serving.proofs.Counting.{steps_count, timed_steps}
use Rattle.laws_serving.proofs.Asking.{leads_so, plainly_led, IsReady}
use Rattle.laws_serving.proofs.Laid.{RanRound, round_in}
use Rattle.laws_serving.proofs.Playing.{IsInTime, first_run, later_run, last_run, ends_played}
use Rattle.laws_serving.proofs.Whole.{IsLeft, next_round, last_round, line_in, state_over, world_after, Onward}

-- ---- what is asked of the rounds

-- each is in time and quick
pub record IsPrompt (limit slack : ℕ) (one : RanRound) (next : Option RanRound) : Type 0 where
  pub soon : frames_to one.round (option_map round_in next) ≤ limit
  pub quick : frames_of_line one.round.line ≤ slack

-- from the first that plays on
abbrev pub SoundServed : (commands limit slack : ℕ) → ℕ → List RanRound → World → Type 0
SoundServed commands limit slack count ran world =
    (index : ℕ) (one : RanRound) → 3 + commands ≤ count + index → slice_get ran index ≡ Some one → IsPrompt limit slack one (slice_get ran (suc index))

pub served_later : (commands limit slack count next : ℕ) (one : RanRound) (ran : List RanRound) (world : World) → next ≡ count + 1 → SoundServed commands limit slack count (one ∷ ran) world
    → SoundServed commands limit slack next ran (world_after one world)
served_later commands limit slack count next one ran world same served index other far there = served (suc index) other (omega (arith, far, same)) there

-- all that are left are prompt
abbrev pub ArePrompt : (limit slack : ℕ) → List RanRound → Type 0
ArePrompt limit slack ran = (index : ℕ) (one : RanRound) → slice_get ran index ≡ Some one → IsPrompt limit slack one (slice_get ran (suc index))

pub prompt_later : (limit slack : ℕ) (one : RanRound) (ran : List RanRound) → ArePrompt limit slack (one ∷ ran) → ArePrompt limit slack ran
prompt_later limit slack one ran prompt index other there = prompt (suc index) other there

-- ---- while it plays

-- the link frames of the next call, if there is one
abbrev pub next_frames : List RanRound → ℕ
next_frames [] = 0
next_frames (one ∷ ran) = frames_of_line one.round.line

pub frames_so : (one : RanRound) (ran : List RanRound) → frames_to one.round (option_map round_in (slice_get (one ∷ ran) 1)) ≡ frames_of_line one.round.line + frames_of_steps one.round.steps + next_frames ran
frames_so one [] = omega arith
frames_so one (two ∷ ran) = omega arith

-- before a call while the stream plays: since the begin of the call before, so many link frames passed at least, and the next one ends in time
pub record PlaysOn (task : Task) (commands : ℕ) (ran : List RanRound) (trail : Trail) (world : World) : Type 0 where
  pub phase : trail.state.phase ≡ Playing
  pub plays : trail.state.tally.course.ran ≡ ended.Playing
  pub sent_is : trail.state.sent ≡ commands
  pub since : ℕ
  pub from : 500 * since ≤ trail.state.tally.course.from
  pub timed : IsTimed since world
  pub soon : world.frames + next_frames ran ≤ since + (measures task.geometry).limit

-- and once it has drained
pub record IsOver (commands : ℕ) (trail : Trail) : Type 0 where
  pub phase : trail.state.phase ≡ Drained
  pub sent_is : trail.state.sent ≡ commands

how_played : (m : Measures) (tally : Tally) (budget left from lpib to : ℕ) → (tally_if false m tally (facts_of budget left from lpib to)).course.ran ≡ (if has_drained m tally.course (facts_of budget left from lpib to) then ended.Drained else ended.Playing)
how_played m tally budget left from lpib to = refl

module _ (task : Task) (graphs : List RawCodec) (closing : List Event) (commands : ℕ) where
  abbrev m : Measures
  m = measures task.geometry

  -- after a first run, and after a later one that did not drain
  pub played_on : (one : RanRound) (ran : List RanRound) (trail : Trail) (world new : World) (from : ℕ) → IsPrompt m.limit m.slack one (slice_get (one ∷ ran) 1) → trail.state.phase ≡ Playing → trail.state.tally.course.ran ≡ ended.Playing → trail.state.sent ≡ commands
      → trail.state.tally.course.from ≡ from → 500 * world.frames ≤ from → IsTimed world.frames new → new.frames ≤ world.frames + frames_of_line one.round.line → PlaysOn task commands ran trail (after_steps one.round.steps new)
  played_on one ran trail world new from prompt phase plays sent from_is first timed counted =
      let more = steps_count one.round.steps new in
      let within = prompt.soon in
      let all = frames_so one ran in
      record {
        phase = phase;
        plays = plays;
        sent_is = sent;
        since = world.frames;
        from = omega (arith, from_is, first);
        timed = timed_steps world.frames one.round.steps new timed;
        soon = omega (arith, more, within, all, counted);
      }

  pub later_in_time : (frames : ℕ) (ran : List RanRound) (trail : Trail) (world : World) → PlaysOn task commands ran trail world → frames ≤ world.frames + next_frames ran → IsInTime task frames trail
  later_in_time frames ran trail world on few =
      let from = on.from in
      let soon = on.soon in
      record { phase = on.phase; plays = on.plays; soon = omega (arith, from, soon, few) }

  -- ---- once it has drained

  pub stays_over : (ran : List RanRound) (world : World) (trail : Trail) → IsLeft task graphs ran closing world trail → IsOver commands trail
      → ((state_over task ran closing world trail).phase ≡ Drained) × ((state_over task ran closing world trail).sent ≡ commands)
  stays_over [] world trail left over =
      let last = last_round task graphs closing world trail left in
      let seen = seen_in (trail_made world trail closing) in
      let tally = tally_next task trail.state None seen in
      let is = leads_so task world trail last.trail' closing None left.closing_is last.is_called.noted last.turn ∙ ap (λ (phase : Phase). record (closed task trail.state seen tally phase) { tally = tally }) over.phase in
      (ap (λ (state : State). state.phase) (last.over ∙ is) ∙ over.phase, ap (λ (state : State). state.sent) (last.over ∙ is) ∙ over.sent_is)
  stays_over (one ∷ ran) world trail left over =
      let next = next_round task graphs one ran closing world trail left in
      let seen = seen_in (trail_made world trail one.accesses) in
      let line = line_in one in
      let tally = tally_next task trail.state (Some line) seen in
      let is = leads_so task world trail next.trail' one.accesses (Some line) next.are next.is_called.noted next.turn ∙ plainly_led task trail.state line seen next.calm.line.no_interrupt
      ∙ ap (λ (phase : Phase). record (led task trail.state seen tally phase) { tally = tally }) over.phase in
      let rest = stays_over ran (after_steps one.round.steps next.new) next.trail' next.later
      (record { phase = ap (λ (state : State). state.phase) is ∙ over.phase; sent_is = ap (λ (state : State). state.sent) is ∙ over.sent_is }) in
      (ap (λ (state : State). state.phase) next.over ∙ rest.0, ap (λ (state : State). state.sent) next.over ∙ rest.1)

  -- ---- while it plays

  -- it plays still at the end, or has drained
  abbrev pub SoundState : State → Type 0
  SoundState state = ((state.phase ≡ Playing) ⊎ (state.phase ≡ Drained)) × (state.sent ≡ commands)

  pub plays_over : (ran : List RanRound) (world : World) (trail : Trail) → ArePrompt m.limit m.slack ran → IsLeft task graphs ran closing world trail → PlaysOn task commands ran trail world → SoundState (state_over task ran closing world trail)
  plays_over [] world trail prompt left on =
      let last = last_round task graphs closing world trail left in
      let run = last_run task on.since trail last.trail' closing world (later_in_time world.frames [] trail world on (omega arith)) on.timed last.few left.closing_is last.honest last.is_called.noted last.turn in
      subst SoundState (sym last.over) (
        ends_played task last.trail'.state.phase last.trail'.state.tally.course.ran (has_drained m trail.state.tally.course (facts_of 0 (length task.pcm - trail.state.tally.course.used) run.shape.from run.shape.lpib run.shape.to)) run.phase_is
            (ap (λ (tally : Tally). tally.course.ran) run.tally_is),
        run.sent_is ∙ on.sent_is,
      )
  plays_over (one ∷ ran) world trail prompt left on =
      let next = next_round task graphs one ran closing world trail left in
      let here = prompt zero one refl in
      let quick = here.quick in
      let counted = next.is_called.frames in
      let done = later_run task on.since trail next.trail' (line_in one) one.accesses world next.new (later_in_time next.new.frames (one ∷ ran) trail world on counted) (omega (arith, quick, counted)) on.timed
      next.are next.is_called.row next.is_called.noted next.turn next.calm.line.no_interrupt next.few in
      let run = done.0 in
      let drained = has_drained m trail.state.tally.course (facts_of one.round.line.budget (length task.pcm - trail.state.tally.course.used) run.shape.from run.shape.lpib run.shape.to) in
      subst SoundState (sym next.over)
      (by next.new next.trail' run.shape.from (state_over task ran closing (after_steps one.round.steps next.new) next.trail') drained (ap (λ (tally : Tally). tally.course.ran) run.tally_is) run.phase_is (run.sent_is ∙ on.sent_is) (ap (λ (tally : Tally). tally.course.from) run.tally_is) run.clock
      (played_on one ran next.trail' world next.new run.shape.from here) done.1 counted (plays_over ran (after_steps one.round.steps next.new) next.trail' (prompt_later m.limit m.slack one ran prompt) next.later)
      (stays_over ran (after_steps one.round.steps next.new) next.trail' next.later))
    where
      by : (new : World) (trail' : Trail) (from : ℕ) (state : State) (drained : Bool) → trail'.state.tally.course.ran ≡ (if drained then ended.Drained else ended.Playing) → trail'.state.phase ≡ phase_played task trail'.state.tally.course.ran → trail'.state.sent ≡ commands
          → trail'.state.tally.course.from ≡ from → 500 * world.frames ≤ from
          → (trail'.state.phase ≡ Playing → trail'.state.tally.course.ran ≡ ended.Playing → trail'.state.sent ≡ commands → trail'.state.tally.course.from ≡ from → 500 * world.frames ≤ from → IsTimed world.frames new
          → new.frames ≤ world.frames + frames_of_line one.round.line → PlaysOn task commands ran trail' (after_steps one.round.steps new))
          → IsTimed world.frames new → new.frames ≤ world.frames + frames_of_line one.round.line → (PlaysOn task commands ran trail' (after_steps one.round.steps new) → SoundState state)
          → (IsOver commands trail' → (state.phase ≡ Drained) × (state.sent ≡ commands)) → SoundState state
      by new trail' from state true how phase sent from_is first on timed counted plays over =
          let done = over (record { phase = phase ∙ ap (phase_played task) how; sent_is = sent }) in (inr done.0, done.1)
      by new trail' from state false how phase sent from_is first on timed counted plays over = plays (on (phase ∙ ap (phase_played task) how) how sent from_is first timed counted)

  -- ---- from Ready on

  pub all_sent : (total : ℕ) → 3 + commands ≤ total → commands ≡ min commands (total - 2)
  all_sent total enough = grind arith

  ready_ends : (total : ℕ) (state : State) → 3 + commands ≡ total → task.plays ≡ true → state.phase ≡ Ready → state.sent ≡ commands → HasComeTo commands total task.plays state
  ready_ends total state counted loud ready sent = record {
    sent = sent ∙ all_sent total (omega (arith, counted));
    left = λ early. absurd (omega (arith, counted, early));
    ready = λ late before. ready;
    silent = λ late quiet. ready;
    sounds = λ late plays. absurd (omega (arith, counted, late));
  }

  sound_ends : (total : ℕ) (state : State) → 4 + commands ≤ total → task.plays ≡ true → SoundState state → HasComeTo commands total task.plays state
  sound_ends total state enough loud sounds = record {
    sent = sounds.1 ∙ all_sent total (omega (arith, enough));
    left = λ early. absurd (omega (arith, enough, early));
    ready = λ late before. absurd (omega (arith, enough, before));
    silent = λ late quiet. let z : true ≡ false = sym loud ∙ quiet in cc;
    sounds = λ late plays. sounds.0;
  }

  ready_over : (total : ℕ) → task.plays ≡ true → (ran : List RanRound) (least : ℕ) (world : World) (trail : Trail) → 3 + commands + length ran ≡ total → SoundServed commands m.limit m.slack (3 + commands) ran world
      → IsLeft task graphs ran closing world trail → IsReady task commands least trail world → HasComeTo commands total task.plays (state_over task ran closing world trail)
  ready_over total loud [] least world trail counted served left ready =
      let last = last_round task graphs closing world trail left in
      let seen = seen_in (trail_made world trail closing) in
      let tally = tally_next task trail.state None seen in
      let is = leads_so task world trail last.trail' closing None left.closing_is last.is_called.noted last.turn ∙ ap (λ (phase : Phase). record (closed task trail.state seen tally phase) { tally = tally }) ready.phase in
      subst (HasComeTo commands total task.plays) (sym last.over)
      (ready_ends total last.trail'.state (omega (arith, counted)) loud (ap (λ (state : State). state.phase) is ∙ ready.phase) (ap (λ (state : State). state.sent) is ∙ ready.sent_is))
  ready_over total loud (one ∷ ran) least world trail counted served left ready =
      let next = next_round task graphs one ran closing world trail left in
      let prompt : ArePrompt m.limit m.slack (one ∷ ran) = λ index other there. served index other (omega arith) there in
      let run = first_run task least trail next.trail' (line_in one) one.accesses world next.new loud ready.phase ready.tally_is ready.timed next.are next.is_called.row next.is_called.noted next.turn next.calm.line.no_interrupt next.few in
      let on = played_on one ran next.trail' world next.new run.shape.from (prompt zero one refl) run.phase (ap (λ (tally : Tally). tally.course.ran) run.tally_is) (run.sent_is ∙ ready.sent_is) (ap (λ (tally : Tally). tally.course.from) run.tally_is)
      run.clocks.first run.clocks.timed next.is_called.frames in
      subst (HasComeTo commands total task.plays) (sym next.over)
      (sound_ends total (state_over task ran closing (after_steps one.round.steps next.new) next.trail') (omega (arith, counted)) loud
      (plays_over ran (after_steps one.round.steps next.new) next.trail' (prompt_later m.limit m.slack one ran prompt) next.later on))

-- where it leads, if the sound is served
pub sound_onward : (task : Task) (graphs : List RawCodec) (closing : List Event) (total : ℕ) → task.plays ≡ true
    → Onward task graphs closing total (SoundServed (length task.orders) (measures task.geometry).limit (measures task.geometry).slack) (HasComeTo (length task.orders) total task.plays)
sound_onward task graphs closing total loud = record {
  later = λ count next one ran world early quiet same served. served_later (length task.orders) (measures task.geometry).limit (measures task.geometry).slack count next one ran world same served;
  early = λ state few come. come;
  ready = ready_over task graphs closing (length task.orders) total loud;
}

-- as a schedule says it
pub first_served : (commands limit slack : ℕ) (ran : List RanRound) (world : World) → ServesSound commands limit slack (map round_in ran) → SoundServed commands limit slack 0 ran world
first_served commands limit slack ran world serves index one far there =
    let past = index - (3 + commands) in
    let at : 3 + commands + past ≡ index = omega (arith, far) in
    let behind : 4 + commands + past ≡ suc index = omega (arith, far) in
    let round : slice_get (map round_in ran) (3 + commands + past) ≡ Some one.round = ap (slice_get (map round_in ran)) at ∙ slice_get-map round_in ran index ∙ ap (option_map round_in) there in
    record {
      soon = subst (λ (next : Option Round). frames_to one.round next ≤ limit) (ap (slice_get (map round_in ran)) behind ∙ slice_get-map round_in ran (suc index)) (serves.in_time past one.round round);
      quick = serves.quick past one.round round;
    }
