-- Round by round: in each turn the FIFO serves the link, and the call behind it finds the link where it stands then.
use Rattle.std.proofs.Common.{◌≡◌, ◌≤◌, ◌<◌, ℕ, zero, suc, ◌+◌, ◌-◌, ◌*◌, ◌==◌, ◌&&◌, min, nat_le, Bool, true, false, List, [], ◌∷◌, ◌++◌, length, map, take, None, Some, refl, sym, ap, subst, ◌∙◌, arith, rules, append_assoc, if◌then◌else◌}
use Rattle.std.specs.Prelude.{All, sum, slice_get}
use Rattle.std.proofs.lemmas.Nat.{mul-le}
use Rattle.std.proofs.lemmas.List.{length-append}
use Rattle.std.proofs.lemmas.List.Sums.{sum_by-cons}
use Rattle.std.proofs.lemmas.List.Elements.{All-nil, All-cons, All-append}
use Rattle.std.proofs.lemmas.Option.{slice_get_within}
use Rattle.codec_graph.specs.declared.raw.RawCodec.{RawCodec}
use Rattle.codec_graph.specs.CodecStates.{CodecState}
use Rattle.world_steps.specs.declared.Step.{Step}
use Rattle.world_steps.specs.declared.Step.TheVariants as step
use Rattle.schedule_reader.specs.declared.schedule.Group.{Group}
use Rattle.hda_registers.specs.declared.shapes.Width.TheVariants.{Four}
use Rattle.hda_registers.specs.declared.shapes.Shape.{Shape}
use Rattle.hda_registers.specs.declared.places.TheConstants.{WALCLK}
use Rattle.hda_registers.specs.Fields.{Descriptor, is_out_of_reset, is_running}
use Rattle.stream_format.specs.Layouts.{Layout, layout_of}
use Rattle.world_streams.specs.Streams.{StreamState, due_by}
use Rattle.hda_world.specs.Worlds.{World}
use Rattle.hda_world.specs.Steps.{after_steps}
use Rattle.hda_world.specs.Events.{Event, Read, after}
use Rattle.hda_world.specs.Leaving.{StepsLeave, StreamsStay}
use Rattle.hda_world.proofs.Callers.{steps_leave, events_front}
use Rattle.laws_stream.specs.Lives.{Runs, Along}
use Rattle.period_writer.specs.declared.registers.TheConstants.{POSITION}
use Rattle.period_writer.specs.declared.course.Ran.{Ran}
use Rattle.period_writer.specs.declared.course.Ran.TheVariants as ended
use Rattle.period_writer.specs.declared.course.Span.{Span}
use Rattle.period_writer.specs.Playing.{stop_accesses}
use Rattle.period_writer.specs.Runs.{Measures, RunFacts, Tally, facts_of, measures, run_at, run_of, run_sound, run_sound_end, tally_if, has_drained, taken_up_if}
use Rattle.driver_progress.specs.declared.phase.Phase.{Phase}
use Rattle.driver_progress.specs.declared.phase.Phase.TheVariants.{Drained}
use Rattle.driver_progress.specs.Tasks.{Task}
use Rattle.driver_progress.specs.States.{State}
use Rattle.driver_progress.specs.Requests.{requests_of}
use Rattle.driver_progress.specs.Next.{closed, phase_played, tally_next}
use Rattle.driver_progress.specs.Progress.{Trail, seen_in}
use Rattle.laws_serving.proofs.Callers.{IsAccess, none_asked, within_call, alone_is, trail_made, leads_so, RanRound, round_in, rest_events, IsLeft, last_round, state_over, world_after, ArePrompt, prompt_later}
use Rattle.laws_serving.proofs.SoundCallers.{IsFull, IsBesideSound, StreamLaws, appends_store, store_beside, runs_at, Ground, AreGenerous, IsFed, CallFeeds, call_feeds, fed_on, drains}
use Rattle.laws_serving.specs.Turns.{IsTurn, IsLastCall, AreInTurns, CarriedBytes}
use Rattle.laws_serving.proofs.Serving.{Serves, turn_serves}
use Rattle.laws_serving.proofs.Standing.{accesses_stand, accesses_carry, closing_carries, rest_on, KeepShapes, events_shape}

-- each call of turns may write a ring
pub generous_turns : (ring block fifo : ℕ) (lengths : List ℕ) (ran : List RanRound) → AreInTurns ring block fifo lengths (map round_in ran) → AreGenerous ring ran
generous_turns ring block fifo [] [] turns = absurd turns
generous_turns ring block fifo [] (first ∷ []) turns = λ index one there. by index one there
  where
    by : (index : ℕ) (one : RanRound) → slice_get (first ∷ []) index ≡ Some one → ring ≤ one.round.line.budget
    by zero one there = let same : first ≡ one = cc in subst (λ (one : RanRound). ring ≤ one.round.line.budget) same turns.call.wide
    by (suc index) one there = absurd (let within = slice_get_within (first ∷ []) (suc index) one there in omega (arith, within))
generous_turns ring block fifo [] (first ∷ second ∷ ran) turns = absurd turns
generous_turns ring block fifo (frames ∷ lengths) [] turns = absurd turns
generous_turns ring block fifo (frames ∷ lengths) (first ∷ ran) turns = λ index one there. by index one there (generous_turns ring block fifo lengths ran turns.1)
  where
    by : (index : ℕ) (one : RanRound) → slice_get (first ∷ ran) index ≡ Some one → AreGenerous ring ran → ring ≤ one.round.line.budget
    by zero one there later = let same : first ≡ one = cc in subst (λ (one : RanRound). ring ≤ one.round.line.budget) same turns.0.call.wide
    by (suc index) one there later = later index one there

-- so many frames are not reached by a front of the turns that are left
abbrev pub AreFewer : (frames so_far : ℕ) → List ℕ → Type 0
AreFewer frames so_far lengths = (fewer : ℕ) → fewer < length lengths → so_far + sum (take fewer lengths) < frames

not_through : (a b : ℕ) → b < a → nat_le a b ≡ false
not_through a b less = search (rules, less)

and_last : (a b c : Bool) → c ≡ false → (a && b && c) ≡ false
and_last true true c is = is
and_last true false c is = refl
and_last false b c is = refl

module _ (laws : StreamLaws) (shapes : KeepShapes) (task : Task) (graphs : List RawCodec) (closing : List Event) (commands : ℕ) (codecs : List CodecState) (tag word : ℕ) (layout : Layout) (most : ℕ) (ground : Ground task word layout most)
    (start : World) (during later : List Event) (along : Along Runs during start) (frames fifo : ℕ) (long : length task.pcm ≡ frames * (measures task.geometry).block)
    (one_block : (frame : ℕ) → due_by (layout_of word) frame ≡ (measures task.geometry).block) (fifo_is : start.registers.shape.fifo ≡ fifo) where
  abbrev m : Measures
  m = measures task.geometry

  abbrev total : ℕ
  total = length task.pcm

  abbrev Fed : List RanRound → Trail → World → Type 0
  Fed ran trail world = IsFed laws task graphs closing commands codecs tag word layout most ground start during later along ran trail world

  abbrev Calls : RanRound → List RanRound → World → Trail → Type 0
  Calls one ran world trail = CallFeeds laws task graphs closing commands codecs tag word layout most ground start during later along one ran world trail

  -- before a call, after so many link frames and runs
  pub record IsTurning (so_far count : ℕ) (ran : List RanRound) (trail : Trail) (world : World) : Type 0 where
    pub fed : Fed ran trail world
    pub left : world.output.left ≡ so_far * m.block
    pub runs : length trail.state.tally.runs ≡ count
    pub carried : length world.carried ≡ so_far
    pub sent : All (CarriedBytes m.block) world.carried

  -- ---- the link frames of a turn

  pub turned : (so_far here count : ℕ) (one : RanRound) (ran : List RanRound) (new : World) (trail : Trail) → Fed ran trail (after_steps one.round.steps new) → IsTurn m.ring m.block fifo here one.round
      → new.output.left ≡ so_far * m.block → new.output.left ≤ length new.output.entered → length new.carried ≡ so_far → All (CarriedBytes m.block) new.carried → length trail.state.tally.runs ≡ count
      → IsTurning (so_far + here) count ran trail (after_steps one.round.steps new)
  turned so_far here count one ran new trail fed turn left behind carried sent runs =
      let world = after_steps one.round.steps new in
      let leaves : StepsLeave new world = steps_leave one.round.steps new in
      let word_new : new.registers.output.format ≡ word = sym (ap (λ (descriptor : Descriptor). descriptor.format) leaves.registers.output.only) ∙ fed.rolls.steady.word_is in
      let out_new : is_out_of_reset new.registers.global ≡ true = sym (ap is_out_of_reset leaves.registers.global) ∙ fed.on.timed.out in
      let shape_new : new.registers.shape ≡ start.registers.shape =
      sym leaves.registers.shape ∙ ap (λ (now : World). now.registers.shape) fed.world_is ∙ events_shape shapes fed.so_far start in
      let running : Runs world = subst Runs (sym fed.world_is) (runs_at fed.so_far (rest_events ran closing) during later start fed.rest_is fed.quiet along) in
      let still : is_running (after_steps (step.Fetch 1 turn.most ∷ step.Link here ∷ []) new).registers.output ≡ true =
      ap (λ (steps : List Step). is_running (after_steps steps new).registers.output) (sym turn.steps) ∙ running.running in
      let served = turn_serves m.block word ground.whole.some_block one_block fifo turn.most here new out_new word_new (ap (λ (shape : Shape). shape.fifo) shape_new ∙ fifo_is) behind turn.fills turn.serves still in
      let serves = subst (λ (steps : List Step). Serves m.block here new (after_steps steps new)) (sym turn.steps) served in
      let left_on = serves.left in
      let wide : (so_far + here) * m.block ≡ so_far * m.block + here * m.block = omega arith in
      let more = length-append new.carried serves.more in
      let is = ap length serves.carried in
      let count_is = serves.count_is in
      record {
        fed = fed;
        left = omega (arith, left, left_on, wide);
        runs = runs;
        carried = omega (arith, is, more, carried, count_is);
        sent = subst (All (CarriedBytes m.block)) (sym serves.carried) (All-append (CarriedBytes m.block) new.carried serves.more sent serves.are);
      }

  -- ---- the call of a turn

  abbrev facts_in : (one : RanRound) (ran : List RanRound) (world : World) (trail : Trail) → Calls one ran world trail → RunFacts
  facts_in one ran world trail call = facts_of one.round.line.budget (total - trail.state.tally.course.used) call.run.shape.from call.run.shape.lpib call.run.shape.to

  -- a run stands where the link is
  at_link : (so_far count : ℕ) (one : RanRound) (ran : List RanRound) (world : World) (trail : Trail) → one.round.line.groups ≡ [] → IsTurning so_far count (one ∷ ran) trail world → (call : Calls one ran world trail)
      → run_at m trail.state.tally.course (facts_in one ran world trail call) ≡ so_far * m.block
  at_link so_far count one ran world trail alone turning call =
      let finds = call.looks.finds in
      let back = Read POSITION Four call.run.shape.lpib ∷ finds.behind in
      let body : one.accesses ≡ finds.before ++ back = sym (ap (λ (groups : List Group). within_call groups one.accesses) alone ∙ alone_is one.accesses) ∙ finds.is in
      let are = events_front IsAccess finds.before back (subst (All IsAccess) body call.on_next.are) in
      let stands = accesses_stand finds.before world are finds.beside in
      call.looks.at_is ∙ ap (λ (state : StreamState). state.left) stands.output ∙ turning.left

  -- the tally after it has one run more
  runs_on : (so_far count : ℕ) (one : RanRound) (ran : List RanRound) (world : World) (trail : Trail) → IsTurning so_far count (one ∷ ran) trail world → (call : Calls one ran world trail) → length call.on_next.trail'.state.tally.runs ≡ count + 1
  runs_on so_far count one ran world trail turning call =
      let is = ap (λ (tally : Tally). length tally.runs) call.run.tally_is in
      let more = length-append trail.state.tally.runs (run_of m trail.state.tally.course (facts_in one ran world trail call) ∷ []) in
      let was = turning.runs in omega (arith, is, more, was)

  -- and has not drained, while the link is before the sound's end
  not_drained : (so_far count : ℕ) (one : RanRound) (ran : List RanRound) (world : World) (trail : Trail) → one.round.line.groups ≡ [] → IsTurning so_far count (one ∷ ran) trail world → (call : Calls one ran world trail) → so_far < frames
      → has_drained m trail.state.tally.course (facts_in one ran world trail call) ≡ false
  not_drained so_far count one ran world trail alone turning call less =
      let facts = facts_in one ran world trail call in
      let was = trail.state.tally.course in
      let at = at_link so_far count one ran world trail alone turning call in
      let full : IsFull m total (tally_if false m trail.state.tally facts) = subst (IsFull m total) call.run.tally_is call.full in
      let wide = mul-le (so_far + 1) m.block frames m.block (omega (arith, less)) (omega arith) in
      let some = ground.whole.some_block in
      let before : run_at m was facts < total = omega (arith, at, wide, long, some) in
      let past = numbers (run_sound_end m was facts) (was.used + run_sound m was facts) (run_at m was facts) m.ring total full.ends full.used before ground.whole.some_ring in
      and_last was.started (facts.left == run_sound m was facts) (nat_le (run_sound_end m was facts) (run_at m was facts)) (not_through (run_sound_end m was facts) (run_at m was facts) past)
    where
      numbers : (end used at ring total : ℕ) → end ≡ used → used ≡ min (at + ring) total → at < total → 1 ≤ ring → at < end
      numbers end used at ring total a b c d = grind (arith, a, b, c, d)

  how_is : (one : RanRound) (ran : List RanRound) (world : World) (trail : Trail) → (call : Calls one ran world trail) → (drained : Bool) → has_drained m trail.state.tally.course (facts_in one ran world trail call) ≡ drained
      → call.on_next.trail'.state.tally.course.ran ≡ (if drained then ended.Drained else ended.Playing)
  how_is one ran world trail call drained is = ap (λ (tally : Tally). tally.course.ran) call.run.tally_is ∙ ap (λ (drained : Bool). if drained then ended.Drained else ended.Playing) is

  -- a call that plays on leaves the stream as it is
  call_stands : (one : RanRound) (ran : List RanRound) (world : World) (trail : Trail) → one.round.line.groups ≡ [] → (call : Calls one ran world trail) → call.on_next.trail'.state.tally.course.ran ≡ ended.Playing → StreamsStay world call.on_next.new
  call_stands one ran world trail alone call how =
      let next = call.on_next in
      let shape = call.run.shape in
      let none = none_asked shape.back shape.back_are (shape.back_asks ∙ ap (λ (how : Ran). requests_of (stop_accesses how)) how) in
      let middle = store_beside shape.middle (appends_store task trail.state one.round.line.budget (seen_in (trail_made world trail one.accesses)) shape.middle shape.middle_are shape.middle_asks) in
      let last : List Event = Read WALCLK Four shape.to ∷ shape.back in
      let back : List Event = Read POSITION Four shape.lpib ∷ (shape.middle ++ last) in
      let back_beside = All-cons IsBesideSound (Read POSITION Four shape.lpib) (shape.middle ++ last) tt
      (All-append IsBesideSound shape.middle last middle (All-cons IsBesideSound (Read WALCLK Four shape.to) shape.back tt (subst (All IsBesideSound) (sym none) (All-nil IsBesideSound)))) in
      let beside = subst (All IsBesideSound) (append_assoc shape.front (Read WALCLK Four shape.from ∷ []) back ∙ sym shape.is) (All-append IsBesideSound (shape.front ++ Read WALCLK Four shape.from ∷ []) back call.front back_beside) in
      let is : next.new ≡ after one.accesses world =
      next.new_is ∙ ap (λ (groups : List Group). after (within_call groups one.accesses) world) alone ∙ ap (λ (events : List Event). after events world) (alone_is one.accesses) in
      subst (StreamsStay world) (sym is) (accesses_stand one.accesses world next.are beside)

  -- ---- the last calls

  -- where all turns lead
  pub record HasTurned (so_far count : ℕ) (state : State) (world : World) : Type 0 where
    pub phase : state.phase ≡ Drained
    pub runs : length state.tally.runs ≡ count
    pub silences : state.tally.silences ≡ record { start = frames * m.block; end = so_far * m.block + m.ring } ∷ []
    pub carried : length world.carried ≡ so_far
    pub sent : All (CarriedBytes m.block) world.carried

  -- the closing call finds it drained, and leaves it
  closes_drained : (world : World) (trail : Trail) → IsLeft task graphs [] closing world trail → trail.state.phase ≡ Drained → trail.state.tally.course.ran ≡ ended.Drained
      → ((state_over task [] closing world trail).phase ≡ Drained) × ((state_over task [] closing world trail).tally ≡ trail.state.tally)
  closes_drained world trail left drained how =
      let last = last_round task graphs closing world trail left in
      let seen = seen_in (trail_made world trail closing) in
      let tally = tally_next task trail.state None seen in
      let tally_is : tally ≡ trail.state.tally = ap (λ (how : Ran). taken_up_if how seen.clocks m total (record { budget = 0; clocks = seen.clocks; lpibs = seen.positions }) trail.state.tally) how in
      let is = last.over ∙ leads_so task world trail last.trail' closing None left.closing_is last.is_called.noted last.turn ∙ ap (λ (phase : Phase). record (closed task trail.state seen tally phase) { tally = tally }) drained in
      (ap (λ (state : State). state.phase) is ∙ drained, ap (λ (state : State). state.tally) is ∙ tally_is)

  -- the last call of the schedule finds the link at the sound's end or behind it
  ends : (so_far count : ℕ) (one : RanRound) (world final : World) (trail : Trail) → ArePrompt m.limit m.slack (one ∷ []) → IsLastCall m.ring one.round → AreGenerous m.ring (one ∷ []) → IsLeft task graphs (one ∷ []) closing world trail
      → IsTurning so_far count (one ∷ []) trail world → final ≡ after (rest_events (one ∷ []) closing) world → frames ≤ so_far → HasTurned so_far (count + 1) (state_over task (one ∷ []) closing world trail) final
  ends so_far count one world final trail prompt last generous left turning final_is enough =
      let call = call_feeds laws task graphs closing commands codecs tag word layout most ground start during later along one [] world trail prompt generous left turning.fed in
      let next = call.on_next in
      let tally = trail.state.tally in
      let facts = facts_in one [] world trail call in
      let alone = last.call.alone in
      let at = at_link so_far count one [] world trail alone turning call in
      let wide = mul-le frames m.block so_far m.block enough (omega arith) in
      let past : total ≤ run_at m tally.course facts = omega (arith, at, wide, long) in
      let drained = drains laws task graphs closing commands codecs tag word layout most ground start during later along tally facts turning.fed.full refl call.looks.later_on call.looks.soon call.looks.whole past in
      let how = how_is one [] world trail call true drained in
      let there = after_steps one.round.steps next.new in
      let closes = closes_drained there next.trail' next.later (call.run.phase_is ∙ ap (phase_played task) how) how in
      let tally_then : Tally = (state_over task (one ∷ []) closing world trail).tally in
      let tally_is : tally_then ≡ next.trail'.state.tally = ap (λ (state : State). state.tally) next.over ∙ closes.1 in
      let at_then : next.trail'.state.tally.course.at ≡ so_far * m.block = ap (λ (tally : Tally). tally.course.at) call.run.tally_is ∙ at in
      let reach = call.full.reach in
      let some = ground.whole.some_ring in
      let reach_is : next.trail'.state.tally.course.reach ≡ so_far * m.block + m.ring = omega (arith, reach, at_then) in
      let silences = call.full.one (omega (arith, reach_is, wide, long, some)) in
      let steps_are : world_after one world ≡ after one.accesses world =
      ap (λ (steps : List Step). after_steps steps (after (within_call one.round.line.groups one.accesses) world)) last.none
      ∙ ap (λ (groups : List Group). after (within_call groups one.accesses) world) alone ∙ ap (λ (events : List Event). after events world) (alone_is one.accesses) in
      let carried : final.carried ≡ world.carried =
      ap (λ (now : World). now.carried) (final_is ∙ rest_on one [] closing world)
      ∙ closing_carries closing (world_after one world) left.closing_is
      ∙ ap (λ (now : World). now.carried) steps_are
      ∙ accesses_carry one.accesses world next.are in
      record {
        phase = ap (λ (state : State). state.phase) next.over ∙ closes.0;
        runs = ap (λ (tally : Tally). length tally.runs) tally_is ∙ runs_on so_far count one [] world trail turning call;
        silences = one_silence tally_then.silences next.trail'.state.tally.silences total (frames * m.block) next.trail'.state.tally.course.reach (so_far * m.block + m.ring)
            (ap (λ (tally : Tally). tally.silences) tally_is) silences long reach_is;
        carried = ap length carried ∙ turning.carried;
        sent = subst (All (CarriedBytes m.block)) (sym carried) turning.sent;
      }
    where
      one_silence : (last silences : List Span) (start start' end end' : ℕ) → last ≡ silences → silences ≡ record { start = start; end = end } ∷ [] → start ≡ start' → end ≡ end' → last ≡ record { start = start'; end = end' } ∷ []
      one_silence last silences start start' end end' same is starts ends =
          same ∙ is ∙ ap (λ (start : ℕ). record { start = start; end = end } ∷ []) starts ∙ ap (λ (end : ℕ). record { start = start'; end = end } ∷ []) ends

  -- ---- all turns that are left

  pub turns_on : (lengths : List ℕ) (so_far count : ℕ) (ran : List RanRound) (world final : World) (trail : Trail) → ArePrompt m.limit m.slack ran → AreInTurns m.ring m.block fifo lengths (map round_in ran) → IsLeft task graphs ran closing world trail
      → IsTurning so_far count ran trail world → final ≡ after (rest_events ran closing) world → frames ≤ so_far + sum lengths → AreFewer frames so_far lengths
      → HasTurned (so_far + sum lengths) (count + length lengths + 1) (state_over task ran closing world trail) final
  turns_on [] so_far count [] world final trail prompt turns left turning final_is enough fewer = absurd turns
  turns_on [] so_far count (one ∷ []) world final trail prompt turns left turning final_is enough fewer =
      let none : so_far ≡ so_far + sum [] = omega arith in
      let same : count + 1 ≡ count + length {A = ℕ} [] + 1 = omega arith in
      subst (λ (n : ℕ). HasTurned n (count + length {A = ℕ} [] + 1) (state_over task (one ∷ []) closing world trail) final) none
      (subst (λ (n : ℕ). HasTurned so_far n (state_over task (one ∷ []) closing world trail) final) same
      (ends so_far count one world final trail prompt turns (generous_turns m.ring m.block fifo [] (one ∷ []) turns) left turning final_is (omega (arith, enough, none))))
  turns_on [] so_far count (one ∷ two ∷ ran) world final trail prompt turns left turning final_is enough fewer = absurd turns
  turns_on (here ∷ lengths) so_far count [] world final trail prompt turns left turning final_is enough fewer = absurd turns
  turns_on (here ∷ lengths) so_far count (one ∷ ran) world final trail prompt turns left turning final_is enough fewer =
      let call = call_feeds laws task graphs closing commands codecs tag word layout most ground start during later along one ran world trail prompt (generous_turns m.ring m.block fifo (here ∷ lengths) (one ∷ ran) turns) left turning.fed in
      let next = call.on_next in
      let turn = turns.0 in
      let alone = turn.call.alone in
      let soon = fewer 0 (omega arith) in
      let playing = not_drained so_far count one ran world trail alone turning call (omega (arith, soon)) in
      let how = how_is one ran world trail call false playing in
      let fed = fed_on laws task graphs closing commands codecs tag word layout most ground start during later along one ran world trail prompt turning.fed call how in
      let stands = call_stands one ran world trail alone call how in
      let there = after_steps one.round.steps next.new in
      let on = turned so_far here (count + 1) one ran next.new next.trail' fed turn (ap (λ (state : StreamState). state.left) stands.output ∙ turning.left)
      (subst (λ (state : StreamState). state.left ≤ length state.entered) (sym stands.output) turning.fed.rolls.sent.behind) (ap length stands.carried ∙ turning.carried)
      (subst (All (CarriedBytes m.block)) (sym stands.carried) turning.sent) (runs_on so_far count one ran world trail turning call) in
      let all = sum_by-cons (λ (n : ℕ). n) here lengths in
      let final_there : final ≡ after (rest_events ran closing) there =
      final_is ∙ rest_on one ran closing world ∙ ap (λ (new : World). after (rest_events ran closing) (after_steps one.round.steps new)) (sym next.new_is) in
      let done = turns_on lengths (so_far + here) (count + 1) ran there final next.trail' (prompt_later m.limit m.slack one ran prompt) turns.1 next.later on final_there (omega (arith, enough, all))
      (λ fewer_on less. let few = fewer (suc fewer_on) (omega (arith, less)) in let cons = sum_by-cons (λ (n : ℕ). n) here (take fewer_on lengths) in omega (arith, few, cons)) in
      let sum_is : so_far + here + sum lengths ≡ so_far + sum (here ∷ lengths) = omega (arith, all) in
      let count_is : count + 1 + length lengths + 1 ≡ count + length (here ∷ lengths) + 1 = omega arith in
      subst (λ (state : State). HasTurned (so_far + sum (here ∷ lengths)) (count + length (here ∷ lengths) + 1) state final) (sym next.over)
      (subst (λ (n : ℕ). HasTurned n (count + length (here ∷ lengths) + 1) (state_over task ran closing there next.trail') final) sum_is
      (subst (λ (n : ℕ). HasTurned (so_far + here + sum lengths) n (state_over task ran closing there next.trail') final) count_is done))
