-- A driver that plays by a schedule that serves and feeds it: over the rounds that are left.
use Rattle.std.proofs.Common.{◌≡◌, ◌≤◌, ◌<◌, ◌⊎◌, inl, inr, ℕ, zero, suc, ◌+◌, ◌-◌, ◌*◌, ◌%◌, Bool, true, false, List, [], ◌∷◌, ◌++◌, length, map, None, Some, refl, sym, ap, subst, ◌∙◌, arith, append_assoc, if◌then◌else◌}
use Rattle.std.specs.Prelude.{All, sum_by, slice_get}
use Rattle.std.proofs.lemmas.Nat.{mul-le}
use Rattle.std.proofs.lemmas.List.Elements.{All-nil, All-cons, All-append}
use Rattle.codec_graph.specs.declared.raw.RawCodec.{RawCodec}
use Rattle.codec_graph.specs.CodecStates.{CodecState}
use Rattle.hda_registers.specs.declared.shapes.Width.TheVariants.{Four}
use Rattle.hda_registers.specs.declared.places.TheConstants.{WALCLK}
use Rattle.stream_format.specs.Layouts.{Layout, layout_of}
use Rattle.world_streams.specs.Streams.{most_by}
use Rattle.heard_frames.specs.HeardLists.{block_size}
use Rattle.hda_world.specs.Worlds.{World}
use Rattle.hda_world.specs.Steps.{after_steps}
use Rattle.hda_world.specs.Events.{Event, Stepped, Begin, End, Read, AreHonest, after}
use Rattle.hda_world.specs.Streaming.{carried_bytes}
use Rattle.hda_world.proofs.Callers.{after-append, steps_after, AreHonest-front}
use Rattle.laws_stream.specs.Lives.{Runs, Along, stops}
use Rattle.period_writer.specs.declared.registers.TheConstants.{POSITION}
use Rattle.period_writer.specs.declared.course.Ran.{Ran}
use Rattle.period_writer.specs.declared.course.Ran.TheVariants as ended
use Rattle.period_writer.specs.Playing.{stop_accesses}
use Rattle.period_writer.specs.Runs.{Measures, RunFacts, Tally, facts_of, measures, position_from, run_at, tally_if, has_drained, taken_up_if}
use Rattle.driver_progress.specs.declared.phase.Phase.{Phase}
use Rattle.driver_progress.specs.declared.phase.Phase.TheVariants.{Drained}
use Rattle.driver_progress.specs.Tasks.{Task}
use Rattle.driver_progress.specs.States.{State}
use Rattle.driver_progress.specs.Requests.{requests_of}
use Rattle.driver_progress.specs.Expected.{stops as asked_stops}
use Rattle.driver_progress.specs.Next.{led, closed, phase_played, tally_next}
use Rattle.driver_progress.specs.Progress.{Trail, seen_in}
use Rattle.rig.specs.Stretches.{accesses_of, stretch}
use Rattle.rig.specs.LinkFrames.{event_frames}
use Rattle.period_writer.proofs.Callers.{position_there}
use Rattle.laws_serving.proofs.Callers.{IsTimed, call_frames, steps_count, timed_steps, frames_so, none_asked, within_call, accesses_are, trail_made, leads_so, plainly_led, RanRound, rest_events, alone_is, stretch_is, ends_there, IsLeft, IsNext, next_round, last_round, line_in, state_over, world_after, HasPlayedOn, later_run, last_run, ArePrompt, prompt_later, PlaysOn, later_in_time}
use Rattle.laws_serving.proofs.Full.{IsWhole, AreWhole, IsFull, BeginsLate, le_cases, next_full, full_high, drained_high}
use Rattle.laws_serving.proofs.Moments.{IsNoStop, by_accesses}
use Rattle.laws_serving.proofs.Rolling.{Moves, IsBesideSound, StreamLaws, Rolls, rolls_on, events_move}
use Rattle.laws_serving.proofs.Setting.{appends_store, store_beside}
use Rattle.laws_serving.proofs.Fed.{poll_beside, others_beside, steps_beside, all_go_on, left_carried, left_whole, FindsLink, finds_link, runs_there}

-- ---- what is known of the ring and the sound

pub record Ground (task : Task) (word : ℕ) (layout : Layout) (most : ℕ) : Type 0 where
  pub whole : AreWhole (measures task.geometry) (length task.pcm)
  pub word_is : layout_of word ≡ Some layout
  pub block_is : block_size layout ≡ (measures task.geometry).block
  pub most_is : most_by (layout_of word) ≡ most
  pub tight : most * (measures task.geometry).limit < (measures task.geometry).ring

-- ---- numbers

-- the link is less than a ring past the earlier run while no more link frames passed than the limit
link_soon : (most since was now limit ring at left there : ℕ) → since ≤ was → was ≤ now → now ≤ since + limit → left ≤ at + most * (was - since) → there ≤ left + most * (now - was) → most * limit < ring → there < at + ring
link_soon most since was now limit ring at left there a b c d e f =
    let split : now - since ≡ (was - since) + (now - was) = omega (arith, a, b) in
    let wide : most * (now - since) ≡ most * ((was - since) + (now - was)) = ap (λ (n : ℕ). most * n) split in
    let few = mul-le most (now - since) most limit (omega arith) (omega (arith, c)) in
    omega (arith, d, e, f, wide, few)

-- and the pace goes on from there
pub pace_on : (most since was now later at there left : ℕ) → since ≤ was → was ≤ now → now ≤ later → left ≤ there + most * (later - now) → left ≤ there + most * (later - since)
pace_on most since was now later at there left a b c d =
    let more = mul-le most (later - now) most (later - since) (omega arith) (omega (arith, a, b, c)) in omega (arith, d, more)

-- ---- the sound that is fed

-- as many bytes as the sound has were carried
abbrev pub AllSent : (bytes : ℕ) → World → Type 0
AllSent bytes world = bytes ≤ length (carried_bytes world.carried)

-- when one of the calls begins that are left, the last one included
abbrev pub IsFedSoon : (bytes : ℕ) → List RanRound → World → Type 0
IsFedSoon bytes [] world = AllSent bytes world
IsFedSoon bytes (one ∷ ran) world = AllSent bytes world ⊎ IsFedSoon bytes ran (world_after one world)

-- each call may write a ring
abbrev pub AreGenerous : (ring : ℕ) → List RanRound → Type 0
AreGenerous ring ran = (index : ℕ) (one : RanRound) → slice_get ran index ≡ Some one → ring ≤ one.round.line.budget

-- all was played, and no silence begins before the sound's end
pub record PlayedAll (total : ℕ) (state : State) : Type 0 where
  pub phase : state.phase ≡ Drained
  pub late : All (BeginsLate total) state.tally.silences

module _ (laws : StreamLaws) (task : Task) (graphs : List RawCodec) (closing : List Event) (commands : ℕ) (codecs : List CodecState) (tag word : ℕ) (layout : Layout) (most : ℕ) (ground : Ground task word layout most)
    (start : World) (during later : List Event) (along : Along Runs during start) where
  abbrev m : Measures
  m = measures task.geometry

  abbrev total : ℕ
  total = length task.pcm

  -- before a call while it plays
  pub record IsFed (ran : List RanRound) (trail : Trail) (world : World) : Type 0 where
    pub on : PlaysOn task commands ran trail world
    pub rolls : Rolls codecs tag word layout m.ring world
    pub full : IsFull m total trail.state.tally
    pub past : trail.state.tally.course.at ≤ world.output.left
    pub paced : world.output.left ≤ trail.state.tally.course.at + most * (world.frames - on.since)
    pub so_far : List Event
    pub world_is : world ≡ after so_far start
    pub quiet : All IsNoStop so_far
    pub rest_is : so_far ++ rest_events ran closing ≡ during ++ stops ∷ later

  -- ---- one call

  -- where a run finds the link: where it is
  pub record LooksAt (trail : Trail) (world : World) (body : List Event) (facts : RunFacts) (rest : List Event) : Type 0 where
    pub finds : FindsLink codecs tag word layout m.ring most world body facts.lpib rest
    pub at_is : run_at m trail.state.tally.course facts ≡ (after finds.before world).output.left
    pub whole : IsWhole m.block (run_at m trail.state.tally.course facts)
    pub later_on : trail.state.tally.course.at ≤ run_at m trail.state.tally.course facts
    pub soon : run_at m trail.state.tally.course facts < trail.state.tally.course.at + m.ring
    pub up : world.output.left ≤ run_at m trail.state.tally.course facts

  looks_at : (ran : List RanRound) (trail : Trail) (world : World) (body front tail : List Event) (facts : RunFacts) (rest : List Event) → (fed : IsFed ran trail world) → AreHonest body world → accesses_of body ≡ front ++ Read POSITION Four facts.lpib ∷ rest
      → All IsBesideSound front → fed.so_far ++ (Begin ∷ (body ++ End ∷ tail)) ≡ during ++ stops ∷ later → world.frames + sum_by event_frames body ≤ fed.on.since + m.limit → LooksAt trail world body facts rest
  looks_at ran trail world body front tail facts rest fed honest are quiet placed few =
      let finds = finds_link laws codecs tag word layout m.ring most world body front facts.lpib rest ground.word_is ground.most_is fed.rolls honest are quiet in
      let there = after finds.before world in
      let runs = runs_there start during later world body tail finds.before finds.behind facts.lpib
      (record { along = along; so_far = fed.so_far; world_is = fed.world_is; quiet = fed.quiet; all = placed }) finds.is finds.beside in
      let at = trail.state.tally.course.at in
      let reads : facts.lpib ≡ there.output.left % m.ring = finds.reads ∙ finds.rolls.position runs.running ∙ ap (λ (size : ℕ). there.output.left % size) finds.rolls.length_is in
      let since = fed.on.timed.later in
      let counted = finds.soon in
      let up = finds.moves.up in
      let past = fed.past in
      let before = link_soon most fed.on.since world.frames there.frames m.limit m.ring at world.output.left there.output.left since finds.moves.later (omega (arith, counted, few)) fed.paced finds.moves.few ground.tight in
      let at_is : run_at m trail.state.tally.course facts ≡ there.output.left =
      ap (λ (started : Bool). if started then position_from m.ring at facts.lpib else 0) fed.full.started
      ∙ position_there m.ring at facts.lpib there.output.left ground.whole.some_ring (omega (arith, past, up)) before reads in
      record {
        finds = finds;
        at_is = at_is;
        whole = subst (IsWhole m.block) (sym at_is) (subst (λ (block : ℕ). IsWhole block there.output.left) ground.block_is (left_whole codecs tag word layout m.ring there finds.rolls));
        later_on = omega (arith, at_is, past, up);
        soon = omega (arith, at_is, before);
        up = omega (arith, at_is, up);
      }

  -- the tally after it is full again
  full_on : (tally : Tally) (facts : RunFacts) → IsFull m total tally → facts.left ≡ total - tally.course.used → tally.course.at ≤ run_at m tally.course facts → run_at m tally.course facts < tally.course.at + m.ring
      → IsWhole m.block (run_at m tally.course facts) → (m.ring ≤ facts.budget) ⊎ (total ≤ run_at m tally.course facts) → IsFull m total (tally_if false m tally facts)
  full_on tally facts full left later_on soon whole enough = by (le_cases tally.course.reach total) enough
    where
      by : (tally.course.reach ≤ total) ⊎ (total < tally.course.reach) → (m.ring ≤ facts.budget) ⊎ (total ≤ run_at m tally.course facts) → IsFull m total (tally_if false m tally facts)
      by (inl low) (inl wide) = next_full m total tally facts ground.whole full left low later_on soon whole wide
      by (inl low) (inr past) = absurd (let reach = full.reach in omega (arith, reach, low, past, soon))
      by (inr high) enough = full_high m total ground.whole tally facts left full high later_on whole

  pub drains : (tally : Tally) (facts : RunFacts) → IsFull m total tally → facts.left ≡ total - tally.course.used → tally.course.at ≤ run_at m tally.course facts → run_at m tally.course facts < tally.course.at + m.ring
      → IsWhole m.block (run_at m tally.course facts) → total ≤ run_at m tally.course facts → has_drained m tally.course facts ≡ true
  drains tally facts full left later_on soon whole past = by (le_cases tally.course.reach total)
    where
      by : (tally.course.reach ≤ total) ⊎ (total < tally.course.reach) → has_drained m tally.course facts ≡ true
      by (inl low) = absurd (let reach = full.reach in omega (arith, reach, low, past, soon))
      by (inr high) = drained_high m total ground.whole tally facts left full high later_on whole past

  -- ---- once it has drained

  stays_drained : (ran : List RanRound) (world : World) (trail : Trail) → IsLeft task graphs ran closing world trail → trail.state.phase ≡ Drained → trail.state.tally.course.ran ≡ ended.Drained → All (BeginsLate total) trail.state.tally.silences
      → PlayedAll total (state_over task ran closing world trail)
  stays_drained [] world trail left drained how late =
      let last = last_round task graphs closing world trail left in
      let seen = seen_in (trail_made world trail closing) in
      let tally = tally_next task trail.state None seen in
      let tally_is : tally ≡ trail.state.tally = ap (λ (how : Ran). taken_up_if how seen.clocks m total (record { budget = 0; clocks = seen.clocks; lpibs = seen.positions }) trail.state.tally) how in
      let is = last.over ∙ leads_so task world trail last.trail' closing None left.closing_is last.is_called.noted last.turn ∙ ap (λ (phase : Phase). record (closed task trail.state seen tally phase) { tally = tally }) drained in
      record {
        phase = ap (λ (state : State). state.phase) is ∙ drained;
        late = subst (λ (tally : Tally). All (BeginsLate total) tally.silences) (sym (ap (λ (state : State). state.tally) is ∙ tally_is)) late;
      }
  stays_drained (one ∷ ran) world trail left drained how late =
      let next = next_round task graphs one ran closing world trail left in
      let seen = seen_in (trail_made world trail one.accesses) in
      let line = line_in one in
      let tally = tally_next task trail.state (Some line) seen in
      let tally_is : tally ≡ trail.state.tally = ap (λ (how : Ran). taken_up_if how seen.clocks m total (record { budget = line.budget; clocks = seen.clocks; lpibs = seen.positions }) trail.state.tally) how in
      let is = leads_so task world trail next.trail' one.accesses (Some line) next.are next.is_called.noted next.turn ∙ plainly_led task trail.state line seen next.calm.line.no_interrupt
      ∙ ap (λ (phase : Phase). record (led task trail.state seen tally phase) { tally = tally }) drained in
      let same = ap (λ (state : State). state.tally) is ∙ tally_is in
      subst (PlayedAll total) (sym next.over)
      (stays_drained ran (after_steps one.round.steps next.new) next.trail' next.later (ap (λ (state : State). state.phase) is ∙ drained) (ap (λ (tally : Tally). tally.course.ran) same ∙ how)
      (subst (λ (tally : Tally). All (BeginsLate total) tally.silences) (sym same) late))

  -- ---- the last call

  -- a call reads LPIB behind its first clock
  behind_clock : (front rest : List Event) (from lpib : ℕ) → front ++ Read WALCLK Four from ∷ Read POSITION Four lpib ∷ rest ≡ (front ++ Read WALCLK Four from ∷ []) ++ Read POSITION Four lpib ∷ rest
  behind_clock front rest from lpib = sym (append_assoc front (Read WALCLK Four from ∷ []) (Read POSITION Four lpib ∷ rest))

  pub clock_beside : (front : List Event) (from : ℕ) → All IsBesideSound front → All IsBesideSound (front ++ Read WALCLK Four from ∷ [])
  clock_beside front from are = All-append IsBesideSound front (Read WALCLK Four from ∷ []) are (All-cons IsBesideSound (Read WALCLK Four from) [] tt (All-nil IsBesideSound))

  sent_past : (world : World) → Rolls codecs tag word layout m.ring world → AllSent total world → total ≤ world.output.left
  sent_past world rolls sent = subst (λ (n : ℕ). total ≤ n) (left_carried codecs tag word layout m.ring world rolls) sent

  feeds_last : (world : World) (trail : Trail) → AllSent total world → IsLeft task graphs [] closing world trail → IsFed [] trail world → PlayedAll total (state_over task [] closing world trail)
  feeds_last world trail sent left fed =
      let on = fed.on in
      let last = last_round task graphs closing world trail left in
      let run = last_run task on.since trail last.trail' closing world (later_in_time task graphs closing commands world.frames [] trail world on (omega arith)) on.timed last.few left.closing_is last.honest last.is_called.noted last.turn in
      let shape = run.shape in
      let tally = trail.state.tally in
      let facts = facts_of 0 (total - tally.course.used) shape.from shape.lpib shape.to in
      let body = within_call [] closing in
      let seen = seen_in (trail_made world trail closing) in
      let rest = shape.middle ++ Read WALCLK Four shape.to ∷ shape.back in
      let frames = call_frames [] closing left.closing_is in
      let soon = on.soon in
      let looks = looks_at [] trail world body (shape.front ++ Read WALCLK Four shape.from ∷ []) [] facts rest fed (subst (λ (events : List Event). AreHonest events world) (sym (alone_is closing)) last.honest)
      (accesses_are [] closing left.closing_is ∙ shape.is ∙ behind_clock shape.front rest shape.from shape.lpib)
      (clock_beside shape.front shape.from (poll_beside task.blocks.rirb trail.state.rings seen shape.front shape.front_are shape.front_asks))
      (ap (λ (events : List Event). fed.so_far ++ events) (sym (stretch_is [] closing)) ∙ fed.rest_is) (omega (arith, frames, soon)) in
      let up = looks.up in
      let all = sent_past world fed.rolls sent in
      let past : total ≤ run_at m tally.course facts = omega (arith, up, all) in
      let drained = drains tally facts fed.full refl looks.later_on looks.soon looks.whole past in
      let how = ap (λ (tally : Tally). tally.course.ran) run.tally_is ∙ ap (λ (drained : Bool). if drained then ended.Drained else ended.Playing) drained in
      let full = full_on tally facts fed.full refl looks.later_on looks.soon looks.whole (inr past) in
      subst (PlayedAll total) (sym last.over)
      (record {
        phase = run.phase_is ∙ ap (phase_played task) how;
        late = subst (λ (tally : Tally). All (BeginsLate total) tally.silences) (sym run.tally_is) full.late;
      })

  -- ---- round by round

  -- the events of a round
  round_is : (one : RanRound) (world : World) → after (stretch one.round.line.groups one.accesses ++ map Stepped one.round.steps) world ≡ world_after one world
  round_is one world =
      let body = within_call one.round.line.groups one.accesses in
      after-append (stretch one.round.line.groups one.accesses) (map Stepped one.round.steps) world
      ∙ ap (λ (events : List Event). after (map Stepped one.round.steps) (after events world)) (stretch_is one.round.line.groups one.accesses)
      ∙ ap (after (map Stepped one.round.steps)) (ends_there body world)
      ∙ steps_after one.round.steps (after body world)

  -- from the read of LPIB to the round's end
  rest_of : (one : RanRound) (world : World) (before behind : List Event) (lpib : ℕ) → within_call one.round.line.groups one.accesses ≡ before ++ Read POSITION Four lpib ∷ behind
      → after (Read POSITION Four lpib ∷ (behind ++ End ∷ map Stepped one.round.steps)) (after before world) ≡ world_after one world
  rest_of one world before behind lpib is =
      after-append behind (End ∷ map Stepped one.round.steps) (after before world)
      ∙ steps_after one.round.steps (after behind (after before world))
      ∙ ap (after_steps one.round.steps) (sym (ap (λ (events : List Event). after events world) is ∙ after-append before (Read POSITION Four lpib ∷ behind) world))

  -- the events of a round whose call plays on go on
  round_quiet : (one : RanRound) → All IsBesideSound (within_call one.round.line.groups one.accesses) → All IsNoStop (stretch one.round.line.groups one.accesses ++ map Stepped one.round.steps)
  round_quiet one beside =
      let body = within_call one.round.line.groups one.accesses in
      all_go_on (stretch one.round.line.groups one.accesses ++ map Stepped one.round.steps)
      (All-append IsBesideSound (stretch one.round.line.groups one.accesses) (map Stepped one.round.steps)
      (subst (All IsBesideSound) (sym (stretch_is one.round.line.groups one.accesses))
      (All-cons IsBesideSound Begin (body ++ End ∷ []) tt (All-append IsBesideSound body (End ∷ []) beside (All-cons IsBesideSound End [] tt (All-nil IsBesideSound)))))
      (steps_beside one.round.steps))

  -- a call of a round
  pub record CallFeeds (one : RanRound) (ran : List RanRound) (world : World) (trail : Trail) : Type 0 where
    pub on_next : IsNext task graphs one ran closing world trail
    pub run : HasPlayedOn task (Some (line_in one)) (asked_stops on_next.trail'.state.tally) trail on_next.trail' one.accesses world
    pub timed : IsTimed world.frames on_next.new
    pub looks : LooksAt trail world (within_call one.round.line.groups one.accesses) (facts_of one.round.line.budget (total - trail.state.tally.course.used) run.shape.from run.shape.lpib run.shape.to)
        (run.shape.middle ++ Read WALCLK Four run.shape.to ∷ run.shape.back)
    pub full : IsFull m total on_next.trail'.state.tally
    pub front : All IsBesideSound (run.shape.front ++ Read WALCLK Four run.shape.from ∷ [])

  pub call_feeds : (one : RanRound) (ran : List RanRound) (world : World) (trail : Trail) → ArePrompt m.limit m.slack (one ∷ ran) → AreGenerous m.ring (one ∷ ran) → IsLeft task graphs (one ∷ ran) closing world trail → IsFed (one ∷ ran) trail world
      → CallFeeds one ran world trail
  call_feeds one ran world trail prompt generous left fed =
      let on = fed.on in
      let next = next_round task graphs one ran closing world trail left in
      let groups = one.round.line.groups in
      let quick = (prompt zero one refl).quick in
      let counted = next.is_called.frames in
      let done = later_run task on.since trail next.trail' (line_in one) one.accesses world next.new (later_in_time task graphs closing commands next.new.frames (one ∷ ran) trail world on counted) (omega (arith, quick, counted)) on.timed
      next.are next.is_called.row next.is_called.noted next.turn next.calm.line.no_interrupt next.few in
      let run = done.0 in
      let shape = run.shape in
      let tally = trail.state.tally in
      let facts = facts_of one.round.line.budget (total - tally.course.used) shape.from shape.lpib shape.to in
      let body = within_call groups one.accesses in
      let tail = map Stepped one.round.steps ++ rest_events ran closing in
      let seen = seen_in (trail_made world trail one.accesses) in
      let rest = shape.middle ++ Read WALCLK Four shape.to ∷ shape.back in
      let whole = subst (λ (events : List Event). AreHonest events world) (stretch_is groups one.accesses) (AreHonest-front (stretch groups one.accesses) tail world left.rest.honest) in
      let frames = call_frames groups one.accesses next.are in
      let soon = on.soon in
      let front = clock_beside shape.front shape.from (poll_beside task.blocks.rirb trail.state.rings seen shape.front shape.front_are shape.front_asks) in
      let looks = looks_at (one ∷ ran) trail world body (shape.front ++ Read WALCLK Four shape.from ∷ []) tail facts rest fed (AreHonest-front body (End ∷ []) world whole.1)
      (accesses_are groups one.accesses next.are ∙ shape.is ∙ behind_clock shape.front rest shape.from shape.lpib) front
      (ap (λ (events : List Event). fed.so_far ++ events) (sym (append_assoc (Begin ∷ body) (End ∷ []) tail) ∙ ap (λ (events : List Event). events ++ tail) (sym (stretch_is groups one.accesses))) ∙ fed.rest_is)
      (omega (arith, frames, soon)) in
      record {
        on_next = next;
        run = run;
        timed = done.1;
        looks = looks;
        full = subst (IsFull m total) (sym run.tally_is) (full_on tally facts fed.full refl looks.later_on looks.soon looks.whole (inl (generous zero one refl)));
        front = front;
      }

  -- where it plays on, what is known before the next call
  pub fed_on : (one : RanRound) (ran : List RanRound) (world : World) (trail : Trail) → ArePrompt m.limit m.slack (one ∷ ran) → (fed : IsFed (one ∷ ran) trail world) → (call : CallFeeds one ran world trail) → call.on_next.trail'.state.tally.course.ran ≡ ended.Playing
      → IsFed ran call.on_next.trail' (after_steps one.round.steps call.on_next.new)
  fed_on one ran world trail prompt fed call how =
      let next = call.on_next in
      let run = call.run in
      let shape = run.shape in
      let finds = call.looks.finds in
      let there = after finds.before world in
      let steps = one.round.steps in
      let body = within_call one.round.line.groups one.accesses in
      let none = none_asked shape.back shape.back_are (shape.back_asks ∙ ap (λ (how : Ran). requests_of (stop_accesses how)) how) in
      let behind_are : accesses_of finds.behind ≡ shape.middle ++ Read WALCLK Four shape.to ∷ [] = finds.behind_is ∙ ap (λ (back : List Event). shape.middle ++ Read WALCLK Four shape.to ∷ back) none in
      let middle = store_beside shape.middle (appends_store task trail.state one.round.line.budget (seen_in (trail_made world trail one.accesses)) shape.middle shape.middle_are shape.middle_asks) in
      let behind = by_accesses IsBesideSound others_beside finds.behind (subst (All IsBesideSound) (sym behind_are) (clock_beside shape.middle shape.to middle)) in
      let more = Read POSITION Four shape.lpib ∷ (finds.behind ++ End ∷ map Stepped steps) in
      let more_beside = All-cons IsBesideSound (Read POSITION Four shape.lpib) (finds.behind ++ End ∷ map Stepped steps) tt
      (All-append IsBesideSound finds.behind (End ∷ map Stepped steps) behind (All-cons IsBesideSound End (map Stepped steps) tt (steps_beside steps))) in
      let world' = after_steps steps next.new in
      let is : after more there ≡ world' = rest_of one world finds.before finds.behind shape.lpib finds.is ∙ ap (after_steps steps) (sym next.new_is) in
      let moves = subst (Moves most there) is (events_move most word more there more_beside finds.rolls.steady.word_is ground.most_is) in
      let at : next.trail'.state.tally.course.at ≡ there.output.left = ap (λ (tally : Tally). tally.course.at) run.tally_is ∙ call.looks.at_is in
      let counted = next.is_called.frames in
      let grown = steps_count steps next.new in
      let within = (prompt zero one refl).soon in
      let all = frames_so one ran in
      let from = ap (λ (tally : Tally). tally.course.from) run.tally_is in
      let clock = run.clock in
      let up = moves.up in
      let later_frames = moves.later in
      let first_frames = finds.moves.later in
      let paced = pace_on most world.frames world.frames there.frames world'.frames there.output.left there.output.left world'.output.left (omega arith) first_frames later_frames moves.few in
      let whole_body = subst (All IsBesideSound) (sym finds.is) (All-append IsBesideSound finds.before (Read POSITION Four shape.lpib ∷ finds.behind) finds.beside (All-cons IsBesideSound (Read POSITION Four shape.lpib) finds.behind tt behind)) in
      let round = stretch one.round.line.groups one.accesses ++ map Stepped steps in
      record {
        on = record {
          phase = run.phase_is ∙ ap (phase_played task) how;
          plays = how;
          sent_is = run.sent_is ∙ fed.on.sent_is;
          since = world.frames;
          from = omega (arith, from, clock);
          timed = timed_steps world.frames steps next.new call.timed;
          soon = omega (arith, grown, within, all, counted);
        };
        rolls = subst (Rolls codecs tag word layout m.ring) is (rolls_on laws codecs tag word layout m.ring more there ground.word_is more_beside finds.rolls);
        full = call.full;
        past = omega (arith, at, up);
        paced = omega (arith, at, paced);
        so_far = fed.so_far ++ round;
        world_is = ap (after_steps steps) next.new_is ∙ sym (round_is one world) ∙ ap (after round) fed.world_is ∙ sym (after-append fed.so_far round start);
        quiet = All-append IsNoStop fed.so_far round fed.quiet (round_quiet one whole_body);
        rest_is = append_assoc fed.so_far round (rest_events ran closing)
            ∙ ap (λ (events : List Event). fed.so_far ++ events) (append_assoc (stretch one.round.line.groups one.accesses) (map Stepped steps) (rest_events ran closing)) ∙ fed.rest_is;
      }

  pub feeds : (ran : List RanRound) (world : World) (trail : Trail) → ArePrompt m.limit m.slack ran → AreGenerous m.ring ran → IsFedSoon total ran world → IsLeft task graphs ran closing world trail → IsFed ran trail world
      → PlayedAll total (state_over task ran closing world trail)
  feeds [] world trail prompt generous soon left fed = feeds_last world trail soon left fed
  feeds (one ∷ ran) world trail prompt generous soon left fed =
      by (has_drained m trail.state.tally.course facts) refl
      (λ how fedsoon. feeds ran (after_steps one.round.steps call.on_next.new) call.on_next.trail' (prompt_later m.limit m.slack one ran prompt) (λ index other there. generous (suc index) other there) fedsoon call.on_next.later (fed_on one ran world trail prompt fed call how))
    where
      call : CallFeeds one ran world trail
      call = call_feeds one ran world trail prompt generous left fed

      facts : RunFacts
      facts = facts_of one.round.line.budget (total - trail.state.tally.course.used) call.run.shape.from call.run.shape.lpib call.run.shape.to

      how_is : call.on_next.trail'.state.tally.course.ran ≡ (if has_drained m trail.state.tally.course facts then ended.Drained else ended.Playing)
      how_is = ap (λ (tally : Tally). tally.course.ran) call.run.tally_is

      -- the sound is sent before a later call, or all of it was found sent by this one, which drained
      later_sent : has_drained m trail.state.tally.course facts ≡ false → IsFedSoon total ran (after_steps one.round.steps call.on_next.new)
      later_sent none = which soon
        where
          which : AllSent total world ⊎ IsFedSoon total ran (world_after one world) → IsFedSoon total ran (after_steps one.round.steps call.on_next.new)
          which (inl sent) =
              let all = sent_past world fed.rolls sent in
              let up = call.looks.up in
              let drained = drains trail.state.tally facts fed.full refl call.looks.later_on call.looks.soon call.looks.whole (omega (arith, all, up)) in
              absurd (let z : true ≡ false = sym drained ∙ none in cc)
          which (inr fedsoon) = subst (λ (now : World). IsFedSoon total ran (after_steps one.round.steps now)) (sym call.on_next.new_is) fedsoon

      by : (drained : Bool) → has_drained m trail.state.tally.course facts ≡ drained
          → (call.on_next.trail'.state.tally.course.ran ≡ ended.Playing → IsFedSoon total ran (after_steps one.round.steps call.on_next.new)
          → PlayedAll total (state_over task ran closing (after_steps one.round.steps call.on_next.new) call.on_next.trail'))
          → PlayedAll total (state_over task (one ∷ ran) closing world trail)
      by true is go_on =
          let how = how_is ∙ ap (λ (drained : Bool). if drained then ended.Drained else ended.Playing) is in
          subst (PlayedAll total) (sym call.on_next.over)
          (stays_drained ran (after_steps one.round.steps call.on_next.new) call.on_next.trail' call.on_next.later (call.run.phase_is ∙ ap (phase_played task) how) how call.full.late)
      by false is go_on =
          let how = how_is ∙ ap (λ (drained : Bool). if drained then ended.Drained else ended.Playing) is in
          subst (PlayedAll total) (sym call.on_next.over) (go_on how (later_sent is))
