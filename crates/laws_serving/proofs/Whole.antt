-- How a driver comes up by a schedule that serves it, round by round.
use Rattle.std.proofs.Common.{◌≡◌, ◌≤◌, ◌<◌, ◌⊎◌, inl, inr, ℕ, zero, suc, ◌+◌, ◌-◌, min, nat_le, nat_lt, get_or, not, ◌&&◌, ◌||◌, Bool, true, false, List, [], ◌∷◌, ◌++◌, length, map, drop, Option, None, Some, refl, sym, ap, subst, ◌∙◌, arith, rules, tests, if◌then◌else◌}
use Rattle.std.specs.Prelude.{All, Contains, sum_by, slice_get}
use Rattle.std.specs.Option.{is_some}
use Rattle.std.specs.List.{list_any}
use Rattle.std.proofs.lemmas.List.Elements.{All-nil, All-head, All-tail, All-contains, All-get_or}
use Rattle.std.proofs.lemmas.List.Sums.{sum_by-cons}
use Rattle.std.proofs.lemmas.Option.{slice_get_cases, slice_get_past, slice_get_within, get_or_from_slice_get}
use Rattle.codec_graph.specs.declared.raw.RawCodec.{RawCodec}
use Rattle.codec_graph.specs.CodecStates.{CodecState}
use Rattle.world_steps.specs.declared.Step.{Step}
use Rattle.schedule_reader.specs.declared.schedule.Group.{Group}
use Rattle.world_rings.specs.declared.response.Response.{Response}
use Rattle.hda_world.specs.Worlds.{World, codec_at}
use Rattle.hda_world.specs.Steps.{address_of, after_steps}
use Rattle.hda_world.specs.Events.{Event, Stepped, Begin, End, AreHonest, after}
use Rattle.hda_world.specs.Leaving.{graphs_of}
use Rattle.hda_world.proofs.Callers.{steps_after}
use Rattle.command_engine.specs.declared.ring_places.RingPlaces.{RingPlaces}
use Rattle.command_engine.specs.declared.answers.Outstanding.{Outstanding}
use Rattle.command_engine.specs.Entries.{answers_it}
use Rattle.period_writer.specs.Runs.{Tally}
use Rattle.driver_progress.specs.declared.phase.Phase.{Phase}
use Rattle.driver_progress.specs.declared.phase.Phase.TheVariants.{Settling, Walking, SettingUp, Ready, Playing}
use Rattle.driver_progress.specs.Tasks.{Task, Order, DriverLine}
use Rattle.driver_progress.specs.States.{State, state_opened}
use Rattle.driver_progress.specs.Phases.{is_asking, has_commands_left}
use Rattle.driver_progress.specs.Expected.{is_free}
use Rattle.driver_progress.specs.Seen.{Seen}
use Rattle.driver_progress.specs.Next.{phase_of_answers, closed, led, tally_next}
use Rattle.driver_progress.specs.Progress.{Trail, begun, seen_in, trail_after}
use Rattle.driver_progress.proofs.Callers.{trail_append, steps_leave_trail}
use Rattle.rig.specs.Follows.{AreAccesses}
use Rattle.rig.specs.Stretches.{stretch}
use Rattle.laws_serving.specs.ServingDevices.{NamesItsCodec, KeepAnswers, ComeInOrder, round_trip, StandsServed, IsComing, HasItsCodec}
use Rattle.laws_serving.specs.Rounds.{frames_of_line, frames_of_steps}
use Rattle.laws_serving.specs.ServingSchedules.{HasStreamsAlone, IsCalmRound}
use Rattle.laws_serving.specs.Coming.{HasComeTo}
use Rattle.laws_serving.specs.Runs.{IsOrderTo, IsTaskTo, line_called}
use Rattle.laws_serving.proofs.Polls.{LooksServe, SubmissionsCome}
use Rattle.laws_serving.proofs.Quiet.{IsNoRise, asking_left, call_sets_none}
use Rattle.laws_serving.proofs.Asking.{ServesOn, leads_so, plainly_led, FindsAnswers, IsFree, IsSent, IsReady, answers_since, call_sends, call_readies, last_call_finds}
use Rattle.laws_serving.proofs.Counting.{steps_count, timed_steps, events_graphs, steps_graphs}
use Rattle.laws_serving.proofs.Laid.{RanRound, HasAccesses, rest_events, IsRest, rest_front, rest_steps, IsCalled, called, after_call, world_called, trail_called, stretch_is, ends_there, honest_alone}
use Rattle.laws_serving.proofs.Rows.{within_call}
use Rattle.laws_serving.proofs.Notes.{notes_stay, trail_made}
use Rattle.laws_serving.proofs.Resetting.{CanBeReset, IsOut, out_on, HasBegun, first_call}
use Rattle.laws_serving.proofs.Settling.{HasStarted, second_call}

-- ---- what is given

-- what a device that serves does, as laws say
pub record Laws : Type 0 where
  pub looks : LooksServe
  pub comes : SubmissionsCome
  pub finds : FindsAnswers
  pub steps : ServesOn
  pub trips : (from read corb rirb : ℕ) (rings : RingPlaces) (command : Outstanding) (steps : List Step) (world : World) → rings.outstanding ≡ Some command → address_of command.word ≡ command.codec
      → is_some (codec_at command.codec world.codecs) ≡ true → StandsServed from read corb rirb rings world → IsComing from world → KeepAnswers steps → ComeInOrder (round_trip command.codec) steps
      → list_any (answers_it (Some command.codec)) (drop read (after_steps steps world).written) ≡ true

-- codecs with these graphs have these addresses
abbrev pub AreThere : (codecs : List ℕ) → List RawCodec → Type 0
AreThere codecs graphs = (codec : ℕ) → Contains codecs codec → (others : List CodecState) → map (λ (one : CodecState). one.graph) others ≡ graphs → is_some (codec_at codec others) ≡ true

-- how the call of a round was made
abbrev pub line_in : RanRound → DriverLine
line_in ran = line_called ran.round.line

-- link frames of rounds
abbrev pub ran_frames : RanRound → ℕ
ran_frames ran = frames_of_line ran.round.line + frames_of_steps ran.round.steps

abbrev pub IsCalmRan : RanRound → Type 0
IsCalmRan ran = IsCalmRound ran.round

-- what is left of a journal after some calls: calm rounds, with few link frames
pub record IsLeft (task : Task) (graphs : List RawCodec) (ran : List RanRound) (closing : List Event) (world : World) (trail : Trail) : Type 0 where
  pub rest : IsRest task (rest_events ran closing) world trail
  pub left : trail.left ≡ map line_in ran
  pub calm : All IsCalmRan ran
  pub accesses : All HasAccesses ran
  pub closing_is : AreAccesses closing
  pub graphs_are : graphs_of world ≡ graphs
  pub few : world.frames + sum_by ran_frames ran ≤ 8000000

-- where it leads
abbrev pub state_over : Task → (ran : List RanRound) (closing : List Event) → World → Trail → State
state_over task ran closing world trail = (trail_after task (rest_events ran closing) world trail).state

-- ---- one round on

-- the next round: its call, and what is left after its steps
pub record IsNext (task : Task) (graphs : List RawCodec) (one : RanRound) (ran : List RanRound) (closing : List Event) (world : World) (trail : Trail) : Type 0 where
  pub new : World
  pub trail' : Trail
  pub new_is : new ≡ world_called one.round.line.groups one.accesses world
  pub is_called : IsCalled task one.round.line.groups one.accesses world trail new trail'
  pub are : AreAccesses one.accesses
  pub turn : slice_get trail.left 0 ≡ Some (line_in one)
  pub calm : IsCalmRound one.round
  pub graphs_are : graphs_of new ≡ graphs
  pub few : new.frames ≤ 8000000
  pub later : IsLeft task graphs ran closing (after_steps one.round.steps new) trail'
  pub over : state_over task (one ∷ ran) closing world trail ≡ state_over task ran closing (after_steps one.round.steps new) trail'

first_left : (lines : List DriverLine) (line : DriverLine) (left : List DriverLine) → left ≡ line ∷ lines → (slice_get left 0 ≡ Some line) × (drop 1 left ≡ lines)
first_left lines line left is = (ap (λ (left : List DriverLine). slice_get left 0) is, ap (drop 1) is)

pub next_round : (task : Task) (graphs : List RawCodec) (one : RanRound) (ran : List RanRound) (closing : List Event) (world : World) (trail : Trail) → IsLeft task graphs (one ∷ ran) closing world trail → IsNext task graphs one ran closing world trail
next_round task graphs one ran closing world trail is =
    let groups = one.round.line.groups in
    let steps = one.round.steps in
    let later = map Stepped steps ++ rest_events ran closing in
    let calm = All-head IsCalmRan one ran is.calm in
    let are = All-head HasAccesses one ran is.accesses in
    let new = world_called groups one.accesses world in
    let trail' = trail_called task groups one.accesses world trail in
    let done = called task groups one.accesses world trail calm.line.groups are (rest_front task (stretch groups one.accesses) later world trail is.rest) in
    let rest = rest_steps task steps (rest_events ran closing) new trail' (after_call task groups one.accesses later world trail is.rest) in
    let first = first_left (map line_in ran) (line_in one) trail.left is.left in
    let stays = notes_stay world.written (begun trail) one.accesses are in
    let left : trail'.left ≡ map line_in ran = ap (λ (trail : Trail). trail.left) done.noted.trail_is ∙ stays.left ∙ first.1 in
    let graphs_now : graphs_of new ≡ graphs = events_graphs (within_call groups one.accesses) world ∙ is.graphs_are in
    let all = sum_by-cons ran_frames one ran in
    let frames = done.frames in
    let counted = steps_count steps new in
    let few = is.few in
    record {
      new = new;
      trail' = trail';
      new_is = refl;
      is_called = done;
      are = are;
      turn = first.0;
      calm = calm;
      graphs_are = graphs_now;
      few = omega (arith, frames, few, all);
      later = record {
        rest = rest;
        left = left;
        calm = All-tail IsCalmRan one ran is.calm;
        accesses = All-tail HasAccesses one ran is.accesses;
        closing_is = is.closing_is;
        graphs_are = steps_graphs steps new ∙ graphs_now;
        few = omega (arith, frames, counted, few, all);
      };
      over = ap (λ (trail : Trail). trail.state) (round_over task groups one.accesses steps (rest_events ran closing) world trail);
    }
  where
    round_over : (task : Task) (groups : List Group) (accesses : List Event) (steps : List Step) (later : List Event) (world : World) (trail : Trail)
        → trail_after task (stretch groups accesses ++ (map Stepped steps ++ later)) world trail ≡ trail_after task later (after_steps steps (world_called groups accesses world)) (trail_called task groups accesses world trail)
    round_over task groups accesses steps later world trail =
        let new = world_called groups accesses world in
        let trail' = trail_called task groups accesses world trail in
        ap (λ (events : List Event). trail_after task (events ++ (map Stepped steps ++ later)) world trail) (stretch_is groups accesses)
        ∙ trail_append task (Begin ∷ (within_call groups accesses ++ End ∷ [])) (map Stepped steps ++ later) world trail
        ∙ ap (λ (now : World). trail_after task (map Stepped steps ++ later) now trail') (ends_there (within_call groups accesses) world)
        ∙ trail_append task (map Stepped steps) later new trail'
        ∙ ap (trail_after task later (after (map Stepped steps) new)) (steps_leave_trail task steps new trail')
        ∙ ap (λ (now : World). trail_after task later now trail') (steps_after steps new)

-- the last call
pub record IsLast (task : Task) (closing : List Event) (world : World) (trail : Trail) : Type 0 where
  pub new : World
  pub trail' : Trail
  pub is_called : IsCalled task [] closing world trail new trail'
  pub honest : AreHonest closing world
  pub few : world.frames ≤ 8000000
  pub turn : slice_get trail.left 0 ≡ None
  pub over : state_over task [] closing world trail ≡ trail'.state

pub last_round : (task : Task) (graphs : List RawCodec) (closing : List Event) (world : World) (trail : Trail) → IsLeft task graphs [] closing world trail → IsLast task closing world trail
last_round task graphs closing world trail is = record {
  new = world_called [] closing world;
  trail' = trail_called task [] closing world trail;
  is_called = called task [] closing world trail (All-nil HasStreamsAlone) is.closing_is is.rest;
  honest = honest_alone closing world is.rest.honest;
  few = let few = is.few in omega (arith, few);
  turn = ap (λ (left : List DriverLine). slice_get left 0) is.left;
  over = ap (λ (events : List Event). (trail_after task events world trail).state) (stretch_is [] closing);
}

-- ---- while commands are sent

not_asked : (b rest : Bool) → rest ≡ false → ((not b && false) || rest) ≡ false
not_asked true rest is = is
not_asked false rest is = is

-- for each command that is left each codec is served behind the call that sends it
abbrev pub AnswersOn : (codecs : List ℕ) (sent commands : ℕ) → List RanRound → Type 0
AnswersOn codecs sent commands ran =
    (index : ℕ) (one : RanRound) → sent + index < commands → slice_get ran index ≡ Some one → All (λ (codec : ℕ). ComeInOrder (round_trip codec) one.round.steps) codecs

-- the world after a round
abbrev pub world_after : RanRound → World → World
world_after one world = after_steps one.round.steps (world_called one.round.line.groups one.accesses world)

-- what is asked of the rounds that are left after so many, and where they lead: what is asked of them goes on with each round, a schedule may
-- end before the driver has come up, or go on from there
pub record Onward (task : Task) (graphs : List RawCodec) (closing : List Event) (total : ℕ) (Left : ℕ → List RanRound → World → Type 0) (Ends : State → Type 0) : Type 0 where
  pub later : (count next : ℕ) (one : RanRound) (ran : List RanRound) (world : World) → count < 3 + length task.orders → All IsNoRise one.accesses → next ≡ count + 1 → Left count (one ∷ ran) world → Left next ran (world_after one world)
  pub early : (state : State) → total < 3 + length task.orders → HasComeTo (length task.orders) total task.plays state → Ends state
  pub ready : (ran : List RanRound) (least : ℕ) (world : World) (trail : Trail) → 3 + length task.orders + length ran ≡ total → Left (3 + length task.orders) ran world → IsLeft task graphs ran closing world trail
      → IsReady task (length task.orders) least trail world → Ends (state_over task ran closing world trail)

found_in : (codecs : List ℕ) (codec : ℕ) (P : ℕ → Type 0) → Contains codecs codec → All P codecs → P codec
found_in codecs codec P there all = All-contains P codecs codec all there

-- behind a call that sent a command, it is answered
steps_free : (laws : Laws) (task : Task) (codecs : List ℕ) (sent least : ℕ) (order : Order) (steps : List Step) (trail : Trail) (world : World) → IsOrderTo codecs order → is_some (codec_at order.codec world.codecs) ≡ true → KeepAnswers steps
    → All (λ (codec : ℕ). ComeInOrder (round_trip codec) steps) codecs → IsSent task sent least order trail world → IsFree task sent least trail (after_steps steps world)
steps_free laws task codecs sent least order steps trail world to there keep come sent_is =
    let corb = task.blocks.corb in
    let rirb = task.blocks.rirb in
    let command : Outstanding = record { codec = order.codec; word = order.word; issued = sent_is.issued } in
    let is = sent_is.outstanding in
    let has : HasItsCodec trail.state.rings.outstanding world.codecs =
    subst (λ (outstanding : Option Outstanding). HasItsCodec outstanding world.codecs) (sym is) (ap (λ (codec : ℕ). is_some (codec_at codec world.codecs)) to.names ∙ there) in
    let answered : answers_since trail.state.rings.outstanding trail.written (after_steps steps world) ≡ true =
    ap (λ (outstanding : Option Outstanding). answers_since outstanding trail.written (after_steps steps world)) is
    ∙ laws.trips sent_is.from trail.written corb rirb trail.state.rings command steps world is to.names there sent_is.served sent_is.coming keep
    (found_in codecs order.codec (λ (codec : ℕ). ComeInOrder (round_trip codec) steps) to.there come) in
    record {
      phase = sent_is.phase;
      sent_is = sent_is.sent_is;
      tally_is = sent_is.tally_is;
      from = sent_is.from;
      read = trail.written;
      served = laws.steps sent_is.from trail.written corb rirb trail.state.rings steps world keep has sent_is.served;
      names = subst NamesItsCodec (sym is) to.names;
      agree = refl;
      free = ap (λ (outstanding : Option Outstanding). is_free outstanding (answers_since trail.state.rings.outstanding trail.written (after_steps steps world))) is ∙ answered;
      timed = timed_steps least steps world sent_is.timed;
    }

phase_left : (task : Task) (answers : ℕ) → answers < length task.orders → has_commands_left (phase_of_answers task answers) ≡ true
phase_left task answers less = by (nat_le (length task.orders) answers) refl (nat_le task.walks answers)
  where
    by : (all : Bool) → nat_le (length task.orders) answers ≡ all → (walked : Bool) → has_commands_left (if nat_le (length task.orders) answers then Ready else (if walked then SettingUp else Walking)) ≡ true
    by true is walked = let most : length task.orders ≤ answers = search (rules, tests, is) in absurd (omega (arith, less, most))
    by false is true = ap (λ (all : Bool). has_commands_left (if all then Ready else SettingUp)) is
    by false is false = ap (λ (all : Bool). has_commands_left (if all then Ready else Walking)) is

all_answered : (task : Task) (answers : ℕ) → length task.orders ≤ answers → phase_of_answers task answers ≡ Ready
all_answered task answers most =
    let is : nat_le (length task.orders) answers ≡ true = search (rules, most) in
    ap (λ (all : Bool). if all then Ready else (if nat_le task.walks answers then SettingUp else Walking)) is

sent_so : (commands sent : ℕ) → sent ≤ commands → sent ≡ min commands (2 + sent - 2)
sent_so commands sent few = grind arith

-- where the schedule ends while commands are sent
ends_asking : (task : Task) (sent : ℕ) (state : State) → sent ≤ length task.orders → state.phase ≡ phase_of_answers task sent → state.sent ≡ sent → HasComeTo (length task.orders) (2 + sent) task.plays state
ends_asking task sent state few phase is = record {
  sent = is ∙ sent_so (length task.orders) sent few;
  left = λ early. ap has_commands_left phase ∙ phase_left task sent (omega (arith, early));
  ready = λ late before. phase ∙ all_answered task sent (omega (arith, late));
  silent = λ late quiet. phase ∙ all_answered task sent (omega (arith, late));
  sounds = λ late plays. absurd (omega (arith, late, few));
}

-- where it ends before a command is sent
no_calls_sent : (commands total : ℕ) (plays : Bool) (state : State) → total ≤ 1 → has_commands_left state.phase ≡ true → state.sent ≡ 0 → HasComeTo commands total plays state
no_calls_sent commands total plays state few left none = record {
  sent = none ∙ none_by commands total few;
  left = λ early. left;
  ready = λ late before. absurd (omega (arith, few, late));
  silent = λ late quiet. absurd (omega (arith, few, late));
  sounds = λ late loud. absurd (omega (arith, few, late));
}
  where
    none_by : (commands total : ℕ) → total ≤ 1 → 0 ≡ min commands (total - 2)
    none_by commands total few = grind arith

-- and where it has come up and plays nothing
ready_over : (commands total : ℕ) (plays : Bool) (state : State) → 3 + commands ≤ total → plays ≡ false → state.phase ≡ Ready → state.sent ≡ commands → HasComeTo commands total plays state
ready_over commands total plays state enough quiet ready sent = record {
  sent = sent ∙ all_by commands total enough;
  left = λ early. absurd (omega (arith, enough, early));
  ready = λ late before. ready;
  silent = λ late quiet. ready;
  sounds = λ late loud. let z : true ≡ false = sym loud ∙ quiet in cc;
}
  where
    all_by : (commands total : ℕ) → 3 + commands ≤ total → commands ≡ min commands (total - 2)
    all_by commands total enough = grind arith

closed_settling : (task : Task) (state : State) (seen : Seen) (tally : Tally) (phase : Phase) → phase ≡ Settling → closed task state seen tally phase ≡ state
closed_settling task state seen tally phase is = ap (closed task state seen tally) is

-- a command is left, or none is
some_order : (orders : List Order) (index : ℕ) → index < length orders → (order : Order) × (slice_get orders index ≡ Some order)
some_order orders index less = by (slice_get_cases orders index).1
  where
    by : ((order : Order) × (index < length orders) × (slice_get orders index ≡ Some order) × (get_or orders index order ≡ order)) ⊎ ((length orders ≤ index) × (slice_get orders index ≡ None)) → (order : Order) × (slice_get orders index ≡ Some order)
    by (inl there) = (there.0, there.2)
    by (inr past) = absurd (let most = past.0 in omega (arith, less, most))

order_to : (codecs : List ℕ) (orders : List Order) (index : ℕ) (order : Order) → slice_get orders index ≡ Some order → All (IsOrderTo codecs) orders → IsOrderTo codecs order
order_to codecs orders index order there all =
    subst (IsOrderTo codecs) (get_or_from_slice_get orders index order order there) (All-get_or (IsOrderTo codecs) orders index order (slice_get_within orders index order there) all)

-- the conditions of the rounds behind the first
answers_later : (codecs : List ℕ) (sent commands : ℕ) (one : RanRound) (ran : List RanRound) → AnswersOn codecs sent commands (one ∷ ran) → AnswersOn codecs (sent + 1) commands ran
answers_later codecs sent commands one ran answers index other less there = answers (suc index) other (omega (arith, less)) there

module _ (laws : Laws) (task : Task) (codecs : List ℕ) (graphs : List RawCodec) (to : IsTaskTo codecs task) (are_there : AreThere codecs graphs) (closing : List Event) (total : ℕ)
    (Left : ℕ → List RanRound → World → Type 0) (Ends : State → Type 0) (onward : Onward task graphs closing total Left Ends) where
  -- what is asked of the rounds behind the next one
  left_on : (count next : ℕ) (one : RanRound) (ran : List RanRound) (world : World) (trail : Trail) → (on : IsNext task graphs one ran closing world trail) → count < 3 + length task.orders → has_commands_left trail.state.phase ≡ true → next ≡ count + 1
      → Left count (one ∷ ran) world → Left next ran (after_steps one.round.steps on.new)
  left_on count next one ran world trail on few before same kept =
      subst (λ (now : World). Left next ran (after_steps one.round.steps now)) (sym on.new_is)
      (onward.later count next one ran world few (call_sets_none task world trail on.trail' (line_in one) one.accesses on.are on.is_called.noted on.turn on.calm.line.no_interrupt before) same kept)

  ready_on : (sent least : ℕ) (steps : List Step) (trail : Trail) (world : World) → KeepAnswers steps → IsReady task sent least trail world → IsReady task sent least trail (after_steps steps world)
  ready_on sent least steps trail world keep is = record {
    phase = is.phase;
    sent_is = is.sent_is;
    tally_is = is.tally_is;
    timed = timed_steps least steps world is.timed;
    from = is.from;
    read = is.read;
    served = laws.steps is.from is.read task.blocks.corb task.blocks.rirb trail.state.rings steps world keep (subst (λ (outstanding : Option Outstanding). HasItsCodec outstanding world.codecs) (sym is.idle) tt) is.served;
    idle = is.idle;
  }

  -- once so many commands were sent, and the last of them is answered
  asks_over : (sent : ℕ) (ran : List RanRound) (least : ℕ) (world : World) (trail : Trail) → sent ≤ length task.orders → 2 + sent + length ran ≡ total → AnswersOn codecs sent (length task.orders) ran → Left (2 + sent) ran world
      → IsLeft task graphs ran closing world trail → IsFree task sent least trail world → Ends (state_over task ran closing world trail)
  asks_over sent [] least world trail few counted answers kept left free =
      let last = last_round task graphs closing world trail left in
      let found = last_call_finds laws.looks laws.finds task sent least trail last.trail' closing world last.new free left.closing_is last.is_called.row last.is_called.noted last.turn in
      subst Ends (sym last.over)
      (onward.early last.trail'.state (omega (arith, counted, few))
      (subst (λ (total : ℕ). HasComeTo (length task.orders) total task.plays last.trail'.state) (let same : 2 + sent ≡ total = omega (arith, counted) in same)
      (ends_asking task sent last.trail'.state few found.0 found.1)))
  asks_over sent (one ∷ ran) least world trail few counted answers kept left free =
      by (nat_lt sent (length task.orders)) refl (next_round task graphs one ran closing world trail left)
      (λ world trail few counted answers kept left free. asks_over (sent + 1) ran least world trail few counted answers kept left free)
    where
      by : (more : Bool) → nat_lt sent (length task.orders) ≡ more → IsNext task graphs one ran closing world trail
          → ((world : World) (trail : Trail) → sent + 1 ≤ length task.orders → 2 + (sent + 1) + length ran ≡ total → AnswersOn codecs (sent + 1) (length task.orders) ran → Left (2 + (sent + 1)) ran world
          → IsLeft task graphs ran closing world trail → IsFree task (sent + 1) least trail world → Ends (state_over task ran closing world trail))
          → Ends (state_over task (one ∷ ran) closing world trail)
      by true is next later =
          let less : sent < length task.orders = search (rules, tests, is) in
          let order = some_order task.orders sent less in
          let asks = order_to codecs task.orders sent order.0 order.1 to.orders in
          let sends = call_sends laws.looks laws.finds task sent least laws.comes trail next.trail' (line_in one) order.0 one.accesses world next.new free next.are next.is_called.row next.is_called.noted next.turn next.calm.line.no_interrupt order.1 asks.narrow less in
          let there = are_there order.0.codec asks.there next.new.codecs next.graphs_are in
          let behind = steps_free laws task codecs (sent + 1) least order.0 one.round.steps next.trail' next.new asks there next.calm.steps (answers zero one (omega (arith, less)) refl) sends in
          subst Ends (sym next.over)
          (later (after_steps one.round.steps next.new) next.trail' (omega (arith, less)) (omega (arith, counted)) (answers_later codecs sent (length task.orders) one ran answers)
          (left_on (2 + sent) (2 + (sent + 1)) one ran world trail next (omega (arith, less)) (asking_left trail.state.phase free.phase) (omega arith) kept) next.later behind)
      by false is next later =
          let most : length task.orders ≤ sent = search (rules, tests, is) in
          let all : sent ≡ length task.orders = omega (arith, most, few) in
          let readies = call_readies laws.looks laws.finds task sent least laws.steps trail next.trail' (line_in one) one.accesses world next.new free next.are next.is_called.row next.is_called.noted next.turn next.calm.line.no_interrupt (slice_get_past task.orders sent most) most in
          subst Ends (sym next.over)
          (onward.ready ran least (after_steps one.round.steps next.new) next.trail' (omega (arith, counted, all)) (left_on (2 + sent) (3 + length task.orders) one ran world trail next (omega (arith, all)) (asking_left trail.state.phase free.phase) (omega (arith, all)) kept) next.later
          (subst (λ (sent : ℕ). IsReady task sent least next.trail' (after_steps one.round.steps next.new)) all (ready_on sent least one.round.steps next.trail' next.new next.calm.steps readies)))

  -- once both rings run
  starts_over : (ran : List RanRound) (least : ℕ) (steps : List Step) (world : World) (trail : Trail) → KeepAnswers steps → 2 + length ran ≡ total → AnswersOn codecs 0 (length task.orders) ran → Left 2 ran (after_steps steps world)
      → IsLeft task graphs ran closing (after_steps steps world) trail → HasStarted task least trail world → Ends (state_over task ran closing (after_steps steps world) trail)
  starts_over ran least steps world trail keep counted answers kept left started =
      let idle = started.idle in
      let none = λ (count : ℕ). ap (λ (outstanding : Option Outstanding). answers_since outstanding count (after_steps steps world)) idle ∙ none_asked_any (drop count (after_steps steps world).written) in
      asks_over 0 ran least (after_steps steps world) trail (omega arith) (omega (arith, counted)) answers kept left
      (record {
        phase = ap is_asking started.phase;
        sent_is = started.sent_is;
        tally_is = started.tally_is;
        from = started.from;
        read = started.read;
        served = laws.steps started.from started.read task.blocks.corb task.blocks.rirb trail.state.rings steps world keep (subst (λ (outstanding : Option Outstanding). HasItsCodec outstanding world.codecs) (sym idle) tt) started.served;
        names = subst NamesItsCodec (sym idle) tt;
        agree = none trail.written ∙ sym (none started.read);
        free = ap (λ (outstanding : Option Outstanding). is_free outstanding (answers_since trail.state.rings.outstanding trail.written (after_steps steps world))) idle;
        timed = timed_steps least steps world started.timed;
      })
    where
      none_asked_any : (responses : List Response) → list_any (answers_it None) responses ≡ false
      none_asked_any [] = refl
      none_asked_any (response ∷ responses) = not_asked response.unsolicited (list_any (answers_it None) responses) (none_asked_any responses)

  -- after the first call
  begins_over : (ran : List RanRound) (steps : List Step) (world : World) (trail : Trail) → KeepAnswers steps → 1 + length ran ≡ total → (1 ≤ length ran → 25 ≤ frames_of_steps steps)
      → AnswersOn codecs 0 (length task.orders) (drop 1 ran) → Left 1 ran (after_steps steps world) → IsLeft task graphs ran closing (after_steps steps world) trail → HasBegun task trail world
      → Ends (state_over task ran closing (after_steps steps world) trail)
  begins_over [] steps world trail keep counted announces answers kept left begun =
      let last = last_round task graphs closing (after_steps steps world) trail left in
      let state = leads_so task (after_steps steps world) trail last.trail' closing None left.closing_is last.is_called.noted last.turn in
      let tally = tally_next task trail.state None (seen_in (trail_made (after_steps steps world) trail closing)) in
      let closed_is = closed_settling task trail.state (seen_in (trail_made (after_steps steps world) trail closing)) tally trail.state.phase begun.phase in
      subst Ends (sym last.over)
      (onward.early last.trail'.state (omega (arith, counted))
      (no_calls_sent (length task.orders) total task.plays last.trail'.state (omega (arith, counted))
      (ap (λ (state : State). has_commands_left state.phase) (state ∙ ap (λ (closed : State). record closed { tally = tally }) closed_is) ∙ ap has_commands_left begun.phase)
      (ap (λ (state : State). state.sent) (state ∙ ap (λ (closed : State). record closed { tally = tally }) closed_is) ∙ begun.sent_is)))
  begins_over (one ∷ ran) steps world trail keep counted announces answers kept left begun =
      let corb = task.blocks.corb in
      let rirb = task.blocks.rirb in
      let out = begun.reset.out in
      let here : IsOut corb rirb world.frames world = record { can = out.can; nothing = out.nothing; timed = record { out = out.timed.out; time = out.timed.time; later = omega arith } } in
      let least = world.frames + frames_of_steps steps in
      let waited = out_on corb rirb world.frames steps world keep here in
      let enough = announces (omega arith) in
      let clock = begun.reset.kept_is in
      let next = next_round task graphs one ran closing (after_steps steps world) trail left in
      let started = second_call task least trail next.trail' (line_in one) one.accesses (after_steps steps world) next.new to.corb_block to.rirb_block
      (record { phase = begun.phase; sent_is = begun.sent_is; tally_is = begun.tally_is; out = waited; kept = omega (arith, enough, clock) })
      next.are next.is_called.row next.is_called.noted next.turn next.calm.line.no_interrupt next.few in
      subst Ends (sym next.over)
      (starts_over ran least one.round.steps next.new next.trail' next.calm.steps (omega (arith, counted)) answers
      (left_on 1 2 one ran (after_steps steps world) trail next (omega arith) (ap has_commands_left begun.phase) (omega arith) kept) next.later started)

  -- before the first call
  pub comes_over : (ran : List RanRound) (world : World) (trail : Trail) → length ran ≡ total → ((one two : RanRound) (rest : List RanRound) → ran ≡ one ∷ two ∷ rest → 25 ≤ frames_of_steps one.round.steps)
      → AnswersOn codecs 0 (length task.orders) (drop 2 ran) → Left 0 ran world → IsLeft task graphs ran closing world trail → trail.state ≡ state_opened → CanBeReset task.blocks.corb task.blocks.rirb world
      → Ends (state_over task ran closing world trail)
  comes_over [] world trail counted announces answers kept left opened can =
      let last = last_round task graphs closing world trail left in
      let state = leads_so task world trail last.trail' closing None left.closing_is last.is_called.noted last.turn in
      let seen = seen_in (trail_made world trail closing) in
      let tally = tally_next task trail.state None seen in
      let is = state ∙ ap (λ (state : State). record (closed task state seen tally state.phase) { tally = tally }) opened in
      subst Ends (sym last.over)
      (onward.early last.trail'.state (omega (arith, counted))
      (no_calls_sent (length task.orders) total task.plays last.trail'.state (omega (arith, counted)) (ap (λ (state : State). has_commands_left state.phase) is) (ap (λ (state : State). state.sent) is)))
  comes_over (one ∷ ran) world trail counted announces answers kept left opened can =
      let next = next_round task graphs one ran closing world trail left in
      let begun = first_call task trail next.trail' (line_in one) one.accesses world next.new opened can next.are next.is_called.row next.is_called.noted next.turn next.calm.line.no_interrupt in
      subst Ends (sym next.over)
      (begins_over ran one.round.steps next.new next.trail' next.calm.steps (omega (arith, counted)) (second_there one ran announces) (drop_again (one ∷ ran) answers)
      (left_on 0 1 one ran world trail next (omega arith) (ap (λ (state : State). has_commands_left state.phase) opened) (omega arith) kept) next.later begun)
    where
      second_there : (one : RanRound) (ran : List RanRound) → ((one' two : RanRound) (rest : List RanRound) → one ∷ ran ≡ one' ∷ two ∷ rest → 25 ≤ frames_of_steps one'.round.steps) → 1 ≤ length ran → 25 ≤ frames_of_steps one.round.steps
      second_there one [] announces some = absurd (omega (arith, some))
      second_there one (two ∷ rest) announces some = announces one two rest refl

      drop_again : (ran : List RanRound) → AnswersOn codecs 0 (length task.orders) (drop 2 ran) → AnswersOn codecs 0 (length task.orders) (drop 1 (drop 1 ran))
      drop_again [] answers = answers
      drop_again (one ∷ ran) answers = answers

-- ---- one that plays nothing

-- nothing is asked of the rounds behind
abbrev pub Nothing : ℕ → List RanRound → World → Type 0
Nothing count ran world = Unit {0}

-- once it has come up it stays so
module _ (task : Task) (graphs : List RawCodec) (closing : List Event) (quiet : task.plays ≡ false) where
  stays_ready : (ran : List RanRound) (world : World) (trail : Trail) → IsLeft task graphs ran closing world trail → trail.state.phase ≡ Ready
      → ((state_over task ran closing world trail).phase ≡ Ready) × ((state_over task ran closing world trail).sent ≡ trail.state.sent)
  stays_ready [] world trail left ready =
      let last = last_round task graphs closing world trail left in
      let seen = seen_in (trail_made world trail closing) in
      let tally = tally_next task trail.state None seen in
      let is = leads_so task world trail last.trail' closing None left.closing_is last.is_called.noted last.turn ∙ ap (λ (phase : Phase). record (closed task trail.state seen tally phase) { tally = tally }) ready in
      (ap (λ (state : State). state.phase) (last.over ∙ is) ∙ ready, ap (λ (state : State). state.sent) (last.over ∙ is))
  stays_ready (one ∷ ran) world trail left ready =
      let next = next_round task graphs one ran closing world trail left in
      let seen = seen_in (trail_made world trail one.accesses) in
      let line = line_in one in
      let tally = tally_next task trail.state (Some line) seen in
      let is = leads_so task world trail next.trail' one.accesses (Some line) next.are next.is_called.noted next.turn ∙ plainly_led task trail.state line seen next.calm.line.no_interrupt
      ∙ ap (λ (phase : Phase). record (led task trail.state seen tally phase) { tally = tally }) ready
      ∙ ap (λ (plays : Bool). record (if plays then record trail.state { phase = Playing } else trail.state) { tally = tally }) quiet in
      let rest = stays_ready ran (after_steps one.round.steps next.new) next.trail' next.later (ap (λ (state : State). state.phase) is ∙ ready) in
      (ap (λ (state : State). state.phase) next.over ∙ rest.0, ap (λ (state : State). state.sent) next.over ∙ rest.1 ∙ ap (λ (state : State). state.sent) is)

  pub quiet_onward : (total : ℕ) → Onward task graphs closing total Nothing (HasComeTo (length task.orders) total task.plays)
  quiet_onward total = record {
    later = λ count next one ran world few quiet same kept. tt;
    early = λ state few come. come;
    ready = λ ran least world trail counted kept left ready.
        let done = stays_ready ran world trail left ready.phase in
        ready_over (length task.orders) total task.plays (state_over task ran closing world trail) (omega (arith, counted)) quiet done.0 (done.1 ∙ ready.sent_is);
  }
