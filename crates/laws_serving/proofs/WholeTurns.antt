-- Over the whole journal: what comes of a schedule that plays in turns.
use Rattle.std.proofs.Common.{◌≡◌, ◌≤◌, ◌<◌, ℕ, suc, ◌+◌, ◌*◌, ◌%◌, ◌^◌, true, List, [], ◌∷◌, ◌++◌, length, map, take, Option, Some, sym, ap, subst, ◌∙◌, arith}
use Rattle.std.specs.Prelude.{All, sum, slice_index}
use Rattle.std.proofs.lemmas.List.{length-append}
use Rattle.std.proofs.lemmas.List.Sums.{sum_by-cons}
use Rattle.std.proofs.lemmas.List.Elements.{All-nil, All-head, All-tail}
use Rattle.codec_graph.specs.declared.raw.RawCodec.{RawCodec}
use Rattle.stream_format.specs.declared.format.Format.{Format}
use Rattle.stream_format.specs.declared.format.Rate.{Rate}
use Rattle.stream_format.specs.declared.format.Rate.TheVariants.{R48}
use Rattle.stream_format.specs.Layouts.{Layout, layout, layout_of}
use Rattle.stream_format.specs.Cadence.{blocks_of, block_bytes, cadence, most_bytes}
use Rattle.stream_format.specs.Words.{format_word}
use Rattle.world_streams.specs.Streams.{due_by}
use Rattle.hda_registers.specs.declared.shapes.Shape.{Shape}
use Rattle.schedule_reader.specs.declared.schedule.Item.{Item}
use Rattle.hda_world.specs.Worlds.{World}
use Rattle.hda_world.specs.Steps.{after_steps}
use Rattle.hda_world.specs.Events.{Event, after}
use Rattle.hda_world.specs.Leaving.{graphs_of}
use Rattle.hda_world.specs.Tellings.{Telling}
use Rattle.hda_world.proofs.Callers.{after-append}
use Rattle.laws_stream.specs.Lives.{HasStopped, sets_going}
use Rattle.period_writer.specs.Runs.{measures}
use Rattle.driver_progress.specs.Tasks.{Task}
use Rattle.driver_progress.specs.States.{State}
use Rattle.driver_progress.specs.Progress.{Trail, state_of}
use Rattle.rig.specs.Follows.{AreAccesses}
use Rattle.laws_serving.specs.Rounds.{Round, rounds_of}
use Rattle.laws_serving.specs.ServingSchedules.{ServesCommands, ServesSound}
use Rattle.laws_serving.specs.Runs.{IsTaskTo, IsStartFor, IsRunOf, calls_of}
use Rattle.laws_serving.proofs.Callers.{IsNoRise, IsReady, RanRound, round_in, rest_events, Laws, Onward, IsLeft, state_over, world_after, laid_run, come_up, SoundServed, served_later, first_served, ArePrompt, prompt_later}
use Rattle.laws_serving.proofs.SoundCallers.{StreamLaws, RiseLaws, IsBehind, begins_fed, behind_on, behind_first, ground_of, fits_of}
use Rattle.laws_serving.specs.Turns.{AreInTurns, PlaysInTurns, EndsInTheLast, CarriedBytes, HasPlayedInTurns}
use Rattle.laws_serving.proofs.Standing.{rest_on, KeepShapes, events_shape}
use Rattle.laws_serving.proofs.Turning.{turned, turns_on}

-- ---- 48 kHz

one_at_48 : (frame : ℕ) → blocks_of R48 frame ≡ 1
unfolding blocks_of
one_at_48 frame = let none : frame % 1 ≡ 0 = omega arith in ap {B = ℕ} (λ (n : ℕ). slice_index (cadence R48) n) none

-- a block is due in each link frame
one_block : (format : Format) (word : ℕ) (frame : ℕ) → layout_of word ≡ Some (layout format) → format.rate ≡ R48 → due_by (layout_of word) frame ≡ block_bytes format
one_block format word frame word_is rate =
    let one = one_at_48 frame in
    let many : blocks_of format.rate frame ≡ 1 = ap (λ (rate : Rate). blocks_of rate frame) rate ∙ one in
    ap (λ (layout : Option Layout). due_by layout frame) word_is ∙ ap (λ (n : ℕ). n * block_bytes format) many ∙ omega arith

-- ---- the rounds that are left

abbrev HasAccesses : RanRound → Type 0
HasAccesses one = AreAccesses one.accesses

-- what is asked of the rounds that are left after so many
pub record TurnsLeft (task : Task) (telling : Telling) (closing : List Event) (fifo : ℕ) (lengths : List ℕ) (count : ℕ) (ran : List RanRound) (world : World) : Type 0 where
  pub served : SoundServed (length task.orders) (measures task.geometry).limit (measures task.geometry).slack count ran world
  pub accesses : All HasAccesses ran
  pub behind : IsBehind telling ran closing world
  pub before : List Round
  pub turns : List Round
  pub rounds_are : map round_in ran ≡ before ++ turns
  pub counted : count + length before ≡ 3 + length task.orders
  pub are : AreInTurns (measures task.geometry).ring (measures task.geometry).block fifo lengths turns

turns_later : (task : Task) (telling : Telling) (closing : List Event) (fifo : ℕ) (lengths : List ℕ) (count next : ℕ) (one : RanRound) (ran : List RanRound) (world : World) → count < 3 + length task.orders → All IsNoRise one.accesses → next ≡ count + 1
    → TurnsLeft task telling closing fifo lengths count (one ∷ ran) world → TurnsLeft task telling closing fifo lengths next ran (world_after one world)
turns_later task telling closing fifo lengths count next one ran world few quiet same left = by left.before left.rounds_are left.counted
  where
    by : (before : List Round) → map round_in (one ∷ ran) ≡ before ++ left.turns → count + length before ≡ 3 + length task.orders → TurnsLeft task telling closing fifo lengths next ran (world_after one world)
    by [] is counted = absurd (omega (arith, few, counted))
    by (first ∷ before) is counted = record {
      served = served_later (length task.orders) (measures task.geometry).limit (measures task.geometry).slack count next one ran world same left.served;
      accesses = All-tail HasAccesses one ran left.accesses;
      behind = behind_on telling one ran closing world quiet (All-head HasAccesses one ran left.accesses) left.behind;
      before = before;
      turns = left.turns;
      rounds_are = cc;
      counted = omega (arith, counted, same);
      are = left.are;
    }

-- ---- from the first call on that plays

module _ (laws : StreamLaws) (rise_laws : RiseLaws) (shapes : KeepShapes) (task : Task) (graphs : List RawCodec) (closing : List Event) (frames : ℕ) (long : length task.pcm ≡ frames * block_bytes task.geometry.format) (rate : task.geometry.format.rate ≡ R48)
    (telling : Telling) (stopped : HasStopped telling) (loud : task.plays ≡ true) where
  abbrev fifo : ℕ
  fifo = telling.start.registers.shape.fifo

  abbrev pub Ends : List ℕ → State → Type 0
  Ends lengths state = HasPlayedInTurns (measures task.geometry).ring (measures task.geometry).block frames lengths state (after telling.journal telling.start)

  plays_turns : (lengths : List ℕ) (ran : List RanRound) (least : ℕ) (world : World) (trail : Trail) → EndsInTheLast frames lengths → AreInTurns (measures task.geometry).ring (measures task.geometry).block fifo lengths (map round_in ran)
      → SoundServed (length task.orders) (measures task.geometry).limit (measures task.geometry).slack (3 + length task.orders) ran world → IsBehind telling ran closing world → IsLeft task graphs ran closing world trail
      → IsReady task (length task.orders) least trail world → Ends lengths (state_over task ran closing world trail)
  plays_turns [] ran least world trail ends turns served placed left ready = absurd (let some = ends.some in let enough = ends.enough in omega (arith, some, enough))
  plays_turns (here ∷ lengths) [] least world trail ends turns served placed left ready = absurd turns
  plays_turns (here ∷ lengths) (one ∷ ran) least world trail ends turns served placed left ready =
      let word = format_word task.geometry.format % 2 ^ 16 in
      let format = layout task.geometry.format in
      let most = most_bytes task.geometry.format in
      let ground = ground_of task frames long in
      let prompt : ArePrompt (measures task.geometry).limit (measures task.geometry).slack (one ∷ ran) = λ index other there. served index other (omega arith) there in
      let turn = turns.0 in
      let first = begins_fed laws rise_laws task graphs closing (length task.orders) word format most ground (fits_of task) telling stopped least one ran world trail loud prompt turn.call.wide placed left ready in
      let next = first.next in
      let start = after (stopped.before ++ sets_going ∷ []) telling.start in
      let new_is = first.alone turn.call.alone in
      let none = ap (λ (now : World). now.output.left) new_is ∙ first.none in
      let fresh = ap (λ (now : World). now.carried) new_is ∙ first.fresh in
      let fifo_is = ap (λ (shape : Shape). shape.fifo) (events_shape shapes (stopped.before ++ sets_going ∷ []) telling.start) in
      let due : (frame : ℕ) → due_by (layout_of word) frame ≡ block_bytes task.geometry.format = λ frame. one_block task.geometry.format word frame ground.word_is rate in
      let there = after_steps one.round.steps next.new in
      let on = turned laws shapes task graphs closing (length task.orders) first.codecs first.tag word format most ground start stopped.during stopped.later stopped.runs frames fifo long due fifo_is
      0 here 1 one ran next.new next.trail' first.fed turn (omega (arith, none)) (omega (arith, none)) (ap length fresh) (subst (All (CarriedBytes (measures task.geometry).block)) (sym fresh) (All-nil (CarriedBytes (measures task.geometry).block))) first.runs in
      let final_is : after telling.journal telling.start ≡ after (rest_events ran closing) there =
      ap (λ (events : List Event). after events telling.start) placed.journal_is
      ∙ after-append placed.so_far (rest_events (one ∷ ran) closing) telling.start
      ∙ ap (after (rest_events (one ∷ ran) closing)) (sym placed.world_is)
      ∙ rest_on one ran closing world
      ∙ ap (λ (new : World). after (rest_events ran closing) (after_steps one.round.steps new)) (sym next.new_is) in
      let all = sum_by-cons (λ (n : ℕ). n) here lengths in
      let enough = ends.enough in
      let done = turns_on laws shapes task graphs closing (length task.orders) first.codecs first.tag word format most ground start stopped.during stopped.later stopped.runs frames fifo long due fifo_is
      lengths (0 + here) 1 ran there (after telling.journal telling.start) next.trail' (prompt_later (measures task.geometry).limit (measures task.geometry).slack one ran prompt) turns.1 next.later on final_is (omega (arith, enough, all))
      (λ fewer less. let few = ends.fewest (suc fewer) (omega (arith, less)) in let cons = sum_by-cons (λ (n : ℕ). n) here (take fewer lengths) in omega (arith, few, cons)) in
      let over = next.over in
      let sum_is : 0 + here + sum lengths ≡ sum (here ∷ lengths) = omega (arith, all) in
      let runs = done.runs in
      let carried = done.carried in
      record {
        phase = ap (λ (state : State). state.phase) over ∙ done.phase;
        runs = ap (λ (state : State). length state.tally.runs) over ∙ runs ∙ omega arith;
        silences = ap (λ (state : State). state.tally.silences) over ∙ done.silences
            ∙ ap (λ (so_far : ℕ). record { start = frames * (measures task.geometry).block; end = so_far * (measures task.geometry).block + (measures task.geometry).ring } ∷ []) sum_is;
        carried = carried ∙ sum_is;
        sent = done.sent;
      }

  turns_ready : (lengths : List ℕ) (ran : List RanRound) (least : ℕ) (world : World) (trail : Trail) → EndsInTheLast frames lengths → TurnsLeft task telling closing fifo lengths (3 + length task.orders) ran world → IsLeft task graphs ran closing world trail
      → IsReady task (length task.orders) least trail world → Ends lengths (state_over task ran closing world trail)
  turns_ready lengths ran least world trail ends kept left ready = by kept.before kept.rounds_are kept.counted
    where
      by : (before : List Round) → map round_in ran ≡ before ++ kept.turns → 3 + length task.orders + length before ≡ 3 + length task.orders → Ends lengths (state_over task ran closing world trail)
      by [] is counted =
          plays_turns lengths ran least world trail ends (subst (AreInTurns (measures task.geometry).ring (measures task.geometry).block fifo lengths) (sym is) kept.are) kept.served kept.behind left ready
      by (first ∷ before) is counted = absurd (omega (arith, counted))

  pub turns_onward : (total : ℕ) (lengths : List ℕ) → EndsInTheLast frames lengths → 3 + length task.orders ≤ total → Onward task graphs closing total (TurnsLeft task telling closing fifo lengths) (Ends lengths)
  turns_onward total lengths ends many = record {
    later = λ count next one ran world few quiet same kept. turns_later task telling closing fifo lengths count next one ran world few quiet same kept;
    early = λ state few come. absurd (omega (arith, few, many));
    ready = λ ran least world trail counted kept left ready. turns_ready lengths ran least world trail ends kept left ready;
  }

-- ---- the whole journal

pub play_exactly : (laws : Laws) (stream : StreamLaws) (rise_laws : RiseLaws) (shapes : KeepShapes) (task : Task) (codecs : List ℕ) (items : List Item) (telling : Telling) (frames : ℕ) (lengths : List ℕ) → task.plays ≡ true → IsTaskTo codecs task
    → IsStartFor codecs task telling.start → IsRunOf task items telling → ServesCommands codecs (length task.orders) (rounds_of items) → ServesSound (length task.orders) (measures task.geometry).limit (measures task.geometry).slack (rounds_of items).rounds
    → PlaysInTurns (length task.orders) (measures task.geometry).ring (measures task.geometry).block telling.start.registers.shape.fifo lengths (rounds_of items).rounds → HasStopped telling → task.geometry.format.rate ≡ R48
    → length task.pcm ≡ frames * block_bytes task.geometry.format → EndsInTheLast frames lengths
    → HasPlayedInTurns (measures task.geometry).ring (measures task.geometry).block frames lengths (state_of task (calls_of items) telling) (after telling.journal telling.start)
play_exactly laws stream rise_laws shapes task codecs items telling frames lengths loud to start run serves sound turns stopped rate long ends =
    let commands = length task.orders in
    let m = measures task.geometry in
    let all = rounds_of items in
    let laid = laid_run task items telling run in
    let ran = laid.ran in
    let world = after_steps all.before telling.start in
    let many = ap length turns.rounds_are ∙ length-append turns.before turns.turns in
    let front = turns.count in
    come_up laws task codecs items telling (TurnsLeft task telling run.closing telling.start.registers.shape.fifo lengths)
    (Ends stream rise_laws shapes task (graphs_of telling.start) run.closing frames long rate telling stopped loud lengths) to start run serves
    (turns_onward stream rise_laws shapes task (graphs_of telling.start) run.closing frames long rate telling stopped loud (length all.rounds) lengths ends (omega (arith, many, front)))
    (record {
      served = first_served commands m.limit m.slack ran world (subst (ServesSound commands m.limit m.slack) (sym laid.are) sound);
      accesses = laid.accesses;
      behind = behind_first telling all.before ran run.closing laid.journal_is;
      before = turns.before;
      turns = turns.turns;
      rounds_are = laid.are ∙ turns.rounds_are;
      counted = omega (arith, front);
      are = turns.are;
    })
