-- Over a whole journal: how far a driver has come by a schedule that serves it.
use Rattle.std.proofs.Common.{◌≡◌, ◌≤◌, ◌+◌, ℕ, suc, ◌==◌, Bool, true, false, List, [], ◌∷◌, ◌++◌, length, map, drop, if◌then◌else◌, Some, refl, sym, ap, subst, ◌∙◌, arith, append_assoc}
use Rattle.std.specs.Prelude.{All, sum_by, slice_get}
use Rattle.std.specs.List.{flat_map, find}
use Rattle.std.specs.Option.{is_some, option_map}
use Rattle.std.proofs.lemmas.List.{length-map}
use Rattle.std.proofs.lemmas.List.Elements.{All-nil, All-cons, All-head, All-tail, All-contains}
use Rattle.std.proofs.lemmas.List.Sums.{sum_by-cons}
use Rattle.std.proofs.lemmas.Option.{slice_get-map}
use Rattle.codec_graph.specs.declared.raw.RawCodec.{RawCodec}
use Rattle.codec_graph.specs.CodecStates.{CodecState}
use Rattle.schedule_reader.specs.declared.schedule.Item.{Item}
use Rattle.schedule_reader.specs.declared.schedule.Item.TheVariants.{Device, Drive}
use Rattle.schedule_reader.specs.Counts.{item_frames, step_frames}
use Rattle.hda_world.specs.Worlds.{World, codec_at}
use Rattle.hda_world.specs.Steps.{after_steps}
use Rattle.hda_world.specs.Events.{Event, Stepped, End, after}
use Rattle.hda_world.specs.Leaving.{graphs_of}
use Rattle.hda_world.specs.Tellings.{Telling}
use Rattle.hda_world.proofs.Callers.{steps_after}
use Rattle.driver_progress.specs.Tasks.{Task, DriverLine}
use Rattle.driver_progress.specs.States.{State}
use Rattle.driver_progress.specs.Progress.{Trail, begun, trail_opened, trail_after, trail_of, state_of, ended}
use Rattle.driver_progress.proofs.Callers.{trail_append, steps_leave_trail}
use Rattle.rig.specs.Stretches.{stretch}
use Rattle.rig.specs.Follows.{Piece, laid_out}
use Rattle.laws_serving.specs.Rounds.{Round, Rounds, rounds_with, rounds_of, frames_of_line, frames_of_steps}
use Rattle.laws_serving.specs.ServingSchedules.{IsCalmRound, AnswersEach, ServesCommands}
use Rattle.laws_serving.specs.Runs.{IsTaskTo, IsStartFor, IsRunOf, call_of, calls_of}
use Rattle.laws_serving.proofs.Counting.{steps_count, steps_graphs}
use Rattle.laws_serving.proofs.Rows.{within_call}
use Rattle.laws_serving.proofs.Resetting.{can_be_steps}
use Rattle.laws_serving.proofs.Laid.{RanRound, round_in, HasAccesses, round_events, IsLaid, lay, stretch_is, rest_events, rest_is, IsRest, rest_steps}
use Rattle.laws_serving.proofs.Whole.{Laws, AreThere, line_in, ran_frames, IsCalmRan, IsLeft, state_over, AnswersOn, Onward, comes_over}

-- ---- the rounds of a schedule

abbrev round_frames : Round → ℕ
round_frames round = frames_of_line round.line + frames_of_steps round.steps

-- all link frames are those before the first driver line and those of the rounds
frames_with : (item : Item) (later : Rounds) (rest : ℕ) → rest ≡ frames_of_steps later.before + sum_by round_frames later.rounds
    → item_frames item + rest ≡ frames_of_steps (rounds_with item later).before + sum_by round_frames (rounds_with item later).rounds
frames_with (Device step) later rest is = let cons = sum_by-cons step_frames step later.before in omega (arith, cons, is)
frames_with (Drive line) later rest is =
    let one : Round = record { line = line; steps = later.before } in
    let cons = sum_by-cons round_frames one later.rounds in omega (arith, cons, is)

frames_are : (items : List Item) → sum_by item_frames items ≡ frames_of_steps (rounds_of items).before + sum_by round_frames (rounds_of items).rounds
frames_are [] = refl
frames_are (item ∷ items) = sum_by-cons item_frames item items ∙ frames_with item (rounds_of items) (sum_by item_frames items) (frames_are items)

ran_frames_are : (ran : List RanRound) → sum_by ran_frames ran ≡ sum_by round_frames (map round_in ran)
ran_frames_are [] = refl
ran_frames_are (one ∷ ran) =
    let rest = ran_frames_are ran in
    let here = sum_by-cons ran_frames one ran in
    let there = sum_by-cons round_frames one.round (map round_in ran) in omega (arith, rest, here, there)

lines_are : (ran : List RanRound) → map line_in ran ≡ map call_of (map round_in ran)
lines_are [] = refl
lines_are (one ∷ ran) = ap (λ (lines : List DriverLine). line_in one ∷ lines) (lines_are ran)

calm_are : (ran : List RanRound) → All IsCalmRound (map round_in ran) → All IsCalmRan ran
calm_are [] calm = All-nil IsCalmRan
calm_are (one ∷ ran) calm = All-cons IsCalmRan one ran (All-head IsCalmRound one.round (map round_in ran) calm) (calm_are ran (All-tail IsCalmRound one.round (map round_in ran) calm))

-- ---- what serves them

past_two : (ran : List RanRound) (index : ℕ) → slice_get ran (2 + index) ≡ slice_get (drop 2 ran) index
past_two ran index = ap (slice_get ran) (let same : 2 + index ≡ suc (suc index) = omega arith in same) ∙ by ran
  where
    by : (ran : List RanRound) → slice_get ran (suc (suc index)) ≡ slice_get (drop 2 ran) index
    by [] = refl
    by (one ∷ []) = refl
    by (one ∷ two ∷ ran) = refl

answers_on : (codecs : List ℕ) (commands : ℕ) (ran : List RanRound) → AnswersEach codecs commands (map round_in ran) → AnswersOn codecs 0 commands (drop 2 ran)
answers_on codecs commands ran answers index one less there =
    answers index one.round (omega (arith, less)) (slice_get-map round_in ran (2 + index) ∙ ap (option_map round_in) (past_two ran index ∙ there))

announces_on : (codecs : List ℕ) (commands : ℕ) (all : Rounds) (ran : List RanRound) → map round_in ran ≡ all.rounds → ServesCommands codecs commands all → (one two : RanRound) (rest : List RanRound) → ran ≡ one ∷ two ∷ rest → 25 ≤ frames_of_steps one.round.steps
announces_on codecs commands all ran are serves one two rest is =
    let rounds : all.rounds ≡ one.round ∷ two.round ∷ map round_in rest = sym are ∙ ap (map round_in) is in
    serves.announces one.round two.round (ap (λ (rounds : List Round). slice_get rounds 0) rounds) (ap (λ (rounds : List Round). slice_get rounds 1) rounds)

-- ---- the codecs

by_graph : (address : ℕ) (codecs : List CodecState) → is_some (codec_at address codecs) ≡ is_some (find (λ (graph : RawCodec). graph.address == address) (map (λ (codec : CodecState). codec.graph) codecs))
by_graph address [] = refl
by_graph address (codec ∷ codecs) = by (codec.graph.address == address) (by_graph address codecs)
  where
    by : (b : Bool) → is_some (codec_at address codecs) ≡ is_some (find (λ (graph : RawCodec). graph.address == address) (map (λ (codec : CodecState). codec.graph) codecs))
        → is_some (if b then Some codec else codec_at address codecs) ≡ is_some (if b then Some codec.graph else find (λ (graph : RawCodec). graph.address == address) (map (λ (codec : CodecState). codec.graph) codecs))
    by true rest = refl
    by false rest = rest

there_too : (codecs : List ℕ) (world : World) → All (λ (codec : ℕ). is_some (codec_at codec world.codecs) ≡ true) codecs → AreThere codecs (graphs_of world)
there_too codecs world there codec is others same =
    by_graph codec others ∙ ap (λ (graphs : List RawCodec). is_some (find (λ (graph : RawCodec). graph.address == codec) graphs)) same ∙ sym (by_graph codec world.codecs)
    ∙ All-contains (λ (codec : ℕ). is_some (codec_at codec world.codecs) ≡ true) codecs codec there is

-- ---- the whole journal

within_over : (task : Task) (closing : List Event) (ran : List RanRound) (world : World) (trail : Trail) → (trail_after task (rest_events ran closing) world trail).within ≡ false
within_over task closing [] world trail =
    ap (λ (events : List Event). (trail_after task events world trail).within) (stretch_is [] closing)
    ∙ ap (λ (trail : Trail). trail.within) (trail_append task (within_call [] closing) (End ∷ []) world (begun trail))
within_over task closing (one ∷ ran) world trail =
    let front = stretch one.round.line.groups one.accesses in
    let steps = map Stepped one.round.steps in
    ap (λ (trail : Trail). trail.within) (trail_append task front (steps ++ rest_events ran closing) world trail)
    ∙ ap (λ (trail : Trail). trail.within) (trail_append task steps (rest_events ran closing) (after front world) (trail_after task front world trail))
    ∙ within_over task closing ran (after steps (after front world)) (trail_after task steps (after front world) (trail_after task front world trail))

-- a run as its rounds
pub record IsLaidRun (task : Task) (items : List Item) (telling : Telling) (closing : List Event) : Type 0 where
  pub ran : List RanRound
  pub are : map round_in ran ≡ (rounds_of items).rounds
  pub accesses : All HasAccesses ran
  pub journal_is : telling.journal ≡ map Stepped (rounds_of items).before ++ rest_events ran closing

pub laid_run : (task : Task) (items : List Item) (telling : Telling) → (run : IsRunOf task items telling) → IsLaidRun task items telling run.closing
laid_run task items telling run =
    let follows = run.follows in
    let made = lay follows.pieces follows.accesses in
    let laid : IsLaid (rounds_of items) run.followed =
    subst (IsLaid (rounds_of items)) follows.laid (subst (λ (items : List Item). IsLaid (rounds_of items) (flat_map (λ (piece : Piece). laid_out piece.item piece.accesses) follows.pieces)) follows.are made) in
    record {
      ran = laid.ran;
      are = laid.are;
      accesses = laid.accesses;
      journal_is = run.laid ∙ ap (λ (events : List Event). events ++ stretch [] run.closing) laid.laid
          ∙ append_assoc (map Stepped (rounds_of items).before) (flat_map round_events laid.ran) (stretch [] run.closing)
          ∙ ap (λ (events : List Event). map Stepped (rounds_of items).before ++ events) (rest_is laid.ran run.closing);
    }

state_is : (task : Task) (items : List Item) (telling : Telling) (closing : List Event) → (laid : IsLaidRun task items telling closing)
    → state_of task (calls_of items) telling ≡ state_over task laid.ran closing (after_steps (rounds_of items).before telling.start) (trail_opened (calls_of items))
state_is task items telling closing laid =
    let lines = calls_of items in
    let before = (rounds_of items).before in
    let start = after_steps before telling.start in
    let trail : trail_of task lines telling ≡ trail_after task (rest_events laid.ran closing) start (trail_opened lines) =
    ap (λ (events : List Event). trail_after task events telling.start (trail_opened lines)) laid.journal_is
    ∙ trail_append task (map Stepped before) (rest_events laid.ran closing) telling.start (trail_opened lines)
    ∙ ap (λ (now : World). trail_after task (rest_events laid.ran closing) now (trail_after task (map Stepped before) telling.start (trail_opened lines))) (steps_after before telling.start)
    ∙ ap (trail_after task (rest_events laid.ran closing) start) (steps_leave_trail task before telling.start (trail_opened lines)) in
    let within = ap (λ (trail : Trail). trail.within) trail ∙ within_over task closing laid.ran start (trail_opened lines) in
    ap (λ (within : Bool). (if within then ended task (trail_of task lines telling) else trail_of task lines telling).state) within ∙ ap (λ (trail : Trail). trail.state) trail

pub come_up : (laws : Laws) (task : Task) (codecs : List ℕ) (items : List Item) (telling : Telling) (Left : ℕ → List RanRound → World → Type 0) (Ends : State → Type 0) → IsTaskTo codecs task → IsStartFor codecs task telling.start
    → (run : IsRunOf task items telling) → ServesCommands codecs (length task.orders) (rounds_of items) → Onward task (graphs_of telling.start) run.closing (length (rounds_of items).rounds) Left Ends
    → Left 0 (laid_run task items telling run).ran (after_steps (rounds_of items).before telling.start) → Ends (state_of task (calls_of items) telling)
come_up laws task codecs items telling Left Ends to start run serves onward kept =
    let all = rounds_of items in
    let lines = calls_of items in
    let laid = laid_run task items telling run in
    let world = after_steps all.before telling.start in
    let graphs = graphs_of telling.start in
    let long : length laid.ran ≡ length all.rounds = sym (length-map laid.ran round_in) ∙ ap length laid.are in
    let rest = rest_steps task all.before (rest_events laid.ran run.closing) telling.start (trail_opened lines)
    (subst (λ (events : List Event). IsRest task events telling.start (trail_opened lines)) laid.journal_is (record { honest = run.honest; conforms = run.progress.conforms; finds = run.finds })) in
    let frames = frames_are items in
    let ran_is = ran_frames_are laid.ran ∙ ap (sum_by round_frames) laid.are in
    let counted = steps_count all.before telling.start in
    let few = run.few in
    let left : IsLeft task graphs laid.ran run.closing world (trail_opened lines) = record {
      rest = rest;
      left = ap (map call_of) (sym laid.are) ∙ sym (lines_are laid.ran);
      calm = calm_are laid.ran (subst (All IsCalmRound) (sym laid.are) serves.rounds);
      accesses = laid.accesses;
      closing_is = run.accesses;
      graphs_are = steps_graphs all.before telling.start;
      few = omega (arith, frames, ran_is, counted, few);
    } in
    let can = can_be_steps task.blocks.corb task.blocks.rirb all.before telling.start (record { blocks = start.blocks; ascend = start.ascend }) in
    let answers = answers_on codecs (length task.orders) laid.ran (subst (AnswersEach codecs (length task.orders)) (sym laid.are) serves.answers) in
    let done = comes_over laws task codecs graphs to (there_too codecs telling.start start.there) run.closing (length all.rounds) Left Ends onward laid.ran world (trail_opened lines) long
    (announces_on codecs (length task.orders) all laid.ran laid.are serves) answers kept left refl can in
    subst Ends (sym (state_is task items telling run.closing laid)) done
