-- Over a whole journal: a driver that is served and fed has played all.
use Rattle.std.proofs.Common.{◌≡◌, ◌≤◌, ◌<◌, ◌⊎◌, inl, inr, ℕ, suc, ◌+◌, ◌-◌, ◌*◌, ◌%◌, ◌^◌, Bool, true, false, List, [], ◌∷◌, ◌++◌, length, map, Some, refl, sym, ap, subst, ◌∙◌, arith, append_assoc, if◌then◌else◌}
use Rattle.std.specs.Prelude.{All, slice_get, cond}
use Rattle.std.proofs.lemmas.List.Sums.{sum_by-cons}
use Rattle.std.specs.Option.{option_map}
use Rattle.std.proofs.lemmas.List.{length-map}
use Rattle.std.proofs.lemmas.List.Elements.{All-nil, All-cons, All-head, All-tail, All-append, All-weaker}
use Rattle.std.proofs.lemmas.Option.{slice_get-map}
use Rattle.codec_graph.specs.declared.raw.RawCodec.{RawCodec}
use Rattle.world_steps.specs.declared.Step.{Step}
use Rattle.stream_format.specs.Layouts.{layout}
use Rattle.stream_format.specs.Cadence.{most_bytes, block_bytes}
use Rattle.stream_format.specs.Words.{format_word}
use Rattle.schedule_reader.specs.declared.schedule.Item.{Item}
use Rattle.hda_world.specs.Worlds.{World}
use Rattle.hda_world.specs.Steps.{after_steps}
use Rattle.hda_world.specs.Events.{Event, Stepped, Begin, End, Read, Write, DmaRead, DmaWrite, happens, after}
use Rattle.hda_world.specs.Leaving.{graphs_of}
use Rattle.hda_world.specs.Tellings.{Telling}
use Rattle.hda_world.proofs.Callers.{after-append, steps_after}
use Rattle.laws_stream.specs.Lives.{HasStopped}
use Rattle.period_writer.specs.Runs.{measures}
use Rattle.driver_progress.specs.Tasks.{Task}
use Rattle.driver_progress.specs.States.{State}
use Rattle.driver_progress.specs.Progress.{Trail, state_of}
use Rattle.rig.specs.Stretches.{is_access, accesses_of, stretch}
use Rattle.rig.specs.Follows.{AreAccesses}
use Rattle.schedule_reader.specs.declared.schedule.Group.{Group}
use Rattle.laws_serving.specs.Rounds.{rounds_of}
use Rattle.laws_serving.specs.ServingSchedules.{HasStreamsAlone, IsCalmRound, ServesCommands, ServesSound, MayFillTheRing}
use Rattle.laws_serving.specs.Runs.{IsTaskTo, IsStartFor, IsRunOf, calls_of}
use Rattle.laws_serving.proofs.Callers.{IsCalm, IsNoRise, within_call, calm_call, accesses_are, stretch_is, RanRound, round_in, rest_events, Laws, Onward, IsLeft, state_over, world_after, laid_run, come_up, SoundServed, served_later, first_served, IsReady}
use Rattle.laws_serving.specs.Feeding.{is_begin, calls_in, HasSentBefore}
use Rattle.laws_serving.proofs.Rolling.{StreamLaws}
use Rattle.laws_serving.proofs.Moments.{by_accesses}
use Rattle.laws_serving.proofs.FedRounds.{IsFedSoon, AllSent, PlayedAll}
use Rattle.laws_serving.proofs.First.{IsBehind, RiseLaws, others_no_rise, plays_all}
use Rattle.laws_serving.proofs.Rings.{ground_of, fits_of}

-- ---- calls among events

abbrev IsNoBegin : Event → Type 0
IsNoBegin event = is_begin event ≡ false

calls_cons : (event : Event) (events : List Event) → calls_in (event ∷ events) ≡ cond (is_begin event) 1 0 + calls_in events
calls_cons event events = sum_by-cons (λ (event : Event). cond (is_begin event) 1 0) event events

calls_none : (events back : List Event) → All IsNoBegin events → calls_in (events ++ back) ≡ calls_in back
calls_none [] back none = refl
calls_none (event ∷ events) back none =
    let cons = calls_cons event (events ++ back) in
    let zero_here = ap {B = ℕ} (λ (b : Bool). cond b 1 0) (All-head IsNoBegin event events none) in
    let rest = calls_none events back (All-tail IsNoBegin event events none) in omega (arith, cons, zero_here, rest)

-- a call begins behind events among which none does
pub record BeginsBehind (none rest front back : List Event) : Type 0 where
  pub later : List Event
  pub front_is : front ≡ none ++ later
  pub rest_is : rest ≡ later ++ Begin ∷ back

begins_behind : (none rest front back : List Event) → All IsNoBegin none → none ++ rest ≡ front ++ Begin ∷ back → BeginsBehind none rest front back
begins_behind [] rest front back are is = record { later = front; front_is = refl; rest_is = is }
begins_behind (event ∷ none) rest [] back are is = let same : event ≡ Begin = cc in let no = All-head IsNoBegin event none are in let yes : is_begin event ≡ true = ap is_begin same in let z : true ≡ false = sym yes ∙ no in cc
begins_behind (event ∷ none) rest (first ∷ front) back are is =
    let same : event ≡ first = cc in
    let tail : none ++ rest ≡ front ++ Begin ∷ back = cc in
    let done = begins_behind none rest front back (All-tail IsNoBegin event none are) tail in
    record { later = done.later; front_is = ap (λ (one : Event). one ∷ front) (sym same) ∙ ap (λ (events : List Event). event ∷ events) done.front_is; rest_is = done.rest_is }

never_begins : (none front back : List Event) → All IsNoBegin none → none ≡ front ++ Begin ∷ back → ⊥
never_begins [] [] back are is = cc
never_begins [] (first ∷ front) back are is = cc
never_begins (event ∷ none) [] back are is = let same : event ≡ Begin = cc in let no = All-head IsNoBegin event none are in let yes : is_begin event ≡ true = ap is_begin same in let z : true ≡ false = sym yes ∙ no in cc
never_begins (event ∷ none) (first ∷ front) back are is = let tail : none ≡ front ++ Begin ∷ back = cc in never_begins none front back (All-tail IsNoBegin event none are) tail

calm_no_begin : (event : Event) → IsCalm event → IsNoBegin event
calm_no_begin (Stepped step) is = refl
calm_no_begin Begin is = absurd is
calm_no_begin End is = refl
calm_no_begin (Read at width value) is = refl
calm_no_begin (Write at width value) is = refl
calm_no_begin (DmaRead at bytes) is = refl
calm_no_begin (DmaWrite at bytes) is = refl

body_no_begin : (groups : List Group) (accesses : List Event) → All HasStreamsAlone groups → AreAccesses accesses → All IsNoBegin (within_call groups accesses)
body_no_begin groups accesses calm are = All-weaker IsCalm IsNoBegin calm_no_begin (within_call groups accesses) (calm_call groups accesses calm are)

steps_no_begin : (steps : List Step) → All IsNoBegin (map Stepped steps)
steps_no_begin [] = All-nil IsNoBegin
steps_no_begin (one ∷ steps) = All-cons IsNoBegin (Stepped one) (map Stepped steps) refl (steps_no_begin steps)

-- ---- the rounds that are fed

-- as many bytes were sent when a call begins, before which so many had begun, of those that are left after so many
abbrev pub FedFrom : (first bytes : ℕ) → ℕ → List RanRound → World → Type 0
FedFrom first bytes count [] world = (first ≤ count) × AllSent bytes world
FedFrom first bytes count (one ∷ ran) world = ((first ≤ count) × AllSent bytes world) ⊎ FedFrom first bytes (count + 1) ran (world_after one world)

fed_lines : (first bytes count : ℕ) (ran : List RanRound) (world : World) → FedFrom first bytes count ran world → first ≤ count + length ran
fed_lines first bytes count [] world fed = let few = fed.0 in omega (arith, few)
fed_lines first bytes count (one ∷ ran) world (inl fed) = let few = fed.0 in omega (arith, few)
fed_lines first bytes count (one ∷ ran) world (inr fed) = let few = fed_lines first bytes (count + 1) ran (world_after one world) fed in omega (arith, few)

fed_soon : (first bytes count : ℕ) (ran : List RanRound) (world : World) → FedFrom first bytes count ran world → IsFedSoon bytes ran world
fed_soon first bytes count [] world fed = fed.1
fed_soon first bytes count (one ∷ ran) world (inl fed) = inl fed.1
fed_soon first bytes count (one ∷ ran) world (inr fed) = inr (fed_soon first bytes (count + 1) ran (world_after one world) fed)

-- a round with its calm steps, of accesses
abbrev pub IsCalmOne : RanRound → Type 0
IsCalmOne one = IsCalmRound one.round

abbrev pub HasAccesses : RanRound → Type 0
HasAccesses one = AreAccesses one.accesses

-- behind its begin no other call begins in a round
abbrev pub round_body : RanRound → List Event
round_body one = within_call one.round.line.groups one.accesses ++ End ∷ map Stepped one.round.steps

round_no_begin : (one : RanRound) → IsCalmOne one → HasAccesses one → All IsNoBegin (round_body one)
round_no_begin one calm are =
    All-append IsNoBegin (within_call one.round.line.groups one.accesses) (End ∷ map Stepped one.round.steps) (body_no_begin one.round.line.groups one.accesses calm.line.groups are)
    (All-cons IsNoBegin End (map Stepped one.round.steps) refl (steps_no_begin one.round.steps))

pub rest_splits : (one : RanRound) (ran : List RanRound) (closing : List Event) → rest_events (one ∷ ran) closing ≡ Begin ∷ (round_body one ++ rest_events ran closing)
rest_splits one ran closing =
    let body = within_call one.round.line.groups one.accesses in
    let tail = map Stepped one.round.steps ++ rest_events ran closing in
    ap (λ (events : List Event). events ++ tail) (stretch_is one.round.line.groups one.accesses)
    ∙ append_assoc (Begin ∷ body) (End ∷ []) tail
    ∙ sym (append_assoc (Begin ∷ body) (End ∷ map Stepped one.round.steps) (rest_events ran closing))

pub body_leads : (one : RanRound) (world : World) → after (round_body one) world ≡ world_after one world
body_leads one world =
    let body = within_call one.round.line.groups one.accesses in
    after-append body (End ∷ map Stepped one.round.steps) world ∙ steps_after one.round.steps (after body world)

fed_from : (first bytes count : ℕ) (ran : List RanRound) (closing front back : List Event) (world : World) → All IsCalmOne ran → All HasAccesses ran → AreAccesses closing → rest_events ran closing ≡ front ++ Begin ∷ back → first ≤ count + calls_in front
    → AllSent bytes (after front world) → FedFrom first bytes count ran world
fed_from first bytes count [] closing [] back world calm are last is few sent = let none : calls_in [] ≡ 0 = refl in (omega (arith, few, none), sent)
fed_from first bytes count [] closing (event ∷ front) back world calm are last is few sent =
    let whole : Begin ∷ (within_call [] closing ++ End ∷ []) ≡ event ∷ (front ++ Begin ∷ back) = sym (stretch_is [] closing) ∙ is in
    let tail : within_call [] closing ++ End ∷ [] ≡ front ++ Begin ∷ back = cc in
    absurd (never_begins (within_call [] closing ++ End ∷ []) front back
    (All-append IsNoBegin (within_call [] closing) (End ∷ []) (body_no_begin [] closing (All-nil HasStreamsAlone) last) (All-cons IsNoBegin End [] refl (All-nil IsNoBegin))) tail)
fed_from first bytes count (one ∷ ran) closing [] back world calm are last is few sent = let none : calls_in [] ≡ 0 = refl in inl (omega (arith, few, none), sent)
fed_from first bytes count (one ∷ ran) closing (event ∷ front) back world calm are last is few sent =
    let whole : Begin ∷ (round_body one ++ rest_events ran closing) ≡ event ∷ (front ++ Begin ∷ back) = sym (rest_splits one ran closing) ∙ is in
    let tail : round_body one ++ rest_events ran closing ≡ front ++ Begin ∷ back = cc in
    let same : event ≡ Begin = cc in
    let none = round_no_begin one (All-head IsCalmOne one ran calm) (All-head HasAccesses one ran are) in
    let behind = begins_behind (round_body one) (rest_events ran closing) front back none tail in
    let counted = calls_none (round_body one) behind.later none in
    let front_calls = ap calls_in behind.front_is in
    let cons = calls_cons event front in
    let one_more = ap {B = ℕ} (λ (event : Event). cond (is_begin event) 1 0) same in
    let there : after (event ∷ front) world ≡ after behind.later (world_after one world) =
    ap (λ (event : Event). after front (happens world event)) same ∙ ap (λ (events : List Event). after events world) behind.front_is ∙ after-append (round_body one) behind.later world ∙ ap (after behind.later) (body_leads one world) in
    inr (fed_from first bytes (count + 1) ran closing behind.later back (world_after one world) (All-tail IsCalmOne one ran calm) (All-tail HasAccesses one ran are) last behind.rest_is (omega (arith, few, counted, front_calls, cons, one_more))
    (subst (AllSent bytes) there sent))

-- ---- the journal up to a round

pub behind_on : (telling : Telling) (one : RanRound) (ran : List RanRound) (closing : List Event) (world : World) → All IsNoRise one.accesses → AreAccesses one.accesses → IsBehind telling (one ∷ ran) closing world → IsBehind telling ran closing (world_after one world)
behind_on telling one ran closing world quiet are behind =
    let round = stretch one.round.line.groups one.accesses ++ map Stepped one.round.steps in
    let body = within_call one.round.line.groups one.accesses in record {
      so_far = behind.so_far ++ round;
      journal_is = behind.journal_is
          ∙ ap (λ (events : List Event). behind.so_far ++ events) (sym (append_assoc (stretch one.round.line.groups one.accesses) (map Stepped one.round.steps) (rest_events ran closing)))
          ∙ sym (append_assoc behind.so_far round (rest_events ran closing));
      world_is = sym (body_leads one world) ∙ ap (after (round_body one)) behind.world_is ∙ sym (after-append behind.so_far (Begin ∷ round_body one) telling.start)
          ∙ ap (λ (events : List Event). after (behind.so_far ++ events) telling.start) (sym (round_is one));
      quiet = All-append IsNoRise behind.so_far round behind.quiet
          (subst (All IsNoRise) (sym (round_is one)) (All-cons IsNoRise Begin (round_body one) (λ same. cc)
          (by_accesses IsNoRise others_no_rise (round_body one) (subst (All IsNoRise) (sym (round_accesses one are)) quiet))));
    }
  where
    round_is : (one : RanRound) → stretch one.round.line.groups one.accesses ++ map Stepped one.round.steps ≡ Begin ∷ round_body one
    round_is one =
        ap (λ (events : List Event). events ++ map Stepped one.round.steps) (stretch_is one.round.line.groups one.accesses)
        ∙ append_assoc (Begin ∷ within_call one.round.line.groups one.accesses) (End ∷ []) (map Stepped one.round.steps)

    no_accesses : (steps : List Step) → accesses_of (map Stepped steps) ≡ []
    no_accesses [] = refl
    no_accesses (step ∷ steps) = no_accesses steps

    accesses_both : (front back : List Event) → accesses_of back ≡ [] → accesses_of (front ++ back) ≡ accesses_of front
    accesses_both [] back none = none
    accesses_both (event ∷ front) back none = by (is_access event) (accesses_both front back none)
      where
        by : (b : Bool) → accesses_of (front ++ back) ≡ accesses_of front → (if b then event ∷ accesses_of (front ++ back) else accesses_of (front ++ back)) ≡ (if b then event ∷ accesses_of front else accesses_of front)
        by true rest = ap (λ (events : List Event). event ∷ events) rest
        by false rest = rest

    round_accesses : (one : RanRound) → AreAccesses one.accesses → accesses_of (round_body one) ≡ one.accesses
    round_accesses one are =
        accesses_both (within_call one.round.line.groups one.accesses) (End ∷ map Stepped one.round.steps) (no_accesses one.round.steps) ∙ accesses_are one.round.line.groups one.accesses are

steps_no_rise : (steps : List Step) → All IsNoRise (map Stepped steps)
steps_no_rise [] = All-nil IsNoRise
steps_no_rise (one ∷ steps) = All-cons IsNoRise (Stepped one) (map Stepped steps) (λ same. cc) (steps_no_rise steps)

-- before the first round
pub behind_first : (telling : Telling) (before : List Step) (ran : List RanRound) (closing : List Event) → telling.journal ≡ map Stepped before ++ rest_events ran closing → IsBehind telling ran closing (after_steps before telling.start)
behind_first telling before ran closing is = record {
  so_far = map Stepped before;
  journal_is = is;
  world_is = sym (steps_after before telling.start);
  quiet = steps_no_rise before;
}

-- ---- from the first call on

-- each call that plays may write a ring
abbrev SoundGenerous : (commands ring : ℕ) → ℕ → List RanRound → Type 0
SoundGenerous commands ring count ran = (index : ℕ) (one : RanRound) → 3 + commands ≤ count + index → slice_get ran index ≡ Some one → ring ≤ one.round.line.budget

first_generous : (commands ring : ℕ) (ran : List RanRound) → MayFillTheRing commands ring (map round_in ran) → SoundGenerous commands ring 0 ran
first_generous commands ring ran may index one far there =
    let past = index - (3 + commands) in
    let at : 3 + commands + past ≡ index = omega (arith, far) in
    may past one.round (ap (slice_get (map round_in ran)) at ∙ slice_get-map round_in ran index ∙ ap (option_map round_in) there)

calm_ran : (ran : List RanRound) → All IsCalmRound (map round_in ran) → All IsCalmOne ran
calm_ran [] calm = All-nil IsCalmOne
calm_ran (one ∷ ran) calm = All-cons IsCalmOne one ran (All-head IsCalmRound one.round (map round_in ran) calm) (calm_ran ran (All-tail IsCalmRound one.round (map round_in ran) calm))

-- what is asked of the rounds that are left after so many
pub record FedLeft (task : Task) (telling : Telling) (closing : List Event) (count : ℕ) (ran : List RanRound) (world : World) : Type 0 where
  pub served : SoundServed (length task.orders) (measures task.geometry).limit (measures task.geometry).slack count ran world
  pub generous : SoundGenerous (length task.orders) (measures task.geometry).ring count ran
  pub fed : FedFrom (4 + length task.orders) (length task.pcm) count ran world
  pub accesses : All HasAccesses ran
  pub behind : IsBehind telling ran closing world

fed_later : (task : Task) (telling : Telling) (closing : List Event) (count next : ℕ) (one : RanRound) (ran : List RanRound) (world : World) → count < 3 + length task.orders → All IsNoRise one.accesses → next ≡ count + 1
    → FedLeft task telling closing count (one ∷ ran) world → FedLeft task telling closing next ran (world_after one world)
fed_later task telling closing count next one ran world few quiet same left = record {
  served = served_later (length task.orders) (measures task.geometry).limit (measures task.geometry).slack count next one ran world same left.served;
  generous = λ index other far there. left.generous (suc index) other (omega (arith, far, same)) there;
  fed = subst (λ (next : ℕ). FedFrom (4 + length task.orders) (length task.pcm) next ran (world_after one world)) (sym same) (which left.fed);
  accesses = All-tail HasAccesses one ran left.accesses;
  behind = behind_on telling one ran closing world quiet (All-head HasAccesses one ran left.accesses) left.behind;
}
  where
    which : ((4 + length task.orders ≤ count) × AllSent (length task.pcm) world) ⊎ FedFrom (4 + length task.orders) (length task.pcm) (count + 1) ran (world_after one world)
        → FedFrom (4 + length task.orders) (length task.pcm) (count + 1) ran (world_after one world)
    which (inl fed) = let far = fed.0 in absurd (omega (arith, far, few))
    which (inr fed) = fed

-- where it leads
abbrev pub EndsFed : (task : Task) (total : ℕ) → State → Type 0
EndsFed task total state = 4 + length task.orders ≤ total → PlayedAll (length task.pcm) state

module _ (laws : StreamLaws) (rise_laws : RiseLaws) (task : Task) (graphs : List RawCodec) (closing : List Event) (frames : ℕ) (long : length task.pcm ≡ frames * block_bytes task.geometry.format) (telling : Telling) (stopped : HasStopped telling)
    (loud : task.plays ≡ true) where
  fed_ready : (total : ℕ) (ran : List RanRound) (least : ℕ) (world : World) (trail : Trail) → FedLeft task telling closing (3 + length task.orders) ran world → IsLeft task graphs ran closing world trail → IsReady task (length task.orders) least trail world
      → EndsFed task total (state_over task ran closing world trail)
  fed_ready total [] least world trail kept left ready enough =
      let few = fed_lines (4 + length task.orders) (length task.pcm) (3 + length task.orders) [] world kept.fed in absurd (omega (arith, few))
  fed_ready total (one ∷ ran) least world trail kept left ready enough =
      plays_all laws rise_laws task graphs closing (length task.orders) (format_word task.geometry.format % 2 ^ 16) (layout task.geometry.format) (most_bytes task.geometry.format) (ground_of task frames long) (fits_of task) telling stopped
      least one ran world trail loud (λ index other there. kept.served index other (omega arith) there) (λ index other there. kept.generous index other (omega arith) there)
      (fed_soon (4 + length task.orders) (length task.pcm) (3 + length task.orders + 1) ran (world_after one world) (which kept.fed)) kept.behind left ready
    where
      which : ((4 + length task.orders ≤ 3 + length task.orders) × AllSent (length task.pcm) world) ⊎ FedFrom (4 + length task.orders) (length task.pcm) (3 + length task.orders + 1) ran (world_after one world)
          → FedFrom (4 + length task.orders) (length task.pcm) (3 + length task.orders + 1) ran (world_after one world)
      which (inl fed) = let far = fed.0 in absurd (omega (arith, far))
      which (inr fed) = fed

  fed_onward : (total : ℕ) → Onward task graphs closing total (FedLeft task telling closing) (EndsFed task total)
  fed_onward total = record {
    later = λ count next one ran world few quiet same kept. fed_later task telling closing count next one ran world few quiet same kept;
    early = λ state few come enough. absurd (omega (arith, few, enough));
    ready = λ ran least world trail counted kept left ready. fed_ready total ran least world trail kept left ready;
  }

-- ---- over the whole journal

-- it is fed from the first round on
fed_at_first : (task : Task) (items : List Item) (telling : Telling) (calls bytes : ℕ) → (run : IsRunOf task items telling) → All IsCalmRound (rounds_of items).rounds → HasSentBefore calls bytes telling.start telling.journal
    → FedFrom calls bytes 0 (laid_run task items telling run).ran (after_steps (rounds_of items).before telling.start)
fed_at_first task items telling calls bytes run calm_rounds sent =
    let before = (rounds_of items).before in
    let laid = laid_run task items telling run in
    let calm = calm_ran laid.ran (subst (All IsCalmRound) (sym laid.are) calm_rounds) in
    let behind = begins_behind (map Stepped before) (rest_events laid.ran run.closing) sent.front sent.back (steps_no_begin before) (sym laid.journal_is ∙ sent.journal_is) in
    let front_calls = ap calls_in behind.front_is ∙ calls_none (map Stepped before) behind.later (steps_no_begin before) in
    let far = sent.later in
    let there : after sent.front telling.start ≡ after behind.later (after_steps before telling.start) =
    ap (λ (events : List Event). after events telling.start) behind.front_is ∙ after-append (map Stepped before) behind.later telling.start ∙ ap (after behind.later) (steps_after before telling.start) in
    fed_from calls bytes 0 laid.ran run.closing behind.later sent.back (after_steps before telling.start) calm laid.accesses run.accesses behind.rest_is (omega (arith, front_calls, far)) (subst (AllSent bytes) there sent.sent)

-- so many calls are made by lines of the schedule
pub sent_lines : (task : Task) (items : List Item) (telling : Telling) (calls bytes : ℕ) → (run : IsRunOf task items telling) → All IsCalmRound (rounds_of items).rounds → HasSentBefore calls bytes telling.start telling.journal
    → calls ≤ length (rounds_of items).rounds
sent_lines task items telling calls bytes run calm_rounds sent =
    let laid = laid_run task items telling run in
    let rounds : length laid.ran ≡ length (rounds_of items).rounds = sym (length-map laid.ran round_in) ∙ ap length laid.are in
    let lines = fed_lines calls bytes 0 laid.ran (after_steps (rounds_of items).before telling.start) (fed_at_first task items telling calls bytes run calm_rounds sent) in
    omega (arith, lines, rounds)

pub fed_play_all : (laws : Laws) (stream : StreamLaws) (rise_laws : RiseLaws) (task : Task) (codecs : List ℕ) (items : List Item) (telling : Telling) (frames : ℕ) → task.plays ≡ true → IsTaskTo codecs task → IsStartFor codecs task telling.start
    → IsRunOf task items telling → ServesCommands codecs (length task.orders) (rounds_of items) → ServesSound (length task.orders) (measures task.geometry).limit (measures task.geometry).slack (rounds_of items).rounds
    → MayFillTheRing (length task.orders) (measures task.geometry).ring (rounds_of items).rounds → HasStopped telling → length task.pcm ≡ frames * block_bytes task.geometry.format
    → HasSentBefore (4 + length task.orders) (length task.pcm) telling.start telling.journal → PlayedAll (length task.pcm) (state_of task (calls_of items) telling)
fed_play_all laws stream rise_laws task codecs items telling frames loud to start run serves sound may stopped long sent =
    let commands = length task.orders in
    let m = measures task.geometry in
    let all = rounds_of items in
    let laid = laid_run task items telling run in
    let ran = laid.ran in
    let world = after_steps all.before telling.start in
    let total = length all.rounds in
    let ends = come_up laws task codecs items telling (FedLeft task telling run.closing) (EndsFed task total) to start run serves
    (fed_onward stream rise_laws task (graphs_of telling.start) run.closing frames long telling stopped loud total)
    (record {
      served = first_served commands m.limit m.slack ran world (subst (ServesSound commands m.limit m.slack) (sym laid.are) sound);
      generous = first_generous commands m.ring ran (subst (MayFillTheRing commands m.ring) (sym laid.are) may);
      fed = fed_at_first task items telling (4 + commands) (length task.pcm) run serves.rounds sent;
      accesses = laid.accesses;
      behind = behind_first telling all.before ran run.closing laid.journal_is;
    }) in
    ends (sent_lines task items telling (4 + commands) (length task.pcm) run serves.rounds sent)
