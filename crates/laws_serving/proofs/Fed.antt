-- How a driver plays by a schedule that feeds it, round by round: all of the sound, and no silence before its end.
use Rattle.std.proofs.Common.{◌≡◌, ◌≢◌, ◌≤◌, ◌<◌, inl, inr, ℕ, zero, suc, ◌+◌, ◌/◌, min, Bool, true, false, List, [], ◌∷◌, ◌++◌, length, map, Some, sym, ap, subst, ◌∙◌, arith, append_assoc, if◌then◌else◌}
use Rattle.std.specs.Prelude.{All, sum_by}
use Rattle.std.proofs.lemmas.List.{length-take, length-append}
use Rattle.std.proofs.lemmas.List.Sums.{sum_by-append}
use Rattle.std.proofs.lemmas.List.Elements.{All-nil, All-cons, All-head, All-tail, All-append}
use Rattle.verb_codes.specs.Words.{has_bit}
use Rattle.codec_graph.specs.CodecStates.{CodecState}
use Rattle.world_steps.specs.declared.Step.{Step}
use Rattle.hda_registers.specs.declared.shapes.Width.TheVariants.{One, Two, Four}
use Rattle.hda_registers.specs.declared.places.TheConstants.{RIRBSTS, RIRBWP}
use Rattle.hda_registers.specs.Fields.{entries_of}
use Rattle.hda_registers.specs.Laws.{IsBesideStreams}
use Rattle.hda_registers.proofs.Callers.{read-output_position}
use Rattle.stream_format.specs.Layouts.{Layout, layout_of}
use Rattle.world_streams.specs.Streams.{most_by}
use Rattle.heard_frames.specs.HeardLists.{block_size}
use Rattle.hda_world.specs.Worlds.{World, CarriedFrame}
use Rattle.hda_world.specs.Events.{Event, Stepped, Begin, End, Read, Write, DmaRead, DmaWrite, AreHonest, after}
use Rattle.hda_world.specs.Streaming.{bytes_of, carried_bytes}
use Rattle.hda_world.proofs.Callers.{after-append, AreHonest-back}
use Rattle.command_engine.specs.declared.ring_places.RingPlaces.{RingPlaces}
use Rattle.command_engine.specs.Polling.{new_entries}
use Rattle.laws_hearing.specs.Steady.{IsSteadyFrame, IsBesideCommands}
use Rattle.laws_stream.specs.Lives.{Runs, Along, stops}
use Rattle.period_writer.specs.declared.registers.TheConstants.{POSITION}
use Rattle.driver_progress.specs.Seen.{Seen}
use Rattle.driver_progress.specs.Requests.{Request, Gets, Puts, Fetches, Stores, requests_of}
use Rattle.driver_progress.specs.Expected.{fetches, polls}
use Rattle.rig.specs.Stretches.{is_access, accesses_of}
use Rattle.rig.specs.Follows.{AreAccesses}
use Rattle.rig.specs.LinkFrames.{event_frames}
use Rattle.laws_serving.proofs.Callers.{IsAccess, events_count}
use Rattle.laws_serving.proofs.Full.{IsWhole, whole_add}
use Rattle.laws_serving.proofs.Moments.{split_body, IsNoStop, runs_at, by_accesses}
use Rattle.laws_serving.proofs.Rolling.{Moves, IsBesideSound, StreamLaws, Rolls, rolls_on, events_move}

-- ---- accesses beside the sound

-- a request that writes neither GCTL, nor a register of CORB, nor one of the descriptors
abbrev pub AsksBeside : Request → Type 0
AsksBeside (Gets at width) = Unit {0}
AsksBeside (Puts at width value) = IsBesideCommands at × IsBesideStreams at
AsksBeside (Fetches at count) = Unit {0}
AsksBeside (Stores at bytes) = Unit {0}

pub asked_beside : (accesses : List Event) → AreAccesses accesses → All AsksBeside (requests_of accesses) → All IsBesideSound accesses
asked_beside [] are beside = All-nil IsBesideSound
asked_beside (Stepped step ∷ accesses) are beside = absurd (let is = All-head IsAccess (Stepped step) accesses are in cc)
asked_beside (Begin ∷ accesses) are beside = absurd (let is = All-head IsAccess Begin accesses are in cc)
asked_beside (End ∷ accesses) are beside = absurd (let is = All-head IsAccess End accesses are in cc)
asked_beside (Read at width value ∷ accesses) are beside =
    All-cons IsBesideSound (Read at width value) accesses tt (asked_beside accesses (All-tail IsAccess (Read at width value) accesses are) (All-tail AsksBeside (Gets at width) (requests_of accesses) beside))
asked_beside (Write at width value ∷ accesses) are beside =
    All-cons IsBesideSound (Write at width value) accesses (All-head AsksBeside (Puts at width value) (requests_of accesses) beside)
    (asked_beside accesses (All-tail IsAccess (Write at width value) accesses are) (All-tail AsksBeside (Puts at width value) (requests_of accesses) beside))
asked_beside (DmaRead at bytes ∷ accesses) are beside =
    All-cons IsBesideSound (DmaRead at bytes) accesses tt (asked_beside accesses (All-tail IsAccess (DmaRead at bytes) accesses are) (All-tail AsksBeside (Fetches at (length bytes)) (requests_of accesses) beside))
asked_beside (DmaWrite at bytes ∷ accesses) are beside =
    All-cons IsBesideSound (DmaWrite at bytes) accesses tt (asked_beside accesses (All-tail IsAccess (DmaWrite at bytes) accesses are) (All-tail AsksBeside (Stores at bytes) (requests_of accesses) beside))

fetches_beside : (rirb size count place : ℕ) → All AsksBeside (fetches rirb size count place)
fetches_beside rirb size zero place = All-nil AsksBeside
fetches_beside rirb size (suc count) place = All-cons AsksBeside _ (fetches rirb size count (place + 1)) tt (fetches_beside rirb size count (place + 1))

polls_beside : (rirb : ℕ) (rings : RingPlaces) (seen : Seen) → All AsksBeside (polls rirb rings seen)
polls_beside rirb rings seen = All-cons AsksBeside (Gets RIRBSTS One) _ tt (by (has_bit seen.flag 0))
  where
    clears : All AsksBeside (Puts RIRBSTS One 1 ∷ [])
    clears =
        let apart : 0x5D / 4 ≢ 2 = omega arith in
        let rings_apart : 0x50 ≤ 0x5D = omega arith in
        let streams : 0x5D < 0x80 = omega arith in
        All-cons AsksBeside (Puts RIRBSTS One 1) [] (record { control = apart; corb = inr rings_apart }, inl streams) (All-nil AsksBeside)

    by : (set : Bool) → All AsksBeside (if set then Gets RIRBWP Two ∷ (fetches rirb (entries_of rings.rirb) (new_entries rings seen.pointer) (rings.read + 1) ++ Puts RIRBSTS One 1 ∷ []) else [])
    by true =
        All-cons AsksBeside (Gets RIRBWP Two) _ tt (All-append AsksBeside (fetches rirb (entries_of rings.rirb) (new_entries rings seen.pointer) (rings.read + 1)) (Puts RIRBSTS One 1 ∷ [])
        (fetches_beside rirb (entries_of rings.rirb) (new_entries rings seen.pointer) (rings.read + 1)) clears)
    by false = All-nil AsksBeside

pub poll_beside : (rirb : ℕ) (rings : RingPlaces) (seen : Seen) (front : List Event) → AreAccesses front → requests_of front ≡ polls rirb rings seen → All IsBesideSound front
poll_beside rirb rings seen front are asks = asked_beside front are (subst (All AsksBeside) (sym asks) (polls_beside rirb rings seen))

-- what is no access stands beside it
pub others_beside : (event : Event) → is_access event ≡ false → IsBesideSound event
others_beside (Stepped step) none = tt
others_beside Begin none = tt
others_beside End none = tt
others_beside (Read at width value) none = tt
others_beside (Write at width value) none = cc
others_beside (DmaRead at bytes) none = tt
others_beside (DmaWrite at bytes) none = tt

pub steps_beside : (steps : List Step) → All IsBesideSound (map Stepped steps)
steps_beside [] = All-nil IsBesideSound
steps_beside (one ∷ steps) = All-cons IsBesideSound (Stepped one) (map Stepped steps) tt (steps_beside steps)

-- and stops nothing
pub beside_goes_on : (event : Event) → IsBesideSound event → IsNoStop event
beside_goes_on event is same = by (subst IsBesideSound same is)
  where
    by : IsBesideSound stops → ⊥
    by (commands, inl low) = omega (arith, low)
    by (commands, inr high) = omega (arith, high)

pub all_go_on : (events : List Event) → All IsBesideSound events → All IsNoStop events
all_go_on [] are = All-nil IsNoStop
all_go_on (event ∷ events) are = All-cons IsNoStop event events (beside_goes_on event (All-head IsBesideSound event events are)) (all_go_on events (All-tail IsBesideSound event events are))

-- ---- what left the stream is whole blocks

module _ (codecs : List CodecState) (tag word : ℕ) (layout : Layout) where
  carried_whole : (frames : List CarriedFrame) → All (IsSteadyFrame codecs tag word (block_size layout)) frames → IsWhole (block_size layout) (length (carried_bytes frames))
  carried_whole [] are = record { count = 0; is = omega arith }
  carried_whole (frame ∷ frames) are =
      let here = All-head (IsSteadyFrame codecs tag word (block_size layout)) frame frames are in
      let rest = carried_whole frames (All-tail (IsSteadyFrame codecs tag word (block_size layout)) frame frames are) in
      let long = length-append (bytes_of frame.carriage) (carried_bytes frames) in
      subst (IsWhole (block_size layout)) (sym long) (whole_add (block_size layout) (length (bytes_of frame.carriage)) (length (carried_bytes frames)) (record { count = here.blocks; is = here.whole }) rest)

  -- as many bytes left it as link frames carried
  pub left_carried : (ring : ℕ) (world : World) → Rolls codecs tag word layout ring world → length (carried_bytes world.carried) ≡ world.output.left
  left_carried ring world rolls =
      ap length rolls.sent.bytes ∙ length-take world.output.left world.output.entered ∙ least world.output.left (length world.output.entered) rolls.sent.behind
    where
      least : (a b : ℕ) → a ≤ b → min a b ≡ a
      least a b few = grind (arith, few)

  pub left_whole : (ring : ℕ) (world : World) → Rolls codecs tag word layout ring world → IsWhole (block_size layout) world.output.left
  left_whole ring world rolls = subst (IsWhole (block_size layout)) (left_carried ring world rolls) (carried_whole world.carried rolls.steady.frames)

-- ---- a call finds the link

-- events of a call, up to the read of LPIB and behind it
pub record FindsLink (codecs : List CodecState) (tag word : ℕ) (layout : Layout) (ring most : ℕ) (world : World) (body : List Event) (lpib : ℕ) (rest : List Event) : Type 0 where
  pub before : List Event
  pub behind : List Event
  pub is : body ≡ before ++ Read POSITION Four lpib ∷ behind
  pub behind_is : accesses_of behind ≡ rest
  pub beside : All IsBesideSound before
  pub rolls : Rolls codecs tag word layout ring (after before world)
  pub moves : Moves most world (after before world)
  pub reads : lpib ≡ (after before world).registers.output.link_position
  pub soon : (after before world).frames ≤ world.frames + sum_by event_frames body

pub finds_link : (laws : StreamLaws) (codecs : List CodecState) (tag word : ℕ) (layout : Layout) (ring most : ℕ) (world : World) (body front : List Event) (lpib : ℕ) (rest : List Event) → layout_of word ≡ Some layout → most_by (layout_of word) ≡ most
    → Rolls codecs tag word layout ring world → AreHonest body world → accesses_of body ≡ front ++ Read POSITION Four lpib ∷ rest → All IsBesideSound front → FindsLink codecs tag word layout ring most world body lpib rest
finds_link laws codecs tag word layout ring most world body front lpib rest is most_is rolls honest are quiet =
    let split = split_body body front (Read POSITION Four lpib) rest are in
    let beside = by_accesses IsBesideSound others_beside split.before (subst (All IsBesideSound) (sym split.front_is) quiet) in
    let there = AreHonest-back split.before (Read POSITION Four lpib ∷ split.behind) world (subst (λ (events : List Event). AreHonest events world) split.is honest) in
    let counted = events_count split.before world in
    let all = ap (sum_by event_frames) split.is ∙ sum_by-append event_frames split.before (Read POSITION Four lpib ∷ split.behind) in
    record {
      before = split.before;
      behind = split.behind;
      is = split.is;
      behind_is = split.back_is;
      beside = beside;
      rolls = rolls_on laws codecs tag word layout ring split.before world is beside rolls;
      moves = events_move most word split.before world beside rolls.steady.word_is most_is;
      reads = there.0 ∙ read-output_position (after split.before world).registers;
      soon = omega (arith, counted, all);
    }

-- ---- and the stream runs there

-- what the events since the stream was set going were, up to this call and behind it
pub record IsPlaced (start : World) (during later : List Event) (world : World) (body tail : List Event) : Type 0 where
  pub along : Along Runs during start
  pub so_far : List Event
  pub world_is : world ≡ after so_far start
  pub quiet : All IsNoStop so_far
  pub all : so_far ++ (Begin ∷ (body ++ End ∷ tail)) ≡ during ++ stops ∷ later

pub runs_there : (start : World) (during later : List Event) (world : World) (body tail before behind : List Event) (lpib : ℕ) → IsPlaced start during later world body tail → body ≡ before ++ Read POSITION Four lpib ∷ behind → All IsBesideSound before
    → Runs (after before world)
runs_there start during later world body tail before behind lpib placed is beside =
    let front = placed.so_far ++ Begin ∷ before in
    let back = Read POSITION Four lpib ∷ (behind ++ End ∷ tail) in
    let whole : front ++ back ≡ during ++ stops ∷ later =
    append_assoc placed.so_far (Begin ∷ before) back
    ∙ ap (λ (events : List Event). placed.so_far ++ Begin ∷ events) (sym (append_assoc before (Read POSITION Four lpib ∷ behind) (End ∷ tail)) ∙ ap (λ (body : List Event). body ++ End ∷ tail) (sym is))
    ∙ placed.all in
    let none = All-append IsNoStop placed.so_far (Begin ∷ before) placed.quiet (All-cons IsNoStop Begin before (λ same. cc) (all_go_on before beside)) in
    let there : after front start ≡ after before world = after-append placed.so_far (Begin ∷ before) start ∙ ap (after before) (sym placed.world_is) in
    subst Runs there (runs_at front back during later start whole none placed.along)
