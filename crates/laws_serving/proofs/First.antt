-- The first call that plays sets the stream going, by which the sound begins.
use Rattle.std.proofs.Common.{◌≡◌, ◌≢◌, ◌≤◌, ◌<◌, inl, inr, ℕ, zero, suc, ◌-◌, ◌/◌, ◌%◌, ◌^◌, ◌==◌, ◌&&◌, not, Bool, true, false, List, [], ◌∷◌, ◌++◌, length, map, Option, None, refl, sym, ap, subst, ◌∙◌, arith, append_assoc, if◌then◌else◌}
use Rattle.std.specs.Prelude.{All}
use Rattle.std.proofs.Math.Nat.{mod-eq_of_lt}
use Rattle.std.proofs.lemmas.List.Elements.{All-nil, All-cons, All-head, All-tail, All-append}
use Rattle.codec_graph.specs.declared.raw.RawCodec.{RawCodec}
use Rattle.codec_graph.specs.CodecStates.{CodecState}
use Rattle.hda_registers.specs.declared.shapes.Width.{Width}
use Rattle.hda_registers.specs.declared.shapes.Width.TheVariants.{One, Two, Four}
use Rattle.hda_registers.specs.declared.places.TheConstants.{WALCLK, INTCTL}
use Rattle.hda_registers.specs.Fields.{Fields, is_out_of_reset}
use Rattle.hda_registers.specs.Access.{written, placed, stream_written, rose}
use Rattle.stream_format.specs.Layouts.{Layout}
use Rattle.stream_format.specs.Words.{format_word}
use Rattle.world_streams.specs.Streams.{begun}
use Rattle.heard_frames.specs.HeardLists.{block_size}
use Rattle.hda_world.specs.Worlds.{World, TakenCommand}
use Rattle.hda_world.specs.Steps.{after_steps}
use Rattle.hda_world.specs.Events.{Event, Stepped, Begin, End, Read, Write, DmaRead, DmaWrite, AreHonest, happens, after, after_write}
use Rattle.hda_world.specs.Streaming.{HasPosition, HasSent}
use Rattle.hda_world.specs.Tellings.{Telling}
use Rattle.hda_world.proofs.Callers.{after-append, access_leaves, steps_after, events_front, events_back, AreHonest-front}
use Rattle.command_engine.specs.declared.answers.Outstanding.{Outstanding}
use Rattle.command_engine.specs.Fetchings.{IsFetching as RingFetching, IsWordOf, RingPart}
use Rattle.laws_hearing.specs.Steady.{AreIdle, IsBesideCommands, IsSteadyFrame, LeavesCommands}
use Rattle.laws_stream.specs.Lives.{HasNotBegun, HasStopped, sets_going, stops}
use Rattle.period_writer.specs.declared.geometry.Geometry.{Geometry}
use Rattle.period_writer.specs.declared.registers.TheConstants.{CONTROL, RING_LENGTH, LAST_INDEX, FORMAT, LIST_ADDRESS}
use Rattle.period_writer.specs.Rings.{ring_bytes}
use Rattle.period_writer.specs.Runs.{Measures, Tally, facts_of, measures}
use Rattle.driver_progress.specs.Tasks.{Task}
use Rattle.driver_progress.specs.Progress.{Trail, seen_in}
use Rattle.schedule_reader.specs.declared.schedule.Group.{Group}
use Rattle.rig.specs.Stretches.{is_access, accesses_of, stretch}
use Rattle.rig.specs.Follows.{AreAccesses}
use Rattle.laws_serving.proofs.Callers.{IsAccess, alone_is, IsNoRise, IsCalm, CalmRow, row_of, IsBeside, timed_row, timed_steps, steps_count, frames_so, event_frames_stay, write_is, within_call, calm_call, accesses_are, stretch_is, trail_made, RanRound, rest_events, IsLeft, IsNext, next_round, line_in, world_after, IsReady, first_run, ArePrompt, prompt_later, state_over}
use Rattle.laws_serving.proofs.Full.{IsFull, first_full}
use Rattle.laws_serving.proofs.Moments.{split_body, by_accesses, one_rise, never_begun}
use Rattle.laws_serving.proofs.Rolling.{Moves, IsBesideSound, StreamLaws, Rolls, rolls_on, events_move, position_events}
use Rattle.laws_serving.proofs.Setting.{IsStore, SetsGoing, goes_first, goes_as, sets, RestsWith, set_up}
use Rattle.laws_serving.proofs.Fed.{others_beside, steps_beside, all_go_on}
use Rattle.laws_serving.proofs.FedRounds.{Ground, IsFed, IsFedSoon, AreGenerous, PlayedAll, pace_on, feeds}
use Rattle.laws_stream.proofs.Callers.{Along-end}

-- what events have, said one after another
abbrev Each : (Event → Type 0) → List Event → Type 0
Each P [] = Unit {0}
Each P (event ∷ events) = P event × Each P events

all_each : (P : Event → Type 0) (events : List Event) → Each P events → All P events
all_each P [] each = All-nil P
all_each P (event ∷ events) each = All-cons P event events each.0 (all_each P events each.1)

-- ---- what the first accesses leave alone

write_apart : (at value : ℕ) (width : Width) → (at ≡ CONTROL → width ≡ One → value ≡ 0x1E → ⊥) → IsNoRise (Write at width value)
write_apart at value width apart same =
    let place : at ≡ CONTROL = cc in
    let narrow : width ≡ One = cc in
    let rise : value ≡ 0x1E = cc in apart place narrow rise

stores_no_rise : (stores : List Event) → All IsStore stores → All IsNoRise stores
stores_no_rise [] are = All-nil IsNoRise
stores_no_rise (Stepped step ∷ stores) are = absurd (All-head IsStore (Stepped step) stores are)
stores_no_rise (Begin ∷ stores) are = absurd (All-head IsStore Begin stores are)
stores_no_rise (End ∷ stores) are = absurd (All-head IsStore End stores are)
stores_no_rise (Read at width value ∷ stores) are = absurd (All-head IsStore (Read at width value) stores are)
stores_no_rise (Write at width value ∷ stores) are = absurd (All-head IsStore (Write at width value) stores are)
stores_no_rise (DmaRead at bytes ∷ stores) are = absurd (All-head IsStore (DmaRead at bytes) stores are)
stores_no_rise (DmaWrite at bytes ∷ stores) are = All-cons IsNoRise (DmaWrite at bytes) stores (λ same. cc) (stores_no_rise stores (All-tail IsStore (DmaWrite at bytes) stores are))

first_no_rise : (geometry : Geometry) (list from in_reset ready : ℕ) (stores : List Event) → All IsStore stores → All IsNoRise (Read WALCLK Four from ∷ goes_first in_reset ready stores geometry list)
first_no_rise geometry list from in_reset ready stores are =
    let front : List Event = Read WALCLK Four from ∷ Write CONTROL One 1 ∷ Read CONTROL One in_reset ∷ Write CONTROL One 0 ∷ Read CONTROL One ready ∷ [] in
    let reset = write_apart CONTROL 1 One (λ at width value. omega (arith, value)) in
    let ended = write_apart CONTROL 0 One (λ at width value. omega (arith, value)) in
    let size = write_apart RING_LENGTH (ring_bytes geometry.periods geometry.period) Four (λ at width value. cc) in
    let last = write_apart LAST_INDEX (geometry.periods - 1) Two (λ at width value. cc) in
    let format = write_apart FORMAT (format_word geometry.format) Two (λ at width value. cc) in
    let entries = write_apart LIST_ADDRESS list Four (λ at width value. cc) in
    let tag = write_apart CONTROL 0x0010001C Four (λ at width value. cc) in
    let interrupts = write_apart INTCTL 0xC0000002 Four (λ at width value. cc) in
    All-append IsNoRise front (stores ++ sets geometry list)
    (all_each IsNoRise front ((λ same. cc), (reset, ((λ same. cc), (ended, ((λ same. cc), tt))))))
    (All-append IsNoRise stores (sets geometry list) (stores_no_rise stores are)
    (all_each IsNoRise (sets geometry list) (size, (last, (format, (entries, (tag, (interrupts, tt))))))))

pub others_no_rise : (event : Event) → is_access event ≡ false → IsNoRise event
others_no_rise event none same = let access : is_access event ≡ true = ap is_access same in let z : true ≡ false = sym access ∙ none in cc

-- no command is sent
stores_no_command : (stores : List Event) → All IsStore stores → All LeavesCommands stores
stores_no_command [] are = All-nil LeavesCommands
stores_no_command (Stepped step ∷ stores) are = absurd (All-head IsStore (Stepped step) stores are)
stores_no_command (Begin ∷ stores) are = absurd (All-head IsStore Begin stores are)
stores_no_command (End ∷ stores) are = absurd (All-head IsStore End stores are)
stores_no_command (Read at width value ∷ stores) are = absurd (All-head IsStore (Read at width value) stores are)
stores_no_command (Write at width value ∷ stores) are = absurd (All-head IsStore (Write at width value) stores are)
stores_no_command (DmaRead at bytes ∷ stores) are = absurd (All-head IsStore (DmaRead at bytes) stores are)
stores_no_command (DmaWrite at bytes ∷ stores) are = All-cons LeavesCommands (DmaWrite at bytes) stores tt (stores_no_command stores (All-tail IsStore (DmaWrite at bytes) stores are))

first_no_command : (geometry : Geometry) (list from in_reset ready : ℕ) (stores : List Event) → All IsStore stores → All LeavesCommands (Read WALCLK Four from ∷ goes_first in_reset ready stores geometry list)
first_no_command geometry list from in_reset ready stores are =
    let a : 0xA0 / 4 ≢ 2 = omega arith in
    let a' : 0x50 ≤ 0xA0 = omega arith in
    let b : 0xA8 / 4 ≢ 2 = omega arith in
    let b' : 0x50 ≤ 0xA8 = omega arith in
    let d : 0xAC / 4 ≢ 2 = omega arith in
    let d' : 0x50 ≤ 0xAC = omega arith in
    let e : 0xB2 / 4 ≢ 2 = omega arith in
    let e' : 0x50 ≤ 0xB2 = omega arith in
    let f : 0xB8 / 4 ≢ 2 = omega arith in
    let f' : 0x50 ≤ 0xB8 = omega arith in
    let g : 0x20 / 4 ≢ 2 = omega arith in
    let g' : 0x20 < 0x40 = omega arith in
    let control : IsBesideCommands 0xA0 = record { control = a; corb = inr a' } in
    let front : List Event = Read WALCLK Four from ∷ Write CONTROL One 1 ∷ Read CONTROL One in_reset ∷ Write CONTROL One 0 ∷ Read CONTROL One ready ∷ [] in
    All-append LeavesCommands front (stores ++ sets geometry list)
    (all_each LeavesCommands front (tt, (control, (tt, (control, (tt, tt))))))
    (All-append LeavesCommands stores (sets geometry list) (stores_no_command stores are)
    (all_each LeavesCommands (sets geometry list)
    (record { control = b; corb = inr b' }, (record { control = d; corb = inr d' }, (record { control = e; corb = inr e' }, (record { control = f; corb = inr f' }, (control, (record { control = g; corb = inl g' }, tt))))))))

others_no_command : (event : Event) → is_access event ≡ false → LeavesCommands event
others_no_command (Stepped step) none = tt
others_no_command Begin none = tt
others_no_command End none = tt
others_no_command (Read at width value) none = tt
others_no_command (Write at width value) none = cc
others_no_command (DmaRead at bytes) none = tt
others_no_command (DmaWrite at bytes) none = tt

first_control : All LeavesCommands (sets_going ∷ [])
first_control =
    let apart : 0xA0 / 4 ≢ 2 = omega arith in
    let past : 0x50 ≤ 0xA0 = omega arith in All-cons LeavesCommands sets_going [] (record { control = apart; corb = inr past }) (All-nil LeavesCommands)

-- ---- the rise

run_keeps : (f : Fields) → is_out_of_reset f.global ≡ true → ((written f 0xA0 One 0x1E).output.run ≡ 1) × ((written f 0xA0 One 0x1E).output.buffer_length ≡ f.output.buffer_length) × ((written f 0xA0 One 0x1E).output.format ≡ f.output.format)
unfolding written placed stream_written
run_keeps f out = rw out (refl, refl, refl)

-- the stream was set going in a world where it rested: it runs with the same length and format, and nothing left it yet
pub record Rises (size format : ℕ) (old new : World) : Type 0 where
  pub length_is : new.registers.output.buffer_length ≡ size
  pub format_is : new.registers.output.format ≡ format
  pub anew : new.output ≡ begun
  pub rose_so : rose old.registers.output (written old.registers 0xA0 One 0x1E).output ≡ true
  pub frames : new.frames ≡ old.frames
  pub carried : new.carried ≡ old.carried

pub rises : (size format : ℕ) (world : World) → RestsWith size format world → Rises size format world (happens world sets_going)
rises size format world rests =
    let apart : 0xA0 / 4 ≢ 2 = omega arith in
    let keeps = run_keeps world.registers rests.out in
    let is = write_is world 0xA0 0x1E One apart in
    let up : rose world.registers.output (written world.registers 0xA0 One 0x1E).output ≡ true =
    ap (λ (run : ℕ). not (run == 1) && ((written world.registers 0xA0 One 0x1E).output.run == 1)) rests.still ∙ ap (λ (run : ℕ). run == 1) keeps.0 in
    record {
      length_is = ap (λ (now : World). now.registers.output.buffer_length) is ∙ keeps.1 ∙ rests.length_is;
      format_is = ap (λ (now : World). now.registers.output.format) is ∙ keeps.2 ∙ rests.format_is;
      anew = ap (λ (now : World). now.output) is ∙ ap (λ (b : Bool). if b then begun else world.output) up;
      rose_so = up;
      frames = event_frames_stay (Write CONTROL One 0x1E) world apart tt;
      carried = (access_leaves world 0xA0 0x1E One).carried;
    }

-- what the events before the call were
pub record IsBehind (telling : Telling) (ran : List RanRound) (closing : List Event) (world : World) : Type 0 where
  pub so_far : List Event
  pub journal_is : telling.journal ≡ so_far ++ rest_events ran closing
  pub world_is : world ≡ after so_far telling.start
  pub quiet : All IsNoRise so_far

-- what laws say of a stream that is set going
pub record RiseLaws : Type 0 where
  pub begins : (world : World) (at value : ℕ) (width : Width) → rose world.registers.output (written world.registers at width value).output ≡ true → HasSent (length world.carried) (after_write at width value world)
  pub idle : (codecs : List CodecState) (events : List Event) (world : World) → All LeavesCommands events → AreIdle codecs world → AreIdle codecs (after events world)

idle_rings : (outstanding : Option Outstanding) (part : RingPart) (word : ℕ) (gained : List TakenCommand) → outstanding ≡ None → RingFetching outstanding part word gained → part.corb_read_pointer ≡ part.corb_write_pointer
idle_rings outstanding part word gained none (inl all) = all.pointers
idle_rings outstanding part word gained none (inr next) = absurd (subst (λ (outstanding : Option Outstanding). IsWordOf outstanding word) none next.is)

-- the numbers of the ring's registers
pub record FitsRegisters (task : Task) (word : ℕ) : Type 0 where
  pub size : (measures task.geometry).ring < 2 ^ 32
  pub word_is : format_word task.geometry.format % 2 ^ 16 ≡ word

module _ (laws : StreamLaws) (rise_laws : RiseLaws) (task : Task) (graphs : List RawCodec) (closing : List Event) (commands : ℕ) (word : ℕ) (layout : Layout) (most : ℕ) (ground : Ground task word layout most) (fits : FitsRegisters task word)
    (telling : Telling) (stopped : HasStopped telling) where
  abbrev m : Measures
  m = measures task.geometry

  abbrev start : World
  start = after (stopped.before ++ sets_going ∷ []) telling.start

  -- behind a rise in a call without groups
  alone_behind : (groups : List Group) (accesses before behind : List Event) → groups ≡ [] → AreAccesses accesses → within_call groups accesses ≡ before ++ sets_going ∷ behind → behind ≡ accesses_of behind
  alone_behind groups accesses before behind none are is =
      let whole : accesses ≡ before ++ sets_going ∷ behind = sym (ap (λ (groups : List Group). within_call groups accesses) none ∙ alone_is accesses) ∙ is in
      let back = All-tail IsAccess sets_going behind (events_back IsAccess before (sets_going ∷ behind) (subst (All IsAccess) whole are)) in
      sym (ap accesses_of (sym (alone_is behind)) ∙ accesses_are [] behind back)

  -- where it was set going, and what is known there
  record IsGoing (one : RanRound) (ran : List RanRound) (world : World) (to : ℕ) : Type 0 where
    behind : List Event
    behind_is : accesses_of behind ≡ Read WALCLK Four to ∷ []
    alone : one.round.line.groups ≡ [] → behind ≡ Read WALCLK Four to ∷ []
    fresh : start.carried ≡ []
    codecs : List CodecState
    tag : ℕ
    rolls : Rolls codecs tag word layout m.ring start
    none : start.output.left ≡ 0
    frames : world.frames ≤ start.frames
    rest_is : behind ++ End ∷ (map Stepped one.round.steps ++ rest_events ran closing) ≡ stopped.during ++ stops ∷ stopped.later
    ends : after behind start ≡ after (within_call one.round.line.groups one.accesses) world

  goes : (least : ℕ) (one : RanRound) (ran : List RanRound) (world : World) (trail : Trail) (from to : ℕ) (middle : List Event) → IsBehind telling (one ∷ ran) closing world → (left : IsLeft task graphs (one ∷ ran) closing world trail)
      → IsReady task commands least trail world → one.accesses ≡ Read WALCLK Four from ∷ (middle ++ Read WALCLK Four to ∷ []) → All IsBeside middle → SetsGoing task.geometry task.blocks.list middle → (next : IsNext task graphs one ran closing world trail)
      → IsGoing one ran world to
  goes least one ran world trail from to middle placed left ready is beside going next =
      let groups = one.round.line.groups in
      let body = within_call groups one.accesses in
      let first = goes_first going.in_reset going.ready going.stores task.geometry task.blocks.list in
      let front = Read WALCLK Four from ∷ first in
      let last = Read WALCLK Four to ∷ [] in
      let steps = one.round.steps in
      let tail = map Stepped steps ++ rest_events ran closing in
      let are : accesses_of body ≡ front ++ sets_going ∷ last =
      accesses_are groups one.accesses next.are ∙ is
      ∙ ap (λ (middle : List Event). Read WALCLK Four from ∷ (middle ++ last)) going.is
      ∙ ap (λ (rest : List Event). Read WALCLK Four from ∷ rest) (append_assoc first (sets_going ∷ []) last) in
      let split = split_body body front sets_going last are in
      let there = after split.before world in
      let whole = subst (λ (events : List Event). AreHonest events world) (stretch_is groups one.accesses) (AreHonest-front (stretch groups one.accesses) tail world left.rest.honest) in
      let honest = AreHonest-front split.before (sets_going ∷ split.behind) world (subst (λ (events : List Event). AreHonest events world) split.is (AreHonest-front body (End ∷ []) world whole.1)) in
      let calm = events_front IsCalm split.before (sets_going ∷ split.behind) (subst (All IsCalm) split.is (calm_call groups one.accesses next.calm.line.groups next.are)) in
      let row = subst (λ (accesses : List Event). CalmRow accesses world there) split.front_is (row_of split.before world calm honest) in
      let rests = set_up task.geometry task.blocks.list from going.in_reset going.ready going.stores world there going.are ready.timed.out row in
      let up = rises (m.ring % 2 ^ 32) (format_word task.geometry.format % 2 ^ 16) there rests in
      let risen = happens there sets_going in
      -- the journal up to the rise
      let before = placed.so_far ++ Begin ∷ split.before in
      let back = split.behind ++ End ∷ tail in
      let journal : before ++ sets_going ∷ back ≡ stopped.before ++ sets_going ∷ (stopped.during ++ stops ∷ stopped.later) =
      append_assoc placed.so_far (Begin ∷ split.before) (sets_going ∷ back)
      ∙ ap (λ (events : List Event). placed.so_far ++ Begin ∷ events) (sym (append_assoc split.before (sets_going ∷ split.behind) (End ∷ tail)) ∙ ap (λ (body : List Event). body ++ End ∷ tail) (sym split.is))
      ∙ ap (λ (events : List Event). placed.so_far ++ events) (sym (append_assoc (Begin ∷ body) (End ∷ []) tail) ∙ ap (λ (events : List Event). events ++ tail) (sym (stretch_is groups one.accesses)))
      ∙ sym placed.journal_is ∙ stopped.journal in
      let there_is : after before telling.start ≡ there = after-append placed.so_far (Begin ∷ split.before) telling.start ∙ ap (after split.before) (sym placed.world_is) in
      let quiet = All-append IsNoRise placed.so_far (Begin ∷ split.before) placed.quiet
      (All-cons IsNoRise Begin split.before (λ same. cc)
      (by_accesses IsNoRise others_no_rise split.before (subst (All IsNoRise) (sym split.front_is) (first_no_rise task.geometry task.blocks.list from going.in_reset going.ready going.stores going.are)))) in
      let rise = one_rise before back stopped.before (stopped.during ++ stops ∷ stopped.later) telling.start journal quiet (subst (λ (w : World). is_out_of_reset w.registers.global ≡ true) (sym there_is) rests.out) stopped.silent in
      let start_is : start ≡ risen =
      after-append stopped.before (sets_going ∷ []) telling.start
      ∙ ap (λ (events : List Event). happens (after events telling.start) sets_going) (sym rise.front_is) ∙ ap (λ (w : World). happens w sets_going) there_is in
      let nothing : there.carried ≡ [] = ap (λ (w : World). w.carried) (sym there_is) ∙ (Along-end HasNotBegun before telling.start rise.silent).none in
      let carried : risen.carried ≡ [] = up.carried ∙ nothing in
      -- the rings are idle
      let pointers = idle_rings trail.state.rings.outstanding _ _ _ ready.idle ready.served.stands.fetching in
      let commands_none = All-append LeavesCommands split.before (sets_going ∷ [])
      (by_accesses LeavesCommands others_no_command split.before (subst (All LeavesCommands) (sym split.front_is) (first_no_command task.geometry task.blocks.list from going.in_reset going.ready going.stores going.are)))
      first_control in
      let idle = rise_laws.idle world.codecs (split.before ++ sets_going ∷ []) world commands_none (record { settings = refl; idle = pointers }) in
      let idle_there : AreIdle world.codecs risen = subst (AreIdle world.codecs) (after-append split.before (sets_going ∷ []) world) idle in
      let sent : HasSent 0 risen = subst (λ (n : ℕ). HasSent n risen) (ap length nothing) (rise_laws.begins there 0xA0 0x1E One up.rose_so) in
      let start_still : HasPosition telling.start = λ runs. absurd (let stopped_now = (never_begun before telling.start rise.silent).stopped in let z : true ≡ false = sym runs ∙ stopped_now in cc) in
      let size_is : m.ring % 2 ^ 32 ≡ m.ring = mod-eq_of_lt fits.size in
      let frames_up = (timed_row front world there world.frames
      (All-cons IsBeside (Read WALCLK Four from) first (tt, tt) (events_front IsBeside first (sets_going ∷ []) (subst (All IsBeside) going.is beside))) row
      (record { out = ready.timed.out; time = ready.timed.time; later = omega arith })).later in
      let frames_same = up.frames in
      record {
        behind = split.behind;
        behind_is = split.back_is;
        alone = λ alone. alone_behind groups one.accesses split.before split.behind alone next.are split.is ∙ split.back_is;
        fresh = ap (λ (w : World). w.carried) start_is ∙ carried;
        codecs = world.codecs;
        tag = risen.registers.output.tag;
        rolls = subst (Rolls world.codecs risen.registers.output.tag word layout m.ring) (sym start_is) (record {
          position = subst HasPosition start_is (position_events laws (stopped.before ++ sets_going ∷ []) telling.start start_still);
          length_is = up.length_is ∙ size_is;
          steady = record {
            settings = idle_there.settings;
            idle = idle_there.idle;
            tag_is = refl;
            word_is = up.format_is ∙ fits.word_is;
            begun = omega arith;
            frames = subst (All (IsSteadyFrame world.codecs risen.registers.output.tag word (block_size layout))) (sym carried) (All-nil (IsSteadyFrame world.codecs risen.registers.output.tag word (block_size layout)));
          };
          sent = sent;
        });
        none = ap (λ (w : World). w.output.left) start_is ∙ ap (λ state. state.left) up.anew;
        frames = subst (λ (w : World). world.frames ≤ w.frames) (sym start_is) (omega (arith, frames_up, frames_same));
        rest_is = rise.back_is;
        ends = ap (after split.behind) start_is ∙ sym (ap (λ (events : List Event). after events world) split.is ∙ after-append split.before (sets_going ∷ split.behind) world);
      }

  pub record FedBehind (one : RanRound) (ran : List RanRound) (world : World) (trail : Trail) : Type 0 where
    pub next : IsNext task graphs one ran closing world trail
    pub codecs : List CodecState
    pub tag : ℕ
    pub runs : length next.trail'.state.tally.runs ≡ 1
    pub alone : one.round.line.groups ≡ [] → next.new ≡ start
    pub none : start.output.left ≡ 0
    pub fresh : start.carried ≡ []
    pub fed : IsFed laws task graphs closing commands codecs tag word layout most ground start stopped.during stopped.later stopped.runs ran next.trail' (after_steps one.round.steps next.new)

  -- the first call that plays was made: what is known before the next one
  pub begins_fed : (least : ℕ) (one : RanRound) (ran : List RanRound) (world : World) (trail : Trail) → task.plays ≡ true → ArePrompt m.limit m.slack (one ∷ ran) → m.ring ≤ one.round.line.budget → IsBehind telling (one ∷ ran) closing world
      → IsLeft task graphs (one ∷ ran) closing world trail → IsReady task commands least trail world → FedBehind one ran world trail
  begins_fed least one ran world trail loud prompt wide placed left ready =
      let next = next_round task graphs one ran closing world trail left in
      let run = first_run task least trail next.trail' (line_in one) one.accesses world next.new loud ready.phase ready.tally_is ready.timed next.are next.is_called.row next.is_called.noted next.turn next.calm.line.no_interrupt next.few in
      let shape = run.shape in
      let going = goes least one ran world trail shape.from shape.to shape.middle placed left ready shape.is shape.aside.beside
      (goes_as task trail.state one.round.line.budget (seen_in (trail_made world trail one.accesses)) shape.middle shape.middle_are shape.middle_asks) next in
      let steps = one.round.steps in
      let more = going.behind ++ End ∷ map Stepped steps in
      let world' = after_steps steps next.new in
      let behind = by_accesses IsBesideSound others_beside going.behind (subst (All IsBesideSound) (sym going.behind_is) (All-cons IsBesideSound (Read WALCLK Four shape.to) [] tt (All-nil IsBesideSound))) in
      let more_beside = All-append IsBesideSound going.behind (End ∷ map Stepped steps) behind (All-cons IsBesideSound End (map Stepped steps) tt (steps_beside steps)) in
      let is : after more start ≡ world' =
      after-append going.behind (End ∷ map Stepped steps) start ∙ steps_after steps (after going.behind start) ∙ ap (after_steps steps) (going.ends ∙ sym next.new_is) in
      let moves = subst (Moves most start) is (events_move most word more start more_beside going.rolls.steady.word_is ground.most_is) in
      let at : next.trail'.state.tally.course.at ≡ 0 = ap (λ (tally : Tally). tally.course.at) run.tally_is in
      let counted = next.is_called.frames in
      let grown = steps_count steps next.new in
      let within = (prompt zero one refl).soon in
      let all = frames_so one ran in
      let from = ap (λ (tally : Tally). tally.course.from) run.tally_is in
      let clock = run.clocks.first in
      let none = going.none in
      let few = moves.few in
      let paced = pace_on most world.frames world.frames start.frames world'.frames 0 0 world'.output.left (omega arith) going.frames moves.later (omega (arith, few, none)) in
      record {
        next = next;
        codecs = going.codecs;
        tag = going.tag;
        runs = ap (λ (tally : Tally). length tally.runs) run.tally_is;
        alone = λ alone. next.new_is ∙ sym going.ends ∙ ap (λ (events : List Event). after events start) (going.alone alone);
        none = going.none;
        fresh = going.fresh;
        fed = record {
          on = record {
            phase = run.phase;
            plays = ap (λ (tally : Tally). tally.course.ran) run.tally_is;
            sent_is = run.sent_is ∙ ready.sent_is;
            since = world.frames;
            from = omega (arith, from, clock);
            timed = timed_steps world.frames steps next.new run.clocks.timed;
            soon = omega (arith, grown, within, all, counted);
          };
          rolls = subst (Rolls going.codecs going.tag word layout m.ring) is (rolls_on laws going.codecs going.tag word layout m.ring more start ground.word_is more_beside going.rolls);
          full = subst (IsFull m (length task.pcm)) (sym run.tally_is) (first_full m (length task.pcm) (facts_of one.round.line.budget (length task.pcm) shape.from run.lpib shape.to) ground.whole refl wide);
          past = omega (arith, at);
          paced = omega (arith, at, paced);
          so_far = more;
          world_is = sym is;
          quiet = all_go_on more more_beside;
          rest_is = append_assoc going.behind (End ∷ map Stepped steps) (rest_events ran closing) ∙ going.rest_is;
        };
      }

  -- so it plays all
  pub plays_all : (least : ℕ) (one : RanRound) (ran : List RanRound) (world : World) (trail : Trail) → task.plays ≡ true → ArePrompt m.limit m.slack (one ∷ ran) → AreGenerous m.ring (one ∷ ran) → IsFedSoon (length task.pcm) ran (world_after one world)
      → IsBehind telling (one ∷ ran) closing world → IsLeft task graphs (one ∷ ran) closing world trail → IsReady task commands least trail world → PlayedAll (length task.pcm) (state_over task (one ∷ ran) closing world trail)
  plays_all least one ran world trail loud prompt generous soon placed left ready =
      let first = begins_fed least one ran world trail loud prompt (generous zero one refl) placed left ready in
      let next = first.next in
      subst (PlayedAll (length task.pcm)) (sym next.over)
      (feeds laws task graphs closing commands first.codecs first.tag word layout most ground start stopped.during stopped.later stopped.runs ran (after_steps one.round.steps next.new) next.trail' (prompt_later m.limit m.slack one ran prompt)
      (λ index other there. generous (suc index) other there) (subst (λ (now : World). IsFedSoon (length task.pcm) ran (after_steps one.round.steps now)) (sym next.new_is) soon) next.later first.fed)
