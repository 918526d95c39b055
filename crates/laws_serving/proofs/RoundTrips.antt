-- A round trip over the codec of the outstanding command writes its answer to RIRB.
use Rattle.std.proofs.Common.{◌≡◌, ◌≤◌, ◌<◌, inl, inr, ◌+◌, ◌-◌, ◌*◌, ◌%◌, ◌==◌, ◌&&◌, ◌||◌, ℕ, zero, suc, Bool, true, false, cond, not, nat_lt, List, [], ◌∷◌, ◌++◌, length, drop, take, Option, None, Some, refl, sym, ap, subst, ◌∙◌, arith, rules, tests, lit≤, length-append, if◌then◌else◌}
use Rattle.std.specs.Prelude.{All, min}
use Rattle.std.specs.Option.{is_some}
use Rattle.std.specs.List.{list_any}
use Rattle.std.proofs.Math.Nat.{mod-eq_of_lt, mod_self}
use Rattle.std.proofs.lemmas.List.{drop-append-le, length-drop, length-take}
use Rattle.std.proofs.lemmas.List.Elements.{All-cons, All-head, All-tail, All-nil}
use Rattle.std.proofs.lemmas.List.Sums.{sum_by-cons}
use Rattle.codec_graph.specs.declared.waiting.Waiting.{Waiting}
use Rattle.codec_graph.specs.declared.waiting.Waiting.TheVariants.{Answer, Unsolicited}
use Rattle.codec_graph.specs.CodecStates.{CodecState, is_answer, answers, without_first}
use Rattle.codec_graph.proofs.Callers.{answers-cons, all-counted}
use Rattle.hda_registers.specs.declared.shapes.RingSize.{RingSize}
use Rattle.hda_registers.specs.declared.shapes.RingSize.TheVariants.{Two, Sixteen, Full}
use Rattle.hda_registers.specs.Fields.{Fields, Global, entries_of, is_out_of_reset, is_running}
use Rattle.hda_registers.specs.Fields as fields
use Rattle.world_rings.specs.declared.response.Response.{Response}
use Rattle.world_rings.specs.declared.response.TheConstants.{MOST_WAITING}
use Rattle.world_rings.specs.Memory.{word_at}
use Rattle.world_rings.specs.Entries.{next_place, next_command}
use Rattle.world_rings.specs.Engines.{can_fetch, can_respond, batch, batch_of}
use Rattle.world_steps.specs.declared.Step.{Step}
use Rattle.world_steps.specs.declared.Step.TheVariants as step
use Rattle.world_rings.proofs.Callers.{batch_first}
use Rattle.hda_world.specs.Worlds.{World, TakenCommand, codec_at, with_codec}
use Rattle.hda_world.specs.Steps.{address_of, is_busy, handed, handed_next, waiting_of, sent_first, corb_step, answer_step, rirb_step, after_step, after_steps}
use Rattle.hda_world.proofs.Callers.{found_all}
use Rattle.command_engine.specs.declared.ring_places.RingPlaces.{RingPlaces}
use Rattle.command_engine.specs.declared.answers.Outstanding.{Outstanding}
use Rattle.command_engine.specs.Sizes.{half_of}
use Rattle.command_engine.specs.Entries.{answers_it}
use Rattle.command_engine.specs.Fetchings.{IsFetching, AreOf, ItemCanCome, CodecCanSend, ResponseCanCome, part_of, solicited, waiting_answers}
use Rattle.command_engine.proofs.Callers.{changed_sum, count-append}
use Rattle.laws_serving.specs.ServingDevices.{keeps_answers, ComeInOrder, round_trip, HasItsCodec, HasAnswersAlone, StandsServed, taken_since, unread_answers, IsComing, KeepAnswers}
use Rattle.laws_serving.proofs.Steps.{ComesNearer, step_kept, served_on, has_after, taken_now, its_codec, fetched_word, most_solicited}

-- ---- numbers

no_turn : (n p : ℕ) → 2 ≤ n → p < n → next_place p n ≡ p → ⊥
no_turn n p some within same = by (nat_lt (p + 1) n) refl
  where
    by : (b : Bool) → nat_lt (p + 1) n ≡ b → ⊥
    by true less =
        let below : p + 1 < n = search (rules, less) in
        let is = mod-eq_of_lt below in omega (arith, is, same)
    by false more =
        let above : n ≤ p + 1 = search (rules, more) in
        let all : p + 1 ≡ n = omega (arith, above, within) in
        let none : (p + 1) % n ≡ 0 = ap (λ (m : ℕ). m % n) all ∙ mod_self n in omega (arith, none, same, all, some)

two_entries : (size : RingSize) → 2 ≤ entries_of size
two_entries Two = lit≤ tt
two_entries Sixteen = lit≤ tt
two_entries Full = lit≤ tt

some_batch : (size : RingSize) → 1 ≤ min (fields.responses_of (half_of size)) (entries_of size - 1)
some_batch Two = lit≤ tt
some_batch Sixteen = lit≤ tt
some_batch Full = lit≤ tt

-- ---- what waits at codecs

each_most : (most : ℕ) (codecs : List CodecState) → waiting_answers codecs ≤ most → All (λ (codec : CodecState). answers codec.waiting ≤ most) codecs
each_most most [] few = All-nil (λ (codec : CodecState). answers codec.waiting ≤ most)
each_most most (codec ∷ codecs) few =
    let cons = sum_by-cons (λ (codec : CodecState). answers codec.waiting) codec codecs in
    All-cons (λ (codec : CodecState). answers codec.waiting ≤ most) codec codecs (omega (arith, cons, few)) (each_most most codecs (omega (arith, cons, few)))

-- what was taken of the outstanding command is it and no more
one_gained : (command : Outstanding) (gained : List TakenCommand) → AreOf (Some command) gained → length gained ≤ 1
one_gained command [] are = omega arith
one_gained command (taken ∷ more) are = let none = ap length are.1 in omega (arith, none)

module _ (from read corb rirb : ℕ) (rings : RingPlaces) (command : Outstanding) (outstanding : rings.outstanding ≡ Some command) where
  abbrev Served : World → Type 0
  Served world = StandsServed from read corb rirb rings world

  gained_most : (world : World) → Served world → taken_since from world ≤ 1
  gained_most world served = by served.stands.fetching
    where
      by : IsFetching rings.outstanding (part_of world.registers) (word_at world.memory (corb + 4 * rings.submitted)) (drop from world.commands) → taken_since from world ≤ 1
      by (inl all) = one_gained command (drop from world.commands) (subst (λ (outstanding : Option Outstanding). AreOf outstanding (drop from world.commands)) outstanding all.taken)
      by (inr next) = let none = ap length next.none in omega (arith, none)

  -- ---- CORB's engine takes it

  none_there : (world : World) → Served world → taken_since from world ≡ 0 → waiting_answers world.codecs ≡ 0
  none_there world served none = let all = served.serves.none_lost in omega (arith, all, none)

  found_free : (codecs : List CodecState) (address : ℕ) → waiting_answers codecs ≡ 0 → is_busy (codec_at address codecs) ≡ false
  found_free codecs address none = by (codec_at address codecs) refl
    where
      by : (found : Option CodecState) → codec_at address codecs ≡ found → is_busy found ≡ false
      by None there = refl
      by (Some codec) there =
          let few = found_all (λ (codec : CodecState). answers codec.waiting ≤ 0) address codecs codec there (each_most 0 codecs (omega (arith, none))) in
          free (answers codec.waiting) few
        where
          free : (n : ℕ) → n ≤ 0 → (n == 64) ≡ false
          free n few = grind arith

  fetches_if : (world : World) → (world.registers.global.controller_reset == 1) ≡ true → world.registers.global.corb_run ≡ 1 → world.registers.global.corb_pointer_reset ≡ 0
      → (world.registers.global.corb_read_pointer == world.registers.global.corb_write_pointer) ≡ false → can_fetch world.registers ≡ true
  fetches_if world out serves no_reset apart =
      ap (λ (b : Bool). b && world.registers.global.corb_run == 1 && not (world.registers.global.corb_pointer_reset == 1) && not (world.registers.global.corb_read_pointer == world.registers.global.corb_write_pointer)) out
      ∙ ap (λ (n : ℕ). n == 1 && not (world.registers.global.corb_pointer_reset == 1) && not (world.registers.global.corb_read_pointer == world.registers.global.corb_write_pointer)) serves
      ∙ ap (λ (n : ℕ). not (n == 1) && not (world.registers.global.corb_read_pointer == world.registers.global.corb_write_pointer)) no_reset
      ∙ ap not apart

  apart_by : (world : World) → Served world → next_place world.registers.global.corb_read_pointer (entries_of world.registers.shape.corb) ≡ world.registers.global.corb_write_pointer
      → (b : Bool) → (world.registers.global.corb_read_pointer == world.registers.global.corb_write_pointer) ≡ b → b ≡ false
  apart_by world served next true same =
      let is : world.registers.global.corb_read_pointer ≡ world.registers.global.corb_write_pointer = search (rules, tests, same) in
      let has = served.stands.has_rings in
      let size = ap entries_of has.corb_size in
      let submitted = has.submitted in
      let within = has.submitted_within in
      let below : world.registers.global.corb_read_pointer < entries_of world.registers.shape.corb = omega (arith, is, submitted, within, size) in
      absurd (no_turn (entries_of world.registers.shape.corb) world.registers.global.corb_read_pointer (two_entries world.registers.shape.corb) below (next ∙ sym is))
  apart_by world served next false same = refl

  handed_now : (world : World) → can_fetch world.registers ≡ true → is_busy (codec_at (address_of (next_command world.registers world.memory)) world.codecs) ≡ false → corb_step world ≡ handed (next_command world.registers world.memory) world
  handed_now world can free =
      ap (λ (can : Bool). handed_next (if can then Some (next_command world.registers world.memory) else None) world) can
      ∙ ap (λ (busy : Bool). if busy then world else handed (next_command world.registers world.memory) world) free

  pub corb_takes : (world : World) → Served world → HasItsCodec rings.outstanding world.codecs → IsComing from world → 1 ≤ taken_since from (corb_step world)
  corb_takes world served has (inl taken) = let more = (step_kept from read corb rirb rings step.Corb world refl served has).1.taken in omega (arith, taken, more)
  corb_takes world served has (inr next) = by served.stands.fetching
    where
      apart : (world.registers.global.corb_read_pointer == world.registers.global.corb_write_pointer) ≡ false
      apart = let b = apart_by world served next (world.registers.global.corb_read_pointer == world.registers.global.corb_write_pointer) refl in b

      by : IsFetching rings.outstanding (part_of world.registers) (word_at world.memory (corb + 4 * rings.submitted)) (drop from world.commands) → 1 ≤ taken_since from (corb_step world)
      by (inl all) = absurd (not_apart world all.pointers apart)
        where
          not_apart : (world : World) → world.registers.global.corb_read_pointer ≡ world.registers.global.corb_write_pointer → (world.registers.global.corb_read_pointer == world.registers.global.corb_write_pointer) ≡ false → ⊥
          not_apart world same apart = search (rules, tests, same, apart)
      by (inr nothing) =
          let word = next_command world.registers world.memory in
          let none : taken_since from world ≡ 0 = ap length nothing.none in
          let can = fetches_if world served.stands.has_rings.out served.serves.corb_runs served.serves.no_reset apart in
          let free = found_free world.codecs (address_of word) (none_there world served none) in
          let is = subst (λ (word : ℕ). is_some (codec_at (address_of word) world.codecs) ≡ true) (sym (fetched_word corb rirb rings world served.stands.has_rings next))
          (its_codec rings.outstanding (word_at world.memory (corb + 4 * rings.submitted)) world.codecs nothing.is has) in
          subst (λ (new : World). 1 ≤ taken_since from new) (sym (handed_now world can free)) (taken_now from (codec_at (address_of word) world.codecs) world word is served.stands.from_within)

-- ---- the codec sends its answer

-- of codecs at which only answers wait, one at most, and at those of other addresses none, none is left once those of this address sent one
module _ (address : ℕ) where
  record Waits (codec : CodecState) : Type 0 where
    asked : HasAnswersAlone codec
    few : answers codec.waiting ≤ 1
    others : (codec.graph.address == address) ≡ false → answers codec.waiting ≡ 0

  sent_all : (waiting : List Waiting) → answers waiting ≡ length waiting → answers waiting ≤ 1 → answers (drop 1 waiting) ≡ 0
  sent_all [] asked few = refl
  sent_all (item ∷ []) asked few = refl
  sent_all (item ∷ other ∷ more) asked few = absurd (omega (arith, asked, few))

  none_left : (codecs : List CodecState) → All Waits codecs → waiting_answers (with_codec address without_first codecs) ≡ 0
  none_left [] all = refl
  none_left (codec ∷ codecs) all = by (codec.graph.address == address) refl (none_left codecs (All-tail Waits codec codecs all))
    where
      waits : Waits codec
      waits = All-head Waits codec codecs all

      by : (named : Bool) → (codec.graph.address == address) ≡ named → waiting_answers (with_codec address without_first codecs) ≡ 0 → waiting_answers ((if named then without_first codec else codec) ∷ with_codec address without_first codecs) ≡ 0
      by true is rest =
          let cons = sum_by-cons (λ (codec : CodecState). answers codec.waiting) (without_first codec) (with_codec address without_first codecs) in
          let sent = sent_all codec.waiting waits.asked waits.few in omega (arith, cons, rest, sent)
      by false is rest =
          let cons = sum_by-cons (λ (codec : CodecState). answers codec.waiting) codec (with_codec address without_first codecs) in
          let none = waits.others is in omega (arith, cons, rest, none)

-- an answer that waits at a codec is of the command that it took
its_answer : (command : Outstanding) (gained : List TakenCommand) (address : ℕ) (item : Waiting) → AreOf (Some command) gained → (is_answer item ≡ true) → ItemCanCome gained address item → address ≡ address_of command.word
its_answer command [] address (Answer value) are is can = absurd can
its_answer command (taken ∷ more) address (Answer value) are is can = can.codec ∙ ap address_of are.0
its_answer command gained address (Unsolicited value) are is can = cc

first_answer : (item : Waiting) (rest : List Waiting) → answers (item ∷ rest) ≡ length (item ∷ rest) → is_answer item ≡ true
first_answer (Answer value) rest asked = refl
first_answer (Unsolicited value) rest asked = let e = answers-cons (Unsolicited value) rest in let all = all-counted rest in absurd (omega (arith, e, asked, all))

none_else : (command : Outstanding) (gained : List TakenCommand) (codec : CodecState) → AreOf (Some command) gained → HasAnswersAlone codec → CodecCanSend gained codec → (codec.graph.address == address_of command.word) ≡ false → answers codec.waiting ≡ 0
none_else command gained codec are asked can other = by codec.waiting asked can
  where
    apart : codec.graph.address ≡ address_of command.word → ⊥
    apart same = search (rules, tests, same, other)

    by : (waiting : List Waiting) → answers waiting ≡ length waiting → All (ItemCanCome gained codec.graph.address) waiting → answers waiting ≡ 0
    by [] asked can = refl
    by (item ∷ rest) asked can = absurd (apart (its_answer command gained codec.graph.address item are (first_answer item rest asked) (All-head (ItemCanCome gained codec.graph.address) item rest can)))

all_wait : (command : Outstanding) (gained : List TakenCommand) (codecs : List CodecState) → AreOf (Some command) gained → All HasAnswersAlone codecs → All (CodecCanSend gained) codecs → All (λ (codec : CodecState). answers codec.waiting ≤ 1) codecs → All (Waits (address_of command.word)) codecs
all_wait command gained [] are asked can few = All-nil (Waits (address_of command.word))
all_wait command gained (codec ∷ codecs) are asked can few =
    All-cons (Waits (address_of command.word)) codec codecs
    (record {
      asked = All-head HasAnswersAlone codec codecs asked;
      few = All-head (λ (codec : CodecState). answers codec.waiting ≤ 1) codec codecs few;
      others = none_else command gained codec are (All-head HasAnswersAlone codec codecs asked) (All-head (CodecCanSend gained) codec codecs can);
    })
    (all_wait command gained codecs are (All-tail HasAnswersAlone codec codecs asked) (All-tail (CodecCanSend gained) codec codecs can) (All-tail (λ (codec : CodecState). answers codec.waiting ≤ 1) codec codecs few))

module _ (from read corb rirb : ℕ) (rings : RingPlaces) (command : Outstanding) (outstanding : rings.outstanding ≡ Some command) where
  gained_are : (world : World) → StandsServed from read corb rirb rings world → AreOf (Some command) (drop from world.commands)
  gained_are world served = by served.stands.fetching
    where
      by : IsFetching rings.outstanding (part_of world.registers) (word_at world.memory (corb + 4 * rings.submitted)) (drop from world.commands) → AreOf (Some command) (drop from world.commands)
      by (inl all) = subst (λ (outstanding : Option Outstanding). AreOf outstanding (drop from world.commands)) outstanding all.taken
      by (inr next) = subst (AreOf (Some command)) (sym next.none) tt

  has_room : (world : World) → StandsServed from read corb rirb rings world → (is_out_of_reset world.registers.global && nat_lt (length world.waiting) MOST_WAITING) ≡ true
  has_room world served =
      let most = gained_most from read corb rirb rings command outstanding world served in
      let all = served.serves.none_lost in
      let asked = served.serves.all_asked in
      let few : length world.waiting < 256 = omega (arith, most, all, asked) in
      ap (λ (b : Bool). b && nat_lt (length world.waiting) MOST_WAITING) served.stands.has_rings.out ∙ less (length world.waiting) few
    where
      less : (n : ℕ) → n < 256 → nat_lt n 256 ≡ true
      less n few = search (rules, few)

  sent_with : (world : World) → StandsServed from read corb rirb rings world → waiting_answers (with_codec (address_of command.word) without_first world.codecs) ≡ 0
  sent_with world served =
      let most = gained_most from read corb rirb rings command outstanding world served in
      let all = served.serves.none_lost in
      none_left (address_of command.word) world.codecs
      (all_wait command (drop from world.commands) world.codecs (gained_are world served) served.serves.asked served.stands.on_its_way.at_codecs (each_most 1 world.codecs (omega (arith, most, all))))

  sent_by : (world : World) (found : Option CodecState) (items : List Waiting) → codec_at (address_of command.word) world.codecs ≡ found → waiting_of found ≡ items → is_some found ≡ true → StandsServed from read corb rirb rings world
      → waiting_answers (sent_first (address_of command.word) items world).codecs ≡ 0
  sent_by world None items there are some served = cc
  sent_by world (Some codec) [] there are some served =
      let none = sent_with world served in
      let sum = changed_sum (λ (codec : CodecState). answers codec.waiting) (address_of command.word) 0 without_first world.codecs codec served.stands.ascend there in
      let had : answers codec.waiting ≡ 0 = ap answers are in
      let has : answers (drop 1 codec.waiting) ≡ 0 = ap (λ (items : List Waiting). answers (drop 1 items)) are in omega (arith, none, sum, had, has)
  sent_by world (Some codec) (item ∷ rest) there are some served = sent_with world served

  pub answer_sends : (world : World) → StandsServed from read corb rirb rings world → HasItsCodec rings.outstanding world.codecs → waiting_answers (answer_step (address_of command.word) world).codecs ≡ 0
  answer_sends world served has =
      ap (λ (can : Bool). waiting_answers (if can then sent_first (address_of command.word) (waiting_of (codec_at (address_of command.word) world.codecs)) world else world).codecs) (has_room world served)
      ∙ sent_by world (codec_at (address_of command.word) world.codecs) (waiting_of (codec_at (address_of command.word) world.codecs)) refl refl (subst (λ (outstanding : Option Outstanding). HasItsCodec outstanding world.codecs) outstanding has) served

-- ---- RIRB's engine writes it

module _ (from read corb rirb : ℕ) (rings : RingPlaces) where
  not_flagged : (world : World) → StandsServed from read corb rirb rings world → length (drop read world.written) ≡ 0 → (b : Bool) → (world.registers.global.response_flag == 1) ≡ b → b ≡ false
  not_flagged world served none true is =
      let same : world.registers.global.response_flag ≡ 1 = search (rules, tests, is) in
      let more = served.serves.flag same in
      let left = length-drop read world.written in absurd (omega (arith, more, left, none))
  not_flagged world served none false is = refl

  can_write : (world : World) → StandsServed from read corb rirb rings world → length (drop read world.written) ≡ 0 → can_respond world.registers ≡ true
  can_write world served none =
      ap (λ (b : Bool). b && world.registers.global.rirb_run == 1 && not (world.registers.global.response_flag == 1)) served.stands.has_rings.out
      ∙ ap (λ (n : ℕ). n == 1 && not (world.registers.global.response_flag == 1)) served.serves.rirb_runs
      ∙ ap not (not_flagged world served none (world.registers.global.response_flag == 1) refl)

  some_most : (world : World) → StandsServed from read corb rirb rings world → 1 ≤ batch_of world.registers
  some_most world served =
      let has = served.stands.has_rings in
      subst (λ (count : ℕ). 1 ≤ min (fields.responses_of count) (entries_of world.registers.shape.rirb - 1)) (sym has.served)
      (subst (λ (size : RingSize). 1 ≤ min (fields.responses_of (half_of rings.rirb)) (entries_of size - 1)) (sym has.rirb_size) (some_batch rings.rirb))

  batch_some : (world : World) → can_respond world.registers ≡ true → batch world.registers world.waiting ≡ take (batch_of world.registers) world.waiting
  batch_some world can = ap (λ (can : Bool). if can then take (batch_of world.registers) world.waiting else []) can

  -- of what was asked for, the first ones were
  asked_front : (front back : List Response) → solicited (front ++ back) ≡ length (front ++ back) → solicited front ≡ length front
  asked_front front back all =
      let counts = count-append front back in
      let longs = length-append front back in
      let one = most_solicited front in
      let other = most_solicited back in omega (arith, counts, longs, all, one, other)

  written_now : (world : World) → StandsServed from read corb rirb rings world → length (drop read world.written) ≡ 0 → 1 ≤ length world.waiting → 1 ≤ unread_answers read (rirb_step world)
  written_now world served none some =
      let can = can_write world served none in
      let responses = batch world.registers world.waiting in
      let first = batch_first world.registers world.waiting responses can refl in
      let left = drop (length responses) world.waiting in
      let asked = asked_front responses left (ap solicited first ∙ served.serves.all_asked ∙ sym (ap length first)) in
      let most = some_most world served in
      let long : length responses ≡ min (batch_of world.registers) (length world.waiting) = ap length (batch_some world can) ∙ length-take (batch_of world.registers) world.waiting in
      let one : 1 ≤ length responses = least (batch_of world.registers) (length world.waiting) (length responses) most some long in
      let now : solicited (drop read (world.written ++ responses)) ≡ solicited (drop read world.written) + solicited responses =
      ap solicited (drop-append-le read world.written responses served.stands.reading.within) ∙ count-append (drop read world.written) responses in
      omega (arith, now, asked, one)
    where
      least : (most waiting long : ℕ) → 1 ≤ most → 1 ≤ waiting → long ≡ min most waiting → 1 ≤ long
      least most waiting long some one is = grind arith

  -- where it was taken and none waits at a codec any more, it stands in RIRB after the next batch
  pub rirb_writes : (world : World) → StandsServed from read corb rirb rings world → HasItsCodec rings.outstanding world.codecs → 1 ≤ taken_since from world → waiting_answers world.codecs ≡ 0 → 1 ≤ unread_answers read (rirb_step world)
  rirb_writes world served has taken none = by (unread_answers read world) refl
    where
      by : (unread : ℕ) → unread_answers read world ≡ unread → 1 ≤ unread_answers read (rirb_step world)
      by zero is =
          let all = served.serves.none_lost in
          let asked = served.serves.all_asked in
          let read_asked = served.serves.read_asked in
          written_now world served (omega (arith, is, read_asked)) (omega (arith, is, all, asked, taken, none))
      by (suc more) is = let grows = (step_kept from read corb rirb rings step.Rirb world refl served has).1.written in omega (arith, is, grows)

-- ---- a round trip

module _ (from read corb rirb : ℕ) (rings : RingPlaces) (command : Outstanding) (outstanding : rings.outstanding ≡ Some command) where
  pub record Now (world : World) : Type 0 where
    pub served : StandsServed from read corb rirb rings world
    pub has : HasItsCodec rings.outstanding world.codecs

  now_on : (one : Step) (world : World) → keeps_answers one ≡ true → Now world → Now (after_step one world)
  now_on one world is now = record { served = served_on from read corb rirb rings one world is now.served now.has; has = has_after from read corb rirb rings one world is now.served now.has }

  pub now_after : (steps : List Step) (world : World) → KeepAnswers steps → Now world → Now (after_steps steps world)
  now_after [] world are now = now
  now_after (one ∷ steps) world are now = now_after steps (after_step one world) are.1 (now_on one world are.0 now)

  goes : (one : Step) (world : World) → keeps_answers one ≡ true → Now world → ComesNearer from read world (after_step one world)
  goes one world is now = (step_kept from read corb rirb rings one world is now.served now.has).1

  -- once it is written it stays so
  stays_written : (steps : List Step) (world : World) → KeepAnswers steps → Now world → 1 ≤ unread_answers read world → 1 ≤ unread_answers read (after_steps steps world)
  stays_written [] world are now written = written
  stays_written (one ∷ steps) world are now written =
      let more = (goes one world are.0 now).written in stays_written steps (after_step one world) are.1 (now_on one world are.0 now) (omega (arith, written, more))

  writes : (steps : List Step) (world : World) → KeepAnswers steps → Now world → 1 ≤ taken_since from world → waiting_answers world.codecs ≡ 0 → ComeInOrder (step.Rirb ∷ []) steps → 1 ≤ unread_answers read (after_steps steps world)
  writes [] world are now taken none come = absurd come
  writes (one ∷ steps) world are now taken none (inl is) =
      stays_written steps (after_step one world) are.1 (now_on one world are.0 now)
      (subst (λ (one : Step). 1 ≤ unread_answers read (after_step one world)) (sym is.0) (rirb_writes from read corb rirb rings world now.served now.has taken none))
  writes (one ∷ steps) world are now taken none (inr come) =
      let on = goes one world are.0 now in
      let more = on.taken in
      let fewer = on.sent in
      let next = now_on one world are.0 now in
      let most = gained_most from read corb rirb rings command outstanding (after_step one world) next.served in
      writes steps (after_step one world) are.1 next (omega (arith, taken, more)) (omega (arith, taken, more, fewer, none, most)) come

  sends : (steps : List Step) (world : World) → KeepAnswers steps → Now world → 1 ≤ taken_since from world → ComeInOrder (step.Answer (address_of command.word) ∷ step.Rirb ∷ []) steps → 1 ≤ unread_answers read (after_steps steps world)
  sends [] world are now taken come = absurd come
  sends (one ∷ steps) world are now taken (inl is) =
      let more = (goes one world are.0 now).taken in
      writes steps (after_step one world) are.1 (now_on one world are.0 now) (omega (arith, taken, more))
      (subst (λ (one : Step). waiting_answers (after_step one world).codecs ≡ 0) (sym is.0) (answer_sends from read corb rirb rings command outstanding world now.served now.has)) is.1
  sends (one ∷ steps) world are now taken (inr come) =
      let more = (goes one world are.0 now).taken in
      sends steps (after_step one world) are.1 (now_on one world are.0 now) (omega (arith, taken, more)) come

  takes : (steps : List Step) (world : World) → KeepAnswers steps → Now world → IsComing from world → ComeInOrder (round_trip (address_of command.word)) steps → 1 ≤ unread_answers read (after_steps steps world)
  takes [] world are now coming come = absurd come
  takes (one ∷ steps) world are now coming (inl is) =
      sends steps (after_step one world) are.1 (now_on one world are.0 now)
      (subst (λ (one : Step). 1 ≤ taken_since from (after_step one world)) (sym is.0) (corb_takes from read corb rirb rings command outstanding world now.served now.has coming)) is.1
  takes (one ∷ steps) world are now coming (inr come) =
      takes steps (after_step one world) are.1 (now_on one world are.0 now) ((goes one world are.0 now).coming coming) come

-- ---- its answer

its_response : (command : Outstanding) (gained : List TakenCommand) (response : Response) → AreOf (Some command) gained → ResponseCanCome gained response → response.unsolicited ≡ false → response.codec ≡ address_of command.word
its_response command [] response are can asked = absurd (can.answer asked)
its_response command (taken ∷ more) response are can asked = (can.answer asked).codec ∙ ap address_of are.0

same_codec : (codec : ℕ) → (codec == codec) ≡ true
same_codec codec = search (rules, tests)

any_answer : (command : Outstanding) (gained : List TakenCommand) (responses : List Response) → address_of command.word ≡ command.codec → AreOf (Some command) gained → All (ResponseCanCome gained) responses → 1 ≤ solicited responses
    → list_any (answers_it (Some command.codec)) responses ≡ true
any_answer command gained [] same are all some = absurd (omega (arith, some))
any_answer command gained (response ∷ responses) same are all some = by response.unsolicited refl (sum_by-cons (λ (response : Response). cond (not response.unsolicited) 1 0) response responses)
    (λ some. any_answer command gained responses same are (All-tail (ResponseCanCome gained) response responses all) some)
  where
    by : (b : Bool) → response.unsolicited ≡ b → solicited (response ∷ responses) ≡ cond (not response.unsolicited) 1 0 + solicited responses → (1 ≤ solicited responses → list_any (answers_it (Some command.codec)) responses ≡ true)
        → list_any (answers_it (Some command.codec)) (response ∷ responses) ≡ true
    by true is cons rest =
        let none : solicited (response ∷ responses) ≡ 0 + solicited responses = cons ∙ ap (λ (b : Bool). cond (not b) 1 0 + solicited responses) is in
        ap (λ (b : Bool). (not b && response.codec == command.codec) || list_any (answers_it (Some command.codec)) responses) is ∙ rest (omega (arith, some, none))
    by false is cons rest =
        let codec = its_response command gained response are (All-head (ResponseCanCome gained) response responses all) is ∙ same in
        ap (λ (b : Bool). (not b && response.codec == command.codec) || list_any (answers_it (Some command.codec)) responses) is
        ∙ ap (λ (codec : ℕ). codec == command.codec || list_any (answers_it (Some command.codec)) responses) codec
        ∙ ap (λ (b : Bool). b || list_any (answers_it (Some command.codec)) responses) (same_codec command.codec)

-- what stands unread answers the outstanding command, where some of it is an answer
pub unread_answers_it : (from read corb rirb : ℕ) (rings : RingPlaces) (command : Outstanding) → rings.outstanding ≡ Some command → (world : World) → address_of command.word ≡ command.codec → StandsServed from read corb rirb rings world
    → 1 ≤ unread_answers read world → list_any (answers_it (Some command.codec)) (drop read world.written) ≡ true
unread_answers_it from read corb rirb rings command outstanding world same served some =
    any_answer command (drop from world.commands) (drop read world.written) same (gained_are from read corb rirb rings command outstanding world served) served.stands.on_its_way.in_ring some

pub steps_serve : (from read corb rirb : ℕ) (rings : RingPlaces) (steps : List Step) (world : World) → KeepAnswers steps → HasItsCodec rings.outstanding world.codecs → StandsServed from read corb rirb rings world
    → StandsServed from read corb rirb rings (after_steps steps world)
steps_serve from read corb rirb rings [] world are has served = served
steps_serve from read corb rirb rings (one ∷ steps) world are has served =
    steps_serve from read corb rirb rings steps (after_step one world) are.1 (has_after from read corb rirb rings one world are.0 served has) (served_on from read corb rirb rings one world are.0 served has)

pub round_trip_answers : (from read corb rirb : ℕ) (rings : RingPlaces) (command : Outstanding) (steps : List Step) (world : World) → rings.outstanding ≡ Some command → address_of command.word ≡ command.codec
    → is_some (codec_at command.codec world.codecs) ≡ true → StandsServed from read corb rirb rings world → IsComing from world → KeepAnswers steps → ComeInOrder (round_trip command.codec) steps
    → list_any (answers_it (Some command.codec)) (drop read (after_steps steps world).written) ≡ true
round_trip_answers from read corb rirb rings command steps world outstanding same there served coming are come =
    let has : HasItsCodec rings.outstanding world.codecs = subst (λ (outstanding : Option Outstanding). HasItsCodec outstanding world.codecs) (sym outstanding) (subst (λ (codec : ℕ). is_some (codec_at codec world.codecs) ≡ true) (sym same) there) in
    let now : Now from read corb rirb rings command outstanding world = record { served = served; has = has } in
    let after = now_after from read corb rirb rings command outstanding steps world are now in
    let some = takes from read corb rirb rings command outstanding steps world are now coming (subst (λ (codec : ℕ). ComeInOrder (round_trip codec) steps) (sym same) come) in
    unread_answers_it from read corb rirb rings command outstanding (after_steps steps world) same after.served some
