-- By each step that keeps answers the device goes on serving, and the outstanding command comes nearer to its answer.
use Rattle.std.proofs.Common.{◌≡◌, ◌≤◌, ◌⊎◌, inl, inr, ◌+◌, ◌*◌, ◌==◌, ◌&&◌, ℕ, zero, suc, Bool, true, false, cond, not, nat_lt, List, [], ◌∷◌, ◌++◌, length, drop, Option, None, Some, refl, sym, ap, subst, ◌∙◌, arith, rules, tests, length-append, append-nil, if◌then◌else◌}
use Rattle.std.proofs.lemmas.List.{drop-append-le, length-drop}
use Rattle.std.proofs.lemmas.List.Sums.{sum_by-append, sum_by-cons}
use Rattle.codec_graph.specs.declared.waiting.Waiting.{Waiting}
use Rattle.codec_graph.specs.declared.waiting.Waiting.TheVariants.{Answer, Unsolicited}
use Rattle.codec_graph.specs.CodecStates.{CodecState, is_answer, answers, answer_to, taken, without_first}
use Rattle.codec_graph.proofs.Callers.{answers-push, answers-cons, all-counted}
use Rattle.hda_registers.specs.Fields.{Fields, Global, entries_of, is_out_of_reset, is_running}
use Rattle.hda_registers.specs.Moves.{framed}
use Rattle.world_rings.specs.declared.response.Response.{Response}
use Rattle.world_rings.specs.declared.response.TheConstants.{MOST_WAITING}
use Rattle.world_rings.specs.Entries.{next_place, next_command, after_response, after_responses}
use Rattle.world_rings.specs.Engines.{can_fetch, can_respond, batch}
use Rattle.world_streams.specs.Output.{frame_of}
use Rattle.world_steps.specs.declared.Step.{Step}
use Rattle.world_steps.specs.declared.Step.TheVariants as step
use Rattle.hda_world.specs.Worlds.{World, TakenCommand, codec_at, with_codec, output_of}
use Rattle.hda_world.specs.Steps.{address_of, taking, is_busy, handed, handed_next, waiting_of, responses_of, sent_first, sent, responded, passed, output_framed, input_framed, frame_step, output_fetched, input_stored, times, corb_step, rirb_step, after_step}
use Rattle.hda_world.proofs.Callers.{absent, found_all, kept_step, passed_global, responded_none}
use Rattle.command_engine.specs.declared.ring_places.RingPlaces.{RingPlaces}
use Rattle.std.specs.Option.{is_some}
use Rattle.world_rings.specs.Memory.{word_at}
use Rattle.world_rings.proofs.Callers.{shape_responded, batch_none, batch_first}
use Rattle.command_engine.specs.declared.answers.Outstanding.{Outstanding}
use Rattle.command_engine.specs.Fetchings.{AscendByAddress, Stands, HasRings, IsFetching, IsWordOf, part_of, solicited, waiting_answers}
use Rattle.command_engine.proofs.Callers.{keeps_standing, responses_apart, changed_all, changed_sum, count-append}
use Rattle.laws_serving.specs.ServingDevices.{keeps_answers, HasItsCodec, HasAnswersAlone, ServesBy, Serves, StandsServed, taken_since, unread_answers, IsComing}

-- the outstanding command comes nearer to its answer, or stays where it is, and the codecs stay on the link
pub record ComesNearer (from read : ℕ) (old new : World) : Type 0 where
  pub taken : taken_since from old ≤ taken_since from new
  pub written : unread_answers read old ≤ unread_answers read new
  pub sent : waiting_answers new.codecs + taken_since from old ≤ waiting_answers old.codecs + taken_since from new
  pub coming : IsComing from old → IsComing from new
  pub there : (address : ℕ) → is_some (codec_at address new.codecs) ≡ is_some (codec_at address old.codecs)

-- so a step leads on, and the device goes on serving
abbrev Kept : (from read : ℕ) → (old new : World) → Type 0
Kept from read old new = Serves from read new × ComesNearer from read old new

stays : (from read : ℕ) (world : World) → Serves from read world → Kept from read world world
stays from read world serves = (serves, record { taken = omega arith; written = omega arith; sent = omega arith; coming = λ coming. coming; there = λ address. refl })

-- ---- fetches and link frames

fetch_if : (from read most : ℕ) (b c : Bool) (world : World) → Serves from read world → Kept from read world (if b then output_fetched most world else (if c then input_stored most world else world))
fetch_if from read most true c world serves = (serves, record { taken = omega arith; written = omega arith; sent = omega arith; coming = λ coming. coming; there = λ address. refl })
fetch_if from read most false true world serves = (serves, record { taken = omega arith; written = omega arith; sent = omega arith; coming = λ coming. coming; there = λ address. refl })
fetch_if from read most false false world serves = stays from read world serves

serves_global : (from read : ℕ) (world : World) (global : Global) (clock status : ℕ) → global ≡ record world.registers.global { wall_clock = clock; state_status = status } → Serves from read world → ServesBy from read global world.codecs world.waiting world.commands world.written
serves_global from read world global clock status same serves =
    subst (λ (global : Global). ServesBy from read global world.codecs world.waiting world.commands world.written) (sym same)
    (record { corb_runs = serves.corb_runs; no_reset = serves.no_reset; rirb_runs = serves.rirb_runs; flag = serves.flag; asked = serves.asked; all_asked = serves.all_asked; read_asked = serves.read_asked; none_lost = serves.none_lost })

frame_if : (from read : ℕ) (b : Bool) (world : World) → Serves from read world → Kept from read world (if b then input_framed (output_framed (frame_of (output_of world)) (passed world)) else world)
frame_if from read true world serves =
    let same = passed_global world in (
      serves_global from read world (passed world).registers.global (framed world.registers).global.wall_clock (passed world).registers.global.state_status same serves,
      record {
        taken = omega arith;
        written = omega arith;
        sent = omega arith;
        coming = λ coming. subst (λ (global : Global). (1 ≤ taken_since from world) ⊎ (next_place global.corb_read_pointer (entries_of world.registers.shape.corb) ≡ global.corb_write_pointer)) (sym same) coming;
        there = λ address. refl;
      },
    )
frame_if from read false world serves = stays from read world serves

then_on : (from read : ℕ) (old middle new : World) → ComesNearer from read old middle → ComesNearer from read middle new → ComesNearer from read old new
then_on from read old middle new first second = record {
  taken = let a = first.taken in let b = second.taken in omega arith;
  written = let a = first.written in let b = second.written in omega arith;
  sent = let a = first.sent in let b = second.sent in omega arith;
  coming = λ coming. second.coming (first.coming coming);
  there = λ address. second.there address ∙ first.there address;
}

frames : (from read count : ℕ) (world : World) → Serves from read world → Kept from read world (times count frame_step world)
frames from read zero world serves = stays from read world serves
frames from read (suc count) world serves =
    let one = frame_if from read (is_out_of_reset world.registers.global) world serves in
    let rest = frames from read count (frame_step world) one.0 in
    (rest.0, then_on from read world (frame_step world) (times count frame_step (frame_step world)) one.1 rest.1)

-- ---- CORB's engine hands a command over

asked_taken : (codec : CodecState) (word : ℕ) → HasAnswersAlone codec → HasAnswersAlone (taken codec word)
asked_taken codec word asked =
    let more = answers-push codec.waiting (Answer (answer_to codec word)) in
    let long = length-append codec.waiting (Answer (answer_to codec word) ∷ []) in omega (arith, more, long, asked)

gained_more : (from : ℕ) (commands : List TakenCommand) (one : TakenCommand) → from ≤ length commands → length (drop from (commands ++ one ∷ [])) ≡ length (drop from commands) + 1
gained_more from commands one within =
    let a = length-drop from (commands ++ one ∷ []) in
    let b = length-drop from commands in
    let c = length-append commands (one ∷ []) in omega (arith, a, b, c, within)

handed_by : (from read : ℕ) (found : Option CodecState) (world : World) (word : ℕ) → codec_at (address_of word) world.codecs ≡ found → AscendByAddress world.codecs → from ≤ length world.commands → Serves from read world
    → let commands = world.commands ++ taking word found (is_running world.registers.output) (length world.carried) in
    let codecs = with_codec (address_of word) (λ codec. taken codec word) world.codecs in
    ServesBy from read world.registers.global codecs world.waiting commands world.written
    × (length (drop from world.commands) ≤ length (drop from commands)) × (waiting_answers codecs + length (drop from world.commands) ≤ waiting_answers world.codecs + length (drop from commands))
handed_by from read None world word there ascend within serves =
    subst (λ (codecs : List CodecState). ServesBy from read world.registers.global codecs world.waiting (world.commands ++ []) world.written × (length (drop from world.commands) ≤ length (drop from (world.commands ++ []))) × (waiting_answers codecs + length (drop from world.commands) ≤ waiting_answers world.codecs + length (drop from (world.commands ++ []))))
    (sym (absent (address_of word) (λ codec. taken codec word) world.codecs there))
    (subst (λ (commands : List TakenCommand). ServesBy from read world.registers.global world.codecs world.waiting commands world.written × (length (drop from world.commands) ≤ length (drop from commands)) × (waiting_answers world.codecs + length (drop from world.commands) ≤ waiting_answers world.codecs + length (drop from commands)))
    (sym (append-nil world.commands)) (serves, omega arith, omega arith))
handed_by from read (Some codec) world word there ascend within serves =
    let one : TakenCommand = record { word = word; codec = codec; running = is_running world.registers.output; carried = length world.carried } in
    let more = gained_more from world.commands one within in
    let sum = changed_sum (λ (codec : CodecState). answers codec.waiting) (address_of word) 0 (λ codec. taken codec word) world.codecs codec ascend there in
    let push = answers-push codec.waiting (Answer (answer_to codec word)) in
    let none = serves.none_lost in (
      record {
        corb_runs = serves.corb_runs;
        no_reset = serves.no_reset;
        rirb_runs = serves.rirb_runs;
        flag = serves.flag;
        asked = changed_all HasAnswersAlone (address_of word) 0 (λ codec. taken codec word) world.codecs codec ascend there serves.asked (asked_taken codec word (found_all HasAnswersAlone (address_of word) world.codecs codec there serves.asked));
        all_asked = serves.all_asked;
        read_asked = serves.read_asked;
        none_lost = omega (arith, more, sum, push, none);
      },
      omega (arith, more),
      omega (arith, more, sum, push),
    )

-- the codecs stay there
there_with : (at address : ℕ) (change : CodecState → CodecState) → ((codec : CodecState) → (change codec).graph ≡ codec.graph) → (codecs : List CodecState) → is_some (codec_at at (with_codec address change codecs)) ≡ is_some (codec_at at codecs)
there_with at address change keeps [] = refl
there_with at address change keeps (codec ∷ codecs) = first (there_with at address change keeps codecs) (codec.graph.address == address)
  where
    found : is_some (codec_at at (with_codec address change codecs)) ≡ is_some (codec_at at codecs) → (b : Bool) (one : CodecState) → is_some (if b then Some one else codec_at at (with_codec address change codecs)) ≡ is_some (if b then Some codec else codec_at at codecs)
    found rest true one = refl
    found rest false one = rest

    first : is_some (codec_at at (with_codec address change codecs)) ≡ is_some (codec_at at codecs) → (named : Bool)
        → is_some (if (if named then change codec else codec).graph.address == at then Some (if named then change codec else codec) else codec_at at (with_codec address change codecs)) ≡ is_some (if codec.graph.address == at then Some codec else codec_at at codecs)
    first rest true = ap (λ graph. is_some (if graph.address == at then Some (change codec) else codec_at at (with_codec address change codecs))) (keeps codec) ∙ found rest (codec.graph.address == at) (change codec)
    first rest false = found rest (codec.graph.address == at) codec

fetch_some : (fields : Fields) → can_fetch fields ≡ true → fields.global.corb_read_pointer ≡ fields.global.corb_write_pointer → ⊥
fetch_some fields can same = search (rules, tests)

-- the word that is fetched is the one that was submitted
pub fetched_word : (corb rirb : ℕ) (rings : RingPlaces) (world : World) → HasRings corb rirb rings (part_of world.registers) → next_place world.registers.global.corb_read_pointer (entries_of world.registers.shape.corb) ≡ world.registers.global.corb_write_pointer
    → next_command world.registers world.memory ≡ word_at world.memory (corb + 4 * rings.submitted)
fetched_word corb rirb rings world has next =
    let at = has.corb_at in
    let place : next_place world.registers.global.corb_read_pointer (entries_of world.registers.shape.corb) ≡ rings.submitted = next ∙ has.submitted in
    ap (λ (place : ℕ). word_at world.memory (128 * world.registers.global.corb_base + 4 * place)) place ∙ ap (λ (base : ℕ). word_at world.memory (base + 4 * rings.submitted)) at

pub its_codec : (outstanding : Option Outstanding) (word : ℕ) (codecs : List CodecState) → IsWordOf outstanding word → HasItsCodec outstanding codecs → is_some (codec_at (address_of word) codecs) ≡ true
its_codec None word codecs is has = absurd is
its_codec (Some command) word codecs is has = ap (λ (word : ℕ). is_some (codec_at (address_of word) codecs)) is ∙ has

pub taken_now : (from : ℕ) (found : Option CodecState) (world : World) (word : ℕ) → is_some found ≡ true → from ≤ length world.commands
    → 1 ≤ length (drop from (world.commands ++ taking word found (is_running world.registers.output) (length world.carried)))
taken_now from None world word some within = cc
taken_now from (Some codec) world word some within =
    let more = gained_more from world.commands (record { word = word; codec = codec; running = is_running world.registers.output; carried = length world.carried }) within in omega (arith, more)

module _ (from read corb rirb : ℕ) (rings : RingPlaces) where
  handed_kept : (world : World) → StandsServed from read corb rirb rings world → HasItsCodec rings.outstanding world.codecs → can_fetch world.registers ≡ true → Kept from read world (handed (next_command world.registers world.memory) world)
  handed_kept world served has can =
      let word = next_command world.registers world.memory in
      let both = handed_by from read (codec_at (address_of word) world.codecs) world word refl served.stands.ascend served.stands.from_within served.serves in (
        record { corb_runs = both.0.corb_runs; no_reset = both.0.no_reset; rirb_runs = both.0.rirb_runs; flag = both.0.flag; asked = both.0.asked; all_asked = both.0.all_asked; read_asked = both.0.read_asked; none_lost = both.0.none_lost },
        record {
          taken = both.1;
          written = omega arith;
          sent = both.2;
          coming = by served.stands.fetching;
          there = λ address. there_with address (address_of word) (λ codec. taken codec word) (λ codec. refl) world.codecs;
        },
      )
    where
      by : IsFetching rings.outstanding (part_of world.registers) (word_at world.memory (corb + 4 * rings.submitted)) (drop from world.commands) → IsComing from world → IsComing from (handed (next_command world.registers world.memory) world)
      by (inl all) coming = absurd (fetch_some world.registers can all.pointers)
      by (inr next) coming =
          let word = next_command world.registers world.memory in
          let is = subst (IsWordOf rings.outstanding) (sym (fetched_word corb rirb rings world served.stands.has_rings next.pointers)) next.is in
          inl (taken_now from (codec_at (address_of word) world.codecs) world word (its_codec rings.outstanding word world.codecs is has) served.stands.from_within)

  corb_if : (busy : Bool) (world : World) → StandsServed from read corb rirb rings world → HasItsCodec rings.outstanding world.codecs → can_fetch world.registers ≡ true
      → Kept from read world (if busy then world else handed (next_command world.registers world.memory) world)
  corb_if true world served has can = stays from read world served.serves
  corb_if false world served has can = handed_kept world served has can

  corb_by : (can : Bool) (world : World) → can_fetch world.registers ≡ can → StandsServed from read corb rirb rings world → HasItsCodec rings.outstanding world.codecs
      → Kept from read world (handed_next (if can then Some (next_command world.registers world.memory) else None) world)
  corb_by true world can served has = corb_if (is_busy (codec_at (address_of (next_command world.registers world.memory)) world.codecs)) world served has can
  corb_by false world can served has = stays from read world served.serves

  corb_kept : (world : World) → StandsServed from read corb rirb rings world → HasItsCodec rings.outstanding world.codecs → Kept from read world (corb_step world)
  corb_kept world served has = corb_by (can_fetch world.registers) world refl served has

-- ---- a codec sends its first item

abbrev answer_count : Waiting → ℕ
answer_count item = cond (is_answer item) 1 0

-- where only answers wait the first is one
first_asked : (item : Waiting) (rest : List Waiting) → answers (item ∷ rest) ≡ length (item ∷ rest) → (answer_count item ≡ 1) × (answers rest ≡ length rest)
first_asked item rest asked = by item asked
  where
    by : (item : Waiting) → answers (item ∷ rest) ≡ length (item ∷ rest) → (answer_count item ≡ 1) × (answers rest ≡ length rest)
    by (Answer value) asked = let e = answers-cons (Answer value) rest in (refl, omega (arith, e, asked))
    by (Unsolicited value) asked = let e = answers-cons (Unsolicited value) rest in let all = all-counted rest in absurd (omega (arith, e, asked, all))

-- an answer is one response, to a command
one_sent : (fields : Fields) (address : ℕ) (item : Waiting) → answer_count item ≡ 1 → (length (responses_of fields address item) ≡ 1) × (solicited (responses_of fields address item) ≡ 1)
one_sent fields address (Answer value) is = (refl, refl)
one_sent fields address (Unsolicited value) is = absurd (omega (arith, is))

sent_serves : (from read : ℕ) (world : World) (address : ℕ) (item : Waiting) (rest : List Waiting) (codec : CodecState) → codec_at address world.codecs ≡ Some codec → codec.waiting ≡ item ∷ rest → AscendByAddress world.codecs → Serves from read world
    → Kept from read world (sent address item world)
sent_serves from read world address item rest codec there are ascend serves =
    let asked = found_all HasAnswersAlone address world.codecs codec there serves.asked in
    let first = first_asked item rest (sym (ap answers are) ∙ asked ∙ ap length are) in
    let one = one_sent world.registers address item first.0 in
    let one_is = one.0 in
    let one_asked = one.1 in
    let rest_asked = first.1 in
    let sum = changed_sum (λ (codec : CodecState). answers codec.waiting) address 0 without_first world.codecs codec ascend there in
    let had : answers codec.waiting ≡ answers (item ∷ rest) = ap answers are in
    let cons = answers-cons item rest in
    let item_is = first.0 in
    let has : answers (drop 1 codec.waiting) ≡ answers rest = ap (λ (items : List Waiting). answers (drop 1 items)) are in
    let has_long : length (drop 1 codec.waiting) ≡ length rest = ap (λ (items : List Waiting). length (drop 1 items)) are in
    let more = count-append world.waiting (responses_of world.registers address item) in
    let long = length-append world.waiting (responses_of world.registers address item) in
    let all = serves.all_asked in
    let none = serves.none_lost in (
      record {
        corb_runs = serves.corb_runs;
        no_reset = serves.no_reset;
        rirb_runs = serves.rirb_runs;
        flag = serves.flag;
        asked = changed_all HasAnswersAlone address 0 without_first world.codecs codec ascend there serves.asked (omega (arith, has, has_long, rest_asked));
        all_asked = omega (arith, more, long, one_is, one_asked, all);
        read_asked = serves.read_asked;
        none_lost = omega (arith, more, one_asked, sum, had, cons, item_is, has, none);
      },
      record {
        taken = omega arith;
        written = omega arith;
        sent = omega (arith, sum, had, cons, has);
        coming = λ coming. coming;
        there = λ at. there_with at address without_first (λ codec. refl) world.codecs;
      },
    )

sent_by : (from read : ℕ) (found : Option CodecState) (items : List Waiting) (world : World) (address : ℕ) → codec_at address world.codecs ≡ found → waiting_of found ≡ items → AscendByAddress world.codecs → Serves from read world → Kept from read world (sent_first address items world)
sent_by from read found [] world address there are ascend serves = stays from read world serves
sent_by from read None (item ∷ rest) world address there are ascend serves = cc
sent_by from read (Some codec) (item ∷ rest) world address there are ascend serves = sent_serves from read world address item rest codec there are ascend serves

answer_if : (from read : ℕ) (can : Bool) (world : World) (address : ℕ) → AscendByAddress world.codecs → Serves from read world → Kept from read world (if can then sent_first address (waiting_of (codec_at address world.codecs)) world else world)
answer_if from read true world address ascend serves = sent_by from read (codec_at address world.codecs) (waiting_of (codec_at address world.codecs)) world address refl refl ascend serves
answer_if from read false world address ascend serves = stays from read world serves

-- ---- RIRB's engine writes a batch

globals_after : (responses : List Response) (fields : Fields) → (after_responses fields responses).global ≡ record fields.global { rirb_write_pointer = (after_responses fields responses).global.rirb_write_pointer }
globals_after [] fields = refl
globals_after (response ∷ responses) fields = globals_after responses (after_response fields)

pub most_solicited : (responses : List Response) → solicited responses ≤ length responses
most_solicited [] = omega arith
most_solicited (response ∷ responses) = by response.unsolicited (most_solicited responses) (sum_by-cons (λ (response : Response). cond (not response.unsolicited) 1 0) response responses)
  where
    by : (b : Bool) → solicited responses ≤ length responses → solicited (response ∷ responses) ≡ cond (not b) 1 0 + solicited responses → solicited (response ∷ responses) ≤ length (response ∷ responses)
    by true rest cons = omega (arith, rest, cons)
    by false rest cons = omega (arith, rest, cons)

coming_written : (from : ℕ) (world : World) (responses : List Response) → IsComing from world
    → (1 ≤ taken_since from world) ⊎ (next_place (after_responses world.registers responses).global.corb_read_pointer (entries_of (after_responses world.registers responses).shape.corb) ≡ (after_responses world.registers responses).global.corb_write_pointer)
coming_written from world responses coming =
    subst (λ shape. (1 ≤ taken_since from world) ⊎ (next_place (after_responses world.registers responses).global.corb_read_pointer (entries_of shape.corb) ≡ (after_responses world.registers responses).global.corb_write_pointer)) (sym (shape_responded responses world.registers))
    (subst (λ (global : Global). (1 ≤ taken_since from world) ⊎ (next_place global.corb_read_pointer (entries_of world.registers.shape.corb) ≡ global.corb_write_pointer)) (sym (globals_after responses world.registers)) coming)

written_kept : (from read : ℕ) (world : World) (response : Response) (rest : List Response) → can_respond world.registers ≡ true → batch world.registers world.waiting ≡ response ∷ rest → read ≤ length world.written → Serves from read world
    → Kept from read world (responded (response ∷ rest) world)
written_kept from read world response rest can are within serves =
    let responses = response ∷ rest in
    let same = globals_after responses world.registers in
    let first = batch_first world.registers world.waiting responses can are in
    let left = drop (length responses) world.waiting in
    let counts = count-append responses left in
    let longs = length-append responses left in
    let all : solicited (responses ++ left) ≡ length (responses ++ left) = ap solicited first ∙ serves.all_asked ∙ sym (ap length first) in
    let waited : solicited (responses ++ left) ≡ solicited world.waiting = ap solicited first in
    let some = most_solicited responses in
    let others = most_solicited left in
    let unread : drop read (world.written ++ responses) ≡ drop read world.written ++ responses = drop-append-le read world.written responses within in
    let now : solicited (drop read (world.written ++ responses)) ≡ solicited (drop read world.written) + solicited responses = ap solicited unread ∙ count-append (drop read world.written) responses in
    let now_long : length (drop read (world.written ++ responses)) ≡ length (drop read world.written) + length responses = ap length unread ∙ length-append (drop read world.written) responses in
    let more = length-append world.written responses in
    let asked = serves.read_asked in
    let none = serves.none_lost in (
      record {
        corb_runs = ap (λ (global : Global). global.corb_run) same ∙ serves.corb_runs;
        no_reset = ap (λ (global : Global). global.corb_pointer_reset) same ∙ serves.no_reset;
        rirb_runs = ap (λ (global : Global). global.rirb_run) same ∙ serves.rirb_runs;
        flag = λ is. omega (arith, more, within);
        asked = serves.asked;
        all_asked = omega (arith, counts, longs, all, some, others);
        read_asked = omega (arith, now, now_long, asked, counts, longs, all, some, others);
        none_lost = omega (arith, now, counts, waited, none);
      },
      record {
        taken = omega arith;
        written = omega (arith, now);
        sent = omega arith;
        coming = λ coming. coming_written from world responses coming;
        there = λ address. refl;
      },
    )

batch_kept : (from read : ℕ) (world : World) (responses : List Response) → can_respond world.registers ≡ true → batch world.registers world.waiting ≡ responses → read ≤ length world.written → Serves from read world → Kept from read world (responded responses world)
batch_kept from read world [] can are within serves = subst (Kept from read world) (sym (responded_none world)) (stays from read world serves)
batch_kept from read world (response ∷ rest) can are within serves = written_kept from read world response rest can are within serves

rirb_by : (from read : ℕ) (can : Bool) (world : World) → can_respond world.registers ≡ can → read ≤ length world.written → Serves from read world → Kept from read world (rirb_step world)
rirb_by from read true world is within serves = batch_kept from read world (batch world.registers world.waiting) is refl within serves
rirb_by from read false world is within serves =
    subst (λ (responses : List Response). Kept from read world (responded responses world)) (sym (batch_none world.registers world.waiting is)) (subst (Kept from read world) (sym (responded_none world)) (stays from read world serves))

-- ---- a step

module _ (from read corb rirb : ℕ) (rings : RingPlaces) where
  pub step_kept : (one : Step) (world : World) → keeps_answers one ≡ true → StandsServed from read corb rirb rings world → HasItsCodec rings.outstanding world.codecs → Kept from read world (after_step one world)
  step_kept step.Corb world is served has = corb_kept from read corb rirb rings world served has
  step_kept (step.Answer codec) world is served has = answer_if from read (is_out_of_reset world.registers.global && nat_lt (length world.waiting) MOST_WAITING) world codec served.stands.ascend served.serves
  step_kept (step.Lose codec) world is served has = cc
  step_kept step.Rirb world is served has = rirb_by from read (can_respond world.registers) world refl served.stands.reading.within served.serves
  step_kept (step.Fetch stream most) world is served has =
      fetch_if from read most (is_out_of_reset world.registers.global && stream == 1) (is_out_of_reset world.registers.global && stream == 0) world served.serves
  step_kept (step.Link count) world is served has = frames from read count world served.serves
  step_kept (step.Plug codec nid) world is served has = cc
  step_kept (step.Unplug codec nid) world is served has = cc

  pub served_on : (one : Step) (world : World) → keeps_answers one ≡ true → StandsServed from read corb rirb rings world → HasItsCodec rings.outstanding world.codecs → StandsServed from read corb rirb rings (after_step one world)
  served_on one world is served has = record {
    stands = kept_step (Stands from read corb rirb rings) (keeps_standing from read corb rirb rings responses_apart) one world served.stands;
    serves = (step_kept one world is served has).0;
  }

  has_on : (outstanding : Option Outstanding) (old new : List CodecState) → ((address : ℕ) → is_some (codec_at address new) ≡ is_some (codec_at address old)) → HasItsCodec outstanding old → HasItsCodec outstanding new
  has_on None old new there has = tt
  has_on (Some command) old new there has = there (address_of command.word) ∙ has

  pub has_after : (one : Step) (world : World) → keeps_answers one ≡ true → StandsServed from read corb rirb rings world → HasItsCodec rings.outstanding world.codecs → HasItsCodec rings.outstanding (after_step one world).codecs
  has_after one world is served has = has_on rings.outstanding world.codecs (after_step one world).codecs (step_kept one world is served has).1.there has
