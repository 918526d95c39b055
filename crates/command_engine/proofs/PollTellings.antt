-- What a poll leaves of what is told.
use Rattle.std.proofs.Common.{◌≡◌, ◌<◌, ◌≤◌, ◌+◌, ◌-◌, ◌*◌, ◌%◌, ◌==◌, ◌≢◌, ℕ, zero, suc, Bool, true, false, List, [], ◌∷◌, length, map, drop, slice_get, slice_index, Some, refl, sym, ap, subst, ◌∙◌, inl, lit<, arith, rules, tests, if◌then◌else◌}
use Rattle.std.specs.Prelude.{All}
use Rattle.std.proofs.Math.Nat.{mod-lt, mod-eq_of_lt}
use Rattle.std.proofs.lemmas.List.{drop_all, length-drop}
use Rattle.std.proofs.lemmas.List.Elements.{All-head, All-tail}
use Rattle.verb_codes.specs.Words.{bits_of, has_bit}
use Rattle.hda_registers.specs.declared.shapes.Width.TheVariants.{One}
use Rattle.hda_registers.specs.Fields.{Fields, entries_of}
use Rattle.hda_registers.specs.Access.{written}
use Rattle.hda_registers.proofs.Callers.{read-response_flag, read-rirb_write_pointer, keeps-reset, keeps-left, some_entries}
use Rattle.world_rings.specs.declared.response.Response.{Response}
use Rattle.world_rings.specs.declared.entries.TheConstants.{RESPONSE_BYTES}
use Rattle.world_rings.specs.Entries.{response_bytes}
use Rattle.world_rings.proofs.Callers.{flag_clear}
use Rattle.world_streams.specs.Streams.{StreamState, settled_state}
use Rattle.hda_world.specs.Worlds.{World, input_of}
use Rattle.hda_world.specs.Events as happens
use Rattle.hda_world.specs.Tellings.{Telling, world_of, MakesBy, Makes}
use Rattle.hda_world.specs.Kept.{Kept}
use Rattle.hda_world.proofs.Callers.{accessed_then, plain_write}
use Rattle.command_engine.specs.declared.ring_places.RingPlaces.{RingPlaces}
use Rattle.command_engine.specs.Entries.{response_in, responses_in, answer_among}
use Rattle.command_engine.specs.Polling.{PollReads, entry_reads, batch_accesses, poll_accesses, new_entries, asked_of, found_by, read_to, still_outstanding, AreNew}
use Rattle.command_engine.specs.Apart.{IsApartBy, InputIsApart}
use Rattle.command_engine.specs.Fetchings.{RingPart, part_of, ResponseCanCome, StandsBy, Stands}
use Rattle.command_engine.specs.Belonging.{as_held, from_after, PollLeaves}
use Rattle.command_engine.proofs.Batches.{EachStands, half_small}
use Rattle.command_engine.proofs.Apart.{with_apart, write_apart}
use Rattle.command_engine.proofs.Keeping.{keeps_standing}
use Rattle.command_engine.proofs.Holding.{Holding, keeps_holding}
use Rattle.command_engine.proofs.EntryReads.{entry_says, new_is}
use Rattle.command_engine.proofs.PollWorlds.{split_row, write-response_flag, after_poll}

-- the response of an index
next_of : (responses : List Response) (index : ℕ) → index < length responses → (response : Response) × (slice_get responses index ≡ Some response) × (drop index responses ≡ response ∷ drop (suc index) responses)
next_of [] index within = absurd (omega arith)
next_of (response ∷ responses) zero within = (response, refl, refl)
next_of (response ∷ responses) (suc index) within = let rest = next_of responses index (omega arith) in (rest.0, rest.1, rest.2)

all_at : (P : Response → Type 0) (responses : List Response) (index : ℕ) (response : Response) → All P responses → slice_get responses index ≡ Some response → P response
all_at P [] index response all is = cc
all_at P (first ∷ responses) zero response all is = let same : first ≡ response = cc in subst P same (All-head P first responses all)
all_at P (first ∷ responses) (suc index) response all is = all_at P responses index response (All-tail P first responses all) is

clash : (flag : ℕ) → flag ≡ 1 → (flag == 1) ≡ false → ⊥
clash flag set clear = let e : (1 == 1) ≡ false = subst (λ (n : ℕ). (n == 1) ≡ false) set clear in cc

module _ (from read corb rirb : ℕ) (rings : RingPlaces) (stands : EachStands) where
  -- the flag is set, so nothing more is written
  abbrev IsSet : List Response → ℕ → List ℕ → List Response → Type 0
  IsSet all flag memory written = (flag ≡ 1) × (written ≡ all)

  abbrev Waits : List Response → World → Type 0
  Waits all = Holding from read corb rirb rings stands (IsSet all)

  waits_kept : (all : List Response) → Kept (Waits all)
  waits_kept all = keeps_holding from read corb rirb rings stands (IsSet all) (λ world response rest holds can are. absurd (clash world.registers.global.response_flag holds.1.0 (flag_clear world.registers can))) (λ world at byte holds corb_beside rirb_beside. holds.1)

  -- ---- the entries

  says : (all : List Response) (index : ℕ) (response : Response) (entry : List ℕ) (world : World) → slice_get (drop read all) index ≡ Some response → length entry ≡ 8 → Waits all world
      → happens.IsHonest world (happens.DmaRead (rirb + RESPONSE_BYTES * ((rings.read + 1 + index) % entries_of rings.rirb)) entry) → response_in entry ≡ as_held response
  says all index response entry world there long holds piece =
      let unread : slice_get (drop read world.written) index ≡ Some response = ap (λ (written : List Response). slice_get (drop read written) index) holds.1.1 ∙ there in
      let place : rings.read + (index + 1) ≡ rings.read + 1 + index = omega arith in
      entry_says world.memory entry (rirb + 8 * ((rings.read + 1 + index) % entries_of rings.rirb)) response long piece
      (λ byte few. subst (λ (n : ℕ). slice_index world.memory (rirb + 8 * (n % entries_of rings.rirb) + byte) ≡ slice_index (response_bytes response) byte) place (holds.0.standing index response byte unread few))
      (all_at (ResponseCanCome (drop from world.commands)) (drop read world.written) index response holds.0.on_its_way.in_ring unread).address

  entries_say : (all : List Response) (entries : List (List ℕ)) (index : ℕ) (old new : Telling) → MakesBy (entry_reads rirb (entries_of rings.rirb) (rings.read + 1 + index) entries) old new
      → index + length entries ≡ length (drop read all) → All (λ (entry : List ℕ). length entry ≡ 8) entries → Waits all (world_of old)
      → Waits all (world_of new) × (responses_in entries ≡ map as_held (drop index (drop read all)))
  entries_say all [] index old new none count whole holds =
      let past : drop index (drop read all) ≡ [] = drop_all index (drop read all) (omega arith) in
      (subst (λ (to : Telling). Waits all (world_of to)) (sym none) holds, ap (map as_held) (sym past))
  entries_say all (entry ∷ entries) index old new made count whole holds =
      let next = next_of (drop read all) index (omega arith) in
      let read_one : Waits all (world_of made.0) × (response_in entry ≡ as_held next.0) =
      accessed_then (Waits all) (λ (world : World). Waits all world × (response_in entry ≡ as_held next.0)) _ (waits_kept all)
      (λ world there honest. (there, says all index next.0 entry world next.1 (All-head (λ (entry : List ℕ). length entry ≡ 8) entry entries whole) there honest)) old made.0 made.1 holds in
      let on : MakesBy (entry_reads rirb (entries_of rings.rirb) (rings.read + 1 + (index + 1)) entries) made.0 new = subst (λ (n : ℕ). MakesBy (entry_reads rirb (entries_of rings.rirb) n entries) made.0 new) (omega arith) made.2 in
      let rest = entries_say all entries (index + 1) made.0 new on (omega arith) (All-tail (λ (entry : List ℕ). length entry ≡ 8) entry entries whole) read_one.0 in
      let one_on : index + 1 ≡ suc index = omega arith in
      (rest.0, ap (λ (r : Response). r ∷ responses_in entries) read_one.1 ∙ ap (λ (rs : List Response). as_held next.0 ∷ rs) (rest.1 ∙ ap (λ (n : ℕ). map as_held (drop n (drop read all))) one_on) ∙ ap (map as_held) (sym next.2))

  -- ---- the end

  finish : (world : World) (reads : PollReads) (place : ℕ) → Stands from read corb rirb rings world → place < entries_of rings.rirb → world.registers.global.rirb_write_pointer ≡ place
      → read_to rings reads ≡ place → responses_in reads.entries ≡ map as_held (drop read world.written)
      → (part : RingPart) → part ≡ record (part_of world.registers) { response_flag = 0 }
      → (registers : Fields) (input output : StreamState) (came : List Bool) → part_of registers ≡ part → IsApartBy corb rirb world.memory (record { descriptor = registers.input; state = input })
      → PollLeaves from read corb rirb rings reads (record world { registers = registers; input = input; output = output; came = came })
  finish world reads place holds below at there says part cleared registers input output came is apart =
      let found = found_by rings reads in
      let both = after_poll from read corb rirb rings world holds place below at found (ap (answer_among (asked_of rings.outstanding)) says) in
      record {
        responses = says;
        belongs = both.0;
        stands = with_apart (from_after found from world.commands) (length world.written) corb rirb (record rings { read = read_to rings reads; outstanding = still_outstanding rings.outstanding found }) (part_of registers)
            world.memory world.codecs world.waiting world.commands world.written (input_of world) (record { descriptor = registers.input; state = input }) apart
            (subst (λ (place : ℕ). StandsBy (from_after found from world.commands) (length world.written) corb rirb (record rings { read = place; outstanding = still_outstanding rings.outstanding found }) (part_of registers) world.memory world.codecs world.waiting world.commands world.written (input_of world)) (sym there)
            (subst (λ (part : RingPart). StandsBy (from_after found from world.commands) (length world.written) corb rirb (record rings { read = place; outstanding = still_outstanding rings.outstanding found }) part world.memory world.codecs world.waiting world.commands world.written (input_of world)) (sym (is ∙ cleared)) both.1));
      }

  flag_one : (flag : ℕ) → flag ≤ 1 → has_bit flag 0 ≡ true → flag ≡ 1
  flag_one flag small set = let e : bits_of flag 0 1 ≡ 1 = search (rules, tests) in omega arith

  flag_none : (flag : ℕ) → flag ≤ 1 → has_bit flag 0 ≡ false → flag ≡ 0
  flag_none flag small clear = let e : bits_of flag 0 1 ≢ 1 = search (rules, tests) in omega arith

  none_read : (entries : List (List ℕ)) → length entries ≡ 0 → entries ≡ []
  none_read [] none = refl
  none_read (entry ∷ entries) none = absurd (omega arith)

  -- RINTFL reads 0, so nothing is unread
  idle_poll : (world : World) (reads : PollReads) → Stands from read corb rirb rings world → reads.flag ≡ world.registers.global.response_flag → has_bit reads.flag 0 ≡ false → length reads.entries ≡ 0
      → PollLeaves from read corb rirb rings reads world
  idle_poll world reads holds flag clear none =
      let zero_flag : world.registers.global.response_flag ≡ 0 = flag_none world.registers.global.response_flag holds.flag (subst (λ (n : ℕ). has_bit n 0 ≡ false) flag clear) in
      let all : length world.written ≡ read = holds.reading.all (rw zero_flag refl) in
      let has = holds.has_rings in
      let below = has.read_within in
      let behind : length world.written - read ≡ 0 = omega arith in
      let stays : rings.read + 0 ≡ rings.read = omega arith in
      let at : world.registers.global.rirb_write_pointer ≡ rings.read = holds.pointer ∙ ap (λ (n : ℕ). (rings.read + n) % entries_of rings.rirb) behind ∙ ap (λ (n : ℕ). n % entries_of rings.rirb) stays ∙ mod-eq_of_lt below in
      let unread : drop read world.written ≡ [] = drop_all read world.written (omega arith) in
      finish world reads rings.read holds below at (ap (λ (b : Bool). if b then reads.pointer % entries_of rings.rirb else rings.read) clear)
      (ap responses_in (none_read reads.entries none) ∙ ap (map as_held) (sym unread)) (part_of world.registers) (ap (λ (flag : ℕ). record (part_of world.registers) { response_flag = flag }) zero_flag) world.registers world.input world.output world.came refl holds.apart

  -- where the write pointer stands of all that was written
  abbrev stood : List Response → ℕ
  stood all = (rings.read + (length all - read)) % entries_of rings.rirb

  stands_at : (all : List Response) (world : World) → Waits all world → world.registers.global.rirb_write_pointer ≡ stood all
  stands_at all world holds = holds.0.pointer ∙ ap stood holds.1.1

  -- RINTFL is cleared after a batch
  cleared_poll : (all : List Response) (reads : PollReads) (world : World) → Waits all world → reads.pointer ≡ stood all → has_bit reads.flag 0 ≡ true → responses_in reads.entries ≡ map as_held (drop read all)
      → PollLeaves from read corb rirb rings reads (happens.after_write 0x5D One 1 world)
  cleared_poll all reads world holds pointer set says =
      let has = holds.0.has_rings in
      let below : stood all < entries_of rings.rirb = mod-lt (rings.read + (length all - read)) (some_entries rings.rirb) in
      let there : read_to rings reads ≡ stood all = ap (λ (b : Bool). if b then reads.pointer % entries_of rings.rirb else rings.read) set ∙ ap (λ (n : ℕ). n % entries_of rings.rirb) pointer ∙ mod-eq_of_lt below in
      let said : responses_in reads.entries ≡ map as_held (drop read world.written) = says ∙ ap (λ (written : List Response). map as_held (drop read written)) (sym holds.1.1) in
      let new = written world.registers 0x5D One 1 in
      let part : part_of new ≡ record (part_of world.registers) { response_flag = 0 } = ap part_of (write-response_flag world.registers has.out holds.1.0) in
      let plain = plain_write world 0x5D 1 One (keeps-reset world.registers 0x5D One 1 (omega arith)) (keeps-left world.registers 0x5D One 1 (omega arith)) in
      subst (λ (w : World). PollLeaves from read corb rirb rings reads w) (sym plain)
      (finish world reads (stood all) holds.0 below (stands_at all world holds) there said (part_of new) part (happens.streams_settled world.registers new)
      (settled_state world.registers.input new.input world.input) (settled_state world.registers.output new.output world.output)
      (happens.settled_came world.registers.input new.input world.came) refl (subst (InputIsApart corb rirb) plain (write_apart corb rirb world 0x5D 1 One (omega arith) (inl (lit< tt)) holds.0.apart)))

  batch_poll : (reads : PollReads) (middle new : Telling) → Stands from read corb rirb rings (world_of middle) → reads.flag ≡ (world_of middle).registers.global.response_flag → has_bit reads.flag 0 ≡ true
      → length reads.entries ≡ new_entries rings reads.pointer → All (λ (entry : List ℕ). length entry ≡ 8) reads.entries
      → MakesBy (batch_accesses rirb rings reads.pointer reads.entries) middle new → PollLeaves from read corb rirb rings reads (world_of new)
  batch_poll reads middle new holds flag set number whole made =
      let all = (world_of middle).written in
      let one : (world_of middle).registers.global.response_flag ≡ 1 = flag_one _ holds.flag (subst (λ (n : ℕ). has_bit n 0 ≡ true) flag set) in
      let pointed : Waits all (world_of made.0) × (reads.pointer ≡ stood all) =
      accessed_then (Waits all) (λ (world : World). Waits all world × (reads.pointer ≡ stood all)) _ (waits_kept all)
      (λ world there honest. (there, honest ∙ read-rirb_write_pointer world.registers ∙ stands_at all world there)) middle made.0 made.1 (holds, (one, refl)) in
      let parts = split_row (entry_reads rirb (entries_of rings.rirb) (rings.read + 1) reads.entries) (happens.Write 0x5D One 1 ∷ []) made.0 new made.2 in
      let has = holds.has_rings in
      let below = has.read_within in
      let half = half_small rings.rirb in
      let few = holds.few in
      let unread = length-drop read all in
      let count : length reads.entries ≡ length all - read = number ∙ ap (λ (p : ℕ). (p % entries_of rings.rirb + (entries_of rings.rirb - rings.read)) % entries_of rings.rirb) pointed.1 ∙ new_is (entries_of rings.rirb) rings.read (length all - read) below (omega arith) in
      let from_first : MakesBy (entry_reads rirb (entries_of rings.rirb) (rings.read + 1 + 0) reads.entries) made.0 parts.0 = subst (λ (n : ℕ). MakesBy (entry_reads rirb (entries_of rings.rirb) n reads.entries) made.0 parts.0) (omega arith) parts.1 in
      let said = entries_say all reads.entries 0 made.0 parts.0 from_first (omega arith) whole pointed.0 in
      let last = parts.2 in
      let after = accessed_then (Waits all) (PollLeaves from read corb rirb rings reads) _ (waits_kept all) (λ world there honest. cleared_poll all reads world there pointed.1 set said.1) parts.0 last.0 last.1 said.0 in
      subst (λ (to : Telling). PollLeaves from read corb rirb rings reads (world_of to)) (sym last.2) after

  pub poll_leaves : (reads : PollReads) (old new : Telling) → AreNew rings reads → Makes (poll_accesses rirb rings reads) old new → Stands from read corb rirb rings (world_of old)
      → PollLeaves from read corb rirb rings reads (world_of new)
  poll_leaves reads old new fresh makes holds =
      let made = makes.by in
      let first : Stands from read corb rirb rings (world_of made.0) × (reads.flag ≡ (world_of made.0).registers.global.response_flag) =
      accessed_then (Stands from read corb rirb rings) (λ (world : World). Stands from read corb rirb rings world × (reads.flag ≡ world.registers.global.response_flag)) _ (keeps_standing from read corb rirb rings stands)
      (λ world there honest. (there, honest ∙ read-response_flag world.registers)) old made.0 made.1 holds in
      by (has_bit reads.flag 0) refl first.0 first.1 fresh.number made.2
    where
      by : (b : Bool) → has_bit reads.flag 0 ≡ b → Stands from read corb rirb rings (world_of makes.by.0) → reads.flag ≡ (world_of makes.by.0).registers.global.response_flag
          → length reads.entries ≡ (if b then new_entries rings reads.pointer else 0) → MakesBy (if b then batch_accesses rirb rings reads.pointer reads.entries else []) makes.by.0 new
          → PollLeaves from read corb rirb rings reads (world_of new)
      by true set there flag number made = batch_poll reads makes.by.0 new there flag set number fresh.whole made
      by false clear there flag number made = subst (λ (to : Telling). PollLeaves from read corb rirb rings reads (world_of to)) (sym made) (idle_poll (world_of makes.by.0) reads there flag clear number)
