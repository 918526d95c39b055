-- What a submission leaves of what is told.
use Rattle.std.proofs.Common.{◌≡◌, ◌<◌, ◌≤◌, ◌+◌, ◌*◌, ◌%◌, ◌^◌, ◌||◌, ℕ, suc, Bool, true, false, nat_le, List, [], ◌∷◌, length, drop, slice_index, Option, None, refl, sym, ap, subst, ◌∙◌, inl, inr, arith, rules, tests, lit<}
use Rattle.std.proofs.Math.Nat.{mod-lt, mod-eq_of_lt}
use Rattle.byteorder.specs.Endian.{little_bytes}
use Rattle.byteorder.specs.Numbers.{little_from-bytes, length-bytes_low_first}
use Rattle.hda_registers.specs.declared.shapes.Width.TheVariants.{Two}
use Rattle.hda_registers.specs.Fields.{entries_of, rirb_address}
use Rattle.hda_registers.specs.Access.{written}
use Rattle.hda_registers.proofs.Callers.{keeps-reset, keeps-left, write-corb_write_pointer, some_entries, few_entries}
use Rattle.world_rings.specs.declared.response.Response.{Response}
use Rattle.world_rings.specs.Memory.{word_at, stored, IsOutside}
use Rattle.world_rings.specs.Entries.{next_place}
use Rattle.world_rings.proofs.Callers.{stored_outside, piece_is_stored}
use Rattle.hda_world.specs.Worlds.{World, TakenCommand, input_of}
use Rattle.hda_world.specs.Events as happens
use Rattle.hda_world.specs.Tellings.{Telling, world_of, Makes}
use Rattle.hda_world.specs.Kept.{Kept}
use Rattle.hda_world.proofs.Callers.{accessed_then, plain_write, same_word}
use Rattle.command_engine.specs.declared.ring_places.RingPlaces.{RingPlaces}
use Rattle.command_engine.specs.declared.answers.Outstanding.{Outstanding}
use Rattle.command_engine.specs.Blocks.{are_apart}
use Rattle.command_engine.specs.Submitting.{command_place, submit_accesses, rings_submitted}
use Rattle.command_engine.specs.Apart.{InputIsApart}
use Rattle.command_engine.specs.Fetchings.{RingPart, part_of, AreOf, AllFetched, IsFetching, StandsBy, Stands}
use Rattle.command_engine.proofs.Batches.{EachStands, word_stays}
use Rattle.command_engine.proofs.Apart.{corb_written, write_apart}
use Rattle.command_engine.proofs.Pieces.{outside_piece}
use Rattle.command_engine.proofs.Keeping.{keeps_standing}
use Rattle.command_engine.proofs.Holding.{Holding, keeps_holding}

are_none : (gained : List TakenCommand) → AreOf None gained → gained ≡ []
are_none [] are = refl
are_none (taken ∷ more) are = absurd are

-- where no codec is asked, none takes a command
pub none_gained : (part : RingPart) (word : ℕ) (gained : List TakenCommand) → IsFetching None part word gained → gained ≡ []
none_gained part word gained (inl all) = are_none gained all.taken
none_gained part word gained (inr next) = next.none

-- a word that is stored reads back
word_written : (memory : List ℕ) (at word : ℕ) → at + 4 ≤ length memory → word_at (stored memory at (little_bytes 4 word)) at ≡ word % 2 ^ 32
word_written memory at word fits =
    let new = stored memory at (little_bytes 4 word) in
    let piece = piece_is_stored at (little_bytes 4 word) memory (rw (length-bytes_low_first 0 4 word) fits) in
    let e0 : slice_index new at ≡ slice_index (little_bytes 4 word) 0 = subst (λ (n : ℕ). slice_index new n ≡ slice_index (little_bytes 4 word) 0) (omega arith) (piece.inside 0 (lit< tt)) in
    let e1 : slice_index new (suc at) ≡ slice_index (little_bytes 4 word) 1 = subst (λ (n : ℕ). slice_index new n ≡ slice_index (little_bytes 4 word) 1) (omega arith) (piece.inside 1 (lit< tt)) in
    let e2 : slice_index new (suc (suc at)) ≡ slice_index (little_bytes 4 word) 2 = subst (λ (n : ℕ). slice_index new n ≡ slice_index (little_bytes 4 word) 2) (omega arith) (piece.inside 2 (lit< tt)) in
    let e3 : slice_index new (suc (suc (suc at))) ≡ slice_index (little_bytes 4 word) 3 = subst (λ (n : ℕ). slice_index new n ≡ slice_index (little_bytes 4 word) 3) (omega arith) (piece.inside 3 (lit< tt)) in
    let read : word_at new at ≡ word_at (little_bytes 4 word) 0 = cc in
    read ∙ little_from-bytes 4 0 word [] ∙ omega arith

-- a byte of RIRB is outside an entry of CORB
beside_entry : (corb rirb at here : ℕ) → are_apart corb rirb ≡ true → corb ≤ at → at + 4 ≤ corb + 1024 → rirb ≤ here → here < rirb + 2048 → IsOutside at 4 here
beside_entry corb rirb at here apart from to above below = by (nat_le (corb + 1024) rirb) refl apart
  where
    by : (b : Bool) → nat_le (corb + 1024) rirb ≡ b → (b || nat_le (rirb + 2048) corb) ≡ true → IsOutside at 4 here
    by true is e = let first : corb + 1024 ≤ rirb = search (rules, tests) in inr (omega arith)
    by false is e = let first : rirb + 2048 ≤ corb = search (rules, tests) in inl (omega arith)

module _ (from read corb rirb : ℕ) (rings : RingPlaces) (stands : EachStands) (idle : rings.outstanding ≡ None) (command : Outstanding) where
  abbrev at_entry : ℕ
  at_entry = corb + 4 * command_place rings

  place_below : command_place rings < entries_of rings.corb
  place_below = mod-lt (rings.submitted + 1) (some_entries rings.corb)

  all_fetched : (world : World) → Stands from read corb rirb rings world → AllFetched None (part_of world.registers) (drop from world.commands)
  all_fetched world holds = by (subst (λ (outstanding : Option Outstanding). IsFetching outstanding (part_of world.registers) (word_at world.memory (corb + 4 * rings.submitted)) (drop from world.commands)) idle holds.fetching)
    where
      by : IsFetching None (part_of world.registers) (word_at world.memory (corb + 4 * rings.submitted)) (drop from world.commands) → AllFetched None (part_of world.registers) (drop from world.commands)
      by (inl all) = all
      by (inr next) = absurd next.is

  -- what lies outside CORB's block lies outside the entry
  inside_corb : at_entry + 4 ≤ corb + 1024 → (at : ℕ) → IsOutside corb 1024 at → IsOutside at_entry 4 at
  inside_corb fits at (inl below) = inl (omega (arith, below))
  inside_corb fits at (inr above) = inr (omega (arith, above, fits))

  -- the word is written while nothing is left to fetch
  pub stored_stands : (world : World) → Stands from read corb rirb rings world
      → StandsBy from read corb rirb rings (part_of world.registers) (stored world.memory at_entry (little_bytes 4 command.word)) world.codecs world.waiting world.commands world.written (input_of world)
  stored_stands world holds =
      let both = stored_outside at_entry (little_bytes 4 command.word) world.memory in
      let long = length-bytes_low_first 0 4 command.word in
      let blocks = holds.blocks in
      let place = place_below in
      let corb_few = few_entries rings.corb in
      let rirb_few = few_entries rings.rirb in
      record {
        has_rings = holds.has_rings;
        blocks = record { corb_inside = subst (λ (n : ℕ). corb + 1024 ≤ n) (sym both.0) blocks.corb_inside; rirb_inside = subst (λ (n : ℕ). rirb + 2048 ≤ n) (sym both.0) blocks.rirb_inside; apart = blocks.apart };
        ascend = holds.ascend;
        reading = holds.reading;
        flag = holds.flag;
        few = holds.few;
        pointer = holds.pointer;
        standing = λ index response byte is small.
            let there : (rings.read + (index + 1)) % entries_of rings.rirb < entries_of rings.rirb = mod-lt _ (some_entries rings.rirb) in
            both.1 (rirb + 8 * ((rings.read + (index + 1)) % entries_of rings.rirb) + byte)
            (rw long (beside_entry corb rirb at_entry (rirb + 8 * ((rings.read + (index + 1)) % entries_of rings.rirb) + byte) blocks.apart (omega arith) (omega arith) (omega arith) (omega arith)))
            ∙ holds.standing index response byte is small;
        from_within = holds.from_within;
        fetching = let all = all_fetched world holds in subst (λ (outstanding : Option Outstanding). IsFetching outstanding (part_of world.registers) (word_at (stored world.memory at_entry (little_bytes 4 command.word)) (corb + 4 * rings.submitted)) (drop from world.commands)) (sym idle) (inl all);
        taken_by = holds.taken_by;
        on_its_way = holds.on_its_way;
        apart = corb_written corb rirb world.memory (stored world.memory at_entry (little_bytes 4 command.word)) (input_of world)
            (λ at outside. both.1 at (rw long (inside_corb (omega (arith, place, corb_few)) at outside))) holds.apart;
      }

  abbrev HasWord : ℕ → List ℕ → List Response → Type 0
  HasWord flag memory written = word_at memory at_entry ≡ command.word

  abbrev Submits : World → Type 0
  Submits = Holding from read corb rirb rings stands HasWord

  submits_kept : Kept Submits
  submits_kept = keeps_holding from read corb rirb rings stands HasWord (λ world response rest holds can are.
      let base : rirb_address world.registers ≡ rirb = holds.0.has_rings.rirb_at in
      let place = place_below in
      let few = few_entries rings.corb in
      word_stays (response ∷ rest) world.registers world.memory corb (command_place rings) (subst (λ (at : ℕ). are_apart corb at ≡ true) (sym base) holds.0.blocks.apart) (omega arith) ∙ holds.1)
      (λ world at byte holds corb_beside rirb_beside.
      let place = place_below in
      let few = few_entries rings.corb in
      same_word world.memory (stored world.memory at (byte ∷ [])) at_entry
      (λ here small. (stored_outside at (byte ∷ []) world.memory).1 (at_entry + here) (outside_piece corb 1024 at 1 (at_entry + here) corb_beside (omega arith) (omega (arith, place, few, small)))) ∙ holds.1)

  -- CORB's write pointer moves to it
  pointed_stands : (world : World) → Submits world → Stands from read corb rirb (rings_submitted rings command) (happens.after_write 0x48 Two (command_place rings) world)
  pointed_stands world holds =
      let has = holds.0.has_rings in
      let few = few_entries rings.corb in
      let below = place_below in
      let place = command_place rings in
      let new = written world.registers 0x48 Two place in
      let size : entries_of world.registers.shape.corb ≡ entries_of rings.corb = ap entries_of has.corb_size in
      let low : place % 2 ^ 8 ≡ place = mod-eq_of_lt (omega arith) in
      let value : place % 2 ^ 8 % entries_of world.registers.shape.corb ≡ place = ap (λ (n : ℕ). n % entries_of world.registers.shape.corb) low ∙ ap (λ (n : ℕ). place % n) size ∙ mod-eq_of_lt below in
      let part : part_of new ≡ record (part_of world.registers) { corb_write_pointer = place } =
      ap part_of (write-corb_write_pointer world.registers place has.out) ∙ ap (λ (n : ℕ). record (part_of world.registers) { corb_write_pointer = n }) value in
      let all = all_fetched world holds.0 in
      let stood = all.pointers ∙ has.submitted in
      let next : next_place world.registers.global.corb_read_pointer (entries_of world.registers.shape.corb) ≡ place = ap (λ (n : ℕ). next_place n (entries_of world.registers.shape.corb)) stood ∙ ap (next_place rings.submitted) size in
      let way = holds.0 in
      let plain = plain_write world 0x48 place Two (keeps-reset world.registers 0x48 Two place (omega arith)) (keeps-left world.registers 0x48 Two place (omega arith)) in
      subst (λ (w : World). Stands from read corb rirb (rings_submitted rings command) w) (sym plain)
      (subst (λ (part : RingPart). StandsBy from read corb rirb (rings_submitted rings command) part world.memory world.codecs world.waiting world.commands world.written (input_of (happens.registers_written new world))) (sym part) (record {
        has_rings = record {
          out = has.out;
          corb_size = has.corb_size;
          rirb_size = has.rirb_size;
          corb_at = has.corb_at;
          rirb_at = has.rirb_at;
          submitted = refl;
          served = has.served;
          submitted_within = below;
          read_within = has.read_within;
        };
        blocks = way.blocks;
        ascend = way.ascend;
        reading = way.reading;
        flag = way.flag;
        few = way.few;
        pointer = way.pointer;
        standing = way.standing;
        from_within = way.from_within;
        fetching = inr (record { pointers = next; is = holds.1; none = are_none (drop from world.commands) all.taken });
        taken_by = way.taken_by;
        on_its_way = way.on_its_way;
        apart = subst (InputIsApart corb rirb) plain (write_apart corb rirb world 0x48 place Two (omega arith) (inl (lit< tt)) way.apart);
      }))

  pub submit_leaves : (old new : Telling) → command.word < 2 ^ 32 → Makes (submit_accesses corb rings command.word) old new → Stands from read corb rirb rings (world_of old)
      → Stands from read corb rirb (rings_submitted rings command) (world_of new)
  submit_leaves old new narrow makes holds =
      let made = makes.by in
      let stored_one : Submits (world_of made.0) =
      accessed_then (Stands from read corb rirb rings) Submits _ (keeps_standing from read corb rirb rings stands)
      (λ world there honest.
      let blocks = there.blocks in
      let inside = blocks.corb_inside in
      let below = place_below in
      let few = few_entries rings.corb in
      (stored_stands world there, word_written world.memory at_entry command.word (omega arith) ∙ mod-eq_of_lt narrow)) old made.0 made.1 holds in
      let last = made.2 in
      let after = accessed_then Submits (Stands from read corb rirb (rings_submitted rings command)) _ submits_kept (λ world there honest. pointed_stands world there) made.0 last.0 last.1 stored_one in
      subst (λ (to : Telling). Stands from read corb rirb (rings_submitted rings command) (world_of to)) (sym last.2) after
