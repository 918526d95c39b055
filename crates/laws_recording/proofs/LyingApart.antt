-- While the input stream fills a ring its list and its buffers are the ring's blocks.
use Rattle.std.proofs.Common.{◌≡◌, ◌≤◌, ◌<◌, ◌+◌, ◌/◌, ◌%◌, ◌==◌, ◌||◌, inl, inr, ℕ, Bool, true, false, Option, None, Some, if◌then◌else◌, refl, sym, ap, subst, ◌∙◌, arith, rules, tests}
use Rattle.std.specs.Prelude.{slice_index, nat_le}
use Rattle.std.proofs.Math.Nat.{mod-lt}
use Rattle.hda_registers.specs.Fields.{list_address}
use Rattle.world_rings.specs.Memory.{IsOutside}
use Rattle.world_streams.specs.declared.buffers.Buffer.{Buffer}
use Rattle.world_streams.specs.declared.buffers.ListPlace.{ListPlace}
use Rattle.world_streams.specs.Lists.{HasMore, IsInUse, buffer_of}
use Rattle.hda_world.specs.Worlds.{World, input_of}
use Rattle.hda_world.specs.Buffers.{NamesBuffer, IsOutsideBuffers, HasListApart, list_size}
use Rattle.period_writer.specs.Rings.{list_bytes}
use Rattle.period_writer.specs.Blocks.{are_apart}
use Rattle.period_writer.specs.Standing.{Ring, bytes_in, buffer_in, list_place}
use Rattle.period_writer.proofs.Callers.{some_bytes, some_periods}
use Rattle.command_engine.specs.Apart.{LiesBeside, IsInputApart}
use Rattle.command_engine.specs.Fetchings.{IsBesideBlock}
use Rattle.laws_recording.specs.Filling.{FillsRing}
use Rattle.laws_recording.specs.Beside.{LiesBesideEngine}

-- a block beside another has none of its places
outside_of : (block size at bytes place : ℕ) → IsBesideBlock block size at bytes → place < bytes → IsOutside block size (at + place)
outside_of block size at bytes place (inl below) small = inl (omega (arith, below, small))
outside_of block size at bytes place (inr above) small = inr (omega (arith, above))

outside_too : (block size at bytes place : ℕ) → IsBesideBlock block size at bytes → place < size → IsOutside at bytes (block + place)
outside_too block size at bytes place (inl below) small = inr (omega (arith, below))
outside_too block size at bytes place (inr above) small = inl (omega (arith, above, small))

apart_by : (one one_bytes other other_bytes here : ℕ) → here < one_bytes → are_apart one one_bytes other other_bytes ≡ true → IsOutside other other_bytes (one + here)
apart_by one one_bytes other other_bytes here small apart = by (nat_le (one + one_bytes) other) refl apart where
  by : (test : Bool) → nat_le (one + one_bytes) other ≡ test → (test || nat_le (other + other_bytes) one) ≡ true → IsOutside other other_bytes (one + here)
  by true is apart = let below : one + one_bytes ≤ other = search (rules, tests) in inl (omega (arith, below, small))
  by false is apart = let above : other + other_bytes ≤ one = search (rules, tests) in inr (omega (arith, above))

-- the place in the list
place_used : (ring : Ring) (at : ℕ) → IsInUse (list_place ring at)
place_used ring at = by (at % bytes_in ring == 0) refl where
  by : (test : Bool) → (at % bytes_in ring == 0) ≡ test → HasMore (if test then None else Some (buffer_in ring ((at / bytes_in ring) % ring.geometry.periods))) (at % bytes_in ring)
  by true is = search (rules, is)
  by false is = mod-lt at (some_bytes ring)

module _ (ring : Ring) (world : World) (fills : FillsRing ring world) where
  -- each buffer that is named is a period
  abbrev IsPeriod : Buffer → Type 0
  IsPeriod buffer = (index : ℕ) × (index < ring.geometry.periods) × (buffer ≡ buffer_in ring index)

  used_is : (at : ℕ) (buffer : Buffer) → (list_place ring at).buffer ≡ Some buffer → IsPeriod buffer
  used_is at buffer = by (at % bytes_in ring == 0) where
    by : (test : Bool) → (let used : Option Buffer = if test then None else Some (buffer_in ring ((at / bytes_in ring) % ring.geometry.periods)) in used ≡ Some buffer) → IsPeriod buffer
    by true is = cc
    by false is = ((at / bytes_in ring) % ring.geometry.periods, mod-lt (at / bytes_in ring) (some_periods ring), cc)

  named_is : (buffer : Buffer) → NamesBuffer world.memory (input_of world) buffer → IsPeriod buffer
  named_is buffer (inl (index, listed, is)) =
      let last = fills.set.last in
      let some = some_periods ring in
      let within : index < ring.geometry.periods = omega (arith, listed, last, some) in
      (index, within, is ∙ ap (λ (base : ℕ). buffer_of world.memory base index) fills.set.list_is ∙ fills.list_stands index within)
  named_is buffer (inr used) = used_is world.input.left buffer (ap (λ (place : ListPlace). place.buffer) (sym fills.place) ∙ used)

  -- what lies outside all periods lies outside all buffers
  outside_periods : (at : ℕ) → ((index : ℕ) → index < ring.geometry.periods → IsOutside (slice_index ring.periods index) (bytes_in ring) at) → IsOutsideBuffers world.memory (input_of world) at
  outside_periods at outside buffer names =
      let period = named_is buffer names in
      subst (λ (b : Buffer). IsOutside b.address b.bytes at) (sym period.2) (outside period.0 period.1)

  -- a place of the list is one of the ring's
  list_places : (P : ℕ → Type 0) → ((place : ℕ) → place < list_bytes ring.geometry.periods → P (ring.list + place)) → (offset : ℕ) → offset < list_size world.registers.input → P (list_address world.registers.input + offset)
  list_places P holds offset small =
      let last = fills.set.last in
      let some = some_periods ring in
      subst (λ (base : ℕ). P (base + offset)) (sym fills.set.list_is) (holds offset (omega (arith, small, last, some)))

  pub list_apart : HasListApart world.memory (input_of world)
  list_apart = record {
    in_use = subst IsInUse (sym fills.place) (place_used ring world.input.left);
    listed = (
        let last = fills.set.last in
        let index = ap (λ (place : ListPlace). place.index) fills.place in
        let within = mod-lt (world.input.left / bytes_in ring) (some_periods ring) in
        omega (arith, last, index, within));
    apart = list_places (IsOutsideBuffers world.memory (input_of world)) (λ place small.
        outside_periods (ring.list + place) (λ index within.
        let number = fills.ring_is.number in
        apart_by ring.list (list_bytes ring.geometry.periods) (slice_index ring.periods index) (bytes_in ring) place small (fills.ring_is.list_apart index (omega (arith, within, number)))));
  }

  beside_block : (block size : ℕ) → IsBesideBlock block size ring.list (list_bytes ring.geometry.periods)
      → ((index : ℕ) → index < ring.geometry.periods → IsBesideBlock block size (slice_index ring.periods index) (bytes_in ring)) → LiesBeside block size world.memory (input_of world)
  beside_block block size list periods = record {
    list = list_places (IsOutside block size) (λ place small. outside_of block size ring.list (list_bytes ring.geometry.periods) place list small);
    buffers = λ place small. outside_periods (block + place) (λ index within. outside_too block size (slice_index ring.periods index) (bytes_in ring) place (periods index within) small);
  }

  pub filling_apart : (corb rirb : ℕ) → LiesBesideEngine corb rirb ring → IsInputApart corb rirb world.memory (input_of world)
  filling_apart corb rirb beside = record {
    list = list_apart;
    beside_corb = beside_block corb _ beside.list_corb beside.periods_corb;
    beside_rirb = beside_block rirb _ beside.list_rirb beside.periods_rirb;
  }
