-- A piece of memory that is written beside the rings' blocks leaves how the engine stands.
use Rattle.std.proofs.Common.{◌≡◌, ◌<◌, ◌≤◌, ◌+◌, ◌*◌, ◌%◌, ℕ, List, length, drop, sym, subst, ◌∙◌, inl, inr, arith}
use Rattle.std.proofs.Math.Nat.{mod-lt}
use Rattle.hda_registers.specs.Fields.{entries_of}
use Rattle.hda_registers.proofs.Callers.{some_entries, few_entries}
use Rattle.world_rings.specs.Memory.{word_at, stored, IsOutside}
use Rattle.world_rings.proofs.Callers.{stored_outside}
use Rattle.world_streams.specs.Streams.{Stream}
use Rattle.hda_world.specs.Worlds.{World}
use Rattle.hda_world.proofs.Callers.{same_word}
use Rattle.command_engine.specs.declared.ring_places.RingPlaces.{RingPlaces}
use Rattle.command_engine.specs.Apart.{IsApartBy}
use Rattle.command_engine.specs.Fetchings.{RingPart, part_of, IsBesideBlock, IsFetching, StandsBy, Stands}

-- a byte of a block is outside a piece beside the block
pub outside_piece : (block size at bytes here : ℕ) → IsBesideBlock block size at bytes → block ≤ here → here < block + size → IsOutside at bytes here
outside_piece block size at bytes here (inl below) above within = inr (omega arith)
outside_piece block size at bytes here (inr above) from_here within = inl (omega arith)

module _ (from read corb rirb : ℕ) (rings : RingPlaces) where
  fetching_word : (part : RingPart) (word word' : ℕ) (gained : List _) → word' ≡ word → IsFetching rings.outstanding part word gained → IsFetching rings.outstanding part word' gained
  fetching_word part word word' gained same fetching = subst (λ (w : ℕ). IsFetching rings.outstanding part w gained) (sym same) fetching

  pub piece_beside : (world : World) (at : ℕ) (bytes : List ℕ) (input : Stream) → IsBesideBlock corb 1024 at (length bytes) → IsBesideBlock rirb 2048 at (length bytes)
      → IsApartBy corb rirb (stored world.memory at bytes) input → Stands from read corb rirb rings world
      → StandsBy from read corb rirb rings (part_of world.registers) (stored world.memory at bytes) world.codecs world.waiting world.commands world.written input
  piece_beside world at bytes input beside_corb beside_rirb apart holds =
      let both = stored_outside at bytes world.memory in
      let has = holds.has_rings in
      let submitted = has.submitted_within in
      let corb_few = few_entries rings.corb in
      let rirb_few = few_entries rings.rirb in
      let blocks = holds.blocks in
      let same : word_at (stored world.memory at bytes) (corb + 4 * rings.submitted) ≡ word_at world.memory (corb + 4 * rings.submitted) =
      same_word world.memory (stored world.memory at bytes) (corb + 4 * rings.submitted) (λ byte small. both.1 (corb + 4 * rings.submitted + byte) (outside_piece corb 1024 at (length bytes) (corb + 4 * rings.submitted + byte) beside_corb (omega arith) (omega arith))) in
      record {
        has_rings = has;
        blocks = record { corb_inside = subst (λ (n : ℕ). corb + 1024 ≤ n) (sym both.0) blocks.corb_inside; rirb_inside = subst (λ (n : ℕ). rirb + 2048 ≤ n) (sym both.0) blocks.rirb_inside; apart = blocks.apart };
        ascend = holds.ascend;
        reading = holds.reading;
        flag = holds.flag;
        few = holds.few;
        pointer = holds.pointer;
        standing = λ index response byte is small.
            let place : (rings.read + (index + 1)) % entries_of rings.rirb < entries_of rings.rirb = mod-lt _ (some_entries rings.rirb) in
            both.1 (rirb + 8 * ((rings.read + (index + 1)) % entries_of rings.rirb) + byte) (outside_piece rirb 2048 at (length bytes) (rirb + 8 * ((rings.read + (index + 1)) % entries_of rings.rirb) + byte) beside_rirb (omega arith) (omega arith))
            ∙ holds.standing index response byte is small;
        from_within = holds.from_within;
        fetching = fetching_word (part_of world.registers) _ _ (drop from world.commands) same holds.fetching;
        taken_by = holds.taken_by;
        on_its_way = holds.on_its_way;
        apart = apart;
      }
