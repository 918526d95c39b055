-- Runs of a driver that switches lie beside both rings: the engine of commands stands as it did over them.
use Rattle.std.proofs.Common.{◌≡◌, ◌≤◌, ◌<◌, ◌+◌, ◌||◌, ◌⊎◌, inl, inr, ℕ, Bool, true, false, List, length, refl, sym, subst, arith, rules, tests}
use Rattle.std.specs.Prelude.{All, nat_le, slice_index}
use Rattle.std.proofs.lemmas.List.Elements.{All-weaker}
use Rattle.hda_registers.specs.Fields.{is_running}
use Rattle.hda_world.specs.Events.{Event, Stepped, Begin, End, Read, Write, DmaRead, DmaWrite}
use Rattle.hda_world.specs.Tellings.{Telling, world_of, Makes}
use Rattle.hda_world.proofs.Callers.{Weaving, woven, world_of-went}
use Rattle.command_engine.specs.declared.ring_places.RingPlaces.{RingPlaces}
use Rattle.command_engine.specs.Apart.{LeavesInput}
use Rattle.command_engine.specs.Blocks.{corb_bytes, rirb_bytes}
use Rattle.command_engine.specs.Fetchings.{Stands, IsBeside, IsBesideBlock}
use Rattle.command_engine.proofs.Callers.{responses_apart, events_keep, stopped_beside}
use Rattle.period_writer.specs.Blocks.{are_apart}
use Rattle.period_writer.specs.Rings.{list_bytes}
use Rattle.period_writer.specs.Standing.{Ring, bytes_in}
use Rattle.period_writer.specs.Touching.{IsWithin, IsInPeriod, IsOfRing}
use Rattle.laws_stream.proofs.Callers.{woven_all}

-- a block has no byte in common with those of a ring
pub record IsBesideBlocks (ring : Ring) (block size : ℕ) : Type 0 where
  pub list : are_apart block size ring.list (list_bytes ring.geometry.periods) ≡ true
  pub periods : (index : ℕ) → index < ring.geometry.periods → are_apart block size (slice_index ring.periods index) (bytes_in ring) ≡ true

within_beside : (block size other bytes at long : ℕ) → are_apart block size other bytes ≡ true → IsWithin other bytes at long → IsBesideBlock block size at long
within_beside block size other bytes at long apart within = by (nat_le (block + size) other) refl apart
  where
    low : other ≤ at
    low = within.low

    high : at + long ≤ other + bytes
    high = within.high

    by : (test : Bool) → nat_le (block + size) other ≡ test → (test || nat_le (other + bytes) block) ≡ true → IsBesideBlock block size at long
    by true is apart = let below : block + size ≤ other = search (rules, tests) in inr (omega (arith, below, low))
    by false is apart = let above : other + bytes ≤ block = search (rules, tests) in inl (omega (arith, above, high))

module _ (ring : Ring) (corb rirb : ℕ) (beside_corb : IsBesideBlocks ring corb corb_bytes) (beside_rirb : IsBesideBlocks ring rirb rirb_bytes) where
  stored_beside : (block size at long : ℕ) → IsBesideBlocks ring block size → IsWithin ring.list (list_bytes ring.geometry.periods) at long ⊎ IsInPeriod ring at long → IsBesideBlock block size at long
  stored_beside block size at long beside (inl within) = within_beside block size ring.list (list_bytes ring.geometry.periods) at long beside.list within
  stored_beside block size at long beside (inr is) =
      within_beside block size (slice_index ring.periods is.period) (bytes_in ring) at long (beside.periods is.period is.exists) is.within

  of_beside : (event : Event) → IsOfRing ring event → IsBeside corb rirb event
  of_beside (Write at width value) (inl is) = record { control = inr (omega (arith, is)); rings = inl (omega (arith, is)) }
  of_beside (Write at width value) (inr (low, high)) = record { control = inr (omega (arith, low)); rings = inr (omega (arith, low)) }
  of_beside (DmaWrite at bytes) is = (stored_beside corb corb_bytes at (length bytes) beside_corb is, stored_beside rirb rirb_bytes at (length bytes) beside_rirb is)
  of_beside (Stepped step) is = tt {0}
  of_beside Begin is = tt {0}
  of_beside End is = tt {0}
  of_beside (Read at width value) is = tt {0}
  of_beside (DmaRead at bytes) is = tt {0}

  of_input : (event : Event) → IsOfRing ring event → LeavesInput event
  of_input (Write at width value) (inl is) = record { control = omega (arith, is); descriptor = inl (omega (arith, is)) }
  of_input (Write at width value) (inr (low, high)) = record { control = omega (arith, low); descriptor = inr (omega (arith, low)) }
  of_input (DmaWrite at bytes) is = tt {0}
  of_input (Stepped step) is = tt {0}
  of_input Begin is = tt {0}
  of_input End is = tt {0}
  of_input (Read at width value) is = tt {0}
  of_input (DmaRead at bytes) is = tt {0}

  -- over a run, while the input stream does not run
  pub run_stands : (from read : ℕ) (rings : RingPlaces) (made : List Event) (old new : Telling) → Makes made old new → All (IsOfRing ring) made → is_running (world_of old).registers.input ≡ false
      → Stands from read corb rirb rings (world_of old) → Stands from read corb rirb rings (world_of new)
  run_stands from read rings made old new makes all stopped stands =
      let weaving : Weaving made old new = woven makes in
      let every = woven_all (IsOfRing ring) (λ step. tt {0}) made weaving.events weaving.woven all in
      subst (Stands from read corb rirb rings) (sym (world_of-went old new weaving.events weaving.went))
      (events_keep from read corb rirb rings responses_apart weaving.events (world_of old)
      (stopped_beside corb rirb weaving.events (world_of old) (All-weaker (IsOfRing ring) (IsBeside corb rirb) of_beside weaving.events every) (All-weaker (IsOfRing ring) LeavesInput of_input weaving.events every) stopped) stands)
