-- Polls, looks for interrupts and submissions leave a stream alone.
use Rattle.std.proofs.Common.{◌≡◌, ◌<◌, ◌≤◌, ◌+◌, ◌*◌, inl, inr, ℕ, Bool, List, [], ◌∷◌, length, arith}
use Rattle.std.specs.Prelude.{All, slice_index}
use Rattle.std.proofs.Math.Nat.{mod-lt}
use Rattle.std.proofs.lemmas.List.Elements.{All-cons, All-nil, All-weaker}
use Rattle.byteorder.specs.Endian.{little_bytes}
use Rattle.byteorder.specs.Numbers.{length-bytes_low_first}
use Rattle.hda_registers.specs.declared.shapes.Width.TheVariants.{Two}
use Rattle.hda_registers.specs.declared.places.TheConstants.{CORBWP}
use Rattle.hda_registers.specs.Fields.{entries_of}
use Rattle.hda_registers.proofs.Callers.{some_entries, few_entries}
use Rattle.world_rings.specs.declared.entries.TheConstants.{COMMAND_BYTES}
use Rattle.hda_world.specs.Events.{Event, Stepped, Begin, End, Read, Write, DmaRead, DmaWrite}
use Rattle.command_engine.specs.declared.ring_places.RingPlaces.{RingPlaces}
use Rattle.command_engine.specs.Blocks.{corb_bytes}
use Rattle.command_engine.specs.Polling.{PollReads, poll_accesses}
use Rattle.command_engine.specs.Submitting.{command_place, submit_accesses}
use Rattle.period_writer.specs.Standing.{Ring}
use Rattle.period_writer.specs.Beside.{HaveNoneInCommon, IsBesideBlocks}
use Rattle.driver_bring_up.specs.Told.{IsBefore}
use Rattle.laws_stream.specs.Going.{LeavesAlone}
use Rattle.laws_stream.proofs.Beside.{IsBeside}
use Rattle.laws_stream.proofs.Calls.{before_beside, poll_beside}

beside_alone : (ring : Ring) (event : Event) → IsBeside event → LeavesAlone ring event
beside_alone ring (Write at width value) (one, inl status) = record { control = omega (arith, status); responses = omega (arith, status); streams = inr (inr status, one) }
beside_alone ring (Write at width value) (one, inr (flag, set)) = record { control = omega (arith, flag); responses = omega (arith, flag); streams = inl (inl (omega (arith, flag))) }
beside_alone ring (DmaWrite at bytes) beside = absurd beside
beside_alone ring (Stepped step) beside = tt {0}
beside_alone ring Begin beside = tt {0}
beside_alone ring End beside = tt {0}
beside_alone ring (Read at width value) beside = tt {0}
beside_alone ring (DmaRead at bytes) beside = tt {0}

pub polls_alone : (ring : Ring) (rirb : ℕ) (rings : RingPlaces) (reads : PollReads) → All (LeavesAlone ring) (poll_accesses rirb rings reads)
polls_alone ring rirb rings reads = All-weaker IsBeside (LeavesAlone ring) (beside_alone ring) (poll_accesses rirb rings reads) (poll_beside rirb rings reads)

pub looks_alone : (ring : Ring) (irq : Bool) (first : List Event) → IsBefore irq first → All (LeavesAlone ring) first
looks_alone ring irq first is = All-weaker IsBeside (LeavesAlone ring) (beside_alone ring) first (before_beside irq first is)

-- ---- an entry of CORB

place_low : (rings : RingPlaces) → command_place rings < 256
place_low rings =
    let few = few_entries rings.corb in
    let within : command_place rings < entries_of rings.corb = mod-lt (rings.submitted + 1) (some_entries rings.corb) in
    omega (arith, few, within)

part_apart : (block entry bytes other other_bytes : ℕ) → entry + bytes ≤ corb_bytes → HaveNoneInCommon block corb_bytes other other_bytes → HaveNoneInCommon (block + entry) bytes other other_bytes
part_apart block entry bytes other other_bytes within apart index place low there same =
    apart (entry + index) place (omega (arith, within, low)) there (omega (arith, same))

part_beside : (ring : Ring) (block entry bytes : ℕ) → entry + bytes ≤ corb_bytes → IsBesideBlocks ring block corb_bytes → IsBesideBlocks ring (block + entry) bytes
part_beside ring block entry bytes within beside = record {
  list = part_apart block entry bytes ring.list _ within beside.list;
  periods = λ index few. part_apart block entry bytes (slice_index ring.periods index) _ within (beside.periods index few);
}

pub submissions_alone : (ring : Ring) (corb : ℕ) (rings : RingPlaces) (word : ℕ) → IsBesideBlocks ring corb corb_bytes → All (LeavesAlone ring) (submit_accesses corb rings word)
submissions_alone ring corb rings word beside =
    let place = command_place rings in
    let low = place_low rings in
    let long : length (little_bytes 4 word) ≡ 4 = length-bytes_low_first 0 4 word in
    All-cons (LeavesAlone ring) (DmaWrite (corb + COMMAND_BYTES * command_place rings) (little_bytes 4 word)) (Write CORBWP Two (command_place rings) ∷ [])
    (part_beside ring corb (COMMAND_BYTES * command_place rings) (length (little_bytes 4 word)) (omega (arith, low, long)) beside)
    (All-cons (LeavesAlone ring) (Write CORBWP Two (command_place rings)) [] (record { control = omega arith; responses = omega arith; streams = inl (inl (omega arith)) }) (All-nil (LeavesAlone ring)))
