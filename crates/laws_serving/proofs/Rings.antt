-- The numbers of a ring that was accepted, and of its format.
use Rattle.std.proofs.Common.{◌≡◌, ◌≤◌, ◌<◌, ◌⊎◌, inl, inr, ◌-◌, ◌*◌, ◌%◌, ◌^◌, ◌==◌, ◌||◌, ℕ, Bool, true, false, nat_lt, nat_le, None, Some, length, refl, sym, ap, subst, ◌∙◌, arith, rules, if◌then◌else◌}
use Rattle.std.proofs.Math.Nat.{mod-eq_of_lt, mul-div-le}
use Rattle.std.proofs.lemmas.Nat.{mul-le}
use Rattle.stream_format.specs.declared.format.Format.{Format}
use Rattle.stream_format.specs.declared.format.Bits.{Bits}
use Rattle.stream_format.specs.declared.format.Bits.TheVariants.{B16, B24, B32}
use Rattle.stream_format.specs.Cadence.{block_bytes, bytes_of_block, most_bytes}
use Rattle.stream_format.specs.Layouts.{layout, layout_of}
use Rattle.stream_format.specs.Words.{format_word}
use Rattle.stream_format.proofs.Callers.{read_back, word_small, some_block, some_most}
use Rattle.world_streams.specs.Streams.{most_by}
use Rattle.period_writer.specs.declared.geometry.Geometry.{Geometry}
use Rattle.period_writer.specs.declared.geometry.GeometryFault.TheVariants.{FifoTooSmall, RingTooSmall}
use Rattle.period_writer.specs.Rings.{period_bytes, ring_bytes, frames_within, fault_by}
use Rattle.driver_progress.specs.Tasks.{Task}
use Rattle.laws_serving.proofs.Full.{IsWhole}
use Rattle.laws_serving.proofs.FedRounds.{Ground}
use Rattle.laws_serving.proofs.First.{FitsRegisters}

-- ---- words

pub word_reads : (format : Format) → layout_of (format_word format % 2 ^ 16) ≡ Some (layout format)
word_reads format = ap layout_of (mod-eq_of_lt (word_small format)) ∙ read_back format

-- ---- blocks

-- a format has 2, 4, 6 or 8 channels
channels_are : (n : ℕ) → n % 2 ≡ 0 → 2 ≤ n → n ≤ 8 → (n ≡ 2) ⊎ ((n ≡ 4) ⊎ ((n ≡ 6) ⊎ (n ≡ 8)))
channels_are n even some few = grind (arith, even, some, few)

-- so 384 bytes are whole blocks of it
unit_of : (channels : ℕ) (bits : Bits) → (channels ≡ 2) ⊎ ((channels ≡ 4) ⊎ ((channels ≡ 6) ⊎ (channels ≡ 8))) → IsWhole (bytes_of_block channels bits) 384
unit_of channels bits are = by bits are
  where
    at : (n : ℕ) (bits : Bits) → channels ≡ n → IsWhole (bytes_of_block n bits) 384 → IsWhole (bytes_of_block channels bits) 384
    at n bits is whole = subst (λ (n : ℕ). IsWhole (bytes_of_block n bits) 384) (sym is) whole

    by : (bits : Bits) → (channels ≡ 2) ⊎ ((channels ≡ 4) ⊎ ((channels ≡ 6) ⊎ (channels ≡ 8))) → IsWhole (bytes_of_block channels bits) 384
    by B16 (inl is) = at 2 B16 is (record { count = 96; is = refl })
    by B16 (inr (inl is)) = at 4 B16 is (record { count = 48; is = refl })
    by B16 (inr (inr (inl is))) = at 6 B16 is (record { count = 32; is = refl })
    by B16 (inr (inr (inr is))) = at 8 B16 is (record { count = 24; is = refl })
    by B24 (inl is) = at 2 B24 is (record { count = 48; is = refl })
    by B24 (inr (inl is)) = at 4 B24 is (record { count = 24; is = refl })
    by B24 (inr (inr (inl is))) = at 6 B24 is (record { count = 16; is = refl })
    by B24 (inr (inr (inr is))) = at 8 B24 is (record { count = 12; is = refl })
    by B32 (inl is) = at 2 B32 is (record { count = 48; is = refl })
    by B32 (inr (inl is)) = at 4 B32 is (record { count = 24; is = refl })
    by B32 (inr (inr (inl is))) = at 6 B32 is (record { count = 16; is = refl })
    by B32 (inr (inr (inr is))) = at 8 B32 is (record { count = 12; is = refl })

times_whole : (block unit times : ℕ) → IsWhole block unit → IsWhole block (unit * times)
times_whole block unit times whole =
    let is = whole.is in
    let wide : unit * times ≡ whole.count * block * times = ap (λ (n : ℕ). n * times) is in record { count = whole.count * times; is = omega (arith, wide) }

-- ---- the ring

-- what a ring that has no fault holds
room : (ring fifo most : ℕ) → 1 ≤ most → fault_by ring fifo most ≡ None → most * frames_within ring fifo most < ring
room ring fifo most some good = by (nat_lt fifo most) refl good
  where
    inner : (b : Bool) → nat_le ring fifo ≡ b → most ≤ fifo → (if b || frames_within ring fifo most == 0 then Some RingTooSmall else None) ≡ None → most * frames_within ring fifo most < ring
    inner true is wide bad = cc
    inner false is wide fine =
        let less : fifo < ring = search (rules, is) in
        let few = mul-div-le (ring - fifo) most in omega (arith, less, few, some, wide)

    by : (b : Bool) → nat_lt fifo most ≡ b → (if b then Some FifoTooSmall else (if nat_le ring fifo || frames_within ring fifo most == 0 then Some RingTooSmall else None)) ≡ None → most * frames_within ring fifo most < ring
    by true is bad = cc
    by false is fine = let wide : most ≤ fifo = search (rules, is) in inner (nat_le ring fifo) refl wide fine

some_ring : (geometry : Geometry) → 1 ≤ ring_bytes geometry.periods geometry.period
some_ring geometry = let wide = mul-le 384 2 (period_bytes geometry.period) geometry.periods (let some = geometry.some in omega (arith, some)) geometry.some_periods in omega (arith, wide)

ring_whole : (geometry : Geometry) → IsWhole (block_bytes geometry.format) (ring_bytes geometry.periods geometry.period)
ring_whole geometry =
    let format = geometry.format in
    let unit = unit_of format.channels format.bits (channels_are format.channels format.even format.some format.few) in
    times_whole (block_bytes format) (384 * geometry.period) geometry.periods (times_whole (block_bytes format) 384 geometry.period unit)

small_ring : (geometry : Geometry) → ring_bytes geometry.periods geometry.period < 2 ^ 32
small_ring geometry =
    let few = geometry.few in
    let wide = mul-le (period_bytes geometry.period) geometry.periods (384 * 128) 32 (omega (arith, few)) geometry.few_periods in omega (arith, wide)

pub ground_of : (task : Task) (frames : ℕ) → length task.pcm ≡ frames * block_bytes task.geometry.format → Ground task (format_word task.geometry.format % 2 ^ 16) (layout task.geometry.format) (most_bytes task.geometry.format)
ground_of task frames long = record {
  whole = record {
    some_block = some_block task.geometry.format;
    some_ring = some_ring task.geometry;
    ring = ring_whole task.geometry;
    total_is = record { count = frames; is = long };
  };
  word_is = word_reads task.geometry.format;
  block_is = refl;
  most_is = ap most_by (word_reads task.geometry.format);
  tight = room (ring_bytes task.geometry.periods task.geometry.period) task.geometry.fifo (most_bytes task.geometry.format) (some_most task.geometry.format) task.geometry.accepted;
}

pub fits_of : (task : Task) → FitsRegisters task (format_word task.geometry.format % 2 ^ 16)
fits_of task = record { size = small_ring task.geometry; word_is = refl }
