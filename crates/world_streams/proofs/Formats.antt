-- Facts of formats that streams rest on.
use Rattle.std.proofs.Common.{◌≡◌, ◌<◌, ◌≤◌, ◌+◌, ◌*◌, ◌/◌, ◌%◌, ℕ, Bool, true, false, slice_index, Option, Some, None, if◌then◌else◌, refl, ap, subst, arith}
use Rattle.std.proofs.Math.Nat.{mod-mod_of_dvd, mul-le-mul}
use Rattle.std.proofs.lemmas.Nat.{mul-lt}
use Rattle.std.proofs.lemmas.Nat.Gcd.{dvd_of_mod-eq-zero}
use Rattle.stream_format.specs.declared.format.Rate.{Rate}
use Rattle.stream_format.specs.declared.format.Rate.TheVariants.{R8, R16, R44, R48, R96, R192}
use Rattle.stream_format.specs.declared.format.Bits.{Bits}
use Rattle.stream_format.specs.declared.format.Bits.TheVariants.{B16, B24, B32}
use Rattle.stream_format.specs.declared.format.Format.{Format}
use Rattle.stream_format.specs.Cadence.{blocks_of, cadence, cadence_44, most_blocks, container_bytes, block_bytes}
use Rattle.stream_format.proofs.Callers.{most-bounds}
use Rattle.stream_format.specs.Layouts.{Layout, layout_of, rate_named, size_named, is_channel_count, with_size, with_rate, most_frame_bytes}

-- a format's frames come again after 480
pub blocks-cycle : (rate : Rate) (frame : ℕ) → blocks_of rate (frame % 480) ≡ blocks_of rate frame
unfolding blocks_of cadence_44
blocks-cycle R8 frame = ap (slice_index (cadence R8)) (mod-mod_of_dvd 6 frame (dvd_of_mod-eq-zero 6 refl))
blocks-cycle R16 frame = ap (slice_index (cadence R16)) (mod-mod_of_dvd 3 frame (dvd_of_mod-eq-zero 3 refl))
blocks-cycle R44 frame = ap (slice_index cadence_44) (mod-mod_of_dvd 160 frame (dvd_of_mod-eq-zero 160 refl))
blocks-cycle R48 frame = ap (slice_index (cadence R48)) (mod-mod_of_dvd 1 frame (dvd_of_mod-eq-zero 1 refl))
blocks-cycle R96 frame = ap (slice_index (cadence R96)) (mod-mod_of_dvd 1 frame (dvd_of_mod-eq-zero 1 refl))
blocks-cycle R192 frame = ap (slice_index (cadence R192)) (mod-mod_of_dvd 1 frame (dvd_of_mod-eq-zero 1 refl))

-- ---- a word that has a format has a frame of some bytes, and blocks of some

some_blocks : (rate : Rate) → 0 < most_blocks rate
some_blocks R8 = omega arith
some_blocks R16 = omega arith
some_blocks R44 = omega arith
some_blocks R48 = omega arith
some_blocks R96 = omega arith
some_blocks R192 = omega arith

some_container : (bits : Bits) → 0 < container_bytes bits
some_container B16 = omega arith
some_container B24 = omega arith
some_container B32 = omega arith

-- a layout of a word has some channels
HasChannels : Option Layout → Type 0
HasChannels None = Unit {0}
HasChannels (Some layout) = 0 < layout.channels

counted : (counts : Bool) (rate : Rate) (bits : Bits) (channels : ℕ) → (counts ≡ true → 0 < channels)
    → HasChannels (if counts then Some (record { rate = rate; bits = bits; channels = channels }) else None)
unfolding HasChannels
counted true rate bits channels some = some refl
counted false rate bits channels some = tt

sized : (rate : Rate) (bits : Option Bits) (channels : ℕ) → (is_channel_count channels ≡ true → 0 < channels) → HasChannels (with_size rate bits channels)
unfolding HasChannels
sized rate None channels some = tt
sized rate (Some bits) channels some = counted (is_channel_count channels) rate bits channels some

rated : (rate : Option Rate) (bits : Option Bits) (channels : ℕ) → (is_channel_count channels ≡ true → 0 < channels) → HasChannels (with_rate rate bits channels)
unfolding HasChannels
rated None bits channels some = tt
rated (Some rate) bits channels some = sized rate bits channels some

has_channels : (word : ℕ) → HasChannels (layout_of word)
unfolding layout_of
has_channels word = rated (rate_named (word / 256)) (size_named (word / 16 % 16)) (word % 16 + 1) (λ is. omega arith)

at_some : (found : Option Layout) (layout : Layout) → found ≡ Some layout → HasChannels found → 0 < layout.channels
unfolding HasChannels
at_some found layout is has = subst HasChannels is has

pub some_block : (word : ℕ) (layout : Layout) → layout_of word ≡ Some layout → 0 < layout.channels * container_bytes layout.bits
some_block word layout is =
    let channels = at_some (layout_of word) layout is (has_channels word) in
    let container = some_container layout.bits in
    mul-lt 0 0 _ _ channels container

pub some_most : (word : ℕ) (layout : Layout) → layout_of word ≡ Some layout → 0 < most_frame_bytes layout
some_most word layout is = mul-lt 0 0 _ _ (some_blocks layout.rate) (some_block word layout is)

-- ---- no frame has more than 128 bytes

pub few_blocks : (rate : Rate) → most_blocks rate ≤ 4
few_blocks R8 = omega arith
few_blocks R16 = omega arith
few_blocks R44 = omega arith
few_blocks R48 = omega arith
few_blocks R96 = omega arith
few_blocks R192 = omega arith

small_container : (bits : Bits) → container_bytes bits ≤ 4
small_container B16 = omega arith
small_container B24 = omega arith
small_container B32 = omega arith

-- so no frame of a format
pub few_bytes : (format : Format) (frame : ℕ) → blocks_of format.rate frame * block_bytes format ≤ 128
few_bytes format frame =
    let bounded : blocks_of format.rate frame * block_bytes format ≤ most_blocks format.rate * block_bytes format = most-bounds format frame in
    let block : block_bytes format ≤ 8 * 4 = mul-le-mul format.few (small_container format.bits) in
    let most : most_blocks format.rate * block_bytes format ≤ 4 * (8 * 4) = mul-le-mul (few_blocks format.rate) block in
    omega (arith, bounded, most)
