-- How the driver sets both rings going. High Definition Audio 1.0a, 4.3 and 4.4.1 to 4.4.3; the order of the accesses
-- is this project's own.
use Rattle.std.specs.Prelude.{◌≡◌, ℕ, true, ◌==◌, ◌%◌, ◌^◌, List, [], ◌∷◌, ◌++◌, Option, Some, None, if◌then◌else◌}
use Rattle.hda_registers.specs.declared.shapes.RingSize.{RingSize}
use Rattle.hda_registers.specs.declared.shapes.Width.TheVariants.{One, Two, Four}
use Rattle.hda_registers.specs.declared.places.TheConstants.{STATESTS, INTCTL, CORBLBASE, CORBWP, CORBRP, CORBCTL}
use Rattle.hda_registers.specs.declared.places.TheConstants.{CORBSIZE, RIRBLBASE, RIRBWP, RINTCNT, RIRBCTL, RIRBSIZE}
use Rattle.hda_world.specs.Events.{Event, Read, Write}
use Rattle.hda_world.specs.Tellings.{Telling, Between, Makes}
use Rattle.command_engine.specs.declared.ring_places.RingPlaces.{RingPlaces}
use Rattle.command_engine.specs.Sizes.{largest_size, half_of}

-- what the registers read: the state change status, both sizes, and CORB's read pointer while its reset is asked for
-- and after
pub record StartReads : Type 0 where
  pub status : ℕ
  pub corb_size : ℕ
  pub rirb_size : ℕ
  pub pointer_reset : ℕ
  pub pointer_ready : ℕ

-- the codecs that announced themselves: bit n for the codec with address n, 0 to 14
abbrev pub codecs_in : ℕ → ℕ
codecs_in status = status % 2 ^ 15

-- both rings at their beginning, where a codec is there and both size registers name a size
abbrev pub rings_of : Option RingSize → Option RingSize → Option RingPlaces
rings_of None rirb = None
rings_of (Some corb) None = None
rings_of (Some corb) (Some rirb) =
    Some (record { corb = corb; rirb = rirb; submitted = 0; read = 0; started = true; outstanding = None })

abbrev pub rings_found : ℕ → ℕ → ℕ → Option RingPlaces
rings_found status corb_size rirb_size =
    if codecs_in status == 0 then None else rings_of (largest_size corb_size) (largest_size rirb_size)

abbrev pub rings_read : StartReads → Option RingPlaces
rings_read reads = rings_found reads.status reads.corb_size reads.rirb_size

-- the codecs, or 0 where the rings can't be set going
abbrev pub codecs_if : Option RingPlaces → ℕ → ℕ
codecs_if None status = 0
codecs_if (Some rings) status = codecs_in status

-- the rings at their beginning, or as they were
abbrev pub rings_if : Option RingPlaces → RingPlaces → RingPlaces
rings_if None rings = rings
rings_if (Some begun) rings = begun

-- the reads that it begins with
abbrev pub first_reads : ℕ → ℕ → ℕ → List Event
first_reads status corb_size rirb_size = Read STATESTS Two status ∷ Read CORBSIZE One corb_size ∷ Read RIRBSIZE One
    rirb_size ∷ []

-- CORB: the state change status is cleared, then its base, both pointers, and its engine runs
abbrev pub corb_accesses : ℕ → ℕ → ℕ → ℕ → List Event
corb_accesses corb status pointer_reset pointer_ready =
    Write STATESTS Two status ∷ Write CORBLBASE Four corb ∷ Write CORBWP Two 0 ∷ Write CORBRP Two 0x8000
    ∷ Read CORBRP Two pointer_reset ∷ Write CORBRP Two 0 ∷ Read CORBRP Two pointer_ready ∷ Write CORBCTL One 2 ∷ []

-- RIRB: its base, its write pointer, after how many responses it is served, and its engine runs and may interrupt
abbrev pub rirb_accesses : ℕ → RingSize → List Event
rirb_accesses rirb size =
    Write RIRBLBASE Four rirb ∷ Write RIRBWP Two 0x8000 ∷ Write RINTCNT Two (half_of size) ∷ Write RIRBCTL One 3
    ∷ Write INTCTL Four 0xC0000000 ∷ []

abbrev pub settings_if : Option RingPlaces → ℕ → ℕ → StartReads → List Event
settings_if None corb rirb reads = []
settings_if (Some rings) corb rirb reads =
    corb_accesses corb reads.status reads.pointer_reset reads.pointer_ready ++ rirb_accesses rirb rings.rirb

-- all accesses, where the rings' blocks lie at these addresses
abbrev pub start_accesses : ℕ → ℕ → StartReads → List Event
start_accesses corb rirb reads =
    first_reads reads.status reads.corb_size reads.rirb_size ++ settings_if (rings_read reads) corb rirb reads

-- a start, where the rings' blocks lie at these addresses: what it answers, how the engine stands after it, and what is
-- told
pub record Starts (corb rirb : ℕ) (rings : RingPlaces) (answer : ℕ) (rings' : RingPlaces) (old new : Option Telling)
    : Type 0 where
  pub reads : StartReads
  pub made : Between (Makes (start_accesses corb rirb reads)) old new
  pub answer_is : answer ≡ codecs_if (rings_read reads) reads.status
  pub rings_are : rings' ≡ rings_if (rings_read reads) rings

-- CORB was set going, whatever its read pointer read
pub record SetsCorb (corb status : ℕ) (old new : Option Telling) : Type 0 where
  pub pointer_reset : ℕ
  pub pointer_ready : ℕ
  pub made : Between (Makes (corb_accesses corb status pointer_reset pointer_ready)) old new
