-- The accesses while the codecs announce themselves, with what is read. High Definition Audio 1.0a, 4.3.
use Rattle.std.specs.Prelude.{◌≡◌, ℕ, ◌==◌, Bool, true, false, List, [], ◌∷◌, Option, if◌then◌else◌}
use Rattle.hda_registers.specs.declared.shapes.Width.TheVariants.{Four}
use Rattle.hda_registers.specs.declared.places.TheConstants.{WALCLK}
use Rattle.hda_world.specs.Events.{Event, Read}
use Rattle.hda_world.specs.Tellings.{Telling, Between, Makes}
use Rattle.command_engine.specs.declared.ring_places.RingPlaces.{RingPlaces}
use Rattle.command_engine.specs.Starting.{StartReads, start_accesses, codecs_if, rings_if, rings_read}
use Rattle.driver_progress.specs.Expected.{has_settled}
use Rattle.driver_progress.specs.declared.settling.Settled.{Settled}
use Rattle.driver_progress.specs.declared.settling.Settled.TheVariants.{TooEarly, NoCodec, Codecs}

-- the start of the rings, once they had their time
abbrev pub start_if : (settled : Bool) → (corb rirb : ℕ) → StartReads → List Event
start_if true corb rirb reads = start_accesses corb rirb reads
start_if false corb rirb reads = []

abbrev pub settle_accesses : (kept clock corb rirb : ℕ) → StartReads → List Event
settle_accesses kept clock corb rirb reads = Read WALCLK Four clock ∷ start_if (has_settled kept clock) corb rirb reads

-- what was found, by the codecs that the start gave
abbrev pub codecs_found : ℕ → Settled
codecs_found codecs = if codecs == 0 then NoCodec else Codecs codecs

abbrev pub found_if : (settled : Bool) → StartReads → Settled
found_if true reads = codecs_found (codecs_if (rings_read reads) reads.status)
found_if false reads = TooEarly

abbrev pub rings_after : (settled : Bool) → StartReads → RingPlaces → RingPlaces
rings_after true reads rings = rings_if (rings_read reads) rings
rings_after false reads rings = rings

-- the start, where they had their time
pub record StartsIf (settled : Bool) (corb rirb : ℕ) (rings : RingPlaces) (answer : Settled) (rings' : RingPlaces)
    (old new : Option Telling) : Type 0 where
  pub reads : StartReads
  pub made : Between (Makes (start_if settled corb rirb reads)) old new
  pub answer_is : answer ≡ found_if settled reads
  pub rings_are : rings' ≡ rings_after settled reads rings

pub record Settles (kept corb rirb : ℕ) (rings : RingPlaces) (answer : Settled) (rings' : RingPlaces)
    (old new : Option Telling) : Type 0 where
  pub clock : ℕ
  pub reads : StartReads
  pub made : Between (Makes (settle_accesses kept clock corb rirb reads)) old new
  pub answer_is : answer ≡ found_if (has_settled kept clock) reads
  pub rings_are : rings' ≡ rings_after (has_settled kept clock) reads rings
