-- The accesses of a reset, with what is read. High Definition Audio 1.0a, 4.3.
use Rattle.std.specs.Prelude.{◌≡◌, ℕ, List, [], ◌∷◌, Option, Some, None, if◌then◌else◌}
use Rattle.verb_codes.specs.Words.{has_bit}
use Rattle.hda_registers.specs.declared.shapes.Width.TheVariants.{Four}
use Rattle.hda_registers.specs.declared.places.TheConstants.{GCTL, WALCLK}
use Rattle.hda_world.specs.Events.{Event, Read, Write}
use Rattle.hda_world.specs.Tellings.{Telling, Between, Makes}

-- CRST is written 0 and then 1, with UNSOL, and each time GCTL is read back; then the clock
abbrev pub reset_accesses : (in_reset control clock : ℕ) → List Event
reset_accesses in_reset control clock =
    Write GCTL Four 0 ∷ Read GCTL Four in_reset ∷ Write GCTL Four 0x101 ∷ Read GCTL Four control ∷ Read WALCLK Four
    clock ∷ []

-- the clock, where the controller is out of reset
abbrev pub clock_if : (control clock : ℕ) → Option ℕ
clock_if control clock = if has_bit control 0 then Some clock else None

pub record Resets (answer : Option ℕ) (old new : Option Telling) : Type 0 where
  pub in_reset : ℕ
  pub control : ℕ
  pub clock : ℕ
  pub made : Between (Makes (reset_accesses in_reset control clock)) old new
  pub answer_is : answer ≡ clock_if control clock
