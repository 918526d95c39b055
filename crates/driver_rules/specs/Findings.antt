-- What a stretch of a driver's accesses found, for rules of its own. This project's own, over the registers and the ring
-- of responses of High Definition Audio 1.0a, 3.3 and 4.4.2.
use Rattle.std.specs.Prelude.{ℕ, Bool, List}
use Rattle.hda_world.specs.Events.{Event}
use Rattle.driver_progress.specs.Seen.{values_of}
use Rattle.driver_bring_up.specs.Commanding.{entries_in}

-- the answers of the device to its accesses, and not which accesses it made
pub record Findings : Type 0 where
  -- the values that it read, by register
  pub values : ℕ → List ℕ
  -- the pieces of memory that it read, in order
  pub pieces : List (List ℕ)
  -- whether the command that was asked was answered when it read RIRBSTS
  pub answered : Bool

abbrev pub findings_of : (made : List Event) → (answered : Bool) → Findings
findings_of made answered = record { values = values_of made; pieces = entries_in made; answered = answered }
