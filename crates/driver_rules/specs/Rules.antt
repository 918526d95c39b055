-- Rules of a driver from the set-up on, where it does not play as progress says. This project's own.
use Rattle.std.specs.Prelude.{ℕ, List, Option}
use Rattle.command_engine.specs.declared.ring_places.RingPlaces.{RingPlaces}
use Rattle.driver_progress.specs.Requests.{Request}
use Rattle.driver_progress.specs.Tasks.{DriverLine}
use Rattle.driver_rules.specs.Findings.{Findings}

-- what is kept from stretch to stretch is `S`. A stretch is one of a line or the closing one, and goes by what it found
pub record Rules (S : Type 0) : Type 0 where
  -- where they begin: with both rings of commands where the bring-up left them
  pub begin : RingPlaces → S
  -- the codec of the command that is outstanding by them, if one is
  pub asked : S → Option ℕ
  -- the accesses that a stretch is to make
  pub expected : S → Option DriverLine → Findings → List Request
  -- where it leads
  pub next : S → Option DriverLine → Findings → S
