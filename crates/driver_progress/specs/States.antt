-- How far a driver has come. This project's own.
use Rattle.std.specs.Prelude.{ℕ}
use Rattle.command_engine.specs.declared.ring_places.RingPlaces.{RingPlaces}
use Rattle.command_engine.specs.Opening.{rings_opened}
use Rattle.period_writer.specs.Runs.{Tally, tally_opened}
use Rattle.driver_progress.specs.declared.phase.Phase.{Phase}
use Rattle.driver_progress.specs.declared.phase.Phase.TheVariants.{Reset}

pub record State : Type 0 where
  pub phase : Phase
  -- the clock that is kept of the reset, in ticks of 1/24,000,000 s
  pub kept : ℕ
  -- how many commands were submitted
  pub sent : ℕ
  -- where it stands in both rings, and the command that is outstanding
  pub rings : RingPlaces
  -- the runs, the silences of the line, and where the last run stood
  pub tally : Tally

-- before the first line
abbrev pub state_opened : State
state_opened = record { phase = Reset; kept = 0; sent = 0; rings = rings_opened; tally = tally_opened }
