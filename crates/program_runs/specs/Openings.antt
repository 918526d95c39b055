-- Where a driver begins that plays nothing. This project's own.
use Rattle.std.specs.Prelude.{ℕ}
use Rattle.period_writer.specs.declared.geometry.Geometry.{Geometry}
use Rattle.period_writer.specs.Writers.{WriterState}
use Rattle.period_writer.specs.Writers.{ring_of}
use Rattle.driver_bring_up.specs.declared.bringing.BringUp.{BringUp}
use Rattle.audio_driver.specs.Opening.{IsOpened}
use Rattle.laws_stream.specs.Resting.{AreApartFrom}
use Rattle.laws_start.specs.Tasks.{blocks_of}
use Rattle.program_runs.specs.FirstFits.{AreFirstFits}
use Rattle.program_runs.specs.Walks.{IsWalkRing}

-- it was just opened, for a FIFO of so many bytes and so many calls
pub record IsFresh (fifo calls : ℕ) (bring_up : BringUp) (writer : WriterState) : Type 0 where
  pub geometry : Geometry
  pub opened : IsOpened geometry calls bring_up writer
  pub ring : IsWalkRing fifo geometry
  pub first_fits : AreFirstFits geometry (blocks_of bring_up writer)
  -- its ring lies apart from RIRB
  pub apart : AreApartFrom (ring_of writer) bring_up.engine.rirb.address
