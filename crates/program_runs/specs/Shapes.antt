-- The shape of a ring. This project's own.
use Rattle.std.specs.Prelude.{◌≡◌, ℕ}
use Rattle.stream_format.specs.declared.format.Format.{Format}
use Rattle.period_writer.specs.declared.geometry.Geometry.{Geometry}

-- it has so many periods of so many units, and is for a FIFO of so many bytes and this format
pub record HasShape (periods period fifo : ℕ) (format : Format) (geometry : Geometry) : Type 0 where
  pub periods_are : geometry.periods ≡ periods
  pub period_is : geometry.period ≡ period
  pub fifo_is : geometry.fifo ≡ fifo
  pub format_is : geometry.format ≡ format
