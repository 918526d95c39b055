-- The words of a ring's fault. This project's own.
use Rattle.std.specs.Prelude.{ℕ, List, codes}
use Rattle.period_writer.specs.declared.geometry.GeometryFault.{GeometryFault}
use Rattle.period_writer.specs.declared.geometry.GeometryFault.TheVariants.{FifoTooSmall, RingTooSmall}

abbrev pub ring_fault_text : GeometryFault → List ℕ
ring_fault_text FifoTooSmall = codes "FifoTooSmall"
ring_fault_text RingTooSmall = codes "RingTooSmall"
