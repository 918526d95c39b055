-- What proofs of the layers above cite.

-- a stream that stood for its state before a write
pub use Rattle.stream_descriptor.proofs.Settling.{stood_written}
-- a descriptor in the registers
pub use Rattle.stream_descriptor.proofs.Placing.{of_with, with_same}
-- what it leads to
pub use Rattle.stream_descriptor.proofs.Placing.{leads_to, leads_nowhere}
-- the input stream stands for its state whatever the output's descriptor is
pub use Rattle.stream_descriptor.proofs.Written.{beside_output}
-- both streams after a write of a register that was settled at each
pub use Rattle.stream_descriptor.proofs.Written.{Settles, SettlesBy, Settled, SettledBy, starts_are, streams_settle}
-- so many blocks of a sound are that many
pub use Rattle.stream_descriptor.proofs.Accepting.{given-count}
-- each block that a frame brought has a mark
pub use Rattle.stream_descriptor.proofs.Accepting.{marks-count}
-- what is due comes again after a cycle
pub use Rattle.stream_descriptor.proofs.Accepting.{due-cycle}
