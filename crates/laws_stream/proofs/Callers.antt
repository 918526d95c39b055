-- What proofs of the layers above cite.

-- what holds of all events of a row of accesses, of parts of it, and of marks and steps before them
pub use Rattle.laws_stream.proofs.Rows.{all_map, woven_all, went_same}
-- what holds at every moment: over more events, at the end, and in the front
pub use Rattle.laws_stream.proofs.Lives.{Along-append, Along-end, Along-front}
-- what holds of reads, and of a write of the output stream's status, holds of a look for interrupts
pub use Rattle.laws_stream.proofs.Calls.{looks_all}
-- the engine of commands stands to the world as before, over accesses beside its own
pub use Rattle.laws_stream.proofs.Begun.{stands_row}
