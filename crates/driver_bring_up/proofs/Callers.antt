-- What proofs of the layers above cite.

-- where no answer is looked for, no entry of RIRB is read
pub use Rattle.driver_bring_up.proofs.Leading.{unread_none}
-- and then none is found
pub use Rattle.driver_bring_up.proofs.Leading.{answer_none}
-- the answer is the same where the same entries are read
pub use Rattle.driver_bring_up.proofs.Leading.{same_answer}
-- and so is what is said of a stretch
pub use Rattle.driver_bring_up.proofs.Leading.{same_found}
-- before a look for interrupts and after it the same entries are read
pub use Rattle.driver_bring_up.proofs.Leading.{interrupt_entries}
-- a call for an interrupt where nothing is left to do, one that finds none, and one that does what a call does
pub use Rattle.driver_bring_up.proofs.Still.{inactive_stretch, none_stretch_of, interrupted_stretch}
-- a stretch that reads no clock is no run
pub use Rattle.driver_bring_up.proofs.Still.{clock_unread}
-- where a look for an answer leads
pub use Rattle.driver_bring_up.proofs.Commands.{comes}
-- a stretch that reads the clock once is no run
pub use Rattle.driver_bring_up.proofs.Commands.{once}
-- the accesses of a look and a submission are those that are expected, and lead where progress says
pub use Rattle.driver_bring_up.proofs.Commands.{stretch}
-- and so do those of the closing look
pub use Rattle.driver_bring_up.proofs.Commands.{closing}
-- and of a look after which no command comes
pub use Rattle.driver_bring_up.proofs.Commands.{last_look}
-- the entries that a look read of RIRB
pub use Rattle.driver_bring_up.proofs.Entries.{asked_entries}
-- a look tells of 256 events at most
pub use Rattle.driver_bring_up.proofs.Events.{few_events}
-- what was told until now, and by these entries
pub use Rattle.driver_bring_up.proofs.Entries.{told_same}
-- of an entry no register is read, and of RIRBWP just its value
pub use Rattle.driver_bring_up.proofs.Asked.{entry_unread, pointer_by}
-- where the engine stands after a poll
pub use Rattle.driver_bring_up.proofs.Commands.{rings_same}
-- what is shown holds where a call failed
pub use Rattle.driver_bring_up.proofs.FailingLooks.{on_err}
