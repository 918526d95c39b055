-- What proofs of the layers above cite.

-- a trail over events in a row, and that they conform
pub use Rattle.driver_progress.proofs.TrailLaws.{trail_append, conforms_both}
-- steps of the device leave it
pub use Rattle.driver_progress.proofs.TrailLaws.{steps_leave_trail, steps_conform}
-- that the journal conforms, as it is told
pub use Rattle.driver_progress.proofs.TrailRows.{ConformsTo}
-- the trail over events that went on, and that the journal still conforms
pub use Rattle.driver_progress.proofs.TrailRows.{trail_went, conforms_went}
-- over steps and then an event
pub use Rattle.driver_progress.proofs.TrailRows.{trail_stepped, conforms_stepped}
-- the records of the ring are those of the journal's stretches
pub use Rattle.driver_progress.proofs.Recorded.{recorded_is}
-- over a row of plain accesses
pub use Rattle.driver_progress.proofs.TrailRows.{trail_row}
-- phases in which commands are sent, and the one before sound
pub use Rattle.driver_progress.proofs.PhaseCases.{asking_goes_on, asking_early, asking_active, ready_is}
-- the accesses of a call, and of the last one, while commands are sent, and where they lead
pub use Rattle.driver_progress.proofs.PhaseCases.{asking_runs, asking_led, asking_closes, asking_closed}
-- what conforms in a row conforms at its back
pub use Rattle.driver_progress.proofs.TrailLaws.{conforms_back}
-- and at its front
pub use Rattle.driver_progress.proofs.TrailLaws.{conforms_front}
-- the accesses of a look whether the codecs had their time are those that are expected
pub use Rattle.driver_progress.proofs.Fitting.{settle_fits_by}
-- and so are a poll's
pub use Rattle.driver_progress.proofs.Fitting.{poll_fits}
-- and those of a look for interrupts, with what is done where there is one
pub use Rattle.driver_progress.proofs.Fitting.{interrupt_fits}
-- over a look for interrupts a reset stays possible, the codecs announce themselves as before, and they stand at the same addresses
pub use Rattle.driver_progress.proofs.InterruptWorlds.{can_reset_looked, settling_looked, addresses_looked}
-- the stretches that look for no answer
pub use Rattle.driver_progress.proofs.UnreadRows.{unread_both, reset_unread, settle_unread, interrupt_unread}
-- while CORB's engine does not run no command is taken: over steps, and over a look for interrupts
pub use Rattle.driver_progress.proofs.UntakenSteps.{untaken_steps}
pub use Rattle.driver_progress.proofs.UntakenRows.{looked_untaken}
-- that the wall clock goes by the link frames is kept
pub use Rattle.driver_progress.proofs.Time.{keeps_time}
-- two rows of accesses are one
pub use Rattle.driver_progress.proofs.AccessRows.{accesses_both}
-- the reads of RIRB's entries are accesses
pub use Rattle.driver_progress.proofs.AccessRows.{entry_accesses}
-- an access that reads no answer is an access
pub use Rattle.driver_progress.proofs.AccessRows.{unread_access}
-- and so is a plain one
pub use Rattle.driver_progress.proofs.AccessRows.{plain_access}
-- an access fits what is expected
pub use Rattle.driver_progress.proofs.AccessRows.{access_fits}
-- a poll as two: the read of RIRBSTS, and a plain row after which what was written is as it was
pub use Rattle.driver_progress.proofs.Polled.{PollSplit, poll_split}
