-- What proofs of the layers above cite.

-- the course of runs at first, and after a run
pub use Rattle.hda_capture.proofs.RecordCourses.{course_opens, course_keeps}
-- the link is not before the earlier position, and at most a ring past it
pub use Rattle.hda_capture.proofs.RecordCourses.{at_later, at_soon}
-- a run reads no more than a ring, and what was read does not fall
pub use Rattle.hda_capture.proofs.RecordCourses.{reads_within, run_grows}
-- a run leaves the course started
pub use Rattle.hda_capture.proofs.RecordCourses.{still_on}
-- as many bytes as the FIFO has, up to whole blocks, are whole blocks
pub use Rattle.hda_capture.proofs.RecordCourses.{whole_up}
-- the runs and the course, with whole blocks where the link stood at such
pub use Rattle.hda_capture.proofs.RecordCourses.{IsRecordTally, tally_keeps}
-- a ring that is kept twice is kept, and a pool that has its blocks goes on to have them
pub use Rattle.hda_capture.proofs.KeptRecorders.{recorder_keeps_on, recorder_owns_on}
-- one read more
pub use Rattle.hda_capture.proofs.ReadSteps.{pieces_read_more}
