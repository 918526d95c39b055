-- What proofs of the layers above cite.

-- a stretch begins and ends
pub use Rattle.laws_bring_up.proofs.Rows.{opens, closes}
-- the trail of an access, and of a row of accesses
pub use Rattle.laws_bring_up.proofs.Rows.{trail_access, conforms_access, accesses_row}
-- a stretch whose accesses were made
pub use Rattle.laws_bring_up.proofs.Rows.{stretch_done}
-- what holds at every moment, over an access
pub use Rattle.laws_bring_up.proofs.Always.{access_always}
-- codecs that are set up stay so, over steps and over a write that submits nothing
pub use Rattle.laws_bring_up.proofs.Same.{steps_for_good, write_for_good}
-- steps of the device leave a driver at rest, and one at rest kept to progress
pub use Rattle.laws_bring_up.proofs.Rows.{rest_stays, rest_progress}
-- what holds at every moment, over steps of the device
pub use Rattle.laws_bring_up.proofs.Always.{steps_always}
-- the world after an access, and after steps
pub use Rattle.laws_bring_up.proofs.Grows.{world_after}
-- accesses that submit no command
pub use Rattle.laws_bring_up.proofs.Calm.{AreCalm, calm_both, calm_front, calm_back, polls_calm, shuts_calm, interrupted_calm}
-- the laws that a bring-up goes by, as they are handed in
pub use Rattle.laws_bring_up.proofs.Following.{AgendaLaws}
pub use Rattle.laws_bring_up.proofs.Noting.{Laws}
pub use Rattle.laws_bring_up.proofs.Ready.{SetterLaws}
-- once all commands are answered
pub use Rattle.laws_bring_up.proofs.Ready.{all_taken, ready_for_good, all_answered, at_most}
-- which graphs are walked then
pub use Rattle.laws_bring_up.proofs.Walked.{walked_by, walked_in}
-- where commands stand, over accesses
pub use Rattle.laws_bring_up.proofs.Grows.{row_on}
pub use Rattle.laws_bring_up.proofs.Following.{Later, row_remembers, stage_on}
-- how it stands while commands are sent, by its phase
pub use Rattle.laws_bring_up.proofs.Staying.{asking_in}
-- rows of accesses
pub use Rattle.laws_bring_up.proofs.Accesses.{unread_accesses, submit_are, shut_are, looked_accesses}
-- an empty list goes on with none
pub use Rattle.laws_bring_up.proofs.Walked.{none_next}
