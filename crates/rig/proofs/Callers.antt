-- What proofs of the layers above cite.

-- items that events follow: none, some and then others, a step, a run
pub use Rattle.rig.proofs.Following.{follow_none, follow_both, follow_step, follow_run}
-- what a run added to a journal is the run with its accesses
pub use Rattle.rig.proofs.Following.{follow_more, run_more, all_accesses}
-- every rig is where its journal leads
pub use Rattle.rig.proofs.Replayed.{replayed}
-- a candidate pin of a codec's graph is one of its machine
pub use Rattle.rig.proofs.Candidates.{candidate_known}
-- where there are no groups there are no accesses
pub use Rattle.rig.proofs.Weaving.{groups_none}
-- a step lets no more link frames pass than its own
pub use Rattle.rig.proofs.LinkFrames.{step_frames_bounded}
-- no more pass over an event
pub use Rattle.rig.proofs.LinkFrames.{event_frames_bounded}
-- and none over an access
pub use Rattle.rig.proofs.LinkFrames.{access_frames}
