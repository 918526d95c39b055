-- What proofs of the layers above cite.

-- the signal by the format of a word is that of the word
pub use Rattle.heard_frames.proofs.HeardLists.{signal_by-word}
-- lists go on frame by frame
pub use Rattle.heard_frames.proofs.HeardLists.{heard-append, heard-push, items-missed, items-empty}
-- marks over histories that go on
pub use Rattle.heard_frames.proofs.Marks.{marks-frames, marks-append}
