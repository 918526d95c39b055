pub mod Replays
pub mod Stretches
pub mod Follows
pub mod LinkFrames
pub mod Rigs
pub mod Lies
pub mod Liars
pub mod Lending
-- what private functions promise one another
pub mod Honesty
pub mod Recordings
pub mod Rooms
