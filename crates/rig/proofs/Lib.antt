pub mod Replayed
pub mod Candidates
pub mod LinkFrames
pub mod Callers
pub mod Weaving
pub mod Where
pub mod Rooming
pub mod Turns
pub mod Opened
pub mod Listed
pub mod Following
mod MarkedOn
