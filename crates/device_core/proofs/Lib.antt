pub mod Standing
pub mod Takers
pub mod Bringing
pub mod Places
pub mod Hearing
pub mod Frames
pub mod Writes
pub mod Sounding
pub mod Moves
pub mod Steps
pub mod Discovery
pub mod Handing
-- what proofs of the layers above cite
pub mod Callers
