mod Finding
mod Copying
mod Standing
-- what proofs of the layers above cite
pub mod Callers
