mod Onwards
mod Waiting
mod Going
mod Noting
mod Tallies
pub mod Callers
