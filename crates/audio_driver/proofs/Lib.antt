pub mod Taken
pub mod Back
mod Kept
mod Seeing
mod PlayedOn
mod Stretches
mod Whole
mod Sounded
mod Ended
mod Parted
pub mod Accesses
pub mod Callers
