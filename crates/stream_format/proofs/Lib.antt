mod Cycles
mod Bounds
mod ReadBack
pub mod OneFormat
pub mod Sizes
pub mod Callers
