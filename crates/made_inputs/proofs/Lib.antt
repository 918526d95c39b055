mod Turns
mod Written
mod Limits
mod Frames
mod Graphs
pub mod Callers
