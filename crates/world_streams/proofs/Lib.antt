pub mod Callers
pub mod Coming
pub mod Whole
pub mod Formats
pub mod Writing
pub mod Blocks
pub mod Going
pub mod Stored
