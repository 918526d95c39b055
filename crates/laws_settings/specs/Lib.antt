pub mod Histories
pub mod Readings
pub mod Addressed
pub mod Frames
pub mod PinControls
