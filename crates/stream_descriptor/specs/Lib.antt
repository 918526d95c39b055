pub mod Running
pub mod Frames
pub mod Fetches
pub mod Taking
