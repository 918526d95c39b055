pub mod Recordings
pub mod Reading
pub mod Turns
pub mod Starting
pub mod Recorders
pub mod Inside
pub mod Calls
