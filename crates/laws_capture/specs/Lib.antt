pub mod Listening
pub mod Taking
pub mod Capturing
