pub mod JackPins
pub mod Switching
pub mod Inside
