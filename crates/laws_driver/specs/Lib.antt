pub mod Sounding
pub mod Keeping
pub mod Leaving
