pub mod Plays
pub mod Steady
pub mod BySignals
pub mod Streams
