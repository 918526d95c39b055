pub mod Memory
pub mod Entries
pub mod Engines
pub mod Standing
