pub mod Readings
pub mod Commands
pub mod Packing
pub mod Expansions
pub mod Payloads
pub mod Masks
pub mod Callers
