pub mod LaidOut
pub mod Taking
pub mod Callers
