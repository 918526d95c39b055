pub mod Words
pub mod Cadence
pub mod Samples
pub mod Layouts
pub mod Laws
