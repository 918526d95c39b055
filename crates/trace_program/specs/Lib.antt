pub mod Words
pub mod Traced
