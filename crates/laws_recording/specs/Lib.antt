pub mod Filling
pub mod Recording
pub mod Beside
pub mod Sound
