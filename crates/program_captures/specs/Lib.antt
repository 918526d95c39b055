pub mod Finding
pub mod Inputs
pub mod Captures
-- what private functions promise one another
pub mod Capturing
pub mod Ending
pub mod Kept
