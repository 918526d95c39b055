pub mod Amplifiers
pub mod Signals
pub mod Inward
pub mod Keeping
-- what private functions promise one another
pub mod Depths
