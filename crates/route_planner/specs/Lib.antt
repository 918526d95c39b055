pub mod Formats
pub mod Paths
pub mod Pairs
pub mod Plans
pub mod Laws
pub mod Inputs
-- what private functions promise one another
pub mod Search
pub mod Levels
pub mod Ways
pub mod Found
pub mod FoundInputs
