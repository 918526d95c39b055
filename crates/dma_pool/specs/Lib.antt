pub mod Pools
pub mod Blocks
pub mod Several
-- what private functions promise one another
pub mod Gaps
