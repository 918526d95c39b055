pub mod Queues
-- what private functions promise one another
pub mod Counts
