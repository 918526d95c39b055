pub mod Fetching
-- what private functions promise one another
pub mod Bytes
pub mod Storing
pub mod InUse
