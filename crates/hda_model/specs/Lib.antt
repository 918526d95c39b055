pub mod Models
pub mod Copies
pub mod Refusals
-- what private functions promise one another
pub mod Keeping
