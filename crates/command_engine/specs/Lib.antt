pub mod Blocks
pub mod Engines
pub mod Inside
pub mod Opening
pub mod Sizes
pub mod Entries
pub mod Starting
pub mod Submitting
pub mod Polling
pub mod Apart
pub mod Fetchings
pub mod Belonging
pub mod Quiet
pub mod Told
-- what private functions promise one another
pub mod Reading
