pub mod Listings
-- what private functions promise one another
pub mod Marked
pub mod Pieces
pub mod Readers
pub mod Stretches
