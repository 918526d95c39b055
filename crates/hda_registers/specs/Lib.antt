pub mod Fields
pub mod Table
pub mod Access
pub mod Status
pub mod Moves
pub mod Laws
-- what private functions promise one another
pub mod Words
