pub mod Reads
pub mod FaultText
pub mod Mending
pub mod Machines
pub mod Pieces
pub mod Comments
pub mod Texts
pub mod Imports
pub mod Outlets
pub mod Words
pub mod Programs
-- what private functions promise one another
pub mod Left
pub mod Seen
