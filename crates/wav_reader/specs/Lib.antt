pub mod FaultText
pub mod Chunks
pub mod Formats
pub mod Heads
pub mod Laws
pub mod Written
pub mod Memory
pub mod Wavs
pub mod Supplies
pub mod Shelves
pub mod Opening
pub mod Fills
pub mod Streams
-- what private functions promise one another
pub mod Readers
