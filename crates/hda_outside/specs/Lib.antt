pub mod Counts
pub mod Machine
pub mod MemoryShelf
pub mod MemorySink
pub mod Reading
pub mod Pieces
pub mod Shelf
pub mod Sink
