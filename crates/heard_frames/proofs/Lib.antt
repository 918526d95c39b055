pub mod HeardLists
pub mod Marks
pub mod Callers
