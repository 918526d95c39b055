pub mod HeardLists
pub mod Marks
