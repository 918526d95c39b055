pub mod Names
pub mod Columns
pub mod Repeats
pub mod Texts
pub mod Codecs
pub mod Wholes
pub mod Boxes
