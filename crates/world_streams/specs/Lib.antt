pub mod Lists
pub mod Streams
pub mod Output
pub mod Input
