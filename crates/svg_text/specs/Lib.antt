pub mod Escapes
pub mod Shapes
pub mod Pictures
pub mod Within
pub mod Lengths
pub mod Documents
