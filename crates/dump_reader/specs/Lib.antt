pub mod Cuts
pub mod Numbers
pub mod Labels
pub mod Facts
pub mod Operands
pub mod Readers
pub mod Reading
-- what the cursors over a text have left
pub mod Left
