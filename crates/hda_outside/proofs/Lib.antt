pub mod CountLemmas
pub mod PieceLemmas
pub mod TakenLemmas
pub mod Lengths
pub mod Parts
pub mod Callers
