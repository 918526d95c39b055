pub mod Pieces
pub mod Standing
pub mod EngineMoves
pub mod Callers
