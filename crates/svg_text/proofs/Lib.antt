mod Pieces
mod LengthLemmas
mod DocumentLemmas
