-- What proofs of the layers above cite.
-- what a sink took of two texts in a row
pub use Rattle.hda_outside.proofs.TakenLemmas.{taken_with-append}
-- a count that rose between two others rose between these
pub use Rattle.hda_outside.proofs.CountLemmas.{Rose-longer}
