-- What proofs of the layers above cite.

-- the memory of a model may change in every way
pub use Rattle.hda_model.proofs.Standing.{other_memory}
