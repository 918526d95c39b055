-- What proofs of the layers above cite.

-- lists of candidate pins stay so where the codecs keep their graphs
pub use Rattle.hda_controller.proofs.Listed.{heard_by}
-- over a step of the world by which they grew
pub use Rattle.hda_controller.proofs.Listed.{heard_stepped}
-- and where room was made
pub use Rattle.hda_controller.proofs.Listed.{heard_reserved}
-- the lists of a sound machine are those of candidate pins of its codecs
pub use Rattle.hda_controller.proofs.Listed.{heard_listed}
