-- What proofs of the layers above cite.

-- the graphs of the codecs are those of the files
pub use Rattle.laws_start.proofs.Beginning.{graphs_there}
