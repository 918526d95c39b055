-- What proofs of the layers above cite.

-- a piece stored, where it fits or else not, changes nothing outside
pub use Rattle.world_rings.proofs.Pieces.{stored_outside}
-- and where it fits, it is there
pub use Rattle.world_rings.proofs.Pieces.{piece_is_stored}
-- responses that were written stand each in an entry of its own
pub use Rattle.world_rings.proofs.Standing.{each_stands}
-- responses move RIRB's pointer alone
pub use Rattle.world_rings.proofs.EngineMoves.{responses_registers}
-- and a batch raises their flag
pub use Rattle.world_rings.proofs.EngineMoves.{batch_registers}
-- STATESTS stays
pub use Rattle.world_rings.proofs.EngineMoves.{status_responded}
-- and so do the sizes of the rings
pub use Rattle.world_rings.proofs.EngineMoves.{shape_responded}
-- what responds has no flag
pub use Rattle.world_rings.proofs.EngineMoves.{flag_clear}
-- an engine that cannot respond takes none
pub use Rattle.world_rings.proofs.EngineMoves.{batch_none}
-- a batch is the first that wait
pub use Rattle.world_rings.proofs.EngineMoves.{batch_first}
-- an idle CORB has nothing to fetch
pub use Rattle.world_rings.proofs.EngineMoves.{none_fetched}
-- a response has eight bytes
pub use Rattle.world_rings.proofs.Standing.{length-response_bytes}
