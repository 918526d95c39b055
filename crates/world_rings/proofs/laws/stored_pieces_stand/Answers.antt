use Rattle.world_rings.proofs.Pieces.{stored_outside, piece_is_stored}
use Rattle.world_rings.proofs.laws.stored_pieces_stand.Goals as goal

pub returns : goal.returns
returns c = record {
  piece = piece_is_stored;
  size = λ at piece memory. (stored_outside at piece memory).0;
  outside = λ at piece memory. (stored_outside at piece memory).1;
}
