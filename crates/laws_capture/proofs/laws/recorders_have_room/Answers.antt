use Rattle.laws_capture.proofs.Exchanged.{room_again, fits_again, apart_again}
use Rattle.laws_capture.proofs.laws.recorders_have_room.Goals as goal

pub returns : goal.returns
returns c = record {
  room = room_again c.a_full_pool_has_room.ensures;
  first_fits = fits_again;
  apart = apart_again;
}
