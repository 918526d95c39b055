use Rattle.run_picture.proofs.Bounds.{picture_small}
use Rattle.run_picture.proofs.laws.pictures_are_small.Goals as goal

pub returns : goal.returns
returns c = picture_small
