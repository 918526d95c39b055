use Rattle.svg_text.proofs.LengthLemmas.{picture_short}
use Rattle.svg_text.proofs.laws.pictures_are_short.Goals as goal

pub returns : goal.returns
returns c = picture_short
