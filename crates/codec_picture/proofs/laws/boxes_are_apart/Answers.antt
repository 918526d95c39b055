use Rattle.codec_picture.proofs.BoxLemmas.{boxes_apart}
use Rattle.codec_picture.proofs.laws.boxes_are_apart.Goals as goal

pub returns : goal.returns
returns c = boxes_apart
