use Rattle.made_inputs.proofs.Graphs.{well_formed}
use Rattle.made_inputs.proofs.laws.made_codec_is_well_formed.Goals as goal

pub returns : goal.returns
returns c = well_formed
