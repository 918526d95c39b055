use Rattle.laws_serving.proofs.Polled.{looked_serves}
use Rattle.laws_serving.proofs.commands.looks_keep_serving.Goals as goal

pub returns : goal.returns
returns c = λ from read corb rirb rings. looked_serves from read corb rirb rings
