use Rattle.laws_serving.proofs.Polled.{submitted_comes}
use Rattle.laws_serving.proofs.commands.a_submission_comes.Goals as goal

pub returns : goal.returns
returns c = λ from read corb rirb rings. submitted_comes from read corb rirb rings
