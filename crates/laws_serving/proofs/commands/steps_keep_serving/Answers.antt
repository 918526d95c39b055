use Rattle.laws_serving.proofs.RoundTrips.{steps_serve}
use Rattle.laws_serving.proofs.commands.steps_keep_serving.Goals as goal

pub returns : goal.returns
returns c = λ from read corb rirb rings. steps_serve from read corb rirb rings
