use Rattle.command_engine.proofs.Keeping.{steps_keep_standing}
use Rattle.command_engine.proofs.Tells.{responses_apart}
use Rattle.command_engine.proofs.laws.steps_keep_standing.Goals as goal

pub returns : goal.returns
returns c = λ from read corb rirb rings steps world holds. steps_keep_standing from read corb rirb rings responses_apart steps world holds
