use Rattle.command_engine.proofs.Beside.{events_beside_input_keep}
use Rattle.command_engine.proofs.Tells.{responses_apart}
use Rattle.command_engine.proofs.input_laws.events_beside_input_keep_standing.Goals as goal

pub returns : goal.returns
returns c = λ from read corb rirb rings events world beside holds. events_beside_input_keep from read corb rirb rings responses_apart events world beside holds
