use Rattle.command_engine.proofs.Beside.{stopped_beside}
use Rattle.command_engine.proofs.input_laws.stopped_inputs_stay_beside.Goals as goal

pub returns : goal.returns
returns c = stopped_beside
