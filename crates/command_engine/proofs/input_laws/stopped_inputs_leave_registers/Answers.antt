use Rattle.command_engine.proofs.Beside.{stopped_leave}
use Rattle.command_engine.proofs.input_laws.stopped_inputs_leave_registers.Goals as goal

pub returns : goal.returns
returns c = stopped_leave
