use Rattle.hda_world.proofs.Callers.{write_begins_list}
use Rattle.command_engine.proofs.Apart.{status_apart, stopped_write}
use Rattle.command_engine.proofs.input_laws.writes_leave_inputs_apart.Goals as goal

pub returns : goal.returns
returns c = record {
  status = status_apart;
  stop = λ corb rirb at value width world stopped. stopped_write corb rirb world at value width stopped;
  rise = λ corb rirb at value width world rises outside corb_beside rirb_beside runs. record {
    list = write_begins_list world at value width rises outside runs;
    beside_corb = corb_beside;
    beside_rirb = rirb_beside;
  };
}
