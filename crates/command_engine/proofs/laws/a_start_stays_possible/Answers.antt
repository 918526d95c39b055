use Rattle.command_engine.proofs.Quiet.{can_start_steps, can_start_events}
use Rattle.command_engine.proofs.laws.a_start_stays_possible.Goals as goal

pub returns : goal.returns
returns c = record {
  steps = λ corb rirb steps world can. can_start_steps corb rirb steps world can;
  events = λ corb rirb events world leave can. can_start_events corb rirb events world leave can;
}
