use Rattle.command_engine.proofs.Quiet.{quiet_steps, quiet_events}
use Rattle.command_engine.proofs.laws.the_world_stays_quiet.Goals as goal

pub returns : goal.returns
returns c = record {
  steps = λ corb rirb steps world quiet. quiet_steps corb rirb steps world quiet;
  events = λ corb rirb events world leave quiet. quiet_events corb rirb events world leave quiet;
}
