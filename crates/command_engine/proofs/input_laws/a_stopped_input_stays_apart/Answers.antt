use Rattle.hda_world.specs.Worlds.{input_of}
use Rattle.command_engine.proofs.Apart.{stopped_apart}
use Rattle.command_engine.proofs.Beside.{stopped_events}
use Rattle.command_engine.proofs.Quiet.{reset_apart}
use Rattle.command_engine.proofs.input_laws.a_stopped_input_stays_apart.Goals as goal

pub returns : goal.returns
returns c = record {
  stays = stopped_events;
  apart = λ corb rirb world stopped. stopped_apart corb rirb world.memory (input_of world) stopped;
  reset = reset_apart;
}
