use Rattle.command_engine.proofs.Settled.{settled_after, answered_whole}
use Rattle.command_engine.proofs.laws.settled_codecs_answer_whole.Goals as goal

pub returns : goal.returns
returns c = record {
  settled = λ events world all. settled_after events world all;
  whole = λ from command codecs commands value all is. answered_whole from command codecs commands value all is;
}
