use Rattle.input_verbs.proofs.TakenAlone.{one_takes, none_takes}
use Rattle.input_verbs.proofs.laws.an_open_input_takes_alone.Goals as goal

pub returns : goal.returns
returns c = record {
  one = one_takes;
  none = none_takes;
}
