use Rattle.input_verbs.proofs.OpenedIn.{lead_to_open_in}
use Rattle.input_verbs.proofs.InRanged.{all_input_commands}
use Rattle.input_verbs.proofs.laws.input_verbs_open.Goals as goal

pub returns : goal.returns
returns c = record {
  opens = lead_to_open_in;
  encodable = all_input_commands;
}
