use Rattle.codec_graph.specs.declared.pin_kind.PinKind.TheVariants.{Analog}
use Rattle.setup_verbs.proofs.Final.{lead_to_set_up}
use Rattle.setup_verbs.proofs.Ranged.{all_commands_of}
use Rattle.setup_verbs.proofs.laws.setup_verbs_set_up.Goals as goal

pub returns : goal.returns
returns c = record {
  set_up = lead_to_set_up;
  encodable = all_commands_of Analog;
}
