use Rattle.codec_graph.specs.declared.pin_kind.PinKind.TheVariants.{Digital}
use Rattle.setup_verbs.proofs.DigitalOpened.{lead_to_digital_set_up}
use Rattle.setup_verbs.proofs.Ranged.{all_commands_of}
use Rattle.setup_verbs.proofs.laws.digital_verbs_set_up.Goals as goal

pub returns : goal.returns
returns c = record {
  set_up = lead_to_digital_set_up;
  encodable = all_commands_of Digital;
}
