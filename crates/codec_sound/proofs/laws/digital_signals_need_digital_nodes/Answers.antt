use Rattle.codec_sound.proofs.Digitals.{converted_disabled, made_mixer, pin_foreign}
use Rattle.codec_sound.proofs.laws.digital_signals_need_digital_nodes.Goals as goal

pub returns : goal.returns
returns c = record {
  disabled = converted_disabled;
  mixers = made_mixer;
  pins = pin_foreign;
}
