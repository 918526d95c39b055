use Rattle.codec_sound.proofs.Listening.{heard_pin}
use Rattle.codec_sound.proofs.laws.converters_hear_enabled_pins.Goals as goal

pub returns : goal.returns
returns c = record {
  pin = λ codec settings converter nid heard. (heard_pin codec settings converter nid heard).0;
  converter = λ codec settings converter nid heard. (heard_pin codec settings converter nid heard).1;
}
