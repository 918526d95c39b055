use Rattle.codec_sound.proofs.Outputs.{out-gives, out-only}
use Rattle.codec_sound.proofs.laws.signals_of_each_kind_fit_the_step.Goals as goal

pub returns : goal.returns
returns c = record {
  fits = out-gives;
  only = out-only;
}
