use Rattle.codec_sound.specs.declared.sources.Sources.TheVariants.{Pins}
use Rattle.codec_sound.proofs.Outputs.{out-gives-from, out-only-from}
use Rattle.codec_sound.proofs.laws.inward_signals_fit_the_step.Goals as goal

pub returns : goal.returns
returns c = record {
  fits = out-gives-from Pins;
  only = out-only-from Pins;
}
