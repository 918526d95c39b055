use Rattle.codec_graph.specs.declared.pin_kind.PinKind.TheVariants.{Analog}
use Rattle.codec_sound.proofs.Outputs.{out-gives, out-only}
use Rattle.codec_sound.proofs.laws.signals_alone_fit_the_step.Goals as goal

pub returns : goal.returns
returns c = record {
  fits = out-gives Analog;
  only = out-only Analog;
}
