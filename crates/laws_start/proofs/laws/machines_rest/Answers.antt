use Rattle.std.proofs.Common.{refl}
use Rattle.laws_start.proofs.laws.machines_rest.Goals as goal

pub returns : goal.returns
returns c = λ machine. record {
  fifo_is = refl;
  input_stopped = refl;
  output_stopped = refl;
  no_error = refl;
  clock_is = refl;
  held = λ off. (refl, refl);
  none_carried = refl;
}
