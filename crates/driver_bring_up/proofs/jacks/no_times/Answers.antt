use Rattle.std.proofs.Common.{refl}
use Rattle.driver_bring_up.proofs.jacks.no_times.Goals as goal

pub returns : goal.returns
returns c = refl
