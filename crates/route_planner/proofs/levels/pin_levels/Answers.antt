use Rattle.std.proofs.Common.{arith}
use Rattle.route_planner.proofs.Ends.{AreEndLevels-one}
use Rattle.route_planner.proofs.levels.pin_levels.Goals as goal

pub returns : goal.returns
returns c = rw c.from.ensures (AreEndLevels-one 256 c.args.pin (omega arith))
