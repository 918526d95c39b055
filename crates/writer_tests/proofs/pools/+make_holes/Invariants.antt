use Rattle.std.proofs.Common.{◌-◌, length}
use Rattle.writer_tests.proofs.pools.+make_holes.Given as goal

abbrev pub decreases-make_holes : goal.decreases-make_holes
decreases-make_holes g l = length l.into.now - l.index
