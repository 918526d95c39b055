use Rattle.std.proofs.Common.{◌-◌, length}
use Rattle.dma_pool.proofs.several.+take_from.Given as goal

abbrev pub decreases-take_from : goal.decreases-take_from
decreases-take_from l = length l.into.now - l.index
