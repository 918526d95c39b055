use Rattle.std.proofs.Common.{◌≢◌, ◌/◌, sym, subst, rules}
use Rattle.std.specs.Prelude.{Contains}
use Rattle.std.specs.Int.{div_ceil}
use Rattle.dma_pool.specs.declared.runs.Run.{Run}
use Rattle.writer_tests.proofs.pool.takes_the_first_fit.Goals as goal

-- the second block was taken after the first and before the third, so its run is neither's
pub give-requires-3 : goal.give-requires-3
give-requires-3 g c =
    let first : Run = record { first = c.in-Ok.first.address / 128; count = div_ceil c.in-Ok.first.bytes 128 } in
    let second : Run = record { first = c.in-Ok-take.second.address / 128; count = div_ceil c.in-Ok-take.second.bytes 128 } in
    let third : Run = record { first = c.in-Ok-take-2.third.address / 128; count = div_ceil c.in-Ok-take-2.third.bytes 128 } in
    let InFirst : Run → Type 0 = λ run. Contains c.take.new.self.taken run in
    let InSecond : Run → Type 0 = λ run. Contains c.give.new.self.taken run in
    let not_first : second ≢ first = λ e. c.in-Ok-take.ensures.fresh (subst InFirst (sym e) c.in-Ok.ensures.owned) in
    let kept : Contains c.give.new.self.taken second = c.give.ensures.kept second (search rules) not_first in
    let not_third : second ≢ third = λ e. c.in-Ok-take-2.ensures.fresh (subst InSecond e kept) in
    c.give-2.ensures.kept second (c.in-Ok-take-2.ensures.kept second kept) not_third
