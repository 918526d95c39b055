use Rattle.std.proofs.Common.{◌≡◌, ◌/◌, ap, length, arith}
use Rattle.dma_pool.proofs.LaidOut.{gap-room, at_error, ok_from, AddsRun-insert, AddsRun-has, AddsRun-keeps}
use Rattle.dma_pool.specs.Pools.{granules_for}
use Rattle.dma_pool.proofs.pool.Pool.take.Goals as goal

pub returns-in_default-clause-none : goal.returns-in_default-clause-none
returns-in_default-clause-none c =
    rw (← c.self.view_is) (rw (c.deref.ensures.value, c.div_ceil-count.ensures) at c.in_default.ensures)

pub unreachable-requires : goal.unreachable-requires
unreachable-requires c =
    let room = gap-room c.self.inside.granules c.deref.result.now c.in-Some.gap.index c.in-Some.gap.first c.div_ceil-count.result c.in-Some.ensures in
    let full = at_error c.insert.result _ c.if-is_err.ensures.value c.insert.ensures.full in
    omega (arith, room, full, ap length c.deref.ensures.value, c.self.invariant.2)

pub returns-clause-fits : goal.returns-clause-fits
returns-clause-fits c =
    let place : c.new.result.address / 128 ≡ c.in-Some.gap.first = omega (arith, c.new.ensures.address) in
    rw (← c.self.view_is, place) (rw (c.deref.ensures.value, c.div_ceil-count.ensures) at c.in-Some.ensures.fits)

pub returns-clause-takes : goal.returns-clause-takes
returns-clause-takes c =
    let place : c.new.result.address / 128 ≡ c.in-Some.gap.first = omega (arith, c.new.ensures.address) in
    let done = ok_from c.insert.result c.if-is_err.ensures.value in
    let added = AddsRun-insert c.self.inside.taken.items c.in-Some.gap.index (record { first = c.in-Some.gap.first; count = granules_for c.args.bytes }) in
    rw (← c.self.view_is, place, c.insert.ensures.items, done, c.div_ceil-count.ensures) added

pub returns-clause-owned : goal.returns-clause-owned
returns-clause-owned c = rw c.new.ensures.bytes (AddsRun-has _ _ c.insert.new.self.items (returns-clause-takes c))

pub returns-clause-kept : goal.returns-clause-kept
returns-clause-kept c = λ run h. AddsRun-keeps c.args.self.now.taken _ c.insert.new.self.items (returns-clause-takes c) run h
