use Rattle.std.proofs.Common.{◌≡◌, ◌+◌, ◌-◌, ℕ, None, length, arith, rules, sym, subst, Option, refl, set, drop}
use Rattle.std.specs.Prelude.{All}
use Rattle.dma_pool.specs.declared.blocks.Block.{Block}
use Rattle.dma_pool.specs.Blocks.{run_at}
use Rattle.dma_pool.specs.Pools.{PoolState, AddsRun}
use Rattle.dma_pool.specs.Several.{TakesAll, MeetsNoRun, HasBlock, addresses_in}
use Rattle.dma_pool.proofs.Taking.{rest_empty, empty_here, before_same, takes_more, blocks_more, meets_later}
use Rattle.dma_pool.proofs.Callers.{at_error, at_success, given_back}
use Rattle.dma_pool.proofs.several.+take_from.Goals as goal

pub take_from-requires : goal.take_from-requires
take_from-requires t c = (search rules, (c.requires.some, (omega arith, rest_empty c.args.into.now c.args.index None c.requires.empty)))

pub put-requires : goal.put-requires
put-requires t c = empty_here c.args.into.now c.take_from.new.into c.args.index None _ (omega arith) c.take_from.ensures.before c.requires.empty

pub returns-then-is_err-clause-none : goal.returns-then-is_err-clause-none
returns-then-is_err-clause-none t c =
    let left = length c.args.into.now - c.args.index in
    let inner = at_error c.take_from.result _ c.if-is_err.ensures.value c.take_from.ensures.none in
    meets_later c.args.pool.now.granules c.args.bytes left c.in_ok-block.block.address c.args.pool.now.taken c.take.new.self.taken
    (record { fits = c.in_ok-block.ensures.fits; adds = c.in_ok-block.ensures.takes })
    (subst (λ (count : ℕ). MeetsNoRun c.args.pool.now.granules c.args.bytes count c.take.new.self.taken) (let one : length c.args.into.now - (c.args.index + 1) ≡ left - 1 = omega arith in one)
    (subst (λ (granules : ℕ). MeetsNoRun granules c.args.bytes (length c.args.into.now - (c.args.index + 1)) c.take.new.self.taken) c.in_ok-block.ensures.granules inner))

pub returns-then-is_err-clause-unchanged : goal.returns-then-is_err-clause-unchanged
returns-then-is_err-clause-unchanged t c =
    let same : c.take_from.new.pool ≡ c.take.new.self = at_error c.take_from.result _ c.if-is_err.ensures.value c.take_from.ensures.unchanged in
    given_back c.args.pool.now c.take.new.self c.give.new.self (run_at c.in_ok-block.block.address c.in_ok-block.block.bytes) c.in_ok-block.ensures.fresh
    (subst (λ (n : ℕ). AddsRun c.args.pool.now.taken (run_at c.in_ok-block.block.address n) c.take.new.self.taken) (sym c.in_ok-block.ensures.bytes) c.in_ok-block.ensures.takes)
    (subst (λ (pool : PoolState). AddsRun c.give.new.self.taken (run_at c.in_ok-block.block.address c.in_ok-block.block.bytes) pool.taken) same c.give.ensures.gives)
    c.in_ok-block.ensures.granules
    (subst (λ (pool : PoolState). c.give.new.self.granules ≡ pool.granules) same c.give.ensures.granules)

pub returns-clause-takes : goal.returns-clause-takes
returns-clause-takes t c =
    let rest = at_success c.take_from.result _ c.if-is_err.ensures.value c.take_from.ensures.takes in
    subst (λ (place : Option Block). TakesAll c.args.pool.now.granules c.args.bytes c.args.pool.now.taken (addresses_in (drop c.args.index (set c.take_from.new.into c.args.index place))) c.take_from.new.pool.taken) (sym c.put.ensures)
    (takes_more c.args.pool.now.granules c.args.bytes c.in_ok-block.block.address c.args.pool.now.taken c.take.new.self.taken c.take_from.new.pool.taken c.take_from.new.into c.args.index c.in_ok-block.block (omega arith) refl
    (record { fits = c.in_ok-block.ensures.fits; adds = c.in_ok-block.ensures.takes })
    (subst (λ (granules : ℕ). TakesAll granules c.args.bytes c.take.new.self.taken (addresses_in (drop (c.args.index + 1) c.take_from.new.into)) c.take_from.new.pool.taken) c.in_ok-block.ensures.granules rest))

pub returns-clause-blocks : goal.returns-clause-blocks
returns-clause-blocks t c =
    let rest = at_success c.take_from.result _ c.if-is_err.ensures.value c.take_from.ensures.blocks in
    subst (λ (place : Option Block). All (HasBlock c.args.bytes) (drop c.args.index (set c.take_from.new.into c.args.index place))) (sym c.put.ensures)
    (blocks_more c.args.bytes c.take_from.new.into c.args.index c.in_ok-block.block (omega arith) c.in_ok-block.ensures.bytes rest)

pub returns-clause-before : goal.returns-clause-before
returns-clause-before t c = before_same c.args.into.now c.take_from.new.into c.args.index c.put.new.place c.take_from.ensures.before
