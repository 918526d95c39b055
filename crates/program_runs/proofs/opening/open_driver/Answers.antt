use Rattle.std.proofs.Common.{ap, ◌∙◌, Err}
use Rattle.dma_pool.specs.Pools.{PoolState}
use Rattle.program_runs.proofs.opening.open_driver.Goals as goal

pub unreachable-requires : goal.unreachable-requires
unreachable-requires g c =
    let none = c.open_with.ensures.no_run (c.in-Err-NoRun.is ∙ ap Err c.in-Err-NoRun.field-0-is) in
    c.a_full_pool_has_room.ensures c.args.geometry c.in_ok-pool.pool
    (record { granules = ap (λ (pool : PoolState). pool.granules) c.in_ok-pool.ensures; free = ap (λ (pool : PoolState). pool.taken) c.in_ok-pool.ensures }) none

pub returns-in-Ok-clause-first_fits : goal.returns-in-Ok-clause-first_fits
returns-in-Ok-clause-first_fits g c = record {
  free = c.in_ok-pool.pool;
  taken = c.in-Ok.driver.pool;
  all_free = record { granules = ap (λ (pool : PoolState). pool.granules) c.in_ok-pool.ensures; free = ap (λ (pool : PoolState). pool.taken) c.in_ok-pool.ensures };
  opens = c.in-Ok.ensures.takes;
  corb_aligned = c.in-Ok.driver.bring_up.engine.corb.aligned;
  rirb_aligned = c.in-Ok.driver.bring_up.engine.rirb.aligned;
}

pub returns-in-Ok-clause-apart : goal.returns-in-Ok-clause-apart
returns-in-Ok-clause-apart g c =
    let driver = c.in-Ok.driver in
    c.opened_blocks_lie_apart.ensures c.args.geometry c.in_ok-pool.pool driver.pool driver.bring_up driver.writer c.in-Ok.ensures.opened.geometry_is c.in-Ok.ensures.takes
