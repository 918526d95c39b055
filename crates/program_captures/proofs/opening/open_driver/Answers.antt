use Rattle.std.proofs.Common.{ap, ◌∙◌, Err, sym}
use Rattle.dma_pool.specs.Pools.{PoolState}
use Rattle.laws_start.specs.Starting.{IsAllFree}
use Rattle.period_writer.specs.Runs.{tally_opened}
use Rattle.period_writer.specs.Writers.{tally_of}
use Rattle.program_captures.proofs.Opened.{opened_tally}
use Rattle.program_captures.proofs.opening.open_driver.Goals as goal

pub unreachable-requires : goal.unreachable-requires
unreachable-requires c =
    let none = c.open_with.ensures.no_run (c.in-Err-NoRun.is ∙ ap Err c.in-Err-NoRun.field-0-is) in
    c.a_full_pool_has_room.ensures c.args.terms.geometry c.in_ok-pool.pool
    (record { granules = ap (λ (pool : PoolState). pool.granules) c.in_ok-pool.ensures; free = ap (λ (pool : PoolState). pool.taken) c.in_ok-pool.ensures }) none

pub returns-in-Ok-clause-coming : goal.returns-in-Ok-clause-coming
returns-in-Ok-clause-coming c =
    let driver = c.in-Ok.driver in record {
      setter = c.in-Ok.ensures.setter;
      play = c.in-Ok.ensures.play;
      geometry = c.in-Ok.ensures.opened.geometry_is;
      format = driver.bring_up.formats ∙ c.in-Ok.ensures.opened.format;
      fresh = opened_tally c.args.terms.geometry c.args.terms.runs driver.bring_up driver.writer c.in-Ok.ensures.opened;
      silent = c.in-Ok.ensures.supply ∙ c.no_sound-supply.ensures;
      runs = c.in-Ok.ensures.runs;
      free = c.in_ok-pool.pool;
      all_free = record { granules = ap (λ (pool : PoolState). pool.granules) c.in_ok-pool.ensures; free = ap (λ (pool : PoolState). pool.taken) c.in_ok-pool.ensures };
      takes = c.in-Ok.ensures.takes;
    }

pub returns-in-Ok-clause-apart : goal.returns-in-Ok-clause-apart
returns-in-Ok-clause-apart c =
    let driver = c.in-Ok.driver in
    c.opened_blocks_lie_apart.ensures c.args.terms.geometry c.in_ok-pool.pool driver.pool driver.bring_up driver.writer c.in-Ok.ensures.opened.geometry_is c.in-Ok.ensures.takes
