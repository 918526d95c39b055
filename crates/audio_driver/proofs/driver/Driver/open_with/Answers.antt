use Rattle.std.proofs.Common.{subst}
use Rattle.dma_pool.specs.Pools.{PoolState}
use Rattle.dma_pool.proofs.Callers.{at_success}
use Rattle.audio_driver.specs.Opening.{HasRuns, HasNoRuns}
use Rattle.audio_driver.proofs.driver.Driver.open_with.Goals as goal

pub returns-clause-no_run : goal.returns-clause-no_run
returns-clause-no_run g c = λ is. subst (λ (pool : PoolState). HasNoRuns c.args.geometry pool) c.meets_runs.ensures.unchanged (c.open_blocks.ensures.no_run is)

pub returns-clause-no_memory : goal.returns-clause-no_memory
returns-clause-no_memory g c = λ is. at_success c.meets_runs.result (HasRuns c.args.geometry c.args.pool) c.if-is_err.ensures.value c.meets_runs.ensures.runs
