use Rattle.std.proofs.Common.{◌%◌, ◌∙◌, ℕ, ap, subst}
use Rattle.std.proofs.Math.Nat.{mul-mod_left}
use Rattle.stream_format.specs.Cadence.{block_bytes}
use Rattle.dma_pool.specs.Pools.{PoolState}
use Rattle.period_writer.specs.Opening.{HasNoRuns}
use Rattle.hda_capture.proofs.recorder.Recorder.open.Goals as goal

pub returns-clause-no_run : goal.returns-clause-no_run
returns-clause-no_run c = λ is. subst (λ (pool : PoolState). HasNoRuns c.args.geometry pool) c.meets_runs.ensures.unchanged (c.open_blocks.ensures.no_run is)

pub open_blocks-requires-clause-whole : goal.open_blocks-requires-clause-whole
open_blocks-requires-clause-whole c = ap (λ (n : ℕ). n % block_bytes c.args.geometry.format) c.bytes_of-total.ensures ∙ mul-mod_left c.args.frames (block_bytes c.args.geometry.format)
