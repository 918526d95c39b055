use Rattle.std.proofs.Common.{◌*◌, ◌≤◌, arith}
use Rattle.world_streams.proofs.Callers.{few_bytes}
use Rattle.run_picture.proofs.meter.due_bytes.Goals as goal

few : (c : goal.After-block_bytes) → c.blocks-2.result * c.block_bytes.result ≤ 128
few c = rw (c.blocks-2.ensures, c.block_bytes.ensures) (few_bytes c.args.format c.args.frame)

pub overflow_mul-result : goal.overflow_mul-result
overflow_mul-result c = omega (arith, few c)
