use Rattle.hda_world.proofs.BufferSteps.{step_writes, steps_write, steps_keep_apart}
use Rattle.hda_world.proofs.input_laws.steps_write_rirb_and_buffers.Goals as goal

pub returns : goal.returns
returns c = record {
  one = λ step world at apart rirb buffers. step_writes at step world apart rirb buffers;
  all = λ steps world at apart beside rirb buffers. steps_write steps world apart beside at rirb buffers;
  kept = steps_keep_apart;
}
