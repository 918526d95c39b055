use Rattle.std.proofs.Common.{sym, ◌∙◌, lit<}
use Rattle.schedule_reader.specs.Counts.{step_frames}
use Rattle.schedule_reader.specs.Left.{held}
use Rattle.schedule_reader.proofs.CountLemmas.{held_more, held-small}
use Rattle.schedule_reader.proofs.counts.frames_in.Goals as goal

pub loop-step-init : goal.loop-step-init
loop-step-init c = sym (held-small 0 (lit< tt))

pub loop-step-preserved : goal.loop-step-preserved
unfolding held
loop-step-preserved c =
    c.saturating_add-frames.ensures ∙ held_more step_frames c.args.steps.now c.loop-step.step-index _ _ _ c.loop-step-test.true c.loop-step.invariant c.step_frames.ensures
