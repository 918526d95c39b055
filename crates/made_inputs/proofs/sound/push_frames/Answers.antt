use Rattle.std.proofs.Common.{◌∙◌, List, ℕ, ap, ◌++◌}
use Rattle.made_inputs.proofs.Frames.{one_more}
use Rattle.made_inputs.proofs.sound.push_frames.Goals as goal

pub loop-frame-preserved : goal.loop-frame-preserved
loop-frame-preserved c =
    one_more c.args.number c.loop-frame.frame c.args.pcm.now.items c.loop-frame.pcm.items c.extend_from_slice.new.self.items c.loop-frame.invariant
    (c.in_ok-extend_from_slice.ensures.items ∙ ap (λ (block : List ℕ). c.loop-frame.pcm.items ++ block) c.made_frame.ensures)
