use Rattle.std.proofs.Common.{◌<◌, ◌%◌, ◌+◌, ℕ, refl, subst, sym}
use Rattle.made_inputs.specs.MadeSound.{frames_for}
use Rattle.made_inputs.proofs.Turns.{HasPushed, none_pushed, one_pushed}
use Rattle.made_inputs.proofs.schedule.push_turns.Goals as goal

pub loop-linked-init : goal.loop-linked-init
loop-linked-init c =
    subst (λ (draw : ℕ). HasPushed c.args.number c.args.items.now draw 0 c.args.items.now) (sym c.from-draw.ensures)
    (none_pushed c.args.number c.args.items.now)

pub loop-linked-preserved : goal.loop-linked-preserved
loop-linked-preserved c =
    let few : c.loop-linked.linked < frames_for c.args.number =
    subst (λ (frames : ℕ). c.loop-linked.linked < frames) c.frames_for-frames.ensures.value c.loop-linked-test.true in
    one_pushed c.args.number c.args.items.now c.loop-linked.draw c.loop-linked.linked c.loop-linked.items c.next_draw-draw.result
    (16 + c.next_draw-draw.result % 32) c.push_turn.new.items c.loop-linked.invariant few c.next_draw-draw.ensures refl c.in_ok-push_turn.ensures
