use Rattle.std.proofs.Common.{◌≡◌, arith}
use Rattle.setup_verbs.specs.Steps.{commands_at}
use Rattle.setup_verbs.proofs.Lists.{all_below}
use Rattle.setup_verbs.proofs.steps.send_step.Goals as goal

pub returns : goal.returns
returns c =
    let last : c.loop-nid.nid ≡ 128 = omega arith in
    all_below c.args.commands.now.items c.loop-nid.commands.items (commands_at c.args.kind c.args.codec.now c.args.plan.now c.args.format c.args.tag c.args.step) c.loop-nid.nid last c.loop-nid.invariant
