use Rattle.std.proofs.Common.{◌≡◌, arith}
use Rattle.setup_verbs.specs.Roles.{role_in}
use Rattle.setup_verbs.specs.VerbList.{step_at_by}
use Rattle.setup_verbs.proofs.Callers.{all_below}
use Rattle.input_verbs.specs.InputSteps.{input_step_verbs}
use Rattle.input_verbs.proofs.steps.send_step.Goals as goal

pub returns : goal.returns
returns c =
    let last : c.loop-nid.nid ≡ 128 = omega arith in
    all_below c.args.commands.now.items c.loop-nid.commands.items (step_at_by c.args.codec.now (role_in c.args.roles.now) (input_step_verbs c.args.codec.now c.args.format c.args.tag c.args.step)) c.loop-nid.nid last c.loop-nid.invariant
