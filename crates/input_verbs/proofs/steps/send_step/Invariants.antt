use Rattle.std.proofs.Common.{◌≡◌, ◌++◌}
use Rattle.setup_verbs.specs.Roles.{role_in}
use Rattle.setup_verbs.specs.VerbList.{step_at_by, to_below}
use Rattle.input_verbs.specs.InputSteps.{input_step_verbs}
use Rattle.input_verbs.proofs.steps.send_step.Given as goal

abbrev pub invariant-loop-nid : goal.invariant-loop-nid
invariant-loop-nid l =
    l.commands.items ≡ l.initial.commands.items ++ to_below (step_at_by l.codec (role_in l.roles) (input_step_verbs l.codec l.format l.tag l.step)) l.nid
