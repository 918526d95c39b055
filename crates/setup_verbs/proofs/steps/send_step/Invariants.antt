use Rattle.std.proofs.Common.{◌≡◌, ◌++◌}
use Rattle.setup_verbs.specs.Steps.{commands_at}
use Rattle.setup_verbs.specs.VerbList.{to_below}
use Rattle.setup_verbs.proofs.steps.send_step.Given as goal

abbrev pub invariant-loop-nid : goal.invariant-loop-nid
invariant-loop-nid l =
    l.commands.items ≡ l.initial.commands.items ++ to_below (commands_at l.kind l.codec l.plan l.format l.tag l.step) l.nid
