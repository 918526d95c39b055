use Rattle.std.proofs.Common.{sym, ap, subst}
use Rattle.setup_verbs.specs.Roles.{role_in}
use Rattle.input_verbs.specs.InputSteps.{FitsInput}
use Rattle.input_verbs.proofs.steps.send_at.Goals as goal

pub send_to_widget-requires-clause-fits : goal.send_to_widget-requires-clause-fits
send_to_widget-requires-clause-fits c =
    subst (λ r. FitsInput c.in-Some.node.now r)
    (sym (ap (λ n. role_in c.args.roles.now n) c.from.ensures))
    (c.requires.fits.at c.args.nid c.in-Some.node.now (sym c.in-Some.ensures))
