use Rattle.std.proofs.Common.{◌<◌, ◌∙◌, sym, ap, subst, arith}
use Rattle.setup_verbs.specs.Roles.{role_in}
use Rattle.setup_verbs.specs.Steps.{FitsWidget}
use Rattle.setup_verbs.proofs.steps.send_at.Goals as goal

pub send_to_widget-requires-clause-fits : goal.send_to_widget-requires-clause-fits
send_to_widget-requires-clause-fits c =
    let below : c.args.nid < 256 = omega arith in
    subst (λ r. FitsWidget c.args.plan.now c.in-Some.node.now r)
    (sym (ap (λ n. role_in c.args.roles.now n) c.from.ensures ∙ c.requires.roles c.args.nid below))
    (c.requires.fits.at c.args.nid c.in-Some.node.now (sym c.in-Some.ensures))
