use Rattle.std.proofs.Common.{ℕ, List, sym, subst, lit≤}
use Rattle.std.specs.Prelude.{All}
use Rattle.verb_codes.specs.declared.verbs.Command.{Command}
use Rattle.verb_codes.specs.Verbs.{IsInRange}
use Rattle.driver_agenda.proofs.plans.verbs_of_one.Goals as goal

pub returns-clause-in_range : goal.returns-clause-in_range
returns-clause-in_range g c =
    let all = g.met.T.Setter.encodable c.args.setter.now c.args.graph.now c.args.plan.now c.args.format 1 c.raw-raw.ensures.well_formed c.requires.plan (lit≤ tt) in
    subst (λ (verbs : List Command). All IsInRange verbs) (sym c.in_ok-verbs.ensures)
    (λ (k : ℕ) (d : Command) lt. (all k d lt).in_range c.requires.of_it)
