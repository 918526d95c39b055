use Rattle.std.proofs.Common.{◌≡◌, List, sym, subst}
use Rattle.std.proofs.lemmas.Result.{IfOk-weaker}
use Rattle.verb_codes.specs.declared.verbs.Command.{Command}
use Rattle.setup_verbs.specs.VerbList.{setup_verbs}
use Rattle.setup_verbs.specs.SetUp.{LeadToSetUp}
use Rattle.setup_verbs.proofs.Final.{lead_to_set_up}
use Rattle.setup_verbs.proofs.setup.verbs.Goals as goal

pub returns-clause-set_up : goal.returns-clause-set_up
returns-clause-set_up c =
    IfOk-weaker c.verbs_as.result
    (λ commands. commands.items ≡ setup_verbs c.args.graph.now c.args.plan.now c.args.format c.args.tag)
    (λ commands. LeadToSetUp c.args.graph.now c.args.plan.now c.args.format c.args.tag commands.items)
    (λ commands e. subst (λ (l : List Command). LeadToSetUp c.args.graph.now c.args.plan.now c.args.format c.args.tag l) (sym e)
    (lead_to_set_up c.args.graph.now c.args.plan.now c.args.format c.args.tag c.raw-codec.ensures.well_formed c.requires.plan c.requires.some c.requires.few))
    c.verbs_as.ensures.list
