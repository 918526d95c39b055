use Rattle.std.proofs.Common.{◌≡◌, ◌<◌, ◌+◌, take, length, get_or, sym, subst, List, ◌++◌, arith, add-one, ap, ◌∙◌}
use Rattle.std.specs.Prelude.{All}
use Rattle.std.proofs.lemmas.List.{take_all}
use Rattle.std.proofs.lemmas.List.Elements.{All-append}
use Rattle.verb_codes.specs.Verbs.{IsInRange}
use Rattle.verb_codes.specs.declared.verbs.Command.{Command}
use Rattle.codec_graph.specs.declared.raw.RawCodec.{RawCodec}
use Rattle.route_planner.specs.declared.routes.Plan.{Plan}
use Rattle.driver_agenda.specs.Planned.{verbs_for}
use Rattle.driver_agenda.specs.declared.plans.TheConstants.{TAG}
use Rattle.driver_agenda.proofs.Planning.{plans_long, plans_at, verbs_more}
use Rattle.driver_agenda.proofs.plans.verbs_of.Goals as goal

pub bounds-plans-index : goal.bounds-plans-index
bounds-plans-index g c =
    let long = plans_long (g.T.Setter.means c.args.setter.now c.args.format TAG).IsPlanBy c.args.graphs.now c.args.plans.now c.requires.plans in
    omega (arith, long)

pub verbs_of_one-requires-clause-plan : goal.verbs_of_one-requires-clause-plan
verbs_of_one-requires-clause-plan g c =
    let means = g.T.Setter.means c.args.setter.now c.args.format TAG in
    let is = plans_at means.IsPlanBy c.args.graphs.now c.args.plans.now c.loop-index.index c.index-graphs-index.result c.index-plans-index.result c.requires.plans (omega arith) in
    subst (λ (graph : RawCodec). means.IsPlanBy graph c.index-plans-index.result) (sym c.index-graphs-index.is)
    (subst (λ (plan : Plan). means.IsPlanBy (get_or c.args.graphs.now c.loop-index.index c.index-graphs-index.result) plan) (sym c.index-plans-index.is) is)

pub loop-index-preserved : goal.loop-index-preserved
loop-index-preserved g c =
    let f = (g.T.Setter.means c.args.setter.now c.args.format TAG).verbs_by in
    let long = plans_long (g.T.Setter.means c.args.setter.now c.args.format TAG).IsPlanBy c.args.graphs.now c.args.plans.now c.requires.plans in
    let below : c.loop-index.index < length c.args.graphs.now = omega arith in
    let grown = verbs_more f c.args.graphs.now c.args.plans.now c.loop-index.index c.index-graphs-index.result c.index-plans-index.result below long in
    let graph-is : c.index-graphs-index.result ≡ get_or c.args.graphs.now c.loop-index.index c.index-graphs-index.result = c.index-graphs-index.is in
    let plan-is : c.index-plans-index.result ≡ get_or c.args.plans.now c.loop-index.index c.index-plans-index.result = c.index-plans-index.is in
    let verbs-are : c.in_ok-verbs.verbs.items ≡ f c.index-graphs-index.result c.index-plans-index.result = c.in_ok-verbs.ensures.value in
    let one : c.in_ok-verbs.verbs.items ≡ f (get_or c.args.graphs.now c.loop-index.index c.index-graphs-index.result) (get_or c.args.plans.now c.loop-index.index c.index-plans-index.result) =
    verbs-are ∙ (ap (λ (graph : RawCodec). f graph c.index-plans-index.result) graph-is
    ∙ ap (λ (plan : Plan). f (get_or c.args.graphs.now c.loop-index.index c.index-graphs-index.result) plan) plan-is) in
    let given : c.deref.result.now ≡ c.in_ok-verbs.verbs.items = c.deref.ensures.value in
    let extended : c.extend_from_slice.new.self.items ≡ c.loop-index.all.items ++ c.deref.result.now = c.in_ok-extend_from_slice.ensures.items in
    let here : c.extend_from_slice.new.self.items ≡ verbs_for f (take (c.loop-index.index + 1) c.args.graphs.now) (take (c.loop-index.index + 1) c.args.plans.now) =
    rw add-one (extended ∙ ap (λ (list : List Command). c.loop-index.all.items ++ list) (given ∙ one)
    ∙ ap (λ (list : List Command). list ++ f (get_or c.args.graphs.now c.loop-index.index c.index-graphs-index.result) (get_or c.args.plans.now c.loop-index.index c.index-plans-index.result)) c.loop-index.invariant.value
    ∙ sym grown) in
    record {
      in_range = subst (λ (verbs : List Command). All IsInRange verbs) (sym extended)
          (All-append IsInRange c.loop-index.all.items c.deref.result.now c.loop-index.invariant.in_range (subst (λ (verbs : List Command). All IsInRange verbs) (sym given) c.in_ok-verbs.ensures.in_range));
      value = here;
    }

pub returns-clause-value : goal.returns-clause-value
returns-clause-value g c =
    let f = (g.T.Setter.means c.args.setter.now c.args.format TAG).verbs_by in
    let long = plans_long (g.T.Setter.means c.args.setter.now c.args.format TAG).IsPlanBy c.args.graphs.now c.args.plans.now c.requires.plans in
    c.loop-index.invariant.value ∙ (ap (λ (graphs : List RawCodec). verbs_for f graphs (take c.loop-index.index c.args.plans.now)) (take_all c.loop-index.index c.args.graphs.now (omega arith))
    ∙ ap (λ (plans : List Plan). verbs_for f c.args.graphs.now plans) (take_all c.loop-index.index c.args.plans.now (omega (arith, long))))
