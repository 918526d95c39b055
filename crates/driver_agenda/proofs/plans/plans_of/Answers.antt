use Rattle.std.proofs.Common.{◌≡◌, ◌+◌, take, get_or, sym, subst, List, [], ◌∷◌, ◌++◌, arith}
use Rattle.std.proofs.lemmas.List.{take_more, take_all}
use Rattle.codec_graph.specs.declared.raw.RawCodec.{RawCodec}
use Rattle.route_planner.specs.declared.routes.Plan.{Plan}
use Rattle.driver_agenda.specs.declared.plans.TheConstants.{TAG}
use Rattle.driver_agenda.specs.Planned.{ArePlansBy}
use Rattle.driver_agenda.proofs.Planning.{plans_push}
use Rattle.driver_agenda.proofs.plans.plans_of.Goals as goal

pub loop-graph-preserved : goal.loop-graph-preserved
loop-graph-preserved g c =
    let means = g.T.Setter.means c.args.setter.now c.args.format TAG in
    let item : c.graph-item.result ≡ get_or c.args.graphs.now c.loop-graph.graph-index c.graph-item.result = c.graph-item.is in
    let grown = take_more c.args.graphs.now c.loop-graph.graph-index c.graph-item.result (omega arith) in
    let one : means.IsPlanBy (get_or c.args.graphs.now c.loop-graph.graph-index c.graph-item.result) c.in_ok-plan.plan =
    subst (λ (graph : RawCodec). means.IsPlanBy graph c.in_ok-plan.plan) item (c.in_ok-plan.ensures TAG) in
    let pushed = plans_push means.IsPlanBy (take c.loop-graph.graph-index c.args.graphs.now) c.loop-graph.plans.items (get_or c.args.graphs.now c.loop-graph.graph-index c.graph-item.result) c.in_ok-plan.plan c.loop-graph.invariant one in
    subst (λ (plans : List Plan). ArePlansBy means.IsPlanBy (take (c.loop-graph.graph-index + 1) c.args.graphs.now) plans) (sym c.in_ok-push.ensures.items)
    (subst (λ (graphs : List RawCodec). ArePlansBy means.IsPlanBy graphs (c.loop-graph.plans.items ++ c.in_ok-plan.plan ∷ [])) (sym grown) pushed)

pub returns : goal.returns
returns g c =
    let means = g.T.Setter.means c.args.setter.now c.args.format TAG in
    subst (λ (graphs : List RawCodec). ArePlansBy means.IsPlanBy graphs c.loop-graph.plans.items) (take_all c.loop-graph.graph-index c.args.graphs.now (omega arith)) c.loop-graph.invariant
