use Rattle.std.proofs.Common.{◌≡◌, ◌≤◌, List, inr, sym, ap, subst, ◌∙◌, get_or, length, arith, rules}
use Rattle.std.specs.Prelude.{All}
use Rattle.std.specs.Result.{is_ok}
use Rattle.codec_graph.specs.declared.raw.RawCodec.{RawCodec}
use Rattle.std.proofs.lemmas.Result.{on_ok_weaker}
use Rattle.codec_walk.specs.Remaining.{remaining}
use Rattle.driver_agenda.specs.declared.plans.TheConstants.{TAG}
use Rattle.driver_agenda.specs.Agendas.{GoesOn, RoutesNothing}
use Rattle.driver_agenda.proofs.Leading.{all_if, walk_ends}
use Rattle.driver_agenda.proofs.agenda.Agenda.end_walk.Goals as goal

pub invariant_of-self-2-clause-of_them : goal.invariant_of-self-2-clause-of_them
invariant_of-self-2-clause-of_them g c =
    let IsFew = λ (graph : RawCodec). graph.address ≤ 14 in
    let count : c.len.result ≡ length c.args.self.now.graphs.items = search rules in
    let left = c.requires.there in
    let listed : get_or c.args.self.now.addresses.items c.len.result c.index-address.result.now ≤ 14 = c.args.self.now.few c.len.result c.index-address.result.now (omega (arith, count, left)) in
    let address : c.index-address.result.now ≡ get_or c.args.self.now.addresses.items c.len.result c.index-address.result.now = c.index-address.ensures in
    let of_it : c.in_ok-graph.graph.address ≡ c.index-address.result.now = c.in_ok-graph.ensures.of_it in
    let few : IsFew c.in_ok-graph.graph = omega (arith, listed, address, of_it) in
    subst (λ (graphs : List RawCodec). All IsFew graphs) (sym c.push.ensures.items)
    (all_if IsFew (is_ok c.push.result) c.args.self.now.graphs.items c.in_ok-graph.graph c.args.self.now.of_them few)

pub returns-clause-leads : goal.returns-clause-leads
returns-clause-leads g c =
    let means = g.T.Setter.means c.args.setter.now c.args.self.now.format TAG in
    let addresses = c.args.self.now.addresses.items in
    on_ok_weaker c.go_on.result (λ (goes : GoesOn means addresses c.push.new.self.items c.go_on.new.self).
    walk_ends means (remaining c.args.walk) c.in_ok-graph.graph addresses c.args.self.now.graphs.items c.go_on.new.self c.in_ok-graph.ensures.good
    (subst (λ (graphs : List RawCodec). GoesOn means addresses graphs c.go_on.new.self) c.in-Ok.ensures.items goes)) c.go_on.ensures.leads

pub returns-clause-nothing : goal.returns-clause-nothing
returns-clause-nothing g c = λ is.
    let means = g.T.Setter.means c.args.setter.now c.args.self.now.format TAG in
    let routes = c.go_on.ensures.nothing is in
    record {
      graph = c.in_ok-graph.graph;
      gives = c.in_ok-graph.ensures.good;
      last = subst (λ (graphs : List RawCodec). length c.args.self.now.addresses.items ≤ length graphs) c.in-Ok.ensures.items routes.0;
      nothing = subst (λ (graphs : List RawCodec). RoutesNothing means graphs c.go_on.new.self) c.in-Ok.ensures.items routes.1;
    }

pub returns-clause-wanting : goal.returns-clause-wanting
returns-clause-wanting g c = λ is. record {
  graphs = inr (c.in_ok-graph.graph, c.in_ok-graph.ensures.good, ap (λ graphs. graphs.items) c.go_on.ensures.graphs ∙ c.in-Ok.ensures.items);
  plans = c.go_on.ensures.wanting is;
}
