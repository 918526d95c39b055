use Rattle.std.proofs.Common.{arith, rules}
use Rattle.route_planner.specs.declared.routes.Hop.{Hop}
use Rattle.route_planner.proofs.LeftLemmas.{kept_more}
use Rattle.route_planner.proofs.left.keep_indexes.Goals as goal

pub loop-hop-preserved : goal.loop-hop-preserved
loop-hop-preserved c =
    let d : Hop = record { nid = 0; index = 0 } in
    record {
      whole = search rules;
      kept = kept_more c.args.lefts.now c.loop-hop.lefts c.args.hops.now c.loop-hop.hop-index d c.from-nid.result c.with.result c.loop-hop-test.true c.from-nid.ensures (omega arith) c.with.ensures c.loop-hop.invariant.kept;
    }
