use Rattle.std.proofs.Common.{◌∙◌, sym, arith}
use Rattle.route_planner.specs.Search.{is_end}
use Rattle.route_planner.proofs.Ends.{AreEndsBelow-none, AreEndsBelow-yes, AreEndsBelow-no, AreEndLevels-all}
use Rattle.route_planner.proofs.Targets.{is_end-below}
use Rattle.route_planner.proofs.levels.end_levels.Goals as goal
use Rattle.route_planner.proofs.levels.end_levels.Goals.{then-is_end, else-is_end}

pub loop-nid-init : goal.loop-nid-init
loop-nid-init c = AreEndsBelow-none (is_end c.args.kind c.args.codec.now c.args.format c.args.earlier.now c.args.pair)

pub loop-nid-preserved : goal.loop-nid-preserved
loop-nid-preserved c =
    let end = is_end c.args.kind c.args.codec.now c.args.format c.args.earlier.now c.args.pair in
    elim c.if-is_end.branch [
      | then-is_end w ↦ rw (w.levels-is, w.from.ensures) (AreEndsBelow-yes end c.loop-nid.levels c.loop-nid.nid c.loop-nid.invariant (omega arith) (sym c.is_end.ensures ∙ w.if-is_end.true))
      | else-is_end w ↦ rw (w.levels-is) (AreEndsBelow-no end c.loop-nid.levels c.loop-nid.nid c.loop-nid.invariant (sym c.is_end.ensures ∙ w.if-is_end.false))
    ]

pub returns : goal.returns
returns c =
    let end = is_end c.args.kind c.args.codec.now c.args.format c.args.earlier.now c.args.pair in
    AreEndLevels-all end c.loop-nid.levels c.loop-nid.nid c.loop-nid.invariant (λ other e. omega (arith, is_end-below c.args.kind c.args.codec.now c.args.format c.args.earlier.now c.args.pair other c.requires e))
