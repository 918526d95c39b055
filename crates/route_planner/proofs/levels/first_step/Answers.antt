use Rattle.std.proofs.Common.{◌≡◌, ◌≢◌, ◌∙◌, sym, ap, ℕ, true, Some, List, get_or, length, below_more, arith}
use Rattle.std.proofs.lemmas.Bool.{false≢true}
use Rattle.route_planner.specs.Search.{target, level_of, left_at, can_leave}
use Rattle.route_planner.proofs.Targets.{target-allowed, target-taken, target-nowhere}
use Rattle.route_planner.proofs.levels.first_step.Goals as goal
use Rattle.route_planner.proofs.levels.first_step.Goals.{else-level_of-level-via-then-level_of-level+else-can_leave, else-level_of-level-via-else-level_of-level}

pub returns-in_err-node : goal.returns-in_err-node
returns-in_err-node c =
    rw c.from_residual.ensures (λ index to taken at. target-nowhere c.args.direction c.args.codec.now c.args.lefts.now c.args.nid index to c.in_err-node.ensures taken)

pub returns-then-can_leave : goal.returns-then-can_leave
returns-then-can_leave c =
    let items = c.as_slice-to-items.ensures in
    let allowed : can_leave c.args.direction c.args.codec.now (left_at c.args.lefts.now c.args.nid) c.loop-index.index c.in_ok-node.node.now ≡ true = rw (← c.from.ensures) (sym c.can_leave.ensures ∙ c.if-can_leave.true) in
    record {
      leads = rw items (target-allowed c.args.direction c.args.codec.now c.args.lefts.now c.args.nid c.loop-index.index c.in_ok-node.node.now c.in_ok-node.ensures allowed (omega (arith, ap length items)));
      arrives = sym c.level_of.ensures ∙ c.if-level_of-level.true;
      first = c.loop-index.invariant;
    }

pub loop-index-preserved : goal.loop-index-preserved
loop-index-preserved c =
    let items = c.as_slice-to-items.ensures in
    below_more (λ index. (to : ℕ) → target c.args.direction c.args.codec.now c.args.lefts.now c.args.nid index ≡ Some to → level_of c.args.levels.now to ≢ c.args.level) c.loop-index.index c.loop-index.invariant (λ to taken at.
    let found = target-taken c.args.direction c.args.codec.now c.args.lefts.now c.args.nid c.loop-index.index to c.in_ok-node.node.now c.in_ok-node.ensures taken in
    let read : get_or c.as_slice-to-items.result.now c.loop-index.index 0 ≡ to = ap (λ (xs : List ℕ). get_or xs c.loop-index.index 0) items ∙ found.2 in
    elim c.else-level_of-level.branch [
      | else-level_of-level-via-then-level_of-level+else-can_leave w ↦ absurd (false≢true (sym w.if-can_leave.false ∙ (w.can_leave.ensures ∙ rw c.from.ensures found.0)))
      | else-level_of-level-via-else-level_of-level w ↦ w.if-level_of-level.false (c.level_of.ensures ∙ (ap (level_of c.args.levels.now) read ∙ at))
    ])

pub returns : goal.returns
returns c = λ index to taken at.
    let found = target-taken c.args.direction c.args.codec.now c.args.lefts.now c.args.nid index to c.in_ok-node.node.now c.in_ok-node.ensures taken in
    c.loop-index.invariant index (omega (arith, found.1, ap length c.as_slice-to-items.ensures)) to taken at
