use Rattle.std.proofs.Common.{◌∙◌, ℕ, List, sym, subst, arith}
use Rattle.route_planner.specs.Search.{is_inner_at, target}
use Rattle.route_planner.specs.Levels.{LeadsNowhere, IsFirstStep, IsNextLevel}
use Rattle.route_planner.proofs.Nearest.{count_far-le, IsAway-ends, IsAway-next, leads_to_no_end, none_from_test}
use Rattle.route_planner.proofs.levels.nearest_level.Goals as goal

pub loop-direction-init : goal.loop-direction-init
loop-direction-init c = record {
  whole = c.told-levels;
  counted = omega (arith, count_far-le c.args.levels.now c.told-levels);
  away = λ end ends. IsAway-ends (is_inner_at c.args.codec.now) (target c.args.direction c.args.codec.now c.args.lefts.now) end c.args.levels.now c.args.from c.told-levels ends;
}

pub returns-then-not-mark_level : goal.returns-then-not-mark_level
returns-then-not-mark_level c = λ end ends.
    let next = target c.args.direction c.args.codec.now c.args.lefts.now in
    let inner = is_inner_at c.args.codec.now in
    let nowhere = none_from_test c.first_step.result (LeadsNowhere (next c.args.from) c.loop-direction.levels c.loop-direction.level) (IsFirstStep (next c.args.from) c.loop-direction.levels c.loop-direction.level) (sym c.is_some.ensures ∙ c.if-is_some.false) c.first_step.ensures in
    let P : List ℕ → Type 0 = λ new. IsNextLevel inner next c.loop-direction.levels new c.loop-direction.level in
    leads_to_no_end inner next end c.loop-direction.levels c.args.from c.loop-direction.level (omega arith) (c.loop-direction.invariant.away end ends) nowhere (subst P c.if-not-mark_level.ensures.same c.mark_level.ensures.marked)

pub loop-direction-preserved : goal.loop-direction-preserved
loop-direction-preserved c =
    let next = target c.args.direction c.args.codec.now c.args.lefts.now in
    let inner = is_inner_at c.args.codec.now in
    let nowhere = none_from_test c.first_step.result (LeadsNowhere (next c.args.from) c.loop-direction.levels c.loop-direction.level) (IsFirstStep (next c.args.from) c.loop-direction.levels c.loop-direction.level) (sym c.is_some.ensures ∙ c.if-is_some.false) c.first_step.ensures in
    let less = c.if-not-mark_level.ensures.fewer in
    record {
      whole = c.mark_level.array_long;
      counted = omega arith;
      away = λ end ends. IsAway-next inner next end c.loop-direction.levels c.mark_level.new.levels c.args.from c.loop-direction.level (omega arith) c.mark_level.array_long (c.loop-direction.invariant.away end ends) nowhere c.mark_level.ensures.marked;
    }
