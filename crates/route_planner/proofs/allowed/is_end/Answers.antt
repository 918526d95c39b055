use Rattle.std.proofs.Common.{◌∙◌, ◌&&◌, sym, ap, None, Some, rules, tests}
use Rattle.std.specs.List.{list_all}
use Rattle.std.proofs.lemmas.Iterator.{YieldsList-from_slice}
use Rattle.std.proofs.lemmas.Iterator.Search.{all_from_yields_List}
use Rattle.route_planner.specs.Search.{carries_alike}
use Rattle.route_planner.proofs.Targets.{is_end-node}
use Rattle.route_planner.proofs.allowed.is_end.Goals as goal

pub returns-then-can_end : goal.returns-then-can_end
returns-then-can_end c =
    let all = all_from_yields_List (carries_alike c.args.pair c.args.nid) _ _ c.all.result c.all.ensures.ran (YieldsList-from_slice c.args.earlier.now cc) (λ x b q k. search (rules, tests)) in
    let can = sym c.can_end.ensures ∙ c.if-can_end.true in
    all ∙ (ap (λ b. b && list_all (carries_alike c.args.pair c.args.nid) c.args.earlier.now) (sym can) ∙ is_end-node c.args.kind c.args.codec.now c.args.format c.args.earlier.now c.args.pair c.args.nid (Some c.in-Some.node.now) c.in-Some.ensures)

pub returns-else-can_end : goal.returns-else-can_end
returns-else-can_end c =
    let can = sym c.can_end.ensures ∙ c.if-can_end.false in
    c.if-can_end.false ∙ (ap (λ b. b && list_all (carries_alike c.args.pair c.args.nid) c.args.earlier.now) (sym can) ∙ is_end-node c.args.kind c.args.codec.now c.args.format c.args.earlier.now c.args.pair c.args.nid (Some c.in-Some.node.now) c.in-Some.ensures)

pub returns-in-None : goal.returns-in-None
returns-in-None c = is_end-node c.args.kind c.args.codec.now c.args.format c.args.earlier.now c.args.pair c.args.nid None c.in-None.ensures
