use Rattle.route_planner.specs.declared.direction.Direction.TheVariants.{Out}
use Rattle.route_planner.specs.Search.{is_inner_at, target, is_end}
use Rattle.route_planner.proofs.Compatible.{AreLefts}
use Rattle.route_planner.proofs.Least.{nearest_at_0, least_to_end, least_open_from_way, no_open_path_from_none}
use Rattle.route_planner.proofs.planner.least_open.Goals as goal

pub walk-requires-clause-nearest : goal.walk-requires-clause-nearest
walk-requires-clause-nearest c =
    let end = is_end c.args.kind c.args.codec.now c.args.format c.args.earlier.now c.args.pair in
    nearest_at_0 (is_inner_at c.args.codec.now) (target (Out c.args.kind) c.args.codec.now c.lefts_of-lefts.result) end c.nearest_level.new.levels c.args.pin c.in-Some.level (c.in-Some.ensures end c.end_levels-levels.ensures)

pub returns : goal.returns
returns c =
    let inner = is_inner_at c.args.codec.now in
    let next = target (Out c.args.kind) c.args.codec.now c.lefts_of-lefts.result in
    let end = is_end c.args.kind c.args.codec.now c.args.format c.args.earlier.now c.args.pair in
    let are : AreLefts c.lefts_of-lefts.result c.args.earlier.now = record { right = c.lefts_of-lefts.ensures } in
    let way = c.in_ok-hops.field-0 in
    least_open_from_way c.args.kind c.args.codec.now c.args.format c.lefts_of-lefts.result c.args.earlier.now c.args.pair c.args.pin way c.requires are (least_to_end inner next end c.nearest_level.new.levels c.args.pin c.in-Some.level way (c.in-Some.ensures end c.end_levels-levels.ensures) c.in_ok-hops.ensures)

pub returns-in_default : goal.returns-in_default
returns-in_default c =
    let end = is_end c.args.kind c.args.codec.now c.args.format c.args.earlier.now c.args.pair in
    let are : AreLefts c.lefts_of-lefts.result c.args.earlier.now = record { right = c.lefts_of-lefts.ensures } in
    no_open_path_from_none c.args.kind c.args.codec.now c.args.format c.lefts_of-lefts.result c.args.earlier.now c.args.pair c.args.pin c.requires are (c.in_default.ensures end c.end_levels-levels.ensures)
