use Rattle.std.proofs.Common.{◌∙◌, sym}
use Rattle.route_planner.specs.declared.direction.Direction.TheVariants.{In}
use Rattle.route_planner.specs.Search.{is_inner_at, target, is_pin_end}
use Rattle.route_planner.proofs.InputPaths.{AreFree, least_from_way, no_path_from_way, no_path_from_begin}
use Rattle.route_planner.proofs.Least.{nearest_at_0, least_to_end}
use Rattle.route_planner.proofs.inputs.least_from.Goals as goal

pub returns-then-not-is_begin : goal.returns-then-not-is_begin
returns-then-not-is_begin c =
    no_path_from_begin c.args.codec.now c.args.format c.args.pin c.args.converter (sym c.is_begin.ensures ∙ c.if-not-is_begin.true)

pub returns-in_default : goal.returns-in_default
returns-in_default c =
    let are : AreFree c.lefts_of-lefts.result = record { free = c.lefts_of-lefts.ensures } in
    no_path_from_way c.args.codec.now c.args.format c.lefts_of-lefts.result c.args.pin c.args.converter c.requires.bounded are (c.in_default.ensures (is_pin_end c.args.pin) c.pin_levels-levels.ensures)

pub walk-requires-clause-nearest : goal.walk-requires-clause-nearest
walk-requires-clause-nearest c =
    let end = is_pin_end c.args.pin in
    nearest_at_0 (is_inner_at c.args.codec.now) (target In c.args.codec.now c.lefts_of-lefts.result) end c.nearest_level.new.levels c.args.converter c.in-Some.level (c.in-Some.ensures end c.pin_levels-levels.ensures)

pub returns : goal.returns
returns c =
    let inner = is_inner_at c.args.codec.now in
    let next = target In c.args.codec.now c.lefts_of-lefts.result in
    let end = is_pin_end c.args.pin in
    let are : AreFree c.lefts_of-lefts.result = record { free = c.lefts_of-lefts.ensures } in
    let way = c.in_ok-hops.field-0 in
    least_from_way c.args.codec.now c.args.format c.lefts_of-lefts.result c.args.pin c.args.converter way c.requires.bounded are c.requires.candidate (sym c.is_begin.ensures ∙ c.if-not-is_begin.false) (least_to_end inner next end c.nearest_level.new.levels c.args.converter c.in-Some.level way (c.in-Some.ensures end c.pin_levels-levels.ensures) c.in_ok-hops.ensures)
