use Rattle.std.proofs.Common.{◌∙◌, sym}
use Rattle.std.proofs.lemmas.Bool.{and_parts}
use Rattle.route_planner.specs.Inputs.{is_input_candidate}
use Rattle.route_planner.specs.FoundInputs.{is_earlier}
use Rattle.route_planner.proofs.FirstInputs.{first_not_tried, first_tried}
use Rattle.route_planner.proofs.inputs.first_with.Goals as goal

pub returns-then-not-can_be_first : goal.returns-then-not-can_be_first
returns-then-not-can_be_first c =
    first_not_tried c.args.codec.now c.args.format c.args.pin c.args.first (sym c.can_be_first.ensures ∙ c.if-not-can_be_first.true) c.requires.below

pub returns : goal.returns
returns c =
    let both = and_parts (is_input_candidate c.args.codec.now c.args.pin) (is_earlier c.args.codec.now c.args.pin c.args.first) (sym c.can_be_first.ensures ∙ c.if-not-can_be_first.false) in
    first_tried c.args.codec.now c.args.format c.args.pin c.args.first c.entry_or.result c.in_ok-found.found both.0 both.1 c.in_ok-found.ensures c.entry_or.ensures c.requires.below
