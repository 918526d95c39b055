use Rattle.std.proofs.Common.{◌≡◌, sym, subst, arith}
use Rattle.std.specs.Option.{option_to_list}
use Rattle.std.proofs.lemmas.Result.{IfOk-weaker}
use Rattle.codec_graph.specs.declared.raw.RawCodec.{RawCodec}
use Rattle.codec_graph.specs.Cycles.{HasSoundTables}
use Rattle.route_planner.specs.Inputs.{IsInputPlan, IsOnlyInputPlan}
use Rattle.route_planner.proofs.Bounds.{IsBounded-from_sound}
use Rattle.route_planner.proofs.FirstInputs.{plan_from_first}
use Rattle.route_planner.proofs.OnlyInput.{only_input_plan}
use Rattle.route_planner.proofs.inputs.input_plan.Goals as goal

pub first_input-requires : goal.first_input-requires
first_input-requires c = IsBounded-from_sound c.raw.result.now (subst (λ (codec : RawCodec). HasSoundTables codec) (sym c.raw.ensures.value) c.raw.ensures.well_formed.tables)

pub returns-clause-plan : goal.returns-clause-plan
returns-clause-plan c =
    IfOk-weaker c.plan_of.result (λ plan. plan.pins ≡ option_to_list c.in_ok-first.first) (IsInputPlan c.args.graph.now c.args.format) (plan_from_first c.raw.result.now c.args.graph.now c.args.format 128 c.in_ok-first.first c.raw.ensures.value c.raw.ensures.well_formed.tables (omega arith) c.in_ok-first.ensures) c.plan_of.ensures

pub returns-clause-only : goal.returns-clause-only
returns-clause-only c =
    IfOk-weaker c.plan_of.result (IsInputPlan c.args.graph.now c.args.format) (IsOnlyInputPlan c.args.graph.now c.args.format) (only_input_plan c.args.graph.now c.args.format) (returns-clause-plan c)
