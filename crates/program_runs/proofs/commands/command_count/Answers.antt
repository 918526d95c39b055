use Rattle.std.proofs.Common.{◌≡◌, ◌+◌, List, take, length, get_or, sym, subst, ap, ◌∙◌, arith, add-one}
use Rattle.std.proofs.lemmas.List.{take_all}
use Rattle.route_planner.specs.declared.routes.Plan.{Plan}
use Rattle.route_planner.specs.Plans.{IsPlanAs}
use Rattle.codec_walk.specs.Commands.{walk_commands}
use Rattle.hda_files.specs.declared.machine.CodecFile.{CodecFile}
use Rattle.program_runs.specs.Outputs.{commands_as, verbs_by_as}
use Rattle.program_runs.proofs.Pushed.{plans_long, plan_at, commands_more}
use Rattle.program_runs.proofs.commands.command_count.Goals as goal

pub bounds-plans-index : goal.bounds-plans-index
bounds-plans-index c =
    let long = plans_long c.args.kind c.args.format c.args.codecs.now c.args.plans.now c.requires.plans in
    omega (arith, long)

pub codec_count-requires : goal.codec_count-requires
codec_count-requires c =
    let is = plan_at c.args.kind c.args.format c.args.codecs.now c.args.plans.now c.loop-index.index c.index-codecs-index.result c.index-plans-index.result c.requires.plans (omega arith) in
    subst (λ (plan : Plan). IsPlanAs c.args.kind (get_or c.args.codecs.now c.loop-index.index c.index-codecs-index.result).graph c.args.format plan) (sym c.index-plans-index.is) is

pub loop-index-preserved : goal.loop-index-preserved
loop-index-preserved c =
    let file = get_or c.args.codecs.now c.loop-index.index c.index-codecs-index.result in
    let more = commands_more c.args.kind c.args.format c.args.codecs.now c.args.plans.now c.loop-index.index c.index-codecs-index.result c.index-plans-index.result c.requires.plans (omega arith) in
    let plan-is : c.index-plans-index.result ≡ get_or c.args.plans.now c.loop-index.index c.index-plans-index.result = c.index-plans-index.is in
    let one = c.in_ok-count.ensures.value ∙ ap (λ (plan : Plan). length (walk_commands file.graph) + length (verbs_by_as c.args.kind c.args.format file.graph plan)) plan-is in
    record {
      value = rw add-one (omega (arith, c.loop-index.invariant.value, one, more));
      few = omega (arith, c.loop-index.invariant.few, c.in_ok-count.ensures.few);
    }

pub returns : goal.returns
returns c =
    let long = plans_long c.args.kind c.args.format c.args.codecs.now c.args.plans.now c.requires.plans in
    c.loop-index.invariant.value
    ∙ (ap (λ (files : List CodecFile). length (commands_as c.args.kind c.args.format files (take c.loop-index.index c.args.plans.now))) (take_all c.loop-index.index c.args.codecs.now (omega arith))
    ∙ ap (λ (plans : List Plan). length (commands_as c.args.kind c.args.format c.args.codecs.now plans)) (take_all c.loop-index.index c.args.plans.now (omega (arith, long))))
