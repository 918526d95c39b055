use Rattle.std.proofs.Common.{◌≡◌, ◌+◌, List, take, length, get_or, sym, subst, ap, ◌∙◌, arith, add-one}
use Rattle.std.proofs.lemmas.List.{take_all}
use Rattle.route_planner.specs.declared.routes.Plan.{Plan}
use Rattle.codec_walk.specs.Commands.{walk_commands}
use Rattle.hda_files.specs.declared.machine.CodecFile.{CodecFile}
use Rattle.program_captures.specs.Inputs.{capture_means, capture_total}
use Rattle.program_captures.proofs.Counted.{plans_long, plan_at, commands_more}
use Rattle.program_captures.proofs.commands.capture_count.Goals as goal

pub bounds-plans-index : goal.bounds-plans-index
bounds-plans-index c =
    let long = plans_long (capture_means c.args.input.codec c.args.format) c.args.codecs.now c.args.plans.now c.requires.plans in
    omega (arith, long)

pub codec_count-requires : goal.codec_count-requires
codec_count-requires c =
    let means = capture_means c.args.input.codec c.args.format in
    let is = plan_at means c.args.codecs.now c.args.plans.now c.loop-index.index c.index-codecs-index.result c.index-plans-index.result c.requires.plans (omega arith) in
    let with_plan = subst (λ (plan : Plan). means.IsPlanBy (get_or c.args.codecs.now c.loop-index.index c.index-codecs-index.result).graph plan) (sym c.index-plans-index.is) is in
    subst (λ (file : CodecFile). means.IsPlanBy file.graph c.index-plans-index.result) (sym c.index-codecs-index.is) with_plan

pub loop-index-preserved : goal.loop-index-preserved
loop-index-preserved c =
    let means = capture_means c.args.input.codec c.args.format in
    let file = get_or c.args.codecs.now c.loop-index.index c.index-codecs-index.result in
    let more = commands_more means c.args.codecs.now c.args.plans.now c.loop-index.index c.index-codecs-index.result c.index-plans-index.result c.requires.plans (omega arith) in
    let plan-is : c.index-plans-index.result ≡ get_or c.args.plans.now c.loop-index.index c.index-plans-index.result = c.index-plans-index.is in
    let file-is : c.index-codecs-index.result ≡ file = c.index-codecs-index.is in
    let one =
    c.in_ok-count.ensures.value
    ∙ (ap (λ (f : CodecFile). length (walk_commands f.graph) + length (means.verbs_by f.graph c.index-plans-index.result)) file-is
    ∙ ap (λ (plan : Plan). length (walk_commands file.graph) + length (means.verbs_by file.graph plan)) plan-is) in
    record {
      value = rw add-one (omega (arith, c.loop-index.invariant.value, one, more));
      few = omega (arith, c.loop-index.invariant.few, c.in_ok-count.ensures.few);
    }

pub returns : goal.returns
returns c =
    let long = plans_long (capture_means c.args.input.codec c.args.format) c.args.codecs.now c.args.plans.now c.requires.plans in
    c.loop-index.invariant.value
    ∙ (ap (λ (files : List CodecFile). capture_total c.args.input.codec c.args.format files (take c.loop-index.index c.args.plans.now)) (take_all c.loop-index.index c.args.codecs.now (omega arith))
    ∙ ap (λ (plans : List Plan). capture_total c.args.input.codec c.args.format c.args.codecs.now plans) (take_all c.loop-index.index c.args.plans.now (omega (arith, long))))
