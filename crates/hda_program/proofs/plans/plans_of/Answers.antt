use Rattle.std.proofs.Common.{arith}
use Rattle.std.proofs.lemmas.List.{take_more}
use Rattle.std.proofs.lemmas.Slice.Zip.{all_zipped_more}
use Rattle.hda_files.specs.declared.machine.CodecFile.{CodecFile}
use Rattle.route_planner.specs.declared.routes.Plan.{Plan}
use Rattle.route_planner.specs.Plans.{IsPlanAs}
use Rattle.hda_program.proofs.plans.plans_of.Goals as goal

pub loop-codec-preserved : goal.loop-codec-preserved
loop-codec-preserved c =
    let more = all_zipped_more (λ (file : CodecFile) (plan : Plan). IsPlanAs c.args.kind file.graph c.args.format plan) _ _ c.codec-item.result c.in_ok-plan_as.field-0 c.loop-codec.invariant c.in_ok-plan_as.ensures.plan in
    let turn = take_more c.args.codecs.now c.loop-codec.codec-index c.codec-item.result (omega arith) in
    rw (c.in_ok-push.ensures.items, turn, ← c.codec-item.is) more
