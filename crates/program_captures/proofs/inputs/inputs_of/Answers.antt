use Rattle.std.proofs.Common.{arith}
use Rattle.std.proofs.lemmas.List.{take_more}
use Rattle.program_captures.proofs.FoundLemmas.{all_below, found_more}
use Rattle.program_captures.proofs.inputs.inputs_of.Goals as goal

pub loop-codec-preserved : goal.loop-codec-preserved
loop-codec-preserved c =
    let test = c.loop-codec-test.true in
    let below = all_below c.args.codecs.now c.loop-codec.codec-index c.codec-item.result c.requires (omega (arith, test)) c.codec-item.is in
    let more = found_more c.args.format _ c.loop-codec.plans.items c.loop-codec.found c.codec-item.result c.in_ok-plan.plan below c.loop-codec.invariant c.in_ok-plan.ensures in
    let turn = take_more c.args.codecs.now c.loop-codec.codec-index c.codec-item.result (omega arith) in
    rw (c.in_ok-push.ensures.items, turn, c.address_with-found.ensures, ← c.codec-item.is) more
