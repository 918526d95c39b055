use Rattle.codec_picture.specs.Codecs.{route_lines}
use Rattle.codec_picture.proofs.RepeatLemmas.{numbered_step}
use Rattle.codec_picture.proofs.routes.push_routes.Goals as goal

pub loop-number-preserved : goal.loop-number-preserved
loop-number-preserved c =
    numbered_step (route_lines c.args.codec.now c.args.top) c.loop-number.number c.args.pins.now c.loop-number.number c.index-pins-number.result _ _ _
    c.loop-number-test.true c.index-pins-number.is c.loop-number.invariant c.in_ok-push_route.ensures
