use Rattle.setup_verbs.specs.VerbList.{mixer_input}
use Rattle.setup_verbs.proofs.Lists.{inputs_more}
use Rattle.setup_verbs.proofs.openings.open_inputs.Goals as goal

pub loop-place-preserved : goal.loop-place-preserved
loop-place-preserved c =
    inputs_more c.args.commands.now.items c.loop-place.commands.items c.send_if.new.commands.items c.args.codec.now c.args.nid (mixer_input c.args.codec.now c.args.node.now c.args.index) c.mixer_input-verb.result c.loop-place.place c.loop-place.invariant c.in_ok-send_if.ensures c.mixer_input-verb.ensures
