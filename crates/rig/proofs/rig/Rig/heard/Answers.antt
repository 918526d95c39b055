use Rattle.std.proofs.Common.{◌∙◌}
use Rattle.rig.proofs.Where.{heard_there}
use Rattle.rig.proofs.Listed.{candidate_listed, list_heard}
use Rattle.rig.proofs.rig.Rig.heard.Goals as goal

pub of-requires : goal.of-requires
of-requires c =
    let recording = c.args.self.now.recording in
    candidate_listed recording.kind recording.machine.codecs c.args.codec c.args.pin recording.heard recording.pins c.requires

pub returns : goal.returns
returns c =
    let recording = c.args.self.now.recording in
    c.in_ok-items.ensures ∙ list_heard recording.kind c.args.codec c.args.pin _ recording.heard (heard_there recording.stands)
    (candidate_listed recording.kind recording.machine.codecs c.args.codec c.args.pin recording.heard recording.pins c.requires)
