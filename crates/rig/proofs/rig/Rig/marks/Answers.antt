use Rattle.std.proofs.Common.{◌∙◌}
use Rattle.hda_world.specs.Worlds.{World}
use Rattle.hda_world.specs.Tellings.{world_of}
use Rattle.rig.specs.Rigs.{telling_of}
use Rattle.rig.proofs.Where.{marks_there}
use Rattle.rig.proofs.Listed.{candidate_listed, list_marked}
use Rattle.rig.proofs.rig.Rig.marks.Goals as goal

pub marks-requires : goal.marks-requires
marks-requires c =
    let recording = c.args.self.now.recording in
    candidate_listed recording.kind recording.machine.codecs c.args.codec c.args.pin recording.heard recording.pins c.requires

pub returns : goal.returns
returns c =
    let recording = c.args.self.now.recording in
    let world : World = world_of (telling_of c.args.self.now) in
    c.in_ok-marks.ensures ∙ list_marked recording.kind c.args.codec c.args.pin world.commands world.carried recording.heard (marks_there recording.stands)
    (candidate_listed recording.kind recording.machine.codecs c.args.codec c.args.pin recording.heard recording.pins c.requires)
