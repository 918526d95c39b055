use Rattle.std.proofs.Common.{sym, ◌∙◌}
use Rattle.rig.proofs.Where.{came_there}
use Rattle.rig.proofs.rig.Rig.taken.Goals as goal

pub returns : goal.returns
returns c = c.as_slice.ensures.value ∙ sym (came_there c.args.self.now.recording.stands)
