use Rattle.hda_world.proofs.Others.{step_leaves_others, steps_leave_others}
use Rattle.hda_world.proofs.laws.steps_leave_other_codecs.Goals as goal

pub returns : goal.returns
returns c = record { one = step_leaves_others; all = steps_leave_others }
