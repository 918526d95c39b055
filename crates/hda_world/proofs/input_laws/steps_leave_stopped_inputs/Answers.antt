use Rattle.hda_world.proofs.Taking.{steps_leave_untaken}
use Rattle.hda_world.proofs.input_laws.steps_leave_stopped_inputs.Goals as goal

pub returns : goal.returns
returns c = steps_leave_untaken
