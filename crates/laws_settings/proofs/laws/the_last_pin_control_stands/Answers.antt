use Rattle.laws_settings.proofs.LastControl.{last_stands}
use Rattle.laws_settings.proofs.laws.the_last_pin_control_stands.Goals as goal

pub returns : goal.returns
returns c = last_stands
