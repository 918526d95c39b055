use Rattle.laws_speakers.proofs.Agreeing.{signal_same}
use Rattle.laws_speakers.proofs.PinPuts.{set_others, set_off, set_again}
use Rattle.laws_speakers.proofs.pins.pin_controls_are_their_own.Goals as goal

pub returns-clause-others : goal.returns-clause-others
returns-clause-others c = set_others

pub returns-clause-off : goal.returns-clause-off
returns-clause-off c = set_off

pub returns-clause-again : goal.returns-clause-again
returns-clause-again c = set_again

pub returns-clause-settings : goal.returns-clause-settings
returns-clause-settings c = λ kind graph old new stream pin agree enabled. signal_same kind graph old new stream agree pin enabled
