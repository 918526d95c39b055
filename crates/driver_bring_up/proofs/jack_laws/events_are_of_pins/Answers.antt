use Rattle.driver_bring_up.proofs.OfPins.{all_are}
use Rattle.driver_bring_up.proofs.jack_laws.events_are_of_pins.Goals as goal

pub returns : goal.returns
returns c = all_are
