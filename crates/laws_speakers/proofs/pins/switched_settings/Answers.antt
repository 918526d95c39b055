use Rattle.laws_speakers.proofs.SwitchedPins.{pair_hears, others_hear}
use Rattle.laws_speakers.proofs.pins.switched_settings.Goals as goal

pub returns-clause-pair : goal.returns-clause-pair
returns-clause-pair c = λ is_speaker kind graph settings stream words pin pair well of all heard. pair_hears is_speaker graph kind settings stream words pin all pair well of heard

pub returns-clause-others : goal.returns-clause-others
returns-clause-others c = λ is_speaker kind graph settings stream words pin all none. others_hear is_speaker graph kind settings stream words pin all none
