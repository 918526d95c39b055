use Rattle.laws_switching.proofs.Choosing.{choice_tells}
use Rattle.laws_switching.proofs.senses.choices_are_decided.Goals as goal

pub returns : goal.returns
returns c = λ corb rirb graphs plans senses switching rings command word ascend knows pins is reads small.
    choice_tells graphs plans senses switching ascend knows pins corb rirb rings command word is reads small
