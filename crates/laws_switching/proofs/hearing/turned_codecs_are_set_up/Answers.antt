use Rattle.laws_switching.proofs.TurnedSetUp.{SetUpLaws, turned_set_up}
use Rattle.laws_switching.proofs.hearing.turned_codecs_are_set_up.Goals as goal

pub returns : goal.returns
returns c = λ format graphs plans world turned well ascend planned.
    let laws : SetUpLaws = record { found = c.codecs_remember.ensures.found; later = c.switched_codecs_are_set_up.ensures.later } in
    turned_set_up laws format graphs plans world turned well ascend planned
