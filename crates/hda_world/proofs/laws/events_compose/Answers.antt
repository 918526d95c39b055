use Rattle.hda_world.proofs.Telling.{after-append, AreHonest-append}
use Rattle.hda_world.proofs.laws.events_compose.Goals as goal

pub returns : goal.returns
returns c = record { world = after-append; honest = AreHonest-append }
