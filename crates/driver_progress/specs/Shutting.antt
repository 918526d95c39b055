-- The accesses of the end. High Definition Audio 1.0a, 3.3.22, 3.3.29 and 3.3.7.
use Rattle.std.specs.Prelude.{List, [], ◌∷◌}
use Rattle.hda_registers.specs.declared.shapes.Width.TheVariants.{One, Four}
use Rattle.hda_registers.specs.declared.places.TheConstants.{GCTL, CORBCTL, RIRBCTL}
use Rattle.hda_world.specs.Events.{Event, Write}

abbrev pub shut_accesses : List Event
shut_accesses = Write CORBCTL One 0 ∷ Write RIRBCTL One 0 ∷ Write GCTL Four 0 ∷ []
