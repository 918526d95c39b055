-- Which accesses of a stretch only add to what was made. This project's own.
use Rattle.std.specs.Prelude.{◌≡◌, ◌==◌, false, List, [], ◌∷◌, ◌++◌}
use Rattle.hda_registers.specs.declared.places.TheConstants.{CORBWP, RIRBSTS}
use Rattle.hda_world.specs.Events.{Event, Stepped, Begin, End, Read, Write, DmaRead, DmaWrite}
use Rattle.driver_progress.specs.Progress.{Trail}

-- an access that is neither a read of RIRBSTS nor a write of CORBWP
abbrev pub IsPlain : Event → Type 0
IsPlain (Stepped step) = ⊥
IsPlain Begin = ⊥
IsPlain End = ⊥
IsPlain (Read at width value) = (at == RIRBSTS) ≡ false
IsPlain (Write at width value) = (at == CORBWP) ≡ false
IsPlain (DmaRead at bytes) = Unit {0}
IsPlain (DmaWrite at bytes) = Unit {0}

abbrev pub ArePlain : List Event → Type 0
ArePlain [] = Unit {0}
ArePlain (event ∷ events) = IsPlain event × ArePlain events

-- these accesses were made
abbrev pub with_accesses : Trail → List Event → Trail
with_accesses trail events = record trail { made = trail.made ++ events }
