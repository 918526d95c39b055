-- That a journal is honest in one way alone: what a rig keeps of it is a proposition.
use Rattle.std.specs.Prelude.{List, [], ◌∷◌}
use Rattle.std.specs.Coded.{×_prop, Unit-prop}
use Rattle.std.proofs.Props.{props}
use Rattle.hda_world.specs.Worlds.{World}
use Rattle.hda_world.specs.Events.{Event, Stepped, Begin, End, Read, Write, DmaRead, DmaWrite, happens, IsHonest}
use Rattle.hda_world.specs.Events.{AreHonest}

IsHonest-prop : (world : World) (event : Event) → IsProp (IsHonest world event)
IsHonest-prop world (Read at width value) = Prim.hlevel props
IsHonest-prop world (DmaRead at bytes) = Prim.hlevel props
IsHonest-prop world (DmaWrite at bytes) = Prim.hlevel props
IsHonest-prop world (Stepped step) = Unit-prop
IsHonest-prop world (Write at width value) = Unit-prop
IsHonest-prop world Begin = Unit-prop
IsHonest-prop world End = Unit-prop

pub AreHonest-prop : (events : List Event) (world : World) → IsProp (AreHonest events world)
AreHonest-prop [] world = Unit-prop
AreHonest-prop (event ∷ events) world = ×_prop (IsHonest-prop world event) (AreHonest-prop events (happens world event))
