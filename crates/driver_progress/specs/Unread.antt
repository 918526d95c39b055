-- Which events are accesses, and which of them look for no answer. This project's own.
use Rattle.std.specs.Prelude.{◌≡◌, ◌==◌, false, List, [], ◌∷◌}
use Rattle.hda_registers.specs.declared.places.TheConstants.{RIRBSTS}
use Rattle.hda_world.specs.Events.{Event, Stepped, Begin, End, Read, Write, DmaRead, DmaWrite}

-- an access of any kind
abbrev pub IsAccess : Event → Type 0
IsAccess (Stepped step) = ⊥
IsAccess Begin = ⊥
IsAccess End = ⊥
IsAccess (Read at width value) = Unit {0}
IsAccess (Write at width value) = Unit {0}
IsAccess (DmaRead at bytes) = Unit {0}
IsAccess (DmaWrite at bytes) = Unit {0}

abbrev pub AreAccesses : List Event → Type 0
AreAccesses [] = Unit {0}
AreAccesses (event ∷ events) = IsAccess event × AreAccesses events

-- an access that reads neither RIRBSTS nor the memory
abbrev pub IsUnread : Event → Type 0
IsUnread (Stepped step) = ⊥
IsUnread Begin = ⊥
IsUnread End = ⊥
IsUnread (Read at width value) = (at == RIRBSTS) ≡ false
IsUnread (Write at width value) = Unit {0}
IsUnread (DmaRead at bytes) = ⊥
IsUnread (DmaWrite at bytes) = Unit {0}

abbrev pub AreUnread : List Event → Type 0
AreUnread [] = Unit {0}
AreUnread (event ∷ events) = IsUnread event × AreUnread events
