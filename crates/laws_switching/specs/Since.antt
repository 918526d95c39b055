-- The part of a journal in which a driver switches: from the beginning of the first line's stretch on that begins at
-- `Ready`. This project's own.
use Rattle.std.specs.Prelude.{Bool, false, List, [], ◌∷◌, if◌then◌else◌}
use Rattle.hda_world.specs.Worlds.{World}
use Rattle.hda_world.specs.Events.{Event, Stepped, Begin, End, Read, Write, DmaRead, DmaWrite, happens}
use Rattle.hda_world.specs.Tellings.{Telling}
use Rattle.driver_progress.specs.Tasks.{Task, DriverLine}
use Rattle.driver_progress.specs.Progress.{Trail, trail_opened, noted}
use Rattle.driver_rules.specs.Onward.{is_turn}

-- whether the stretch of a line begins at `Ready` with an event
abbrev pub turns_at : Trail → Event → Bool
turns_at trail Begin = is_turn trail
turns_at trail (Stepped step) = false
turns_at trail End = false
turns_at trail (Read at width value) = false
turns_at trail (Write at width value) = false
turns_at trail (DmaRead at bytes) = false
turns_at trail (DmaWrite at bytes) = false

-- of some events the first at which one does, and all later ones
abbrev pub since_turn : Task → List Event → World → Trail → List Event
since_turn task [] world trail = []
since_turn task (event ∷ events) world trail =
    if turns_at trail event
    then event ∷ events
    else since_turn task events (happens world event) (noted task trail world event)

-- of what is told, from these lines on
abbrev pub since_ready : Task → (lines : List DriverLine) → Telling → List Event
since_ready task lines telling = since_turn task telling.journal telling.start (trail_opened lines)
