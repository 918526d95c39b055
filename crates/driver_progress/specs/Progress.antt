-- How far a driver came by a journal, and that it made the accesses that it was to make and no others. This project's
-- own.
use Rattle.std.specs.Prelude.{◌≡◌, ℕ, ◌==◌, Bool, true, false, List, [], ◌∷◌, ◌++◌, length, drop, slice_get, Option}
use Rattle.std.specs.Prelude.{None, if◌then◌else◌}
use Rattle.std.specs.List.{list_any}
use Rattle.hda_registers.specs.declared.places.TheConstants.{CORBWP, RIRBSTS}
use Rattle.command_engine.specs.Entries.{answers_it}
use Rattle.command_engine.specs.Polling.{asked_of}
use Rattle.hda_world.specs.Worlds.{World}
use Rattle.hda_world.specs.Events.{Event, Stepped, Begin, End, Read, Write, DmaRead, DmaWrite, happens}
use Rattle.hda_world.specs.Tellings.{Telling}
use Rattle.driver_progress.specs.Requests.{requests_of}
use Rattle.driver_progress.specs.Tasks.{Task, DriverLine}
use Rattle.driver_progress.specs.Seen.{Seen, seen_by, values_of}
use Rattle.driver_progress.specs.States.{State, state_opened}
use Rattle.driver_progress.specs.Next.{next, expected}

pub record Trail : Type 0 where
  pub state : State
  -- whether a stretch is open, and which: one of a driver line, or the closing one
  pub within : Bool
  pub turn : Option DriverLine
  -- the lines whose stretches did not begin
  pub left : List DriverLine
  -- the accesses since it began
  pub made : List Event
  -- how many responses were written to RIRB when CORBWP was written last
  pub written : ℕ
  -- whether the outstanding command was answered when RIRBSTS was read
  pub answered : Bool

-- before these lines
abbrev pub trail_opened : List DriverLine → Trail
trail_opened lines =
    record { state = state_opened; within = false; turn = None; left = lines; made = []; written = 0; answered = false }

-- whether since the last submission a response to the outstanding command was written: one of the codec that is asked
-- that did not come unasked
abbrev pub is_answered : Trail → World → Bool
is_answered trail world = list_any (answers_it (asked_of trail.state.rings.outstanding))
    (drop trail.written world.written)

abbrev pub seen_in : Trail → Seen
seen_in trail = seen_by (values_of trail.made) trail.answered

-- a stretch begins, of the next line or the closing one
abbrev pub begun : Trail → Trail
begun trail =
    record trail { within = true; turn = slice_get trail.left 0; left = drop 1 trail.left; made = []; answered = false }

abbrev pub ended : Task → Trail → Trail
ended task trail = record trail { state = next task trail.state trail.turn (seen_in trail); within = false }

-- an access was made
abbrev pub with_access : Trail → Event → Trail
with_access trail event = record trail { made = trail.made ++ event ∷ [] }

-- the trail after an event of a world. Steps of the device leave it
abbrev pub noted : Task → Trail → World → Event → Trail
noted task trail world (Stepped step) = trail
noted task trail world Begin = begun trail
noted task trail world End = ended task trail
noted task trail world (Read at width value) =
    record (with_access trail (Read at width value)) {
      answered = if at == RIRBSTS then is_answered trail world else trail.answered;
    }
noted task trail world (Write at width value) =
    record (with_access trail (Write at width value)) {
      written = if at == CORBWP then length world.written else trail.written;
    }
noted task trail world (DmaRead at bytes) = with_access trail (DmaRead at bytes)
noted task trail world (DmaWrite at bytes) = with_access trail (DmaWrite at bytes)

-- and after some events in order
abbrev pub trail_after : Task → List Event → World → Trail → Trail
trail_after task [] world trail = trail
trail_after task (event ∷ events) world trail = trail_after task events (happens world event)
    (noted task trail world event)

-- the accesses of a stretch are those that were to be made in it
abbrev pub Fits : Task → Trail → Type 0
Fits task trail = requests_of trail.made ≡ expected task trail.state trail.turn (seen_in trail)

-- where a stretch ends they are
abbrev pub FitsAt : Task → Trail → Event → Type 0
FitsAt task trail End = Fits task trail
FitsAt task trail (Stepped step) = Unit {0}
FitsAt task trail Begin = Unit {0}
FitsAt task trail (Read at width value) = Unit {0}
FitsAt task trail (Write at width value) = Unit {0}
FitsAt task trail (DmaRead at bytes) = Unit {0}
FitsAt task trail (DmaWrite at bytes) = Unit {0}

-- wherever one of them ends
abbrev pub Conforms : Task → List Event → World → Trail → Type 0
Conforms task [] world trail = Unit {0}
Conforms task (event ∷ events) world trail =
    FitsAt task trail event × Conforms task events (happens world event) (noted task trail world event)

-- ---- of what is told, from these lines on

abbrev pub trail_of : Task → List DriverLine → Telling → Trail
trail_of task lines telling = trail_after task telling.journal telling.start (trail_opened lines)

-- a stretch that is still open counts as one that ends with the journal
abbrev pub ended_last : Task → Trail → Trail
ended_last task trail = if trail.within then ended task trail else trail

abbrev pub FitsLast : Task → Trail → Type 0
FitsLast task trail = trail.within ≡ true → Fits task trail

abbrev pub state_of : Task → List DriverLine → Telling → State
state_of task lines telling = (ended_last task (trail_of task lines telling)).state

-- in each stretch just those accesses were made that were to be made; accesses outside of stretches are not looked at,
-- and two closing stretches are none of a driver's
pub record IsProgress (task : Task) (lines : List DriverLine) (telling : Telling) : Type 0 where
  pub conforms : Conforms task telling.journal telling.start (trail_opened lines)
  pub last : FitsLast task (trail_of task lines telling)
