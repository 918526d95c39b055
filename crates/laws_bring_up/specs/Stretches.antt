-- A stretch of a driver as it is told: what it is to find, and how it goes between two of them, at its beginning, and
-- once its accesses were made. This project's own, over High Definition Audio 1.0a, 4.3.
use Rattle.std.specs.Prelude.{◌≡◌, true, false, List, [], ◌∷◌, Option, None, Some}
use Rattle.std.specs.Option.{is_some}
use Rattle.verb_codes.specs.Words.{has_bit}
use Rattle.hda_world.specs.Worlds.{World}
use Rattle.hda_world.specs.Events.{Event, Stepped, Begin, End, Read, Write, DmaRead, DmaWrite, happens}
use Rattle.hda_world.specs.Tellings.{Telling}
use Rattle.driver_progress.specs.declared.phase.Phase.{Phase}
use Rattle.driver_progress.specs.declared.phase.Phase.TheVariants.{Reset, Settling}
use Rattle.driver_progress.specs.Tasks.{Task, DriverLine}
use Rattle.driver_progress.specs.States.{State}
use Rattle.driver_progress.specs.Seen.{Seen, clock_of}
use Rattle.driver_progress.specs.Expected.{has_settled, rings_seen}
use Rattle.driver_progress.specs.Next.{next, finds_none}
use Rattle.driver_progress.specs.Progress.{Trail, trail_of, trail_opened, noted, seen_in, Conforms, Fits}

-- ---- what a stretch is to find

-- by phase: GCTL says that the controller is out of reset, and once the codecs had their time, one announced itself and
-- both sizes of the rings are named; from the walk on nothing
abbrev pub FindsIn : Phase → State → Seen → Type 0
FindsIn Reset state seen = has_bit seen.control 0 ≡ true
FindsIn Settling state seen = has_settled state.kept (clock_of seen) ≡ true → is_some (rings_seen seen) ≡ true
FindsIn phase state seen = Unit {0}

-- a stretch of a line finds it, but one for an interrupt that found none; the closing one is to find nothing
abbrev pub FindsBy : Option DriverLine → State → Seen → Type 0
FindsBy None state seen = Unit {0}
FindsBy (Some line) state seen = finds_none line seen ≡ false → FindsIn state.phase state seen

abbrev pub Finds : Trail → Type 0
Finds trail = FindsBy trail.turn trail.state (seen_in trail)

-- where it ends, it has
abbrev pub FindsAt : Trail → Event → Type 0
FindsAt trail End = Finds trail
FindsAt trail (Stepped step) = Unit {0}
FindsAt trail Begin = Unit {0}
FindsAt trail (Read at width value) = Unit {0}
FindsAt trail (Write at width value) = Unit {0}
FindsAt trail (DmaRead at bytes) = Unit {0}
FindsAt trail (DmaWrite at bytes) = Unit {0}

-- wherever one of them ends
abbrev pub FindsAll : Task → List Event → World → Trail → Type 0
FindsAll task [] world trail = Unit {0}
FindsAll task (event ∷ events) world trail = FindsAt trail event
    × FindsAll task events (happens world event) (noted task trail world event)

-- in all that is told, from these lines on
abbrev pub HasFound : Task → (lines : List DriverLine) → Telling → Type 0
HasFound task lines telling = FindsAll task telling.journal telling.start (trail_opened lines)

-- ---- as it is told

-- no stretch is open, each that was made the accesses that were to be made and found what it was to find, and those of
-- these lines are left
pub record IsAtRest (task : Task) (lines left : List DriverLine) (state : State) (telling : Telling) : Type 0 where
  pub conforms : Conforms task telling.journal telling.start (trail_opened lines)
  pub finds : HasFound task lines telling
  pub within : (trail_of task lines telling).within ≡ false
  pub left_is : (trail_of task lines telling).left ≡ left
  pub state_is : (trail_of task lines telling).state ≡ state

-- one is open, of this line or the closing one, and made no access; those of these lines are left after it
pub record IsOpen (task : Task) (lines left : List DriverLine) (turn : Option DriverLine) (state : State)
    (telling : Telling) : Type 0 where
  pub conforms : Conforms task telling.journal telling.start (trail_opened lines)
  pub finds : HasFound task lines telling
  pub within : (trail_of task lines telling).within ≡ true
  pub left_is : (trail_of task lines telling).left ≡ left
  pub turn_is : (trail_of task lines telling).turn ≡ turn
  pub state_is : (trail_of task lines telling).state ≡ state
  pub none_made : (trail_of task lines telling).made ≡ []
  pub unanswered : (trail_of task lines telling).answered ≡ false

-- it made the accesses that were to be made, found what it was to find, and leads to this state
pub record IsDone (task : Task) (lines left : List DriverLine) (state' : State) (telling : Telling) : Type 0 where
  pub conforms : Conforms task telling.journal telling.start (trail_opened lines)
  pub finds : HasFound task lines telling
  pub within : (trail_of task lines telling).within ≡ true
  pub left_is : (trail_of task lines telling).left ≡ left
  pub fits : Fits task (trail_of task lines telling)
  pub found : Finds (trail_of task lines telling)
  pub leads : next task (trail_of task lines telling).state (trail_of task lines telling).turn
      (seen_in (trail_of task lines telling)) ≡ state'
