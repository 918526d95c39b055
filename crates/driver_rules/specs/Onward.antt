-- How far a driver came by a journal that goes by rules of its own once its codecs are set up, and that it made the
-- accesses that it was to make and no others. Up to `Ready` it is progress' own. This project's own.
use Rattle.std.specs.Prelude.{◌≡◌, ◌==◌, ◌&&◌, ℕ, Bool, true, false, List, [], ◌∷◌, drop, slice_get, Option, None, Some}
use Rattle.std.specs.Prelude.{if◌then◌else◌}
use Rattle.std.specs.Option.{is_some}
use Rattle.hda_registers.specs.declared.places.TheConstants.{RIRBSTS}
use Rattle.hda_world.specs.Worlds.{World}
use Rattle.hda_world.specs.Events.{Event, Stepped, Begin, End, Read, Write, DmaRead, DmaWrite, happens}
use Rattle.hda_world.specs.Tellings.{Telling}
use Rattle.driver_progress.specs.Phases.{is_ready}
use Rattle.driver_progress.specs.Requests.{requests_of}
use Rattle.driver_progress.specs.Tasks.{Task, DriverLine}
use Rattle.driver_progress.specs.Answers.{has_answer}
use Rattle.driver_progress.specs.Progress.{Trail, trail_opened, noted, Fits}
use Rattle.driver_rules.specs.Findings.{findings_of}
use Rattle.driver_rules.specs.Rules.{Rules}

-- progress' trail, of a task that plays nothing, and beside it what the rules keep, once a line's stretch began in
-- `Ready`. The trail goes on beside the rules: its phase stays `Ready`
pub record Onward (S : Type 0) : Type 0 where
  pub trail : Trail
  pub later : Option S
  -- whether the command that the rules ask was answered when RIRBSTS was read
  pub answered : Bool

-- before these lines
abbrev pub onward_opened : {S : Type 0} → List DriverLine → Onward S
onward_opened lines = record { trail = trail_opened lines; later = None; answered = false }

-- whether the rules begin where a stretch begins now: it is one of a line, in `Ready`
abbrev pub is_turn : Trail → Bool
is_turn trail = is_ready trail.state.phase && is_some (slice_get trail.left 0)

module _ {S : Type 0} (rules : Rules S) where
  abbrev pub begun_if : (turns : Bool) → Trail → Option S
  begun_if true trail = Some (rules.begin trail.state.rings)
  begun_if false trail = None

  -- what they keep where a stretch begins, and where one ends that made these accesses
  abbrev pub later_begun : Trail → Option S → Option S
  later_begun trail None = begun_if (is_turn trail) trail
  later_begun trail (Some later) = Some later

  abbrev pub later_ended : Option DriverLine → (made : List Event) → (answered : Bool) → Option S → Option S
  later_ended turn made answered None = None
  later_ended turn made answered (Some later) = Some (rules.next later turn (findings_of made answered))

  -- the codec that they ask
  abbrev pub asked_by : Option S → Option ℕ
  asked_by None = None
  asked_by (Some later) = rules.asked later

  -- whether a response of it, that did not come unasked, was written since the last write of CORBWP
  abbrev pub is_answered_in : Onward S → World → Bool
  is_answered_in onward world = has_answer (asked_by onward.later) (drop onward.trail.written world.written)

  -- after an event of a world. Steps of the device leave it
  abbrev pub onward_noted : Task → Onward S → World → Event → Onward S
  onward_noted task onward world (Stepped step) = onward
  onward_noted task onward world Begin = record {
    trail = noted task onward.trail world Begin;
    later = later_begun onward.trail onward.later;
    answered = false;
  }
  onward_noted task onward world End = record {
    trail = noted task onward.trail world End;
    later = later_ended onward.trail.turn onward.trail.made onward.answered onward.later;
    answered = onward.answered;
  }
  onward_noted task onward world (Read at width value) = record {
    trail = noted task onward.trail world (Read at width value);
    later = onward.later;
    answered = if at == RIRBSTS then is_answered_in onward world else onward.answered;
  }
  onward_noted task onward world (Write at width value) =
      record onward { trail = noted task onward.trail world (Write at width value) }
  onward_noted task onward world (DmaRead at bytes) =
      record onward { trail = noted task onward.trail world (DmaRead at bytes) }
  onward_noted task onward world (DmaWrite at bytes) =
      record onward { trail = noted task onward.trail world (DmaWrite at bytes) }

  abbrev pub onward_after : Task → List Event → World → Onward S → Onward S
  onward_after task [] world onward = onward
  onward_after task (event ∷ events) world onward =
      onward_after task events (happens world event) (onward_noted task onward world event)

  -- the accesses of a stretch are those that were to be made
  abbrev pub FitsBy : Task → Trail → (answered : Bool) → Option S → Type 0
  FitsBy task trail answered None = Fits task trail
  FitsBy task trail answered (Some later) =
      requests_of trail.made ≡ rules.expected later trail.turn (findings_of trail.made answered)

  -- where a stretch ends they are
  abbrev pub FitsOnwardAt : Task → Onward S → Event → Type 0
  FitsOnwardAt task onward End = FitsBy task onward.trail onward.answered onward.later
  FitsOnwardAt task onward (Stepped step) = Unit {0}
  FitsOnwardAt task onward Begin = Unit {0}
  FitsOnwardAt task onward (Read at width value) = Unit {0}
  FitsOnwardAt task onward (Write at width value) = Unit {0}
  FitsOnwardAt task onward (DmaRead at bytes) = Unit {0}
  FitsOnwardAt task onward (DmaWrite at bytes) = Unit {0}

  abbrev pub ConformsOnward : Task → List Event → World → Onward S → Type 0
  ConformsOnward task [] world onward = Unit {0}
  ConformsOnward task (event ∷ events) world onward =
      FitsOnwardAt task onward event
      × ConformsOnward task events (happens world event) (onward_noted task onward world event)

  -- ---- of what is told, from these lines on

  abbrev pub onward_of : Task → List DriverLine → Telling → Onward S
  onward_of task lines telling = onward_after task telling.journal telling.start (onward_opened lines)

  -- a stretch that is still open counts as one that ends with the journal
  abbrev pub later_last : Onward S → Option S
  later_last onward =
      if onward.trail.within
      then later_ended onward.trail.turn onward.trail.made onward.answered onward.later
      else onward.later

  abbrev pub later_of : Task → List DriverLine → Telling → Option S
  later_of task lines telling = later_last (onward_of task lines telling)

  abbrev pub FitsOnwardLast : Task → Onward S → Type 0
  FitsOnwardLast task onward = onward.trail.within ≡ true → FitsBy task onward.trail onward.answered onward.later

  -- in each stretch just those accesses were made that were to be made
  pub record IsOnward (task : Task) (lines : List DriverLine) (telling : Telling) : Type 0 where
    pub conforms : ConformsOnward task telling.journal telling.start (onward_opened lines)
    pub last : FitsOnwardLast task (onward_of task lines telling)

  -- ---- between two stretches, and in one (the twins of what laws_bring_up says of progress)

  pub record IsAtOnwardRest (task : Task) (lines left : List DriverLine) (later : Option S) (telling : Telling) : Type 0
    where
      pub conforms : ConformsOnward task telling.journal telling.start (onward_opened lines)
      pub within : (onward_of task lines telling).trail.within ≡ false
      pub left_is : (onward_of task lines telling).trail.left ≡ left
      pub later_is : (onward_of task lines telling).later ≡ later

  pub record IsOnwardOpen (task : Task) (lines left : List DriverLine) (turn : Option DriverLine) (later : Option S)
      (made : List Event) (telling : Telling) : Type 0 where
    pub conforms : ConformsOnward task telling.journal telling.start (onward_opened lines)
    pub within : (onward_of task lines telling).trail.within ≡ true
    pub left_is : (onward_of task lines telling).trail.left ≡ left
    pub turn_is : (onward_of task lines telling).trail.turn ≡ turn
    pub made_is : (onward_of task lines telling).trail.made ≡ made
    pub later_is : (onward_of task lines telling).later ≡ later

  -- a stretch by the rules, of these accesses, in which the command that is asked was answered or not
  pub record IsRuleStretch (later : S) (turn : Option DriverLine) (made : List Event) (answered : Bool) (later' : S)
      : Type 0 where
    pub fits : requests_of made ≡ rules.expected later turn (findings_of made answered)
    pub leads : later' ≡ rules.next later turn (findings_of made answered)

-- an event is no beginning of a stretch
abbrev pub IsNoBegin : Event → Type 0
IsNoBegin Begin = ⊥
IsNoBegin (Stepped step) = Unit {0}
IsNoBegin End = Unit {0}
IsNoBegin (Read at width value) = Unit {0}
IsNoBegin (Write at width value) = Unit {0}
IsNoBegin (DmaRead at bytes) = Unit {0}
IsNoBegin (DmaWrite at bytes) = Unit {0}
