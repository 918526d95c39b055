-- That a bring-up keeps to progress, as it is told, and sets its codecs up. This project's own.
use Rattle.std.specs.Prelude.{◌≡◌, false, ℕ, Bool, List, [], map, drop, slice_get, Option, None, Some}
use Rattle.verb_codes.specs.declared.verbs.Command.{Command}
use Rattle.codec_graph.specs.declared.raw.RawCodec.{RawCodec}
use Rattle.codec_graph.specs.Settings.{Entries}
use Rattle.route_planner.specs.declared.routes.Plan.{Plan}
use Rattle.route_setup.specs.Means.{Means}
use Rattle.world_steps.specs.declared.Step.{Step}
use Rattle.hda_world.specs.Events.{Stepped, Begin, End}
use Rattle.hda_world.specs.Tellings.{Telling, world_of, Went, Accessed}
use Rattle.driver_progress.specs.declared.phase.Phase.TheVariants.{Ready}
use Rattle.driver_progress.specs.Tasks.{Task, DriverLine}
use Rattle.driver_progress.specs.States.{state_opened}
use Rattle.driver_progress.specs.Progress as trail
use Rattle.driver_progress.specs.Progress.{trail_of, IsProgress}
use Rattle.driver_bring_up.specs.declared.bringing.BringUp.{BringUp}
use Rattle.driver_bring_up.specs.Calls.{state_of, IsKept, Leads, Ends}
use Rattle.laws_bring_up.specs.Stretches.{HasFound, IsAtRest, IsOpen, IsDone}
use Rattle.laws_bring_up.specs.Standing.{IsBroughtUp, IsEnded}
use Rattle.laws_bring_up.specs.SettingUp.{StaysSetUp, RemainSetUp}

-- between two calls
pub record BringUpGoesOn (means : Means) (verbs : RawCodec → List Command) (graphs : List RawCodec) (task : Task)
    (lines left : List DriverLine) (bring_up : BringUp) (telling : Telling) : Type 0 where
  pub rest : IsAtRest task lines left (state_of bring_up) telling
  pub stands : IsBroughtUp means verbs graphs task (trail_of task lines telling).written bring_up (world_of telling)
  pub set_up : StaysSetUp means graphs task lines telling

-- at the beginning of a stretch
pub record IsCalled (means : Means) (verbs : RawCodec → List Command) (graphs : List RawCodec) (task : Task)
    (lines left : List DriverLine) (turn : Option DriverLine) (bring_up : BringUp) (telling : Telling) : Type 0 where
  pub opened : IsOpen task lines left turn (state_of bring_up) telling
  pub stands : IsBroughtUp means verbs graphs task (trail_of task lines telling).written bring_up (world_of telling)
  pub set_up : StaysSetUp means graphs task lines telling

-- once a call made its accesses
pub record HasMade (means : Means) (verbs : RawCodec → List Command) (graphs : List RawCodec) (task : Task)
    (lines left : List DriverLine) (bring_up : BringUp) (telling : Telling) : Type 0 where
  pub done : IsDone task lines left (state_of bring_up) telling
  pub stands : IsBroughtUp means verbs graphs task (trail_of task lines telling).written bring_up (world_of telling)
  pub set_up : StaysSetUp means graphs task lines telling
  pub remains : RemainSetUp means graphs task lines bring_up telling

-- once the last call did
pub record HasShut (means : Means) (graphs : List RawCodec) (task : Task) (lines left : List DriverLine)
    (bring_up : BringUp) (telling : Telling) : Type 0 where
  pub done : IsDone task lines left (state_of bring_up) telling
  pub ended : IsEnded graphs task bring_up
  pub set_up : StaysSetUp means graphs task lines telling
  pub remains : RemainSetUp means graphs task lines bring_up telling

-- after the last stretch
pub record IsOver (means : Means) (graphs : List RawCodec) (task : Task) (lines : List DriverLine) (bring_up : BringUp)
    (telling : Telling) : Type 0 where
  pub left : List DriverLine
  pub rest : IsAtRest task lines left (state_of bring_up) telling
  pub ended : IsEnded graphs task bring_up
  pub set_up : StaysSetUp means graphs task lines telling

-- all that is then known: the journal is progress and leads to the driver's state, each stretch found what it was to
-- find, which graphs were walked, and all codecs were set up at every moment from the last answer on
pub record BringUpHasGone (means : Means) (graphs : List RawCodec) (task : Task) (lines : List DriverLine)
    (bring_up : BringUp) (telling : Telling) : Type 0 where
  pub progress : IsProgress task lines telling
  pub finds : HasFound task lines telling
  pub state_is : trail.state_of task lines telling ≡ state_of bring_up
  pub ended : IsEnded graphs task bring_up
  pub set_up : StaysSetUp means graphs task lines telling

pub record KeepsToProgress (means : Means) (verbs : RawCodec → List Command) (graphs : List RawCodec) (task : Task)
    : Type 0 where
  -- where nothing happened yet, and steps of the device
  pub begins : (lines : List DriverLine) (bring_up : BringUp) (telling : Telling) → telling.journal ≡ []
      → state_of bring_up ≡ state_opened → IsBroughtUp means verbs graphs task 0 bring_up (world_of telling)
      → BringUpGoesOn means verbs graphs task lines lines bring_up telling
  pub steps : (lines left : List DriverLine) (bring_up : BringUp) (steps : List Step) (old new : Telling)
      → Went old new (map Stepped steps) → BringUpGoesOn means verbs graphs task lines left bring_up old
      → BringUpGoesOn means verbs graphs task lines left bring_up new
  -- a stretch begins
  pub opens : (lines left : List DriverLine) (bring_up : BringUp) (old new : Telling) → Accessed old new Begin
      → BringUpGoesOn means verbs graphs task lines left bring_up old
      → IsCalled means verbs graphs task lines (drop 1 left) (slice_get left 0) bring_up new
  -- a call makes just the accesses that are expected and leads where progress says, and it stands to the world after it
  -- as before; once all is set up, where no sound is to be played
  pub calls : (lines left : List DriverLine) (budget : ℕ) (irq : Bool) (old new : BringUp) (before after : Telling)
      → IsCalled means verbs graphs task lines left (Some (record { irq = irq; budget = budget })) old before
      → (old.phase ≡ Ready → task.plays ≡ false) → Leads means irq old new (Some before) (Some after) → IsKept old new
      → HasMade means verbs graphs task lines left new after
  -- the stretch ends
  pub closes : (lines left : List DriverLine) (bring_up : BringUp) (old new : Telling) → Accessed old new End
      → HasMade means verbs graphs task lines left bring_up old
      → BringUpGoesOn means verbs graphs task lines left bring_up new
  -- the last call and the end of its stretch
  pub ends : (lines left : List DriverLine) (old new : BringUp) (before after : Telling)
      → IsCalled means verbs graphs task lines left None old before → Ends means old new (Some before) (Some after)
      → HasShut means graphs task lines left new after
  pub ends_over : (lines left : List DriverLine) (bring_up : BringUp) (old new : Telling) → Accessed old new End
      → HasShut means graphs task lines left bring_up old
      → IsOver means graphs task lines bring_up new
  -- then all of it was as it was to be
  pub over : (lines : List DriverLine) (bring_up : BringUp) (telling : Telling)
      → IsOver means graphs task lines bring_up telling → BringUpHasGone means graphs task lines bring_up telling
