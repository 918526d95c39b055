-- Rules wait over a stretch that is no line's in `Ready`.
use Rattle.std.proofs.Common.{◌≡◌, ◌&&◌, Bool, true, false, List, [], ◌∷◌, map, Option, None, Some, refl, sym, ap, subst, ◌∙◌}
use Rattle.std.specs.Prelude.{slice_get}
use Rattle.std.specs.Option.{is_some}
use Rattle.hda_world.specs.Worlds.{World}
use Rattle.hda_world.specs.Events.{Event, Stepped, Begin, End, Read, Write, DmaRead, DmaWrite, after}
use Rattle.hda_world.specs.Tellings.{Telling, world_of, Accessed, MakesBy, Makes}
use Rattle.driver_progress.specs.Phases.{is_ready}
use Rattle.driver_progress.specs.Tasks.{Task, DriverLine}
use Rattle.driver_progress.specs.States.{State}
use Rattle.driver_progress.specs.Unread.{IsAccess, AreAccesses}
use Rattle.driver_progress.specs.Progress.{Trail, trail_of}
use Rattle.driver_rules.specs.Rules.{Rules}
use Rattle.driver_rules.specs.Onward.{Onward, is_turn, begun_if, later_begun, later_ended, onward_noted, onward_of}
use Rattle.driver_rules.proofs.Callers.{trail_is, onward_access}

-- ---- a stretch that is no turn

-- one that begins in another phase
pub unready : (state state' : State) (left : List DriverLine) → state ≡ state' → is_ready state'.phase ≡ false → (is_ready state.phase && is_some (slice_get left 0)) ≡ false
unready state state' left same not =
    ap (λ (state : State). is_ready state.phase && is_some (slice_get left 0)) same ∙ ap (λ (ready : Bool). ready && is_some (slice_get left 0)) not

none_left : (ready : Bool) → (ready && false) ≡ false
none_left true = refl
none_left false = refl

-- one after all lines
pub unlined : (ready : Bool) (left : List DriverLine) → left ≡ [] → (ready && is_some (slice_get left 0)) ≡ false
unlined ready left none = ap (λ (left : List DriverLine). ready && is_some (slice_get left 0)) none ∙ none_left ready

-- ---- over it

module _ {S : Type 0} (rules : Rules S) (task : Task) (lines : List DriverLine) where
  abbrev Wait : Telling → Type 0
  Wait telling = (onward_of rules task lines telling).later ≡ None

  begun_waits : (trail : Trail) (later : Option S) → later ≡ None → is_turn trail ≡ false → later_begun rules trail later ≡ None
  begun_waits trail None none turns = ap (λ (turns : Bool). begun_if rules turns trail) turns
  begun_waits trail (Some later) none turns = cc

  ended_waits : (trail : Trail) (answered : Bool) (later : Option S) → later ≡ None → later_ended rules trail.turn trail.made answered later ≡ None
  ended_waits trail answered None none = refl
  ended_waits trail answered (Some later) none = cc

  access_waits : (onward : Onward S) (world : World) (event : Event) → IsAccess event → (onward_noted rules task onward world event).later ≡ onward.later
  access_waits onward world (Stepped step) is = absurd is
  access_waits onward world Begin is = absurd is
  access_waits onward world End is = absurd is
  access_waits onward world (Read at width value) is = refl
  access_waits onward world (Write at width value) is = refl
  access_waits onward world (DmaRead at bytes) is = refl
  access_waits onward world (DmaWrite at bytes) is = refl

  row_waits : (made : List Event) (old new : Telling) → MakesBy made old new → AreAccesses made → Wait old → Wait new
  row_waits [] old new makes are waits = subst Wait (sym makes) waits
  row_waits (event ∷ made) old new makes are waits =
      row_waits made makes.0 new makes.2 are.1
      (ap (λ (onward : Onward S). onward.later) (onward_access rules task lines event old makes.0 makes.1)
      ∙ access_waits (onward_of rules task lines old) (after (map Stepped makes.1.steps) (world_of old)) event are.0 ∙ waits)

  pub stretch_waits : (events : List Event) (before begun made after : Telling) → Accessed before begun Begin → Makes events begun made → AreAccesses events → Accessed made after End
      → is_turn (trail_of task lines before) ≡ false → (onward_of rules task lines before).later ≡ None → (onward_of rules task lines after).later ≡ None
  stretch_waits events before begun made after begins makes are ends turns waits =
      let was = onward_of rules task lines before in
      let first : Wait begun =
      ap (λ (onward : Onward S). onward.later) (onward_access rules task lines Begin before begun begins)
      ∙ begun_waits was.trail was.later waits (ap is_turn (trail_is rules task lines before) ∙ turns) in
      let last = row_waits events begun made makes.by are first in
      let is = onward_of rules task lines made in
      ap (λ (onward : Onward S). onward.later) (onward_access rules task lines End made after ends) ∙ ended_waits is.trail is.answered is.later last
