-- How far a driver came, over events in a row and as they are told.
use Rattle.std.proofs.Common.{◌≡◌, List, [], ◌∷◌, ◌++◌, map, refl, sym, ap, subst, ◌∙◌}
use Rattle.world_steps.specs.declared.Step.{Step}
use Rattle.hda_world.specs.Worlds.{World}
use Rattle.hda_world.specs.Events.{Event, Stepped, Begin, End, Read, Write, DmaRead, DmaWrite, happens, after}
use Rattle.hda_world.specs.Tellings.{Telling, world_of, Went, Accessed}
use Rattle.driver_progress.specs.Tasks.{Task, DriverLine}
use Rattle.driver_progress.specs.Unread.{IsAccess}
use Rattle.driver_progress.specs.Progress.{Trail, trail_of, trail_after, noted}
use Rattle.driver_rules.specs.Rules.{Rules}
use Rattle.driver_rules.specs.Onward.{Onward, onward_opened, onward_noted, onward_after, FitsOnwardAt, ConformsOnward, onward_of}

module _ {S : Type 0} (rules : Rules S) where
  -- ---- the trail beside the rules is progress' own

  pub trail_noted : (task : Task) (onward : Onward S) (world : World) (event : Event) → (onward_noted rules task onward world event).trail ≡ noted task onward.trail world event
  trail_noted task onward world (Stepped step) = refl
  trail_noted task onward world Begin = refl
  trail_noted task onward world End = refl
  trail_noted task onward world (Read at width value) = refl
  trail_noted task onward world (Write at width value) = refl
  trail_noted task onward world (DmaRead at bytes) = refl
  trail_noted task onward world (DmaWrite at bytes) = refl

  pub trail_beside : (task : Task) (events : List Event) (world : World) (onward : Onward S) → (onward_after rules task events world onward).trail ≡ trail_after task events world onward.trail
  trail_beside task [] world onward = refl
  trail_beside task (event ∷ events) world onward =
      trail_beside task events (happens world event) (onward_noted rules task onward world event)
      ∙ ap (λ (trail : Trail). trail_after task events (happens world event) trail) (trail_noted task onward world event)

  pub trail_is : (task : Task) (lines : List DriverLine) (telling : Telling) → (onward_of rules task lines telling).trail ≡ trail_of task lines telling
  trail_is task lines telling = trail_beside task telling.journal telling.start (onward_opened lines)

  -- ---- over events in a row

  pub onward_append : (task : Task) (front back : List Event) (world : World) (onward : Onward S)
      → onward_after rules task (front ++ back) world onward ≡ onward_after rules task back (after front world) (onward_after rules task front world onward)
  onward_append task [] back world onward = refl
  onward_append task (event ∷ front) back world onward = onward_append task front back (happens world event) (onward_noted rules task onward world event)

  pub onward_both : (task : Task) (front back : List Event) (world : World) (onward : Onward S) → ConformsOnward rules task front world onward
      → ConformsOnward rules task back (after front world) (onward_after rules task front world onward) → ConformsOnward rules task (front ++ back) world onward
  onward_both task [] back world onward here later = later
  onward_both task (event ∷ front) back world onward here later =
      (here.0, onward_both task front back (happens world event) (onward_noted rules task onward world event) here.1 later)

  -- that the journal conforms, as it is told
  abbrev pub ConformsOnwardTo : Task → List DriverLine → Telling → Type 0
  ConformsOnwardTo task lines telling = ConformsOnward rules task telling.journal telling.start (onward_opened lines)

  -- over events that went on
  pub onward_went : (task : Task) (lines : List DriverLine) (old new : Telling) (events : List Event) → Went old new events
      → onward_of rules task lines new ≡ onward_after rules task events (world_of old) (onward_of rules task lines old)
  onward_went task lines old new events went =
      ap (λ (start : World). onward_after rules task new.journal start (onward_opened lines)) went.start
      ∙ ap (λ (journal : List Event). onward_after rules task journal old.start (onward_opened lines)) went.journal
      ∙ onward_append task old.journal events old.start (onward_opened lines)

  pub conforms_onward_went : (task : Task) (lines : List DriverLine) (old new : Telling) (events : List Event) → Went old new events
      → ConformsOnward rules task events (world_of old) (onward_of rules task lines old) → ConformsOnwardTo task lines old → ConformsOnwardTo task lines new
  conforms_onward_went task lines old new events went more conforms =
      subst (λ (start : World). ConformsOnward rules task new.journal start (onward_opened lines)) (sym went.start)
      (subst (λ (journal : List Event). ConformsOnward rules task journal old.start (onward_opened lines)) (sym went.journal)
      (onward_both task old.journal events old.start (onward_opened lines) conforms more))

  -- ---- steps of the device, and then an event

  pub steps_leave_onward : (task : Task) (steps : List Step) (world : World) (onward : Onward S) → onward_after rules task (map Stepped steps) world onward ≡ onward
  steps_leave_onward task [] world onward = refl
  steps_leave_onward task (step ∷ steps) world onward = steps_leave_onward task steps (happens world (Stepped step)) onward

  pub steps_conform_onward : (task : Task) (steps : List Step) (world : World) (onward : Onward S) → ConformsOnward rules task (map Stepped steps) world onward
  steps_conform_onward task [] world onward = tt
  steps_conform_onward task (step ∷ steps) world onward = (tt, steps_conform_onward task steps (happens world (Stepped step)) onward)

  stepped : (task : Task) (steps : List Step) (event : Event) (world : World) (onward : Onward S)
      → onward_after rules task (map Stepped steps ++ event ∷ []) world onward ≡ onward_noted rules task onward (after (map Stepped steps) world) event
  stepped task [] event world onward = refl
  stepped task (step ∷ steps) event world onward = stepped task steps event (happens world (Stepped step)) onward

  stepped_fits : (task : Task) (steps : List Step) (event : Event) (world : World) (onward : Onward S) → FitsOnwardAt rules task onward event
      → ConformsOnward rules task (map Stepped steps ++ event ∷ []) world onward
  stepped_fits task [] event world onward fits = (fits, tt)
  stepped_fits task (step ∷ steps) event world onward fits = (tt, stepped_fits task steps event (happens world (Stepped step)) onward fits)

  pub onward_access : (task : Task) (lines : List DriverLine) (event : Event) (old new : Telling) (accessed : Accessed old new event)
      → onward_of rules task lines new ≡ onward_noted rules task (onward_of rules task lines old) (after (map Stepped accessed.steps) (world_of old)) event
  onward_access task lines event old new accessed =
      onward_went task lines old new (map Stepped accessed.steps ++ event ∷ []) accessed.went
      ∙ stepped task accessed.steps event (world_of old) (onward_of rules task lines old)

  pub conforms_onward_access : (task : Task) (lines : List DriverLine) (event : Event) (old new : Telling) → Accessed old new event
      → FitsOnwardAt rules task (onward_of rules task lines old) event → ConformsOnwardTo task lines old → ConformsOnwardTo task lines new
  conforms_onward_access task lines event old new accessed fits =
      conforms_onward_went task lines old new (map Stepped accessed.steps ++ event ∷ []) accessed.went
      (stepped_fits task accessed.steps event (world_of old) (onward_of rules task lines old) fits)

  -- ---- an access

  pub access_fits_onward : (task : Task) (onward : Onward S) (event : Event) → IsAccess event → FitsOnwardAt rules task onward event
  access_fits_onward task onward (Stepped step) is = absurd is
  access_fits_onward task onward Begin is = absurd is
  access_fits_onward task onward End is = absurd is
  access_fits_onward task onward (Read at width value) is = tt {0}
  access_fits_onward task onward (Write at width value) is = tt {0}
  access_fits_onward task onward (DmaRead at bytes) is = tt {0}
  access_fits_onward task onward (DmaWrite at bytes) is = tt {0}

  pub access_later : (task : Task) (onward : Onward S) (world : World) (event : Event) → IsAccess event → (onward_noted rules task onward world event).later ≡ onward.later
  access_later task onward world (Stepped step) is = absurd is
  access_later task onward world Begin is = absurd is
  access_later task onward world End is = absurd is
  access_later task onward world (Read at width value) is = refl
  access_later task onward world (Write at width value) is = refl
  access_later task onward world (DmaRead at bytes) is = refl
  access_later task onward world (DmaWrite at bytes) is = refl
