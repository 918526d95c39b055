-- What holds at each moment that is told.
use Rattle.std.proofs.Common.{◌≡◌, List, [], ◌∷◌, ◌++◌, map, sym, ap, subst, ◌∙◌}
use Rattle.world_steps.specs.declared.Step.{Step}
use Rattle.hda_world.specs.Worlds.{World}
use Rattle.hda_world.specs.Steps.{after_step, after_steps}
use Rattle.hda_world.specs.Events.{Event, Stepped, happens, after}
use Rattle.hda_world.specs.Tellings.{Telling, world_of, Went, Accessed}
use Rattle.hda_world.proofs.Callers.{steps_after}
use Rattle.driver_progress.specs.Tasks.{Task, DriverLine}
use Rattle.driver_progress.specs.Progress.{Trail, trail_of, trail_after, trail_opened, noted}
use Rattle.laws_bring_up.specs.SettingUp.{Always}
use Rattle.laws_bring_up.proofs.Grows.{world_after}
use Rattle.laws_bring_up.proofs.Rows.{trail_access}

always_both : (Holds : World → Trail → Type 0) (task : Task) (front back : List Event) (world : World) (trail : Trail) → Always Holds task front world trail → Always Holds task back (after front world) (trail_after task front world trail)
    → Always Holds task (front ++ back) world trail
always_both Holds task [] back world trail first second = second
always_both Holds task (event ∷ front) back world trail first second = (first.0, always_both Holds task front back (happens world event) (noted task trail world event) first.1 second)

-- over events that went on
always_went : (Holds : World → Trail → Type 0) (task : Task) (lines : List DriverLine) (old new : Telling) (events : List Event) → Went old new events → Always Holds task old.journal old.start (trail_opened lines)
    → Always Holds task events (world_of old) (trail_of task lines old) → Always Holds task new.journal new.start (trail_opened lines)
always_went Holds task lines old new events went before more =
    subst (λ (start : World). Always Holds task new.journal start (trail_opened lines)) (sym went.start)
    (subst (λ (journal : List Event). Always Holds task journal old.start (trail_opened lines)) (sym went.journal)
    (always_both Holds task old.journal events old.start (trail_opened lines) before more))

-- over steps of the device
always_steps : (Holds : World → Trail → Type 0) (task : Task) (steps : List Step) (world : World) (trail : Trail) → ((done : List Step) → Holds (after_steps done world) trail) → Always Holds task (map Stepped steps) world trail
always_steps Holds task [] world trail each = each []
always_steps Holds task (step ∷ steps) world trail each = (each [], always_steps Holds task steps (after_step step world) trail (λ done. each (step ∷ done)))

pub steps_always : (Holds : World → Trail → Type 0) (task : Task) (lines : List DriverLine) (steps : List Step) (old new : Telling) → Went old new (map Stepped steps) → ((done : List Step) → Holds (after_steps done (world_of old)) (trail_of task lines old))
    → Always Holds task old.journal old.start (trail_opened lines) → Always Holds task new.journal new.start (trail_opened lines)
steps_always Holds task lines steps old new went each before =
    always_went Holds task lines old new (map Stepped steps) went before (always_steps Holds task steps (world_of old) (trail_of task lines old) each)

-- and over an event after them
always_stepped : (Holds : World → Trail → Type 0) (task : Task) (steps : List Step) (event : Event) (world : World) (trail : Trail) → ((done : List Step) → Holds (after_steps done world) trail)
    → Holds (happens (after_steps steps world) event) (noted task trail (after_steps steps world) event) → Always Holds task (map Stepped steps ++ event ∷ []) world trail
always_stepped Holds task [] event world trail each last = (each [], last)
always_stepped Holds task (step ∷ steps) event world trail each last = (each [], always_stepped Holds task steps event (after_step step world) trail (λ done. each (step ∷ done)) last)

pub access_always : (Holds : World → Trail → Type 0) (task : Task) (lines : List DriverLine) (event : Event) (old new : Telling) (accessed : Accessed old new event) → ((done : List Step) → Holds (after_steps done (world_of old)) (trail_of task lines old))
    → Holds (happens (after_steps accessed.steps (world_of old)) event) (noted task (trail_of task lines old) (after_steps accessed.steps (world_of old)) event)
    → Always Holds task old.journal old.start (trail_opened lines) → Always Holds task new.journal new.start (trail_opened lines)
access_always Holds task lines event old new accessed each last before =
    always_went Holds task lines old new (map Stepped accessed.steps ++ event ∷ []) accessed.went before (always_stepped Holds task accessed.steps event (world_of old) (trail_of task lines old) each last)

-- the trail after it, from the world where it came
pub trail_there : (task : Task) (lines : List DriverLine) (event : Event) (old new : Telling) (accessed : Accessed old new event)
    → trail_of task lines new ≡ noted task (trail_of task lines old) (after_steps accessed.steps (world_of old)) event
trail_there task lines event old new accessed =
    trail_access task lines event old new accessed ∙ ap (λ (world : World). noted task (trail_of task lines old) world event) (steps_after accessed.steps (world_of old))

-- what holds there, of what is told after it
pub at_access : (Holds : World → Trail → Type 0) (task : Task) (lines : List DriverLine) (event : Event) (old new : Telling) (accessed : Accessed old new event)
    → Holds (happens (after_steps accessed.steps (world_of old)) event) (noted task (trail_of task lines old) (after_steps accessed.steps (world_of old)) event) → Holds (world_of new) (trail_of task lines new)
at_access Holds task lines event old new accessed last =
    subst (λ (world : World). Holds world (trail_of task lines new)) (sym (world_after event old new accessed))
    (subst (λ (trail : Trail). Holds (happens (after_steps accessed.steps (world_of old)) event) trail) (sym (trail_there task lines event old new accessed)) last)
