-- A relation through an access of a told platform: kept by the device's steps before it, and led on by the access itself.
use Rattle.std.proofs.Common.{◌≡◌, List, [], ◌∷◌, ◌++◌, map, refl, sym, subst, ◌∙◌}
use Rattle.world_steps.specs.declared.Step.{Step}
use Rattle.hda_world.specs.Worlds.{World}
use Rattle.hda_world.specs.Steps.{after_step, after_steps}
use Rattle.hda_world.specs.Events.{Event, Stepped, happens, after, IsHonest, AreHonest}
use Rattle.hda_world.specs.Tellings.{Telling, world_of, Accessed}
use Rattle.hda_world.specs.Kept.{Kept}
use Rattle.hda_world.proofs.Stepping.{kept_steps}
use Rattle.hda_world.proofs.Telling.{world_of-went}

-- steps as events are those steps
pub after-stepped : (steps : List Step) (event : Event) (world : World) → after (map Stepped steps ++ event ∷ []) world ≡ happens (after_steps steps world) event
after-stepped [] event world = refl
after-stepped (step ∷ steps) event world = after-stepped steps event (after_step step world)

pub honest-stepped : (steps : List Step) (event : Event) (world : World) → AreHonest (map Stepped steps ++ event ∷ []) world → IsHonest (after_steps steps world) event
honest-stepped [] event world honest = honest.0
honest-stepped (step ∷ steps) event world honest = honest-stepped steps event (after_step step world) honest.1

-- what every move of the device keeps, and what the access makes of it
pub accessed_then : (Before After : World → Type 0) (event : Event) → Kept Before → ((world : World) → Before world → IsHonest world event → After (happens world event))
    → (old new : Telling) → Accessed old new event → Before (world_of old) → After (world_of new)
accessed_then Before After event kept leads old new accessed before =
    let there = world_of-went old new _ accessed.went ∙ after-stepped accessed.steps event (world_of old) in
    subst After (sym there)
    (leads (after_steps accessed.steps (world_of old)) (kept_steps Before kept accessed.steps (world_of old) before) (honest-stepped accessed.steps event (world_of old) accessed.went.honest))
