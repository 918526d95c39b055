-- How the trail goes on over events.
use Rattle.std.proofs.Common.{◌≡◌, List, [], ◌∷◌, ◌++◌, map, refl}
use Rattle.world_steps.specs.declared.Step.{Step}
use Rattle.hda_world.specs.Worlds.{World}
use Rattle.hda_world.specs.Events.{Event, Stepped, happens, after}
use Rattle.driver_progress.specs.Tasks.{Task}
use Rattle.driver_progress.specs.Progress.{Trail, noted, trail_after, Conforms}

pub trail_append : (task : Task) (front back : List Event) (world : World) (trail : Trail)
    → trail_after task (front ++ back) world trail ≡ trail_after task back (after front world) (trail_after task front world trail)
trail_append task [] back world trail = refl
trail_append task (event ∷ front) back world trail = trail_append task front back (happens world event) (noted task trail world event)

pub conforms_both : (task : Task) (front back : List Event) (world : World) (trail : Trail) → Conforms task front world trail
    → Conforms task back (after front world) (trail_after task front world trail) → Conforms task (front ++ back) world trail
conforms_both task [] back world trail here later = later
conforms_both task (event ∷ front) back world trail here later =
    (here.0, conforms_both task front back (happens world event) (noted task trail world event) here.1 later)

pub conforms_front : (task : Task) (front back : List Event) (world : World) (trail : Trail) → Conforms task (front ++ back) world trail
    → Conforms task front world trail
conforms_front task [] back world trail all = tt
conforms_front task (event ∷ front) back world trail all =
    (all.0, conforms_front task front back (happens world event) (noted task trail world event) all.1)

pub conforms_back : (task : Task) (front back : List Event) (world : World) (trail : Trail) → Conforms task (front ++ back) world trail
    → Conforms task back (after front world) (trail_after task front world trail)
conforms_back task [] back world trail all = all
conforms_back task (event ∷ front) back world trail all =
    conforms_back task front back (happens world event) (noted task trail world event) all.1

pub steps_leave_trail : (task : Task) (steps : List Step) (world : World) (trail : Trail) → trail_after task (map Stepped steps) world trail ≡ trail
steps_leave_trail task [] world trail = refl
steps_leave_trail task (step ∷ steps) world trail = steps_leave_trail task steps (happens world (Stepped step)) trail

pub steps_conform : (task : Task) (steps : List Step) (world : World) (trail : Trail) → Conforms task (map Stepped steps) world trail
steps_conform task [] world trail = tt
steps_conform task (step ∷ steps) world trail = (tt, steps_conform task steps (happens world (Stepped step)) trail)
