-- What progress records are the runs of the journal's stretches.
use Rattle.std.proofs.Common.{◌≡◌, Bool, true, false, List, [], ◌∷◌, length, refl, if◌then◌else◌}
use Rattle.hda_world.specs.Worlds.{World}
use Rattle.hda_world.specs.Events.{Event, Stepped, Begin, End, Read, Write, DmaRead, DmaWrite, happens}
use Rattle.hda_world.specs.Tellings.{Telling}
use Rattle.period_writer.specs.Runs.{Tally, measures, tally_of_stretches, tally_on}
use Rattle.driver_progress.specs.Tasks.{Task, DriverLine}
use Rattle.driver_progress.specs.Progress.{Trail, trail_after, trail_opened, ended, ended_last, noted, state_of}
use Rattle.driver_progress.specs.Stretches.{stretches_in, stretches_of}

abbrev tally_from : Task → Trail → List Event → Tally
tally_from task trail events =
    tally_on (measures task.geometry) (length task.pcm) trail.state.tally (stretches_in trail.within trail.turn trail.left trail.made events)

at_end : (task : Task) (trail : Trail) (within : Bool) → (if within then ended task trail else trail).state.tally ≡ tally_on (measures task.geometry) (length task.pcm) trail.state.tally (stretches_in within trail.turn trail.left trail.made [])
at_end task trail true = refl
at_end task trail false = refl

recorded_after : (task : Task) (events : List Event) (world : World) (trail : Trail)
    → (ended_last task (trail_after task events world trail)).state.tally ≡ tally_from task trail events
recorded_after task [] world trail = at_end task trail trail.within
recorded_after task (Stepped step ∷ events) world trail = recorded_after task events (happens world (Stepped step)) trail
recorded_after task (Begin ∷ events) world trail = recorded_after task events (happens world Begin) (noted task trail world Begin)
recorded_after task (End ∷ events) world trail = recorded_after task events (happens world End) (noted task trail world End)
recorded_after task (Read at width value ∷ events) world trail = recorded_after task events (happens world (Read at width value)) (noted task trail world (Read at width value))
recorded_after task (Write at width value ∷ events) world trail = recorded_after task events (happens world (Write at width value)) (noted task trail world (Write at width value))
recorded_after task (DmaRead at bytes ∷ events) world trail = recorded_after task events (happens world (DmaRead at bytes)) (noted task trail world (DmaRead at bytes))
recorded_after task (DmaWrite at bytes ∷ events) world trail = recorded_after task events (happens world (DmaWrite at bytes)) (noted task trail world (DmaWrite at bytes))

-- the tally of the state to which progress leads is that of the stretches
pub recorded_is : (task : Task) (lines : List DriverLine) (telling : Telling)
    → (state_of task lines telling).tally ≡ tally_of_stretches (measures task.geometry) (length task.pcm) (stretches_of lines telling.journal)
recorded_is task lines telling = recorded_after task telling.journal telling.start (trail_opened lines)
