-- A stream that was stopped stays so once the driver is closed.
use Rattle.std.proofs.Common.{◌≡◌, List, [], ◌∷◌, refl, sym, ap, subst, ◌∙◌}
use Rattle.std.specs.Prelude.{All}
use Rattle.std.proofs.lemmas.List.Elements.{All-head, All-tail}
use Rattle.hda_registers.specs.Fields.{Descriptor}
use Rattle.hda_world.specs.Worlds.{World}
use Rattle.hda_world.specs.Events.{Event, Stepped, Begin, End, Read, Write, DmaRead, DmaWrite, happens, after}
use Rattle.hda_world.specs.Tellings.{Telling, world_of, Went}
use Rattle.hda_world.proofs.Callers.{steps_leave_stopped, world_of-went}
use Rattle.laws_stream.specs.Lives.{IsStopped, Along, HasStopped}
use Rattle.laws_stream.proofs.Lives.{Along-end, stopped_there, stays_stopped}

-- a step of the device, or a mark
abbrev pub IsNoAccess : Event → Type 0
IsNoAccess (Stepped step) = Unit {0}
IsNoAccess Begin = Unit {0}
IsNoAccess End = Unit {0}
IsNoAccess (Read at width value) = ⊥
IsNoAccess (Write at width value) = ⊥
IsNoAccess (DmaRead at bytes) = ⊥
IsNoAccess (DmaWrite at bytes) = ⊥

event_stopped : (event : Event) (world : World) → IsNoAccess event → IsStopped world → IsStopped (happens world event) × ((happens world event).carried ≡ world.carried)
event_stopped (Stepped step) world none was =
    let stays = steps_leave_stopped (step ∷ []) world was.stopped in
    (record { stopped = stays.stopped; no_error = ap (λ (output : Descriptor). output.descriptor_error) stays.registers ∙ was.no_error }, stays.carried_stays)
event_stopped Begin world none was = (was, refl)
event_stopped End world none was = (was, refl)
event_stopped (Read at width value) world none was = absurd none
event_stopped (Write at width value) world none was = absurd none
event_stopped (DmaRead at bytes) world none was = absurd none
event_stopped (DmaWrite at bytes) world none was = absurd none

events_stopped : (events : List Event) (world : World) → All IsNoAccess events → IsStopped world → Along IsStopped events world × ((after events world).carried ≡ world.carried)
events_stopped [] world all was = (was, refl)
events_stopped (event ∷ events) world all was =
    let here = event_stopped event world (All-head IsNoAccess event events all) was in
    let later = events_stopped events (happens world event) (All-tail IsNoAccess event events all) here.0 in
    ((was, later.0), later.1 ∙ here.1)

pub over_stays : (old new : Telling) (events : List Event) → Went old new events → All IsNoAccess events → HasStopped old → HasStopped new × ((world_of new).carried ≡ (world_of old).carried)
over_stays old new events went all was =
    let now : IsStopped (world_of old) = subst IsStopped (sym (stopped_there old was)) (Along-end IsStopped was.later _ was.stays) in
    let stays = events_stopped events (world_of old) all now in
    (stays_stopped old new events went was stays.0, ap (λ (world : World). world.carried) (world_of-went old new events went) ∙ stays.1)
