-- And so do events in a row.
use Rattle.std.proofs.Common.{ℕ, List, [], ◌∷◌, sym, subst, ◌∙◌}
use Rattle.std.specs.Prelude.{All}
use Rattle.std.proofs.lemmas.List.Elements.{All-head, All-tail}
use Rattle.world_steps.specs.declared.Step.{Step}
use Rattle.hda_world.specs.Worlds.{World}
use Rattle.hda_world.specs.Steps.{after_steps}
use Rattle.hda_world.specs.Events.{Event, happens, after}
use Rattle.hda_world.specs.Tellings.{Telling, world_of, Accessed, MakesBy, Makes}
use Rattle.hda_world.proofs.Callers.{kept_steps, world_of-went, after-stepped}
use Rattle.laws_stream.specs.Resting.{Rests, LeavesRest}
use Rattle.laws_stream.proofs.Kept.{rests_kept}
use Rattle.laws_stream.proofs.Written.{event_rests}

pub steps_rest : (fifo : ℕ) (steps : List Step) (world : World) → Rests fifo world → Rests fifo (after_steps steps world)
steps_rest fifo steps world rests = kept_steps (Rests fifo) (rests_kept fifo) steps world rests

pub events_rest : (fifo : ℕ) (events : List Event) (world : World) → All LeavesRest events → Rests fifo world → Rests fifo (after events world)
events_rest fifo [] world all rests = rests
events_rest fifo (event ∷ events) world all rests =
    events_rest fifo events (happens world event) (All-tail LeavesRest event events all) (event_rests fifo event world (All-head LeavesRest event events all) rests)

access_rests : (fifo : ℕ) (event : Event) (old new : Telling) → Accessed old new event → LeavesRest event → Rests fifo (world_of old) → Rests fifo (world_of new)
access_rests fifo event old new accessed leaves rests =
    subst (Rests fifo) (sym (world_of-went old new _ accessed.went ∙ after-stepped accessed.steps event (world_of old)))
    (event_rests fifo event (after_steps accessed.steps (world_of old)) leaves (steps_rest fifo accessed.steps (world_of old) rests))

row_by : (fifo : ℕ) (made : List Event) (old new : Telling) → MakesBy made old new → All LeavesRest made → Rests fifo (world_of old) → Rests fifo (world_of new)
row_by fifo [] old new none all rests = subst (λ (telling : Telling). Rests fifo (world_of telling)) (sym none) rests
row_by fifo (event ∷ made) old new makes all rests =
    row_by fifo made makes.0 new makes.2 (All-tail LeavesRest event made all) (access_rests fifo event old makes.0 makes.1 (All-head LeavesRest event made all) rests)

pub row_rests : (fifo : ℕ) (made : List Event) (old new : Telling) → Makes made old new → All LeavesRest made → Rests fifo (world_of old) → Rests fifo (world_of new)
row_rests fifo made old new makes all rests = row_by fifo made old new makes.by all rests
