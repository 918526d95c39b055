use Rattle.std.proofs.Common.{◌≡◌, ◌≤◌, ◌+◌, List, ◌++◌, length}
use Rattle.std.specs.Prelude.{All}
use Rattle.command_engine.specs.declared.answers.Event.{Event}
use Rattle.driver_bring_up.specs.Jacks.{IsOfPin}
use Rattle.driver_bring_up.specs.Counted.{IsCount}
use Rattle.driver_bring_up.proofs.jacks.Jacks.take_events.Given as goal

abbrev pub invariant-loop-event : goal.invariant-loop-event
invariant-loop-event l =
    ((done : List Event) × ((events : List Event) → IsCount events l.initial.self → IsCount (events ++ done) l.self) × (done ++ l.engine.events ≡ l.initial.engine.events))
    × All IsOfPin l.engine.events
    × (l.self.taken + length l.engine.events ≡ l.initial.self.taken + length l.initial.engine.events)
    × (l.self.taken + length l.engine.events ≤ 4294967295)
    × (l.engine.rings ≡ l.initial.engine.rings)
    × (l.engine.corb ≡ l.initial.engine.corb)
    × (l.engine.rirb ≡ l.initial.engine.rirb)

abbrev pub decreases-loop-event : goal.decreases-loop-event
decreases-loop-event l = length l.engine.events
