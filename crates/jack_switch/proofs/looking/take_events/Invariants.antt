use Rattle.std.proofs.Common.{◌≡◌, ◌≤◌, List, ◌++◌, length}
use Rattle.std.specs.Prelude.{All}
use Rattle.command_engine.specs.declared.answers.Event.{Event}
use Rattle.driver_bring_up.specs.Jacks.{IsOfPin}
use Rattle.driver_bring_up.specs.Counted.{IsCount}
use Rattle.jack_rules.specs.Switching.{told_events}
use Rattle.jack_switch.proofs.looking.take_events.Given as goal

abbrev pub invariant-loop-event : goal.invariant-loop-event
invariant-loop-event l =
    ((done : List Event) × (done ++ l.engine.events ≡ l.initial.engine.events) × (l.switching ≡ told_events l.initial.switching done)
    × ((events : List Event) → IsCount events l.initial.jacks → length (events ++ done) ≤ 4294967295 → IsCount (events ++ done) l.jacks))
    × All IsOfPin l.engine.events
    × (l.engine.rings ≡ l.initial.engine.rings)
    × (l.engine.corb ≡ l.initial.engine.corb)
    × (l.engine.rirb ≡ l.initial.engine.rirb)

abbrev pub decreases-loop-event : goal.decreases-loop-event
decreases-loop-event l = length l.engine.events
