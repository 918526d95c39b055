use Rattle.std.proofs.Common.{◌≡◌, length}
use Rattle.recording_driver.proofs.events.drop_events.Given as goal

abbrev pub invariant-loop-event : goal.invariant-loop-event
invariant-loop-event l =
    (l.engine.rings ≡ l.initial.engine.rings)
    × (l.engine.corb ≡ l.initial.engine.corb)
    × (l.engine.rirb ≡ l.initial.engine.rirb)

abbrev pub decreases-loop-event : goal.decreases-loop-event
decreases-loop-event l = length l.engine.events
