use Rattle.route_planner.proofs.Entries.{AreEntries}
use Rattle.route_planner.proofs.planner.plan_as.Given as goal

abbrev pub invariant-loop-pin : goal.invariant-loop-pin
invariant-loop-pin l = AreEntries l.kind l.codec l.format l.pin-items l.pin-index l.pins
