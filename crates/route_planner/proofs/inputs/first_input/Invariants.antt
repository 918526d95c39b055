use Rattle.route_planner.specs.FoundInputs.{IsFirstBelow}
use Rattle.route_planner.proofs.inputs.first_input.Given as goal

abbrev pub invariant-loop-pin : goal.invariant-loop-pin
invariant-loop-pin l = IsFirstBelow l.codec l.format l.pin l.first
