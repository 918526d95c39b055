use Rattle.route_planner.specs.FoundInputs.{IsFoundBelow}
use Rattle.route_planner.proofs.inputs.least_input.Given as goal

abbrev pub invariant-loop-converter : goal.invariant-loop-converter
invariant-loop-converter l = IsFoundBelow l.codec l.format l.pin l.converter l.least
