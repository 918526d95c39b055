use Rattle.std.proofs.Common.{◌≡◌, ◌++◌, replicate}
use Rattle.made_inputs.specs.MadeMachine as spec
use Rattle.made_inputs.proofs.machine.push_vendor_defined.Given as goal

abbrev pub invariant-loop : goal.invariant-loop
invariant-loop l = l.nodes ≡ l.initial.nodes ++ replicate l.counter spec.vendor_defined
