use Rattle.std.proofs.Common.{◌≡◌, ◌++◌, map, take, drop}
use Rattle.jack_rules.specs.Switching.{sensed}
use Rattle.jack_rules.proofs.switching.sense_all.Given as goal

abbrev pub invariant-loop-state : goal.invariant-loop-state
invariant-loop-state l = l.jacks ≡ map (sensed l.asked l.present) (take l.state-index l.initial.jacks) ++ drop l.state-index l.initial.jacks
