use Rattle.std.proofs.Common.{◌≡◌, ◌++◌, map, take, drop}
use Rattle.jack_rules.specs.Switching.{told_jack}
use Rattle.jack_rules.proofs.switching.note_all.Given as goal

abbrev pub invariant-loop-state : goal.invariant-loop-state
invariant-loop-state l = l.jacks ≡ map (told_jack l.event) (take l.state-index l.initial.jacks) ++ drop l.state-index l.initial.jacks
