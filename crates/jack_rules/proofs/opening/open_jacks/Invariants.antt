use Rattle.std.proofs.Common.{◌≡◌, ◌++◌, map, drop}
use Rattle.jack_rules.specs.JackPins.{jacks_of}
use Rattle.jack_rules.specs.Switching.{jack_opened, JacksReach}
use Rattle.jack_rules.proofs.opening.open_jacks.Given as goal

abbrev pub invariant-loop-place : goal.invariant-loop-place
invariant-loop-place l =
    (l.jacks.items ++ map jack_opened (jacks_of (drop l.place l.graphs) (drop l.place l.plans))
    ≡ map jack_opened (jacks_of l.graphs l.plans))
    × JacksReach l.jacks.items
