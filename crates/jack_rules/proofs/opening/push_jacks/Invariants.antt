use Rattle.std.proofs.Common.{◌≡◌, ◌++◌, map, drop}
use Rattle.jack_rules.specs.JackPins.{jacks_from}
use Rattle.jack_rules.specs.Switching.{jack_opened}
use Rattle.jack_rules.proofs.opening.push_jacks.Given as goal

abbrev pub invariant-loop-place : goal.invariant-loop-place
invariant-loop-place l =
    l.jacks.items ++ map jack_opened (jacks_from l.codec l.place (drop l.place l.entries))
    ≡ l.initial.jacks.items ++ map jack_opened (jacks_from l.codec 0 l.entries)
