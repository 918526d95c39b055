use Rattle.std.proofs.Common.{◌-◌}
use Rattle.made_inputs.proofs.Turns.{HasPushed}
use Rattle.made_inputs.proofs.schedule.push_turns.Given as goal

abbrev pub invariant-loop-linked : goal.invariant-loop-linked
invariant-loop-linked l = HasPushed l.number l.initial.items l.draw l.linked l.items

abbrev pub decreases-loop-linked : goal.decreases-loop-linked
decreases-loop-linked l = l.frames - l.linked
