use Rattle.std.proofs.Common.{◌≡◌}
use Rattle.test_device.proofs.engine.drain.Given as goal

-- the blocks stay
abbrev pub invariant-loop-turn : goal.invariant-loop-turn
invariant-loop-turn l = (l.engine.corb ≡ l.initial.engine.corb) × (l.engine.rirb ≡ l.initial.engine.rirb)
