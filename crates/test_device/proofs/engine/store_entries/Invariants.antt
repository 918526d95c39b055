use Rattle.std.proofs.Common.{◌≡◌}
use Rattle.test_device.proofs.engine.store_entries.Given as goal

-- only memory changes
abbrev pub invariant-loop-place : goal.invariant-loop-place
invariant-loop-place l = (l.platform.accesses ≡ l.initial.platform.accesses) × (l.platform.bytes ≡ l.initial.platform.bytes)
