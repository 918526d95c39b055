use Rattle.std.proofs.Common.{◌≡◌, take}
use Rattle.codec_dump.proofs.machine.entries_of.Given as goal

-- the connections so far have their entries
abbrev pub invariant-loop-nid : goal.invariant-loop-nid
invariant-loop-nid l = l.entries.items ≡ take l.nid-index l.list
