use Rattle.std.proofs.Common.{◌≡◌, ◌-◌, ◌++◌}
use Rattle.std.specs.List.{range_with_len}
use Rattle.verb_codes.proofs.lists.push_nids.Given as goal

-- the nodes from the first one on are there
abbrev pub invariant-loop-nid : goal.invariant-loop-nid
invariant-loop-nid l = l.nids.items ≡ l.initial.nids.items ++ range_with_len l.first (l.nid - l.first)
