use Rattle.std.proofs.Common.{◌≡◌, map, drop, None}
use Rattle.verb_codes.specs.Lists.{entry_of, after, expansion_after}
use Rattle.verb_codes.proofs.lists.expand_entries.Given as goal

-- the nodes so far and what the rest of the entries stands for make the whole expansion
abbrev pub invariant-loop-bits : goal.invariant-loop-bits
invariant-loop-bits l =
    let entries = map (entry_of l.long) l.entries in
    expansion_after None entries ≡ after l.nids.items (expansion_after l.before (drop l.bits-index entries))
