use Rattle.std.proofs.Common.{◌≡◌, take}
use Rattle.verb_codes.specs.Lists.{entries_of_words}
use Rattle.verb_codes.proofs.lists.unpack_list.Given as goal

-- the entries so far
abbrev pub invariant-loop-place : goal.invariant-loop-place
invariant-loop-place l = l.entries.items ≡ take l.place (entries_of_words l.long l.words)
