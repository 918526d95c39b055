use Rattle.std.proofs.Common.{◌<◌, ◌^◌, take}
use Rattle.std.specs.Prelude.{All}
use Rattle.verb_codes.specs.Lists.{entry_width}
use Rattle.codec_graph.proofs.readable.all_fit.Given as goal

-- the entries so far fit
abbrev pub invariant-loop-entry : goal.invariant-loop-entry
invariant-loop-entry l = All (λ entry. entry < 2 ^ entry_width l.long) (take l.entry-index l.entries)
