use Rattle.std.proofs.Common.{◌≡◌, filter, take}
use Rattle.codec_dump.specs.Mending.{stays}
use Rattle.codec_dump.proofs.mend.mended_list.Given as goal

-- those of the connections so far that stay
abbrev pub invariant-loop-nid : goal.invariant-loop-nid
invariant-loop-nid l = l.kept.items ≡ filter (stays l.group) (take l.nid-index l.list)
