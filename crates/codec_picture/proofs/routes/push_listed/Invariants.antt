use Rattle.std.proofs.Common.{◌≡◌, ◌++◌, take}
use Rattle.std.specs.List.{flat_map}
use Rattle.codec_picture.specs.Codecs.{connection_line}
use Rattle.codec_picture.proofs.routes.push_listed.Given as goal

abbrev pub invariant-loop-from : goal.invariant-loop-from
invariant-loop-from l = l.shapes ≡ l.initial.shapes ++ flat_map (connection_line l.codec l.top l.nid) (take l.from-index l.list)
