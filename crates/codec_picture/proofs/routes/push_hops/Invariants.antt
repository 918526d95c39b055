use Rattle.std.proofs.Common.{◌≡◌, ◌++◌, take}
use Rattle.std.specs.List.{flat_map}
use Rattle.codec_picture.specs.Codecs.{hop_line}
use Rattle.codec_picture.proofs.routes.push_hops.Given as goal

abbrev pub invariant-loop-hop : goal.invariant-loop-hop
invariant-loop-hop l = l.shapes ≡ l.initial.shapes ++ flat_map (hop_line l.codec l.top l.number) (take l.hop-index l.hops)
