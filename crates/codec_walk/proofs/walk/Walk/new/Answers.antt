use Rattle.std.proofs.Common.{◌≡◌, refl}
use Rattle.codec_walk.specs.Walks.{unknown}
use Rattle.codec_walk.specs.Remaining.{remaining}
use Rattle.codec_walk.proofs.WalkLemmas.{begins}
use Rattle.codec_walk.proofs.walk.Walk.new.Goals as goal

pub returns : goal.returns
unfolding remaining
returns c =
    let nodes = c.in_ok-with_capacity.field-0.items in
    let codec = c.unknown_codec.result in
    let is : record codec { nodes = nodes } ≡ unknown c.args.address = rw (c.in_ok-with_capacity.ensures.items, c.unknown_codec.ensures) refl in
    begins c.new.result 0 0 (record codec { nodes = nodes }) c.args.address is
