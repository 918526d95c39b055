use Rattle.std.proofs.Common.{◌<◌, length, ap, ◌∙◌, arith}
use Rattle.std.proofs.lemmas.List.Sums.{sum_by_more}
use Rattle.program_runs.specs.MadeLines.{holes_in}
use Rattle.program_runs.proofs.made_lines.holes_of.Goals as goal

pub loop-place-preserved : goal.loop-place-preserved
loop-place-preserved c =
    let lists = c.args.heard.now in
    let place = c.loop-place.place in
    let pin = c.in_ok-pin.pin in
    let test = c.loop-place-test.true in
    let end = c.len-place-end.ensures in
    let below : place < length lists = omega (arith, test, end) in
    let one = c.holes_in.ensures ∙ ap holes_in (c.in_ok-pin.ensures pin) in
    let more = sum_by_more holes_in lists place pin below in
    let before = c.loop-place.invariant.0 in
    let small = c.holes_in.type_inv in
    let few = c.loop-place.invariant.1 in
    (omega (arith, one, more, before), omega (arith, few, small))
