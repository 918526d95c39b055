use Rattle.std.proofs.Common.{◌<◌, arith}
use Rattle.codec_dump.specs.Texts.{further_line}
use Rattle.codec_dump.proofs.PieceLemmas.{lines_next, lines_done}
use Rattle.codec_dump.proofs.import.further_lines.Goals as goal

pub loop-place-preserved : goal.loop-place-preserved
loop-place-preserved c =
    let inside : c.loop-place.place < c.args.count = omega arith in
    lines_next (further_line c.args.name.now) c.loop-place.place c.args.count _ _ _ inside c.in_ok-push_further_line.ensures c.loop-place.invariant

pub returns : goal.returns
returns c = lines_done (further_line c.args.name.now) c.loop-place.place c.args.count _ _ (omega arith) c.loop-place.invariant
