use Rattle.std.proofs.Common.{◌≡◌, ◌+◌, ◌-◌, arith}
use Rattle.std.proofs.lemmas.List.FromFn.{map-range_with_len_more}
use Rattle.hda_files.specs.Codecs.{widget_at}
use Rattle.hda_files.proofs.codec.widgets_inside.Goals as goal

pub loop-nid-preserved : goal.loop-nid-preserved
loop-nid-preserved c =
    let first = c.from-first.result in
    let nid = c.loop-nid.nid in
    let step : nid + 1 - first ≡ nid - first + 1 = omega arith in
    let more = map-range_with_len_more (widget_at c.args.nodes.now) first (nid - first) nid (omega arith) in
    rw (c.in_ok-push.ensures.items, c.loop-nid.invariant, c.in_ok-widget_at.ensures, step, more)
