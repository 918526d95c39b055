use Rattle.std.proofs.lemmas.Result.{IfOk-equal}
use Rattle.codec_picture.specs.Codecs.{box_at, connections_at, head_of, mark_of, names_at, route_lines}
use Rattle.codec_picture.specs.Repeats.{each, numbered}
use Rattle.codec_picture.proofs.RepeatLemmas.{pieces_6}
use Rattle.codec_picture.proofs.whole.push_codec.Goals as goal

pub returns : goal.returns
returns c =
    let top = c.args.top in
    let codec = c.args.codec.now in
    let pins = c.args.pins.now in
    IfOk-equal c.push_all_names.result _ _ _ c.push_all_names.ensures
    (rw (c.in_ok-push_routes.ensures, c.in_ok-push_marks.ensures, c.in_ok-push_boxes.ensures, c.in_ok-push_all_connections.ensures, c.in_ok-push_head.ensures)
    (pieces_6 c.args.shapes.now (head_of codec top) (each (connections_at codec top) codec.count) (each (box_at codec top) codec.count)
    (numbered (mark_of codec top) 0 pins) (numbered (route_lines codec top) 0 pins) (each (names_at codec top) codec.count)))
