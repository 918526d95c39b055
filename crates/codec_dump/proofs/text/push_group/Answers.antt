use Rattle.std.specs.Prelude.{codes, unwrap_or}
use Rattle.codec_dump.specs.Pieces.{byte_line}
use Rattle.codec_dump.proofs.PieceLemmas.{three_pieces}
use Rattle.codec_dump.proofs.text.push_group.Goals as goal

pub returns : goal.returns
returns c =
    let codec = c.args.codec.now in
    three_pieces c.push_byte-2.result _ _ _ _
    (byte_line (codes "group") (unwrap_or codec.group_nid 1))
    (byte_line (codes "group_type") (unwrap_or codec.group_type 1))
    (byte_line (codes "group_power") (unwrap_or codec.group.power_state 0))
    (rw c.unwrap_or.ensures at c.in_ok-push_byte.ensures)
    (rw c.unwrap_or-2.ensures at c.in_ok-push_small.ensures)
    (rw c.unwrap_or-3.ensures at c.push_byte-2.ensures)
