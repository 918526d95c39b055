use Rattle.std.specs.Prelude.{codes}
use Rattle.codec_dump.specs.Pieces.{bytes_text}
use Rattle.codec_dump.specs.Comments.{with_select, taken_out}
use Rattle.codec_dump.proofs.PieceLemmas.{four_pieces}
use Rattle.codec_dump.proofs.comments.push_old_list.Goals as goal

pub returns : goal.returns
returns c =
    four_pieces c.push_taken_out.result _ _ _ _ _ (codes "# mended: list was ") (bytes_text c.args.list.now) (with_select c.args.select) (taken_out c.args.group) c.in_ok-push_text.ensures c.in_ok-push_bytes.ensures c.in_ok-push_select.ensures c.push_taken_out.ensures
