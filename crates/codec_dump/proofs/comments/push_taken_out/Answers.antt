use Rattle.std.specs.Prelude.{codes}
use Rattle.codec_dump.specs.Pieces.{byte_text}
use Rattle.codec_dump.proofs.PieceLemmas.{three_pieces}
use Rattle.codec_dump.proofs.comments.push_taken_out.Goals as goal

pub returns : goal.returns
returns c =
    three_pieces c.push_text-2.result _ _ _ _ (codes "; ") (byte_text c.args.group) (codes " is the function group\n") c.in_ok-push_text.ensures c.in_ok-push_number.ensures c.push_text-2.ensures
