use Rattle.std.specs.Prelude.{codes}
use Rattle.codec_dump.specs.Pieces.{byte_text}
use Rattle.codec_dump.proofs.PieceLemmas.{two_pieces}
use Rattle.codec_dump.proofs.comments.push_place.Goals as goal

pub returns : goal.returns
returns c =
    two_pieces c.push_number.result _ _ _ (codes " with select ") (byte_text c.args.place) c.in_ok-push_text.ensures c.push_number.ensures
