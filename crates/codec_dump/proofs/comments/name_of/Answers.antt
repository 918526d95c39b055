use Rattle.std.proofs.Common.{◌∙◌, ap}
use Rattle.std.specs.Char.{encode_utf8}
use Rattle.codec_dump.specs.Comments.{without_colon}
use Rattle.codec_dump.proofs.PieceLemmas.{no_colon}
use Rattle.codec_dump.proofs.comments.name_of.Goals as goal

pub returns-in-None : goal.returns-in-None
unfolding encode_utf8
returns-in-None c = no_colon c.text-text.result.now c.in-None.ensures.cases ∙ ap without_colon c.text-text.ensures
