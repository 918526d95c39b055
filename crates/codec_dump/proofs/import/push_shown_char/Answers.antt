use Rattle.std.proofs.Common.{◌≡◌, ◌∙◌, ap}
use Rattle.std.specs.Char.{encode_utf8}
use Rattle.codec_dump.specs.Texts.{shown}
use Rattle.codec_dump.proofs.ShownLemmas.{shown_char}
use Rattle.codec_dump.proofs.import.push_shown_char.Goals as goal

pub returns : goal.returns
returns c =
    let same : encode_utf8 c.shown.result ≡ shown (encode_utf8 c.args.c) = ap encode_utf8 c.shown.ensures ∙ shown_char c.args.c in
    rw same at c.push_char.ensures
