use Rattle.std.proofs.Common.{sym, ◌∙◌}
use Rattle.verb_codes.specs.Words.{bits_of}
use Rattle.codec_sound.proofs.Listening.{input_converter}
use Rattle.codec_sound.proofs.inward.is_input_converter.Goals as goal

pub returns-then-is_converter : goal.returns-then-is_converter
returns-then-is_converter c =
    rw c.is_output_converter.ensures
    (input_converter (bits_of c.args.node.now.caps 20 4) (sym c.is_converter.ensures ∙ c.if-is_converter.true))
