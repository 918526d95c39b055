use Rattle.draw_program.proofs.CodecLemmas.{few_codecs}
use Rattle.draw_program.proofs.answer.draw_machine.Goals as goal

pub codec_picture-requires : goal.codec_picture-requires
codec_picture-requires c = rw c.as_slice-codecs.ensures (few_codecs c.args.machine.now c.requires)
