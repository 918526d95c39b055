use Rattle.std.proofs.Common.{sym}
use Rattle.wav_reader.proofs.SlotLemmas.{four_widened as are}
use Rattle.wav_reader.proofs.slots.four_widened.Goals as goal

pub returns : goal.returns
returns c = sym (are c.args.samples.now c.requires)
