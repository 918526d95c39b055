use Rattle.std.proofs.Common.{sym}
use Rattle.wav_reader.proofs.SlotLemmas.{two_widened as are}
use Rattle.wav_reader.proofs.slots.two_widened.Goals as goal

pub returns : goal.returns
returns c = sym (are c.args.samples.now c.requires)
