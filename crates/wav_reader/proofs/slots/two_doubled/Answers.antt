use Rattle.std.proofs.Common.{sym}
use Rattle.wav_reader.proofs.SlotLemmas.{two_doubled as are}
use Rattle.wav_reader.proofs.slots.two_doubled.Goals as goal

pub returns : goal.returns
returns c = sym (are c.args.samples.now c.requires)
