use Rattle.wav_reader.proofs.BlockLemmas.{blocks_back}
use Rattle.wav_reader.proofs.laws.written_blocks_are_read.Goals as goal

pub returns : goal.returns
returns c = blocks_back
