use Rattle.wav_reader.proofs.ChunkLemmas.{chunks_from-all}
use Rattle.wav_reader.proofs.laws.all_chunks_are_found.Goals as goal

pub returns : goal.returns
returns c = λ bytes most enough. chunks_from-all most bytes 12 enough
