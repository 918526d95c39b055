use Rattle.wav_reader.proofs.WrittenLemmas.{read_back}
use Rattle.wav_reader.proofs.laws.written_chunks_are_read.Goals as goal

pub returns : goal.returns
returns c = λ size parts four all. read_back size parts four all
