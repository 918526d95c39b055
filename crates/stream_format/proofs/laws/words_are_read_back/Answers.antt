use Rattle.stream_format.proofs.ReadBack.{read_back}
use Rattle.stream_format.proofs.laws.words_are_read_back.Goals as goal

pub returns : goal.returns
returns c = read_back
