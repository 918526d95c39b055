use Rattle.std.proofs.Common.{sym, ◌∙◌, arith, rules}
use Rattle.wav_reader.proofs.FrontLemmas.{chunk_at-short}
use Rattle.wav_reader.proofs.OpeningLemmas.{cut_none, cut_some, head_read}
use Rattle.wav_reader.proofs.opening.read_chunk.Goals as goal

pub returns-then-file_len-at-lt-CHUNK_HEAD-clause-exact : goal.returns-then-file_len-at-lt-CHUNK_HEAD-clause-exact
returns-then-file_len-at-lt-CHUNK_HEAD-clause-exact g c = λ file tells same.
    cut_none file c.args.at c.args.file_len (chunk_at-short file c.args.at (omega arith)) same

pub returns-in_default-clause-exact : goal.returns-in_default-clause-exact
returns-in_default-clause-exact g c = λ file tells same.
    let here = head_read file c.read_exactly.new.buf c.args.at c.args.file_len (omega arith) same (search rules) (c.in_ok-read_exactly.ensures.bytes file tells) in
    cut_none file c.args.at c.args.file_len (here ∙ sym c.chunk_with.ensures.chunk ∙ c.in_default.is) same

pub returns-clause-exact : goal.returns-clause-exact
returns-clause-exact g c = λ file tells same.
    let here = head_read file c.read_exactly.new.buf c.args.at c.args.file_len (omega arith) same (search rules) (c.in_ok-read_exactly.ensures.bytes file tells) in
    cut_some file c.args.at c.in-Some.chunk (here ∙ sym c.chunk_with.ensures.chunk ∙ c.in-Some.is)
