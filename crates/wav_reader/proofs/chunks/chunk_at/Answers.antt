use Rattle.std.proofs.Common.{◌≡◌, ℕ, ◌+◌, ◌-◌, sym, ap, ◌∙◌, take, drop, length, arith}
use Rattle.wav_reader.specs.Readers.{chunk_with}
use Rattle.wav_reader.proofs.FrontLemmas.{chunk_at-head, chunk_at-short}
use Rattle.wav_reader.proofs.chunks.chunk_at.Goals as goal

pub returns-then-bytes-at-lt-CHUNK_HEAD-clause-chunk : goal.returns-then-bytes-at-lt-CHUNK_HEAD-clause-chunk
returns-then-bytes-at-lt-CHUNK_HEAD-clause-chunk c = sym (chunk_at-short c.args.bytes.now c.args.at (omega arith))

pub returns-clause-chunk : goal.returns-clause-chunk
returns-clause-chunk c =
    let eight : (c.args.at + 8) - c.args.at ≡ 8 = omega arith in
    c.chunk_with.ensures.chunk
    ∙ ap (λ (count : ℕ). chunk_with (take count (drop c.args.at c.args.bytes.now)) c.args.at (length c.args.bytes.now)) eight
    ∙ sym (chunk_at-head c.args.bytes.now c.args.at (omega arith))
