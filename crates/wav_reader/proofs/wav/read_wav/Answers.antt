use Rattle.std.proofs.Common.{length, sym, ap, ◌∙◌}
use Rattle.wav_reader.specs.Heads.{IsRingFormat}
use Rattle.wav_reader.specs.Readers.{head_seen}
use Rattle.wav_reader.proofs.Callers.{ring_length}
use Rattle.wav_reader.proofs.wav.read_wav.Goals as goal

pub returns-clause-whole : goal.returns-clause-whole
returns-clause-whole c =
    let head = head_seen c.in_ok-head.head in
    let format = c.in_ok-head.head.format in
    let form : IsRingFormat head.mono head.format = record { even = format.even; some = format.some; few = format.few; doubled = c.in_ok-head.ensures.doubled } in
    ap length (c.from_vec.ensures ∙ c.in_ok-pcm.ensures) ∙ ring_length c.args.bytes.now head form (sym c.in_ok-head.ensures.head)
