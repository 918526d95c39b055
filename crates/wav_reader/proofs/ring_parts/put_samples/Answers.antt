use Rattle.std.proofs.Common.{◌++◌, List, ℕ, sym, ap, ◌∙◌, length, arith}
use Rattle.circular_buffer.specs.Buffer.{buffer}
use Rattle.wav_reader.proofs.RingLemmas.{part-same}
use Rattle.wav_reader.proofs.ring_parts.put_samples.Goals as goal

pub put_last-requires : goal.put_last-requires
put_last-requires c =
    let same = part-same c.args.mono c.args.bits c.args.samples.now (sym c.are_turned.ensures ∙ c.if-are_turned.false) c.requires.whole in
    let long = ap length same in
    let room = c.requires.room in
    omega (arith, long, room)

pub returns-else-are_turned : goal.returns-else-are_turned
returns-else-are_turned c =
    let same = part-same c.args.mono c.args.bits c.args.samples.now (sym c.are_turned.ensures ∙ c.if-are_turned.false) c.requires.whole in
    c.put_last.ensures ∙ ap (λ (bytes : List ℕ). buffer (c.args.held.now.items ++ bytes) c.args.held.now.capacity) (sym same)
