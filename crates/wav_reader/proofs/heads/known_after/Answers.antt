use Rattle.std.proofs.Common.{◌≡◌, ℕ, ◌+◌, ◌-◌, take, drop, Ok, sym, ap, ◌∙◌, arith}
use Rattle.wav_reader.specs.Formats.{sound_of}
use Rattle.wav_reader.proofs.OpeningLemmas.{known_by}
use Rattle.wav_reader.proofs.heads.known_after.Goals as goal

pub returns-in_ok-sound-in-Format-None : goal.returns-in_ok-sound-in-Format-None
returns-in_ok-sound-in-Format-None c =
    let all : c.args.chunk.from + c.args.chunk.len - c.args.chunk.from ≡ c.args.chunk.len = omega arith in
    let read = ap (λ (count : ℕ). sound_of (take count (drop c.args.chunk.from c.args.bytes.now))) (sym all) ∙ sym c.sound_of.ensures ∙ c.in_ok-sound-in-Format-None.was in
    sym (known_by c.args.bytes.now c.args.found c.args.chunk (Ok c.in_ok-sound-in-Format-None.sound) c.in-Format-None.is-0 c.in-Format-None.is-1 read)
