use Rattle.std.proofs.Common.{◌≡◌, sym, ◌∙◌, ap, min, length, Option, Ok, Err, rules}
use Rattle.std.proofs.lemmas.Result.{err_from_is_err_and}
use Rattle.wav_reader.specs.declared.formats.Sound.{Sound}
use Rattle.wav_reader.specs.Formats.{sound_of}
use Rattle.wav_reader.specs.Readers.{known_after}
use Rattle.wav_reader.proofs.FrontLemmas.{sound_of-front}
use Rattle.wav_reader.proofs.OpeningLemmas.{known_short, known_by, answer_fault}
use Rattle.wav_reader.proofs.opening.read_known.Goals as goal

pub returns-then-chunk-lt-FORMAT_BYTES-clause-exact : goal.returns-then-chunk-lt-FORMAT_BYTES-clause-exact
returns-then-chunk-lt-FORMAT_BYTES-clause-exact g c = λ file tells inside.
    known_short file c.args.found c.args.chunk c.in-Format-None.is-0 c.in-Format-None.is-1 c.if-chunk-lt-FORMAT_BYTES.true

pub returns-in_err-sound-in-Format-None-clause-exact : goal.returns-in_err-sound-in-Format-None-clause-exact
returns-in_err-sound-in-Format-None-clause-exact g c = λ file tells inside.
    let p = err_from_is_err_and c.from_residual-in_err-sound-in-Format-None.result c.from_residual-in_err-sound-in-Format-None.ensures.1 in
    let few : length c.read_exactly.new.buf ≡ min c.args.chunk.len 40 = search rules in
    let body = c.in_ok-read_exactly-in-Format-None.ensures.bytes file tells in
    let read = sym (sound_of-front file c.args.chunk (length c.read_exactly.new.buf) few inside) ∙ ap sound_of (sym body) ∙ sym c.sound_of.ensures ∙ c.in_err-sound-in-Format-None.was in
    rw (p.1, p.2)
    (answer_fault {A = Option Sound} (λ known. known) (known_after file c.args.found c.args.chunk) c.in_err-sound-in-Format-None.field-0.0
    (known_by file c.args.found c.args.chunk (Err c.in_err-sound-in-Format-None.field-0.0) c.in-Format-None.is-0 c.in-Format-None.is-1 read))

pub returns-in_ok-sound-in-Format-None-clause-exact : goal.returns-in_ok-sound-in-Format-None-clause-exact
returns-in_ok-sound-in-Format-None-clause-exact g c = λ file tells inside.
    let few : length c.read_exactly.new.buf ≡ min c.args.chunk.len 40 = search rules in
    let body = c.in_ok-read_exactly-in-Format-None.ensures.bytes file tells in
    let read = sym (sound_of-front file c.args.chunk (length c.read_exactly.new.buf) few inside) ∙ ap sound_of (sym body) ∙ sym c.sound_of.ensures ∙ c.in_ok-sound-in-Format-None.was in
    known_by file c.args.found c.args.chunk (Ok c.in_ok-sound-in-Format-None.sound) c.in-Format-None.is-0 c.in-Format-None.is-1 read
