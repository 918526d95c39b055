use Rattle.std.proofs.Common.{List, ℕ, ◌++◌, ◌∙◌, sym, ap, append_assoc}
use Rattle.std.specs.List.{flat_map}
use Rattle.stream_format.specs.declared.format.Bits.TheVariants.{B24}
use Rattle.wav_reader.specs.Wavs.{piece_at, pieces_of}
use Rattle.wav_reader.specs.Written.{file_sample}
use Rattle.wav_reader.proofs.Callers.{pieces-more}
use Rattle.wav_writer.proofs.Samples.{upper}
use Rattle.wav_writer.proofs.file.push_24.Goals as goal

pub loop-number-preserved : goal.loop-number-preserved
loop-number-preserved c =
    let before = c.args.file.now.items in
    let number = c.loop-number.number in
    let samples = flat_map (file_sample B24) (pieces_of 4 c.args.ring.now c.loop-number.number) in
    c.in_ok-extend_from_slice.ensures.items
    ∙ ap (λ (sample : List ℕ). c.loop-number.file.items ++ sample) (upper c.args.ring.now number)
    ∙ ap (λ (front : List ℕ). front ++ file_sample B24 (piece_at 4 c.args.ring.now number)) c.loop-number.invariant
    ∙ append_assoc before samples (file_sample B24 (piece_at 4 c.args.ring.now number))
    ∙ ap (λ (all : List ℕ). before ++ all) (sym (pieces-more (file_sample B24) 4 c.args.ring.now number))
