use Rattle.std.proofs.Common.{◌++◌, List, ℕ, ◌%◌, length, ◌∙◌, sym, ap}
use Rattle.wav_reader.specs.Written.{block_file, file_samples}
use Rattle.wav_writer.specs.Heads.{block_head}
use Rattle.wav_writer.proofs.Samples.{file_is, samples_are, containers, even}
use Rattle.wav_writer.proofs.file.wav_file.Goals as goal

pub push_samples-requires : goal.push_samples-requires
push_samples-requires c = containers c.args.format.bits c.args.format.channels (length c.args.ring.now) c.requires.whole

pub returns : goal.returns
unfolding block_file
returns c =
    let format = c.args.format in
    let ring = c.args.ring.now in
    let samples = file_samples format.bits ring in
    let long = samples_are format.bits ring (containers format.bits format.channels (length ring) c.requires.whole) in
    c.in_ok-push_samples.ensures
    ∙ ap (λ (front : List ℕ). front ++ samples)
    (c.in_ok-extend_from_slice.ensures.items ∙ ap (λ (front : List ℕ). front ++ c.wav_head.result) c.in_ok-file.ensures.items ∙ c.wav_head.ensures)
    ∙ ap (λ (bytes : ℕ). block_head format bytes ++ samples) (c.samples_len-bytes.ensures ∙ sym long)
    ∙ file_is format samples (ap (λ (n : ℕ). n % 2) long ∙ even format.bits format.channels (length ring) format.even c.requires.whole)
