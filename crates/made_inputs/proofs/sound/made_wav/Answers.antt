use Rattle.std.proofs.Common.{◌∙◌, ◌*◌, ◌++◌, List, ℕ, ap}
use Rattle.made_inputs.specs.MadeSound.{first_frames, made_format}
use Rattle.stream_format.specs.declared.format.Format.{Format}
use Rattle.wav_writer.specs.Heads.{block_head}
use Rattle.made_inputs.proofs.Frames.{file_is}
use Rattle.made_inputs.proofs.sound.made_wav.Goals as goal

pub returns : goal.returns
returns c =
    let number = c.args.number in
    let frames = c.frames_for-frames.result in
    c.in_ok-push_frames.ensures
    ∙ ap (λ (front : List ℕ). front ++ first_frames number frames)
    (c.in_ok-extend_from_slice.ensures.items ∙ ap (λ (front : List ℕ). front ++ c.wav_head.result) c.in_ok-file.ensures.items ∙ c.wav_head.ensures
    ∙ ap (λ (format : Format). block_head format (4 * frames)) c.made_format.ensures)
    ∙ ap (λ (count : ℕ). block_head made_format (4 * frames) ++ first_frames number count) c.frames_for-frames.ensures.value
    ∙ file_is number (4 * frames) (ap (λ (count : ℕ). 4 * count) c.frames_for-frames.ensures.value)
