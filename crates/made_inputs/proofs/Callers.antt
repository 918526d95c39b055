-- What the proofs of other crates cite.
use Rattle.std.proofs.Common.{◌≡◌, ◌≤◌, ℕ, ◌*◌, length, refl, ap, sym, ◌∙◌, length-append, arith}
use Rattle.made_inputs.specs.MadeSound.{frames_for, made_format, made_pcm, made_wav}
use Rattle.wav_writer.specs.Heads.{block_head}
use Rattle.made_inputs.proofs.Frames as frames
-- a made schedule with its repeats written out
unfoldable pub use Rattle.made_inputs.proofs.Written.{bring_up_items}
pub use Rattle.made_inputs.proofs.Written.{items_are, length_turns}
-- each turn has 16 link frames or more
pub use Rattle.made_inputs.proofs.Limits.{turns_some}
-- one turn more
pub use Rattle.made_inputs.proofs.Turns.{turns_more, sum_more}
-- made schedules are no longer than schedules may be
pub use Rattle.made_inputs.proofs.Limits.{made_is_limited}

-- a made sound has four bytes for each frame
pub length_pcm : (number : ℕ) → length (made_pcm number) ≡ 4 * frames_for number
length_pcm number = frames.length_pcm number

-- its file has few
pub wav_short : (number : ℕ) → length (made_wav number) ≤ 67108864
wav_short number =
    let long = ap length (sym (frames.file_is number (4 * frames_for number) refl)) ∙ length-append (block_head made_format (4 * frames_for number)) (made_pcm number) in
    let sound = frames.length_pcm number in
    let head : length (block_head made_format (4 * frames_for number)) ≡ 44 = refl in
    omega (arith, long, sound, head)
