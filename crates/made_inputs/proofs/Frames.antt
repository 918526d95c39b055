-- The blocks of a made sound, one after another.
use Rattle.std.proofs.Common.{◌≡◌, ℕ, zero, suc, ◌+◌, ◌*◌, ◌%◌, List, [], ◌∷◌, ◌++◌, length, replicate, refl, sym, ap, subst, ◌∙◌, add-one, append_assoc, append-nil, length-append, arith}
use Rattle.std.specs.List.{flat_map, range_with_len}
use Rattle.std.proofs.lemmas.Grind.{flat_map-append}
use Rattle.verb_codes.proofs.Callers.{range_more}
use Rattle.made_inputs.specs.MadeSound.{made_frame, frames_for, first_frames, made_format, made_pcm, made_wav}
use Rattle.wav_writer.specs.Heads.{block_head}

pub frames_more : (number count : ℕ) → first_frames number (count + 1) ≡ first_frames number count ++ made_frame number count
frames_more number count =
    ap (flat_map (made_frame number)) (range_more 0 count ∙ ap (λ (k : ℕ). range_with_len 0 count ++ k ∷ []) (omega arith))
    ∙ flat_map-append (made_frame number) (range_with_len 0 count) (count ∷ [])

pub one_more : (number count : ℕ) (first before after : List ℕ) → before ≡ first ++ first_frames number count
    → after ≡ before ++ made_frame number count → after ≡ first ++ first_frames number (count + 1)
one_more number count first before after was is =
    is
    ∙ ap (λ (front : List ℕ). front ++ made_frame number count) was
    ∙ append_assoc first (first_frames number count) (made_frame number count)
    ∙ ap (λ (back : List ℕ). first ++ back) (sym (frames_more number count))

-- ---- the file

length_frames : (number count : ℕ) → length (first_frames number count) ≡ 4 * count
length_frames number zero = refl
length_frames number (suc count) =
    let one = length_frames number count in
    let more = ap length (frames_more number count) ∙ length-append (first_frames number count) (made_frame number count) in
    subst (λ (n : ℕ). length (first_frames number n) ≡ 4 * n) (add-one count) (omega (arith, one, more))

pub length_pcm : (number : ℕ) → length (made_pcm number) ≡ 4 * frames_for number
length_pcm number = length_frames number (frames_for number)

-- no byte is padded
even : (count : ℕ) → 4 * count % 2 ≡ 0
even count = omega arith

pub file_is : (number bytes : ℕ) → bytes ≡ 4 * frames_for number → block_head made_format bytes ++ made_pcm number ≡ made_wav number
unfolding made_wav
file_is number bytes is =
    let long : bytes ≡ length (made_pcm number) = is ∙ sym (length_pcm number) in
    let none : length (made_pcm number) % 2 ≡ 0 = ap (λ (n : ℕ). n % 2) (length_pcm number) ∙ even (frames_for number) in
    ap (λ (n : ℕ). block_head made_format n ++ made_pcm number) long
    ∙ ap (λ (back : List ℕ). block_head made_format (length (made_pcm number)) ++ back)
    (sym (append-nil (made_pcm number)) ∙ ap (λ (pad : List ℕ). made_pcm number ++ pad) (sym (ap (λ (n : ℕ). replicate n 0) none))
    ∙ sym (append-nil (made_pcm number ++ replicate (length (made_pcm number) % 2) 0)))
