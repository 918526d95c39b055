-- What the file of a made sound says before it, and that it is not refused.
use Rattle.std.proofs.Common.{◌≡◌, ◌/◌, ℕ, List, false, length, Some, Result, Ok, Err, refl, sym, ap, subst, ◌∙◌, arith}
use Rattle.hda_outside.specs.Counts.{Rose}
use Rattle.hda_outside.specs.MemoryShelf.{fault_count}
use Rattle.hda_outside.specs.Shelf.{Files, file_of}
use Rattle.stream_format.specs.Layouts.{layout}
use Rattle.stream_format.specs.declared.format.Rate.TheVariants.{R48}
use Rattle.stream_format.specs.declared.format.Bits.TheVariants.{B16, B24}
use Rattle.stream_format.proofs.Callers.{one_format}
use Rattle.wav_reader.specs.declared.fault.WavFault.{WavFault}
use Rattle.wav_reader.specs.declared.opened.WavHead.{WavHead}
use Rattle.wav_reader.specs.declared.opened.WavOpen.{WavOpen}
use Rattle.wav_reader.specs.declared.opened.WavOpen.TheVariants.{TooLong, Wav}
use Rattle.wav_reader.specs.Formats.{◌>>=◌}
use Rattle.wav_reader.specs.Heads.{Head, head_of}
use Rattle.wav_reader.specs.Laws.{IsHeardAgain}
use Rattle.wav_reader.specs.Opening.{head_in_file, IsOpened, IsOpenedBy}
use Rattle.wav_reader.specs.Wavs.{Meaning, meaning_by, wav_of}
use Rattle.wav_reader.specs.Written.{stereo_sound}
use Rattle.made_inputs.specs.MadeSound.{made_format, made_pcm, made_wav}
use Rattle.made_inputs.proofs.Callers.{length_pcm, wav_short}
use Rattle.program_runs.specs.Shelves.{IsMadeHead, sound_name, made_files}

-- what the file means
abbrev pub meant : ℕ → Meaning
meant number = record { format = layout made_format; mono = false; frames = length (made_pcm number) / 4; pcm = made_pcm number }

abbrev with_pcm : (number : ℕ) → List ℕ → Meaning
with_pcm number pcm = record { format = layout made_format; mono = false; frames = length (made_pcm number) / 4; pcm = pcm }

pub means : IsHeardAgain → (number : ℕ) → wav_of (made_wav number) ≡ Ok (meant number)
unfolding made_wav
means law number =
    let long = length_pcm number in
    let read = law (stereo_sound R48) (made_pcm number) (omega (arith, long)) in
    read.plain ∙ ap (λ (pcm : List ℕ). Ok (with_pcm number pcm)) (read.stays refl (λ (same : B16 ≡ B24). cc) (omega (arith, long)))

-- the file is on the shelf
pub file_there : (number : ℕ) → file_of (made_files number) sound_name ≡ Some (made_wav number)
file_there number = refl

pub reads_as : IsHeardAgain → (number : ℕ) (head : Head) → head_of (made_wav number) ≡ Ok head → meaning_by (made_wav number) head ≡ meant number
reads_as law number head is =
    let bytes = made_wav number in
    let one : wav_of bytes ≡ Ok (meaning_by bytes head) = ap (λ (found : Result Head WavFault). found >>= (λ (head : Head). Ok (meaning_by bytes head))) is in
    let both : Ok (meaning_by bytes head) ≡ Ok (meant number) = sym one ∙ means law number in
    cc

-- no fault is found
no_fault : IsHeardAgain → (number : ℕ) (fault : WavFault) → head_of (made_wav number) ≡ Err fault → ⊥
no_fault law number fault is =
    let bytes = made_wav number in
    let one : wav_of bytes ≡ Err fault = ap (λ (found : Result Head WavFault). found >>= (λ (head : Head). Ok (meaning_by bytes head))) is in
    let both : Err fault ≡ Ok (meant number) = sym one ∙ means law number in
    cc

opened : (number : ℕ) (files : Files) (result : Result WavHead WavOpen) → files ≡ made_files number → IsOpenedBy (file_of files sound_name) result
    → IsOpened (made_wav number) result
opened number files result is exact = subst (λ (files : Files). IsOpenedBy (file_of files sound_name) result) is exact

pub not_long : (number : ℕ) (files : Files) → files ≡ made_files number → IsOpenedBy (file_of files sound_name) (Err TooLong) → ⊥
not_long number files is exact =
    let long = opened number files (Err TooLong) is exact in
    let short = wav_short number in
    omega (arith, long, short)

pub not_refused : IsHeardAgain → (number : ℕ) (files : Files) (fault : WavFault) → files ≡ made_files number → IsOpenedBy (file_of files sound_name) (Err (Wav fault)) → ⊥
not_refused law number files fault is exact = no_fault law number fault (opened number files (Err (Wav fault)) is exact).1

pub head_is : IsHeardAgain → (number : ℕ) (files : Files) (head : WavHead) → files ≡ made_files number → IsOpenedBy (file_of files sound_name) (Ok head) → IsMadeHead number head
head_is law number files head is exact =
    let says = (opened number files (Ok head) is exact).2 in
    let same = reads_as law number (head_in_file head) says in
    let long = length_pcm number in
    record {
      says = says;
      format_is = one_format made_format head.format (ap (λ (meaning : Meaning). meaning.format) same);
      stereo = ap (λ (meaning : Meaning). meaning.mono) same;
      frames_are = ap (λ (meaning : Meaning). meaning.frames) same ∙ omega (arith, long);
    }

-- the shelf does not fail under the name
no_faults : (number missing : ℕ) (files : Files) → files ≡ made_files number → fault_count files 0 missing sound_name ≡ 0
no_faults number missing files is = ap (λ (files : Files). fault_count files 0 missing sound_name) is

pub never_fails : (number : ℕ) (old new : Files) (missing missing' : ℕ) → old ≡ made_files number → Some new ≡ Some old
    → Rose (fault_count old 0 missing sound_name) (fault_count new 0 missing' sound_name) → ⊥
never_fails number old new missing missing' is told rose =
    let same : new ≡ old = cc in
    let before = no_faults number missing old is in
    let after = no_faults number missing' new (same ∙ is) in
    omega (arith, rose, before, after)
