-- Where a shelf tells its files, a name has one reading.
use Rattle.std.proofs.Common.{◌≡◌, ◌≢◌, ◌∙◌, ℕ, List, [], ◌∷◌, inl, inr, Some, Ok, Err, refl, sym, ap, subst, length, arith}
use Rattle.stream_format.specs.declared.format.Format.{Format}
use Rattle.stream_format.specs.Layouts.{layout}
use Rattle.codec_graph.specs.declared.pin_kind.PinKind.{PinKind}
use Rattle.route_planner.specs.declared.routes.Plan.{Plan}
use Rattle.route_planner.proofs.Callers.{only_plan}
use Rattle.hda_outside.specs.Shelf.{Files, file_of}
use Rattle.stream_format.proofs.Callers.{one_format}
use Rattle.hda_files.specs.declared.machine.CodecFile.{CodecFile}
use Rattle.hda_files.specs.declared.machine.Machine.{Machine}
use Rattle.hda_files.specs.declared.fault.FileFault.{FileFault}
use Rattle.hda_files.specs.declared.fault.FileFault.TheVariants as fault
use Rattle.hda_files.specs.Machines.{IsReadingOfBytes, Reads}
use Rattle.hda_files.proofs.Callers.{one_reading}
use Rattle.schedule_reader.specs.declared.schedule.Schedule.{Schedule}
use Rattle.schedule_reader.specs.declared.fault.SchedFault.{SchedFault}
use Rattle.schedule_reader.specs.Schedules.{schedule_of}
use Rattle.wav_reader.specs.declared.opened.WavHead.{WavHead}
use Rattle.wav_reader.specs.Heads.{Head, head_of}
use Rattle.wav_reader.specs.Opening.{head_in_file, most_wav_bytes}
use Rattle.program_runs.specs.Outputs.{HavePlansOf}
use Rattle.hda_program.specs.Files.{IsCodecRefused, IsHeadIn, IsLonger, IsMachineOf, IsScheduleOf, IsScheduleRefused, IsShortFile, IsWavRefused, most_codec_bytes, most_schedule_bytes}

-- ---- bytes

module _ (files : Files) (name : List ℕ) where
  pub one_file : (bytes other : List ℕ) → file_of files name ≡ Some bytes → file_of files name ≡ Some other → bytes ≡ other
  one_file bytes other here there = let same : Some bytes ≡ Some other = sym here ∙ there in cc

  pub not_longer : (most : ℕ) (bytes : List ℕ) → IsShortFile most (Some files) name bytes → IsLonger most (Some files) name → ⊥
  not_longer most bytes short (other, there, long) =
      let same : length bytes ≡ length other = ap (λ (b : List ℕ). length b) (one_file bytes other short.file there) in absurd (omega (arith, short.short, long, same))

-- ---- codec files

machine_reading : (bytes : List ℕ) (machine : Machine) → Reads bytes (Ok machine) → IsReadingOfBytes bytes (Ok machine)
machine_reading bytes machine (inl memory) = let bad : Ok machine ≡ Err fault.OutOfMemory = memory in cc
machine_reading bytes machine (inr reading) = reading

fault_reading : (bytes : List ℕ) (f : FileFault) → f ≢ fault.OutOfMemory → Reads bytes (Err f) → IsReadingOfBytes bytes (Err f)
fault_reading bytes f known (inl memory) = let same : f ≡ fault.OutOfMemory = cc in absurd (known same)
fault_reading bytes f known (inr reading) = reading

machine_of_bytes : (bytes : List ℕ) (one other : Machine) → Reads bytes (Ok one) → Reads bytes (Ok other) → other ≡ one
machine_of_bytes bytes one other h k =
    let same : Ok other ≡ Ok one = one_reading bytes (Ok one) (machine_reading bytes one h) (Ok other) (machine_reading bytes other k) in cc

pub one_machine : (files : Files) (name : List ℕ) (one other : Machine) → IsMachineOf (Some files) name one → IsMachineOf (Some files) name other → other ≡ one
one_machine files name one other h k =
    let same : k.bytes ≡ h.bytes = one_file files name k.bytes h.bytes k.file.file h.file.file in
    machine_of_bytes h.bytes one other h.reads (subst (λ (b : List ℕ). Reads b (Ok other)) same k.reads)

codec_unfaulty : (bytes : List ℕ) (machine : Machine) (f : FileFault) → Reads bytes (Ok machine) → f ≢ fault.OutOfMemory → Reads bytes (Err f) → ⊥
codec_unfaulty bytes machine f h known k =
    let bad : Err f ≡ Ok machine = one_reading bytes (Ok machine) (machine_reading bytes machine h) (Err f) (fault_reading bytes f known k) in cc

pub codec_unrefused : (files : Files) (name text : List ℕ) (machine : Machine) → IsMachineOf (Some files) name machine → IsCodecRefused (Some files) name text → ⊥
codec_unrefused files name text machine h (inl long) = not_longer files name most_codec_bytes h.bytes h.file long.0
codec_unrefused files name text machine h (inr refused) =
    let same : h.bytes ≡ refused.0 = one_file files name h.bytes refused.0 h.file.file refused.1.file in
    codec_unfaulty refused.0 machine refused.2.fault (subst (λ (b : List ℕ). Reads b (Ok machine)) same h.reads) refused.2.known refused.2.reads

-- ---- WAV files

layout_of_bytes : (bytes : List ℕ) (one other : WavHead) → head_of bytes ≡ Ok (head_in_file one) → head_of bytes ≡ Ok (head_in_file other) → layout other.format ≡ layout one.format
layout_of_bytes bytes one other h k =
    let both : Ok (head_in_file other) ≡ Ok (head_in_file one) = sym k ∙ h in
    let same : head_in_file other ≡ head_in_file one = cc in ap (λ (head : Head). head.format) same

pub one_wav_format : (files : Files) (name : List ℕ) (one other : WavHead) → IsHeadIn files name one → IsHeadIn files name other → other.format ≡ one.format
one_wav_format files name one other h k =
    let same : k.bytes ≡ h.bytes = one_file files name k.bytes h.bytes k.file h.file in
    one_format one.format other.format (layout_of_bytes h.bytes one other h.says (ap head_of (sym same) ∙ k.says))

-- and the sound has one length
pub one_wav_frames : (files : Files) (name : List ℕ) (one other : WavHead) → IsHeadIn files name one → IsHeadIn files name other → other.frames ≡ one.frames
one_wav_frames files name one other h k =
    let same : k.bytes ≡ h.bytes = one_file files name k.bytes h.bytes k.file h.file in
    let both : Ok (head_in_file other) ≡ Ok (head_in_file one) = sym k.says ∙ ap head_of same ∙ h.says in
    let heads : head_in_file other ≡ head_in_file one = cc in ap (λ (head : Head). head.frames) heads

pub wav_unrefused : (files : Files) (name text : List ℕ) (head : WavHead) → IsHeadIn files name head → IsWavRefused (Some files) name text → ⊥
wav_unrefused files name text head h (inl long) = not_longer files name most_wav_bytes h.bytes (record { file = h.file; short = h.short }) long.0
wav_unrefused files name text head h (inr faulty) =
    let same : h.bytes ≡ faulty.file.bytes = one_file files name h.bytes faulty.file.bytes h.file faulty.file.file in
    let bad : Ok (head_in_file head) ≡ Err faulty.fault = sym h.says ∙ ap head_of same ∙ faulty.file.says in cc

-- ---- schedules

schedule_unfaulty : (bytes : List ℕ) (schedule : Schedule) (f : SchedFault) → schedule_of bytes ≡ Ok schedule → schedule_of bytes ≡ Err f → ⊥
schedule_unfaulty bytes schedule f h k = let bad : Ok schedule ≡ Err f = sym h ∙ k in cc

pub schedule_unrefused : (files : Files) (name text : List ℕ) (schedule : Schedule) → IsScheduleOf (Some files) name schedule → IsScheduleRefused (Some files) name text → ⊥
schedule_unrefused files name text schedule h (inl long) = not_longer files name most_schedule_bytes h.bytes h.file long.0
schedule_unrefused files name text schedule h (inr refused) =
    let same : h.bytes ≡ refused.0 = one_file files name h.bytes refused.0 h.file.file refused.1.file in
    schedule_unfaulty refused.0 schedule refused.2.fault (ap schedule_of (sym same) ∙ h.reads) refused.2.reads

pub one_schedule : (files : Files) (name : List ℕ) (one other : Schedule) → IsScheduleOf (Some files) name one → IsScheduleOf (Some files) name other → other ≡ one
one_schedule files name one other h k =
    let same : k.bytes ≡ h.bytes = one_file files name k.bytes h.bytes k.file.file h.file.file in
    let both : Ok other ≡ Ok one = sym k.reads ∙ ap schedule_of same ∙ h.reads in cc

-- ---- plans

pub one_plans : (kind : PinKind) (format : Format) (codecs : List CodecFile) (one other : List Plan) → HavePlansOf kind format codecs one → HavePlansOf kind format codecs other → other ≡ one
one_plans kind format [] [] [] h k = refl
one_plans kind format [] [] (plan ∷ others) h k = absurd k
one_plans kind format [] (plan ∷ ones) other h k = absurd h
one_plans kind format (file ∷ codecs) [] other h k = absurd h
one_plans kind format (file ∷ codecs) (plan ∷ ones) [] h k = absurd k
one_plans kind format (file ∷ codecs) (plan ∷ ones) (twin ∷ others) h k =
    let first : twin ≡ plan = only_plan kind file.graph format plan h.0 twin k.0 in
    let rest : others ≡ ones = one_plans kind format codecs ones others h.1 k.1 in cc
