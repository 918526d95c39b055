-- What a run that reads its sound while it plays played, and how much of it was read.
use Rattle.std.proofs.Common.{◌≡◌, ◌≢◌, ◌≤◌, ◌<◌, ◌+◌, ◌-◌, ◌*◌, ◌/◌, ◌∙◌, ℕ, List, [], ◌++◌, length, Option, Some, None, refl, sym, ap, subst, arith, inl, inr}
use Rattle.std.proofs.Math.Nat.{div-le_of_le-mul, mul-le-mul_right, add-mul-div_right, zero-div}
use Rattle.stream_format.specs.Cadence.{block_bytes}
use Rattle.stream_format.specs.Layouts.{layout}
use Rattle.hda_outside.specs.Counts.{Rose}
use Rattle.hda_outside.specs.declared.pieces.Cut.{Cut}
use Rattle.hda_outside.specs.declared.pieces.Cut.TheVariants.{Failed, Short, OutOfMemory}
use Rattle.wav_reader.specs.declared.opened.WavHead.{WavHead}
use Rattle.wav_reader.specs.Heads.{frame_length}
use Rattle.wav_reader.proofs.Callers as callers
use Rattle.wav_reader.proofs.Callers.{form_of, sound_most}
use Rattle.std.proofs.lemmas.Nat.{mul-le}
use Rattle.wav_reader.specs.Opening.{head_in_file}
use Rattle.wav_reader.specs.Shelves.{ShelfSeen}
use Rattle.wav_reader.specs.Supplies.{Source, Supplied, MayGive, EndsWith, block_of}
use Rattle.wav_reader.specs.Fills.{IsBeside}
use Rattle.period_writer.specs.declared.course.Course.{Course}
use Rattle.period_writer.specs.declared.course.Ran.{Ran}
use Rattle.period_writer.specs.declared.course.Ran.TheVariants.{Playing, Drained, Late}
use Rattle.period_writer.specs.Accounts.{unrecorded}
use Rattle.period_writer.specs.declared.geometry.Geometry.{Geometry}
use Rattle.period_writer.specs.Writers.{WriterState}
use Rattle.period_writer.specs.Writers.{measures_of}
use Rattle.period_writer.specs.Runs.{Measures, measures}
use Rattle.sound_report.specs.declared.played.CutLine.{CutLine}
use Rattle.sound_report.specs.declared.played.CutLine.TheVariants as lines
use Rattle.sound_report.specs.declared.played.Played.{Played}
use Rattle.program_runs.specs.Feeding.{Shelves, Streams, IsFed, IsLeftAfter, HasCause, IsAccount, IsCutAt, AreFramesRead, Took, sound_bytes}
use Rattle.program_runs.specs.Reading.{frames_read, IsLineOf}
use Rattle.program_runs.specs.Plays.{IsSoundRead, IsReadUpTo, IsCutUnder, most_of_frames}
use Rattle.program_runs.proofs.FedRings.{first_supply, fed_first, ring_whole}
use Rattle.program_runs.proofs.Sound.{later_of, may_later, ends_later, sound_length, sound_told, read_less}

-- where a play reads its sound
abbrev pub source_for : (name : List ℕ) → WavHead → (ring : ℕ) → Source
source_for name head ring = record { name = name; head = head_in_file head; ring = ring }

-- what a driver that was just opened is fed by
pub fed_at_open : (name : List ℕ) (head : WavHead) (geometry : Geometry) (shelf : Shelves) (supply : Supplied) (writer : WriterState) → supply ≡ first_supply (source_for name head (measures geometry).ring)
    → writer.geometry ≡ geometry → geometry.format ≡ head.format → IsFed (measures_of writer) (Some (source_for name head (measures geometry).ring)) shelf shelf None supply writer.course
fed_at_open name head geometry shelf supply writer is ring format =
    subst (λ (geometry' : Geometry). IsFed (measures geometry') (Some (source_for name head (measures geometry).ring)) shelf shelf None supply writer.course) (sym ring)
    (fed_first (measures geometry) (source_for name head (measures geometry).ring) shelf supply writer.course is refl (ap block_bytes (sym format))
    (ring_whole geometry.periods geometry.period geometry.format))

-- another name is not the one of the sound
pub beside_first : (name : List ℕ) (head : WavHead) (ring : ℕ) (supply : Supplied) (other : List ℕ) → supply ≡ first_supply (source_for name head ring) → other ≢ name → IsBeside supply.source other
beside_first name head ring supply other is beside = subst (λ (supply : Supplied). IsBeside supply.source other) (sym is) beside

-- ---- the line of a cut

cut_under : (name : List ℕ) (head : WavHead) (ring read bytes : ℕ) (cut : Option Cut) (line : Option CutLine) (first now : ShelfSeen) → IsLineOf name cut line
    → HasCause cut (source_for name head ring) first now → IsCutAt cut (source_for name head ring) bytes
    → ((reason : Cut) → cut ≡ Some reason → read * block_of (head_in_file head) / block_of (head_in_file head) ≡ bytes / block_of (head_in_file head))
    → IsCutUnder name head read (Rose first.faults now.faults) (Rose first.empties now.empties) line
cut_under name head ring read bytes None line first now is cause at same =
    subst (IsCutUnder name head read (Rose first.faults now.faults) (Rose first.empties now.empties)) (sym is) tt
cut_under name head ring read bytes (Some Failed) line first now is cause at same = by is where
  by : IsLineOf name (Some Failed) line → IsCutUnder name head read (Rose first.faults now.faults) (Rose first.empties now.empties) line
  by (other, said, named) = subst (IsCutUnder name head read (Rose first.faults now.faults) (Rose first.empties now.empties)) (sym said) (named, cause.0)
cut_under name head ring read bytes (Some (Short place)) line first now is cause at same =
    subst (IsCutUnder name head read (Rose first.faults now.faults) (Rose first.empties now.empties)) (sym is)
    (record { start = rw (same (Short place) refl) at.start; within = rw (same (Short place) refl) at.within; early = at.early }, cause.1)
cut_under name head ring read bytes (Some OutOfMemory) line first now is cause at same = absurd is

-- no answer was empty unless it was short
empties_same : (name : List ℕ) (head : WavHead) (ring : ℕ) (cut : Option Cut) (line : Option CutLine) (first now : ShelfSeen) → IsLineOf name cut line
    → HasCause cut (source_for name head ring) first now → ((place : ℕ) → line ≢ Some (lines.Short place)) → now.empties ≡ first.empties
empties_same name head ring None line first now is cause none = cause
empties_same name head ring (Some Failed) line first now is cause none = cause.1
empties_same name head ring (Some (Short place)) line first now is cause none = absurd (none place is)
empties_same name head ring (Some OutOfMemory) line first now is cause none = absurd is

-- bytes for so many frames
frames_most : (cut : Option Cut) (source : Source) (first now bytes frames : ℕ) → 1 ≤ frame_length source.head.mono source.head.format → frames ≡ bytes / block_of source.head
    → AreFramesRead cut source first now bytes
    → now ≤ first + (frames * frame_length source.head.mono source.head.format + (frame_length source.head.mono source.head.format - 1))
frames_most None source first now bytes frames some same read = (let all = ap (λ (n : ℕ). n * frame_length source.head.mono source.head.format) same in omega (arith, some, all, read))
frames_most (Some cut) source first now bytes frames some same read = (let all = ap (λ (n : ℕ). n * frame_length source.head.mono source.head.format) same in omega (arith, some, all, read))

frame_some : (head : WavHead) → 1 ≤ frame_length head.mono (layout head.format)
frame_some head = callers.frame_some (head_in_file head) (form_of head)

up_to : (name : List ℕ) (cut : Option Cut) (line : Option CutLine) (bytes block read frames : ℕ) → IsLineOf name cut line → read ≡ frames_read cut bytes block frames
    → ((reason : Cut) → cut ≡ Some reason → frames_read (Some reason) bytes block frames < frames) → IsReadUpTo line read frames
up_to name None line bytes block read frames is count less = subst (λ (line : Option CutLine). IsReadUpTo line read frames) (sym is) count
up_to name (Some Failed) line bytes block read frames is count less = by is where
  by : IsLineOf name (Some Failed) line → IsReadUpTo line read frames
  by (other, same, named) = subst (λ (line : Option CutLine). IsReadUpTo line read frames) (sym same) (subst (λ (n : ℕ). n < frames) (sym count) (less Failed refl))
up_to name (Some (Short place)) line bytes block read frames is count less =
    subst (λ (line : Option CutLine). IsReadUpTo line read frames) (sym is) (subst (λ (n : ℕ). n < frames) (sym count) (less (Short place) refl))
up_to name (Some OutOfMemory) line bytes block read frames is count less = absurd is

not_short : (name : List ℕ) (cut : Option Cut) (line : Option CutLine) (place : ℕ) → IsLineOf name cut line → cut ≢ Some (Short place) → line ≢ Some (lines.Short place)
not_short name None line place is other same = cc
not_short name (Some Failed) line place is other same = by is where
  by : IsLineOf name (Some Failed) line → ⊥
  by (text, said, named) = cc
not_short name (Some (Short at)) line place is other same = other (ap (λ (place : ℕ). Some (Short place)) (place_is (sym is ∙ same))) where
  place_is : Some (lines.Short at) ≡ Some (lines.Short place) → at ≡ place
  place_is same = cc
not_short name (Some OutOfMemory) line place is other same = is

unrecorded_most : (ring : ℕ) (was : Ran) → unrecorded ring was ≤ ring
unrecorded_most ring Playing = omega arith
unrecorded_most ring Drained = omega arith
unrecorded_most ring (Late from to limit) = omega arith

-- ---- the frames

-- of no more bytes than so many frames have no more frames are whole
within_all : (block bytes frames : ℕ) → 1 ≤ block → bytes ≤ frames * block → bytes / block ≤ frames
within_all block bytes frames some within = div-le_of_le-mul block (omega (arith, within))

mul-mono : (frame few many : ℕ) → few ≤ many → few * frame ≤ many * frame
mul-mono frame few many less = mul-le-mul_right frame less

whole_within : (taken left held bytes : ℕ) → taken + left ≡ bytes → held ≤ left → taken + held ≤ bytes
whole_within taken left held bytes all within = omega (arith, all, within)

-- ---- the sound

module _ (name : List ℕ) (head : WavHead) (m : Measures) (gave : List ℕ) (first now : Shelves) (cut : Option Cut) (old last : Supplied) (course : Course) (took : Took gave first old last)
    (is : old ≡ first_supply (source_for name head m.ring)) (some : 1 ≤ m.block) (fed : Streams m (source_for name head m.ring) (first name) (now name) cut last course) where
  source_is : old.source ≡ Some (source_for name head m.ring)
  source_is = ap (λ (supply : Supplied). supply.source) is

  none_held : old.held ≡ []
  none_held = ap (λ (supply : Supplied). supply.held) is

  none_taken : old.taken ≡ 0
  none_taken = ap (λ (supply : Supplied). supply.taken) is

  abbrev pub later : List ℕ
  later = later_of cut (first name).told (source_for name head m.ring) last

  pub may : MayGive last later
  may = may_later cut (first name).told (source_for name head m.ring) last fed.within fed.left_is

  pub ends : EndsWith last later
  ends = ends_later cut (first name).told (source_for name head m.ring) last fed.within fed.left_is

  pub long : length (gave ++ later) ≡ frames_read cut (last.taken + length last.held) m.block head.frames * m.block
  long =
      sound_length gave first (source_for name head m.ring) old last took source_is none_held none_taken cut m.block (sym fed.block_is) fed.within fed.left_is fed.taken_blocks fed.blocks

  pub less_if : (reason : Cut) → cut ≡ Some reason → frames_read (Some reason) (last.taken + length last.held) m.block head.frames < head.frames
  less_if reason same =
      read_less gave first (source_for name head m.ring) old last took source_is none_held none_taken reason m.block some (sym fed.block_is)
      (subst (λ (cut : Option Cut). IsLeftAfter cut (source_for name head m.ring) last) same fed.left_is)

  pub sound_is_read : (played : Played) → block_bytes head.format ≡ m.block → played.read ≡ frames_read cut (last.taken + length last.held) m.block head.frames → IsLineOf name cut played.cut
      → IsSoundRead (first name).told name head played (gave ++ later)
  sound_is_read played block read line =
      let bytes : length (gave ++ later) ≡ played.read * block_bytes head.format = long ∙ ap (λ (frames : ℕ). frames * m.block) (sym read) ∙ ap (λ (block : ℕ). played.read * block) (sym block) in
      record {
        blocks = bytes;
        up_to = up_to name cut played.cut (last.taken + length last.held) m.block played.read head.frames line read less_if;
        told_is = λ file tells.
            sound_told gave first (source_for name head m.ring) old last took source_is none_held none_taken cut (played.read * block_bytes head.format) (sym bytes) fed.within fed.left_is
            (form_of head) file tells;
        never_short = λ file tells place. not_short name cut played.cut place line (fed.never_short file tells place);
      }

  block_there : block_of (head_in_file head) ≡ m.block
  block_there = fed.block_is

  pub cut_is_under : (read : ℕ) (line : Option CutLine) → read ≡ frames_read cut (last.taken + length last.held) m.block head.frames → IsLineOf name cut line
      → IsCutUnder name head read (Rose (first name).faults (now name).faults) (Rose (first name).empties (now name).empties) line
  cut_is_under read line count said =
      cut_under name head m.ring read (last.taken + length last.held) cut line (first name) (now name) said fed.cause fed.cut_at (λ reason same.
      back (block_of (head_in_file head)) read (last.taken + length last.held) (subst (λ (block : ℕ). 1 ≤ block) (sym block_there) some) (cut_blocks reason same)) where
        cut_blocks : (reason : Cut) → cut ≡ Some reason → read ≡ (last.taken + length last.held) / block_of (head_in_file head)
        cut_blocks reason same =
            count ∙ ap (λ (cut : Option Cut). frames_read cut (last.taken + length last.held) m.block head.frames) same
            ∙ ap (λ (block : ℕ). (last.taken + length last.held) / block) (sym block_there)

        back : (block read bytes : ℕ) → 1 ≤ block → read ≡ bytes / block → read * block / block ≡ bytes / block
        back block read bytes some is =
            let nothing : read * block ≡ 0 + read * block = omega arith in
            let none = zero-div block in
            let last : 0 / block + read ≡ read = omega (arith, none) in
            ap (λ (n : ℕ). n / block) nothing ∙ add-mul-div_right 0 read some ∙ last ∙ is

  -- no answer was empty, unless it was short
  pub none_empty : (line : Option CutLine) → IsLineOf name cut line → ((place : ℕ) → line ≢ Some (lines.Short place)) → (now name).empties ≡ (first name).empties
  none_empty line said none = empties_same name head m.ring cut line (first name) (now name) said fed.cause none

  -- how many bytes were given for the frames that were read
  pub frames_given : (read : ℕ) → read ≡ frames_read cut (last.taken + length last.held) m.block head.frames → (now name).given ≤ (first name).given + most_of_frames head read
  frames_given read is = by cut is fed.left_is fed.frames where
    by : (cut : Option Cut) → read ≡ frames_read cut (last.taken + length last.held) m.block head.frames → IsLeftAfter cut (source_for name head m.ring) last
        → AreFramesRead cut (source_for name head m.ring) (first name).given (now name).given (last.taken + length last.held) → (now name).given ≤ (first name).given + most_of_frames head read
    by None is left read_so = (
        let fewer = within_all (block_of (head_in_file head)) (last.taken + length last.held) head.frames (subst (λ (block : ℕ). 1 ≤ block) (sym block_there) some) (whole_within last.taken last.left (length last.held) (sound_bytes (source_for name head m.ring)) left fed.within) in
        let few = mul-mono (frame_length head.mono (layout head.format)) ((last.taken + length last.held) / block_of (head_in_file head)) head.frames fewer in
        let all = ap (λ (n : ℕ). n * frame_length head.mono (layout head.format)) is in
        omega (arith, few, all, read_so)
        )
    by (Some reason) is left read_so =
        frames_most (Some reason) (source_for name head m.ring) (first name).given (now name).given (last.taken + length last.held) read (frame_some head)
        (is ∙ ap (λ (block : ℕ). (last.taken + length last.held) / block) (sym block_there)) read_so

  -- how much was given
  pub given_most : (written : ℕ) → course.used ≤ written → (now name).given ≤ (first name).given + (written + 2 * m.ring)
  given_most written most = by fed.account where
    by : IsAccount m.ring (first name).given (now name).given last → (now name).given ≤ (first name).given + (written + 2 * m.ring)
    by (inl few) = (let fits = fed.fits in let used = fed.used in let late = unrecorded_most m.ring course.ran in omega (arith, few, fits, used, late, most))
    by (inr both) = (let few = both.1 in let used = fed.used in let late = unrecorded_most m.ring course.ran in omega (arith, few, used, late, most))

-- it was never cut for want of memory
pub not_memory : (cut : Option Cut) (source : Source) (first now : ShelfSeen) → HasCause cut source first now → cut ≢ Some OutOfMemory
not_memory None source first now cause same = cc
not_memory (Some Failed) source first now cause same = cc
not_memory (Some (Short place)) source first now cause same = cc
not_memory (Some OutOfMemory) source first now cause same = cause

-- no more frames were read than there are
pub read_most : (cut : Option Cut) (bytes block frames : ℕ) → ((reason : Cut) → cut ≡ Some reason → frames_read (Some reason) bytes block frames < frames) → frames_read cut bytes block frames ≤ frames
read_most None bytes block frames less = omega arith
read_most (Some reason) bytes block frames less = (let few = less reason refl in omega (arith, few))

-- three bytes of the file become no more than eight of the ring
pub few_bytes : (head : WavHead) (cut : Option Cut) (bytes block : ℕ) → block_bytes head.format ≡ block → head.length ≤ 67108864 → head.from + head.frames * frame_length head.mono (layout head.format) ≤ head.length
    → ((reason : Cut) → cut ≡ Some reason → frames_read (Some reason) bytes block head.frames < head.frames) → frames_read cut bytes block head.frames * block ≤ 178956970
few_bytes head cut bytes block same short within less =
    let most = sound_most (head_in_file head) (form_of head) in
    let read = mul-le (frames_read cut bytes block head.frames) block head.frames block (read_most cut bytes block head.frames less) (omega arith) in
    let all = ap (λ (n : ℕ). head.frames * n) same in
    omega (arith, most, read, all, short, within)
