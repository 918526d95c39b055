-- Reads of a file's sound, one after another.
use Rattle.std.proofs.Common.{◌≡◌, ◌≢◌, ◌≤◌, ◌<◌, ℕ, ◌+◌, ◌-◌, ◌*◌, ◌/◌, ◌%◌, min, Bool, true, false, List, ◌∷◌, ◌++◌, length, take, Option, Some, None, Result, Ok, Err, OnOk, OnErr, subst, refl, sym, ap, ◌∙◌, arith, length-append, [], append-nil}
use Rattle.std.proofs.lemmas.List.{length-take-le, take-take}
use Rattle.std.proofs.lemmas.Nat.{div-add-mod', div_below, mul-le}
use Rattle.std.proofs.Math.Nat.{mul-mod_left}
use Rattle.std.proofs.Math.Seq.{take-length, take-append_seam}
use Rattle.stream_format.specs.declared.format.Bits.{Bits}
use Rattle.stream_format.specs.declared.format.Bits.TheVariants.{B16, B24, B32}
use Rattle.circular_buffer.specs.Buffer.{Buffer, buffer}
use Rattle.hda_outside.specs.Counts.{Rose}
use Rattle.hda_outside.specs.Shelf.{Files, file_of}
use Rattle.hda_outside.specs.Pieces.{HoldsFront, IsCutShort}
use Rattle.hda_outside.specs.declared.pieces.Cut.{Cut}
use Rattle.hda_outside.specs.declared.pieces.Cut.TheVariants.{Failed, Short}
use Rattle.hda_outside.specs.declared.pieces.Piece.{Piece}
use Rattle.wav_reader.specs.Fills.{end_of_sound}
use Rattle.wav_reader.specs.Heads.{Head, IsRingFormat}
use Rattle.wav_reader.specs.Formats.{sample_length}
use Rattle.wav_reader.specs.Readers.{IsGrown, IsNext, ReadsOn, AreGivenFor, IsGivenFor, answer_of, is_pad, place_of, ring_part, slot_length, total}
use Rattle.wav_reader.specs.Shelves.{ShelfSeen, HasFile}
use Rattle.wav_reader.specs.Wavs.{ring_bytes}
use Rattle.wav_reader.proofs.HeadLemmas.{head_of-within}
use Rattle.wav_reader.proofs.CountLemmas.{mul-div, mul-few, one-more, whole-less, whole-next, whole-all, div-few}
use Rattle.wav_reader.proofs.PlaceLemmas.{slot_some, sample_some, next_byte, next_pad, next_samples, part-length, part_inside, place_before, place_in_frame, sample_after}
use Rattle.wav_reader.proofs.ReadLemmas.{place_inside, front_at, still_has}

-- a piece of a file that was read: what reading it promises, by what the shelf tells and has counted under the file's name
pub record IsPiece (name : List ℕ) (from : ℕ) (buf : List ℕ) (before after : ShelfSeen) (piece : Piece) : Type 0 where
  pub told : after.told ≡ before.told
  pub within : piece.count ≤ length buf
  pub all : piece.cut ≡ None → piece.count ≡ length buf
  pub early : piece.cut ≢ None → piece.count < length buf
  pub front : (files : Files) → before.told ≡ Some files → (file : List ℕ) → file_of files name ≡ Some file → HoldsFront file from buf piece.count
  pub given : after.given ≤ before.given + piece.count
  pub given_rises : before.given ≤ after.given
  pub later : before.faults ≤ after.faults
  pub failed : piece.cut ≡ Some Failed → Rose before.faults after.faults
  pub empties_later : before.empties ≤ after.empties
  pub short : (place : ℕ) → piece.cut ≡ Some (Short place) → IsCutShort from (length buf) piece.count place before.empties after.empties
  pub not_short : ((place : ℕ) → piece.cut ≢ Some (Short place)) → after.empties ≡ before.empties
  pub whole : (files : Files) → before.told ≡ Some files → (file : List ℕ) → file_of files name ≡ Some file → from + length buf ≤ length file
      → (place : ℕ) → piece.cut ≢ Some (Short place)

-- ---- answers

err_is : (found : Option Cut) (cut : Cut) → answer_of found ≡ Err cut → found ≡ Some cut
err_is None cut same = absurd (cc)
err_is (Some found) cut same = (let inner : found ≡ cut = cc in ap Some inner)

err_of : (found : Option Cut) (cut : Cut) → found ≡ Some cut → answer_of found ≡ Err cut
err_of found cut same = ap answer_of same

all_if : (found : Option Cut) (A : Type 0) → (found ≡ None → A) → OnOk (answer_of found) A
all_if None A by = by refl
all_if (Some cut) A by = tt

early_if : (found : Option Cut) (A : Type 0) → (found ≢ None → A) → OnErr (answer_of found) A
early_if None A by = tt
early_if (Some cut) A by = by (λ same. some_is cut same) where
  some_is : (cut : Cut) → Some cut ≡ None → ⊥
  some_is cut same = cc

-- ---- the samples of a piece

-- what the ring gets for the whole samples among so many bytes
abbrev pub samples_part : Bool → Bits → List ℕ → (count : ℕ) → List ℕ
samples_part mono bits buf count = ring_part mono bits (take (count / sample_length bits * sample_length bits) buf)

pub samples_long : (mono : Bool) (bits : Bits) (buf : List ℕ) (count : ℕ) → count ≤ length buf → length (samples_part mono bits buf count) ≡ count / sample_length bits * slot_length mono bits
samples_long mono bits buf count within =
    let inside = whole-less count (sample_length bits) in
    part-length mono bits (take (count / sample_length bits * sample_length bits) buf) (count / sample_length bits)
    (length-take-le (count / sample_length bits * sample_length bits) buf (omega (arith, inside, within)))

pub samples_fit : (mono : Bool) (bits : Bits) (buf : List ℕ) (count samples : ℕ) → count ≤ length buf → length buf ≡ samples * sample_length bits
    → length (samples_part mono bits buf count) ≤ samples * slot_length mono bits
samples_fit mono bits buf count samples within size =
    let long = samples_long mono bits buf count within in
    let few = div-few count samples (sample_length bits) (sample_some bits) (omega (arith, within, size)) in
    let less = mul-few (count / sample_length bits) samples (slot_length mono bits) few in
    omega (arith, long, less)

-- a sample has no more bytes than its slot
sample_less : (mono : Bool) (bits : Bits) → sample_length bits ≤ slot_length mono bits
sample_less true B16 = omega arith
sample_less true B24 = omega arith
sample_less true B32 = omega arith
sample_less false B16 = omega arith
sample_less false B24 = omega arith
sample_less false B32 = omega arith

module _ (name : List ℕ) (head : Head) (taken samples : ℕ) (form : IsRingFormat head.mono head.format) (before after : ShelfSeen) (old : Buffer ℕ) (buf : List ℕ) (piece : Piece)
    (size : length buf ≡ samples * sample_length head.format.bits) (aligned : (taken + length old.items) % slot_length head.mono head.format.bits ≡ 0)
    (there : taken + length old.items + samples * slot_length head.mono head.format.bits ≤ total head)
    (is : IsPiece name (place_of head (taken + length old.items)) buf before after piece) where
  pub samples_read : ReadsOn (samples * slot_length head.mono head.format.bits) name head taken before after old
      (buffer (old.items ++ samples_part head.mono head.format.bits buf piece.count) old.capacity) (answer_of piece.cut)
  samples_read =
      let bits = head.format.bits in
      let slot = slot_length head.mono head.format.bits in
      let within = is.within in
      let whole = piece.count / sample_length head.format.bits in
      let both = length-append old.items (samples_part head.mono head.format.bits buf piece.count) in
      let long = samples_long head.mono head.format.bits buf piece.count within in
      let few : piece.count / sample_length head.format.bits ≤ samples = div-few piece.count samples (sample_length head.format.bits) (sample_some head.format.bits) (omega (arith, within, size)) in
      let less = mul-few (piece.count / sample_length head.format.bits) samples (slot_length head.mono head.format.bits) few in
      let given = is.given in
      let bound = mul-le samples (sample_length head.format.bits) samples (slot_length head.mono head.format.bits) (omega arith) (sample_less head.mono head.format.bits) in
      let inside = part_inside head (taken + length old.items) samples form aligned there in
      let some = slot_some head.mono head.format.bits in
      record {
        grown = record {
          capacity = refl;
          kept = take-append_seam old.items (samples_part head.mono head.format.bits buf piece.count);
          least = omega (arith, both);
          most = omega (arith, both, long, less);
          all = all_if piece.cut _ (λ none.
              (let exact : piece.count / sample_length head.format.bits ≡ samples = ap (λ (n : ℕ). n / sample_length head.format.bits) (is.all none ∙ size) ∙ mul-div samples (sample_length head.format.bits) (sample_some head.format.bits) in
              let same = ap (λ (n : ℕ). n * slot_length head.mono head.format.bits) exact in
              omega (arith, both, long, same)));
          early = early_if piece.cut _ (λ some'.
              (let early = is.early some' in
              let fewer = div_below piece.count (sample_length head.format.bits) samples (sample_some head.format.bits) (omega (arith, early, size)) in
              let next = one-more (piece.count / sample_length head.format.bits) samples (slot_length head.mono head.format.bits) fewer in
              omega (arith, both, long, next, some)));
        };
        told = is.told;
        given = omega (arith, given, within, size, bound);
        given_rises = is.given_rises;
        later = is.later;
        failed = λ same. is.failed (err_is piece.cut Failed same);
        empties_later = is.empties_later;
        short = λ place same.
            (let cut = is.short place (err_is piece.cut (Short place) same) in
            let first = cut.within in
            let here = cut.at in
            let early : place < end_of_sound head = omega (arith, inside, size, first, here) in (
              sample_after head (taken + length old.items) piece.count (taken + length (old.items ++ samples_part head.mono head.format.bits buf piece.count)) place form aligned here
                  (omega (arith, both, long)) early,
              cut.rose,
            ));
        not_short = λ none. is.not_short (λ place same. none place (err_of piece.cut (Short place) same));
        reads = λ file has next.
            next_samples file head taken old.items buf piece.count whole form (head_of-within file head has.head_is) aligned (omega (arith, there, less))
            (is.front has.files has.told_is file has.file_is) (whole-less piece.count (sample_length head.format.bits)) within next;
        never_short = λ file has place same.
            (let ends = head_of-within file head has.head_is in
            is.whole has.files has.told_is file has.file_is (omega (arith, inside, ends, size)) place (err_is piece.cut (Short place) same));
      }

-- ---- one byte

-- the 0 before a sample is put last, and nothing is read
pub pad_read : (name : List ℕ) (head : Head) (taken : ℕ) (seen : ShelfSeen) (old : Buffer ℕ) → IsRingFormat head.mono head.format → taken + length old.items + 1 ≤ total head
    → is_pad head.format.bits (taken + length old.items) ≡ true → ReadsOn 1 name head taken seen seen old (buffer (old.items ++ 0 ∷ []) old.capacity) (Ok tt)
pad_read name head taken seen old form there pad =
    let both = length-append old.items (0 ∷ []) in
    record {
      grown = record { capacity = refl; kept = take-append_seam old.items (0 ∷ []); least = omega (arith, both); most = omega (arith, both); all = omega (arith, both); early = tt };
      told = refl;
      given = omega arith;
      given_rises = omega arith;
      later = omega arith;
      failed = λ same. cc;
      empties_later = omega arith;
      short = λ place same. cc;
      not_short = λ none. refl;
      reads = λ file has next. next_pad file head taken old.items form (head_of-within file head has.head_is) (omega (arith, there)) pad next;
      never_short = λ file has place same. cc;
    }

module _ (name : List ℕ) (head : Head) (taken : ℕ) (form : IsRingFormat head.mono head.format) (before after : ShelfSeen) (old : Buffer ℕ) (buf : List ℕ) (piece : Piece)
    (size : length buf ≡ 1) (there : taken + length old.items + 1 ≤ total head) (sample : is_pad head.format.bits (taken + length old.items) ≡ false) (is : IsPiece name (place_of head (taken + length old.items)) buf before after piece) where
  -- it was read, or nothing was
  front_long : length (take piece.count buf) ≡ piece.count
  front_long = length-take-le piece.count buf is.within

  next_held : (found : Option Cut) → piece.cut ≡ found → (file : List ℕ) → HasFile before.told name head file → IsNext (ring_bytes file head) taken old.items
      → IsNext (ring_bytes file head) taken (old.items ++ take piece.count buf)
  next_held None none file has next =
      let all : piece.count ≡ 1 = is.all none ∙ size in
      let front : HoldsFront file (place_of head (taken + length old.items)) buf 1 = front_at file buf _ _ piece.count 1 refl all (is.front has.files has.told_is file has.file_is) in
      let whole : take piece.count buf ≡ buf = ap (λ (n : ℕ). take n buf) (is.all none) ∙ take-length buf in
      rw whole (next_byte file head taken old.items buf form (head_of-within file head has.head_is) (omega (arith, there)) sample size front next)
  next_held (Some cut) same file has next =
      let early = is.early (λ none. some_none cut (sym same ∙ none)) in
      let none : take piece.count buf ≡ [] = ap (λ (n : ℕ). take n buf) (nothing early) in
      rw none (subst (IsNext (ring_bytes file head) taken) (sym (append-nil old.items)) next) where
        some_none : (cut : Cut) → Some cut ≡ None → ⊥
        some_none cut same = cc

        nothing : piece.count < length buf → piece.count ≡ 0
        nothing less = omega (arith, less, size)

  pub byte_read : ReadsOn 1 name head taken before after old (buffer (old.items ++ take piece.count buf) old.capacity) (answer_of piece.cut)
  byte_read =
      let both = length-append old.items (take piece.count buf) in
      let long = front_long in
      let within = is.within in
      let given = is.given in
      record {
        grown = record {
          capacity = refl;
          kept = take-append_seam old.items (take piece.count buf);
          least = omega (arith, both);
          most = omega (arith, both, long, within, size);
          all = all_if piece.cut _ (λ none. (let all = is.all none in omega (arith, both, long, all, size)));
          early = early_if piece.cut _ (λ some. (let early = is.early some in omega (arith, both, long, early, size)));
        };
        told = is.told;
        given = omega (arith, given, within, size);
        given_rises = is.given_rises;
        later = is.later;
        failed = λ same. is.failed (err_is piece.cut Failed same);
        empties_later = is.empties_later;
        short = λ place same.
            (let cut = is.short place (err_is piece.cut (Short place) same) in
            let first = cut.within in
            let here = cut.at in
            let inside = place_before head (taken + length old.items) form (omega (arith, there)) in (
              place_in_frame head (taken + length old.items) (taken + length (old.items ++ take piece.count buf)) place form (omega (arith, size, first, here))
                  (omega (arith, both, long, size, first)) (omega (arith, inside, size, first, here)),
              cut.rose,
            ));
        not_short = λ none. is.not_short (λ place same. none place (err_of piece.cut (Short place) same));
        reads = next_held piece.cut refl;
        never_short = λ file has place same.
            (let inside = place_inside file head (taken + length old.items) form (head_of-within file head has.head_is) (omega (arith, there)) in
            is.whole has.files has.told_is file has.file_is (omega (arith, inside, size)) place (err_is piece.cut (Short place) same));
      }

-- ---- one read after another

-- nothing was read yet
pub reads_none : (name : List ℕ) (head : Head) (taken : ℕ) (seen : ShelfSeen) (held : Buffer ℕ) → ReadsOn 0 name head taken seen seen held held (Ok tt)
reads_none name head taken seen held = record {
  grown = record { capacity = refl; kept = take-length held.items; least = omega arith; most = omega arith; all = omega arith; early = tt };
  told = refl;
  given = omega arith;
  given_rises = omega arith;
  later = omega arith;
  failed = λ same. cc;
  empties_later = omega arith;
  short = λ place same. cc;
  not_short = λ none. refl;
  reads = λ file has next. next;
  never_short = λ file has place same. cc;
}

module _ (count more : ℕ) (name : List ℕ) (head : Head) (taken : ℕ) (before between after : ShelfSeen) (old held new : Buffer ℕ) (result : Result Unit Cut)
    (first : ReadsOn count name head taken before between old held (Ok tt)) (next : ReadsOn more name head taken between after held new result) where
  no_short : (place : ℕ) → answer_of None ≢ Err (Short place)
  no_short place same = cc

  grown_both : IsGrown (count + more) old new result
  grown_both =
      let one = first.grown in
      let other = next.grown in
      let all = one.all in
      let least = other.least in
      let most = other.most in
      record {
        capacity = other.capacity ∙ one.capacity;
        kept = kept_twice;
        least = omega (arith, all, least);
        most = omega (arith, all, most);
        all = all_both result other.all;
        early = early_both result other.early;
      } where
        kept_twice : take (length old.items) new.items ≡ old.items
        kept_twice =
            let least = first.grown.least in
            sym (take-take (length old.items) (length held.items) new.items least) ∙ ap (λ (front : List ℕ). take (length old.items) front) next.grown.kept ∙ first.grown.kept

        all_both : (result : Result Unit Cut) → OnOk result (length new.items ≡ length held.items + more) → OnOk result (length new.items ≡ length old.items + (count + more))
        all_both (Ok u) is = (let all = first.grown.all in omega (arith, all, is))
        all_both (Err cut) is = tt

        early_both : (result : Result Unit Cut) → OnErr result (length new.items < length held.items + more) → OnErr result (length new.items < length old.items + (count + more))
        early_both (Ok u) is = tt
        early_both (Err cut) is = (let all = first.grown.all in omega (arith, all, is))

  pub reads_both : ReadsOn (count + more) name head taken before after old new result
  reads_both =
      let same = first.not_short no_short in
      let given = first.given in
      let given' = next.given in
      let rises = first.given_rises in
      let rises' = next.given_rises in
      let later = first.later in
      let later' = next.later in
      let empties = next.empties_later in
      record {
        grown = grown_both;
        told = next.told ∙ first.told;
        given = omega (arith, given, given');
        given_rises = omega (arith, rises, rises');
        later = omega (arith, later, later');
        failed = λ is. (let rose = next.failed is in omega (arith, later, rose));
        empties_later = omega (arith, same, empties);
        short = λ place is. (let cut = next.short place is in (cut.0, subst (λ (n : ℕ). Rose n after.empties) same cut.1));
        not_short = λ none. next.not_short none ∙ same;
        reads = λ file has is. next.reads file (still_has before.told between.told name head file first.told has) (first.reads file has is);
        never_short = λ file has. next.never_short file (still_has before.told between.told name head file first.told has);
      }

-- a read of fewer bytes that was cut is a cut read of more
pub reads_early : (count more : ℕ) (name : List ℕ) (head : Head) (taken : ℕ) (before after : ShelfSeen) (old new : Buffer ℕ) (result answer : Result Unit Cut) (cut : Cut)
    → count ≤ more → result ≡ Err cut → answer ≡ result → ReadsOn count name head taken before after old new result → ReadsOn more name head taken before after old new answer
reads_early count more name head taken before after old new result answer cut less is same read = subst (ReadsOn more name head taken before after old new) (sym same) by where
  longer : (result : Result Unit Cut) → result ≡ Err cut → IsGrown count old new result → IsGrown more old new result
  longer (Ok u) is grown = cc
  longer (Err other) is grown =
      let most = grown.most in
      let early = grown.early in
      record { capacity = grown.capacity; kept = grown.kept; least = grown.least; most = omega (arith, most, less); all = tt; early = omega (arith, early, less) }

  by : ReadsOn more name head taken before after old new result
  by = (let given = read.given in record {
    grown = longer result is read.grown;
    told = read.told;
    given = omega (arith, given, less);
    given_rises = read.given_rises;
    later = read.later;
    failed = read.failed;
    empties_later = read.empties_later;
    short = read.short;
    not_short = read.not_short;
    reads = read.reads;
    never_short = read.never_short;
  })

-- ---- what was given for samples

given_of : (size count slots before after : ℕ) (found : Option Cut) → after ≤ before + count → (found ≡ None → count ≡ slots * size) → count < slots * size + size
    → IsGivenFor size slots before after (answer_of found)
given_of size count slots before after None given all next = (let exact = all refl in omega (arith, given, exact))
given_of size count slots before after (Some cut) given all next = omega (arith, given, next)

-- for the samples of a piece
pub given_piece : (mono : Bool) (bits : Bits) (samples before after : ℕ) (old : Buffer ℕ) (buf : List ℕ) (piece : Piece) → length buf ≡ samples * sample_length bits → piece.count ≤ length buf
    → after ≤ before + piece.count → (piece.cut ≡ None → piece.count ≡ length buf)
    → AreGivenFor mono bits old (buffer (old.items ++ samples_part mono bits buf piece.count) old.capacity) before after (answer_of piece.cut)
given_piece mono bits samples before after old buf piece size within given all =
    let both = length-append old.items (samples_part mono bits buf piece.count) in
    let long = samples_long mono bits buf piece.count within in
    record {
      slots = piece.count / sample_length bits;
      long = omega (arith, both, long);
      given = given_of (sample_length bits) piece.count (piece.count / sample_length bits) before after piece.cut given
          (λ none. sym (whole-all piece.count (sample_length bits) (ap (λ (n : ℕ). n % sample_length bits) (all none ∙ size) ∙ mul-mod_left samples (sample_length bits))))
          (whole-next piece.count (sample_length bits) (sample_some bits));
    }

-- nothing was given for nothing
pub given_none : (mono : Bool) (bits : Bits) (held : Buffer ℕ) (given : ℕ) → AreGivenFor mono bits held held given given (Ok tt)
given_none mono bits held given = record { slots = 0; long = omega arith; given = omega arith }

-- nor for a read of no byte
pub given_nothing : (mono : Bool) (bits : Bits) (count : ℕ) (old new : Buffer ℕ) (before after : ℕ) (result : Result Unit Cut) → count ≡ 0 → IsGrown count old new result → after ≤ before + count
    → AreGivenFor mono bits old new before after result
given_nothing mono bits count old new before after (Ok u) none grown given =
    (let all = grown.all in record { slots = 0; long = omega (arith, all, none); given = omega (arith, given, none) })
given_nothing mono bits count old new before after (Err cut) none grown given = absurd (let early = grown.early in let least = grown.least in omega (arith, early, least, none))

-- one after another
sum_given : (size first next before between after : ℕ) (result : Result Unit Cut) → between ≤ before + first * size → IsGivenFor size next between after result
    → IsGivenFor size (first + next) before after result
sum_given size first next before between after (Ok u) one other = (let sum : (first + next) * size ≡ first * size + next * size = omega arith in omega (arith, one, other, sum))
sum_given size first next before between after (Err cut) one other = (let sum : (first + next) * size ≡ first * size + next * size = omega arith in omega (arith, one, other, sum))

pub given_both : (mono : Bool) (bits : Bits) (old held new : Buffer ℕ) (before between after : ℕ) (result : Result Unit Cut) → AreGivenFor mono bits old held before between (Ok tt)
    → AreGivenFor mono bits held new between after result → AreGivenFor mono bits old new before after result
given_both mono bits old held new before between after result first next =
    let long = first.long in
    let longer = next.long in
    let sum : (first.slots + next.slots) * slot_length mono bits ≡ first.slots * slot_length mono bits + next.slots * slot_length mono bits = omega arith in
    record {
      slots = first.slots + next.slots;
      long = omega (arith, long, longer, sum);
      given = sum_given (sample_length bits) first.slots next.slots before between after result first.given next.given;
    }

-- ---- how many bytes stand before the next whole sample

pub next_whole : (mono : Bool) (bits : Bits) (at count first : ℕ) → first ≡ min count ((slot_length mono bits - at % slot_length mono bits) % slot_length mono bits)
    → 1 ≤ (count - first) / slot_length mono bits → (at + first) % slot_length mono bits ≡ 0
next_whole true B16 at count first is some = omega (arith, is, some)
next_whole true B24 at count first is some = omega (arith, is, some)
next_whole true B32 at count first is some = omega (arith, is, some)
next_whole false B16 at count first is some = omega (arith, is, some)
next_whole false B24 at count first is some = omega (arith, is, some)
next_whole false B32 at count first is some = omega (arith, is, some)

pub next_none : (mono : Bool) (bits : Bits) (at count first : ℕ) → first ≡ min count ((slot_length mono bits - at % slot_length mono bits) % slot_length mono bits)
    → at % slot_length mono bits ≡ 0 → first ≡ 0
next_none true B16 at count first is whole = omega (arith, is, whole)
next_none true B24 at count first is whole = omega (arith, is, whole)
next_none true B32 at count first is whole = omega (arith, is, whole)
next_none false B16 at count first is whole = omega (arith, is, whole)
next_none false B24 at count first is whole = omega (arith, is, whole)
next_none false B32 at count first is whole = omega (arith, is, whole)

pub rest_is : (rest size slot : ℕ) → size ≡ slot → rest / size * slot + rest % size ≡ rest
rest_is rest size slot same = ap (λ (n : ℕ). rest / size * n + rest % size) (sym same) ∙ div-add-mod' rest size
