-- What proofs of other crates cite of supplies.
use Rattle.std.proofs.Common.{◌≡◌, ◌≤◌, ◌+◌, ◌-◌, ◌*◌, ◌∙◌, ℕ, zero, suc, List, [], ◌∷◌, ◌++◌, length, refl, ap, sym, subst, arith, append_assoc}
use Rattle.std.specs.Prelude.{min, take, drop, Ok}
use Rattle.std.proofs.Math.Seq.{drop-append_seam, take-add, take-length}
use Rattle.std.proofs.lemmas.List.{length-append, length-take-le, length-drop, take-append-le, take-append-drop, drop-drop}
use Rattle.stream_format.specs.Layouts.{layout}
use Rattle.wav_reader.specs.declared.opened.WavHead.{WavHead}
use Rattle.wav_reader.specs.Formats.{sample_length}
use Rattle.wav_reader.specs.Heads.{Head, IsRingFormat, frame_length, head_of}
use Rattle.wav_reader.specs.Wavs.{ring_bytes}
use Rattle.wav_reader.proofs.HeadLemmas.{head_of-within}
use Rattle.wav_reader.proofs.PlaceLemmas as places
use Rattle.wav_reader.proofs.PlaceLemmas.{end_is, total_is}
use Rattle.wav_reader.proofs.RingLemmas.{ring_bytes-slots, samples_in, slots-length}
use Rattle.wav_reader.specs.Supplies.{Supplied, block_of, MayGive, EndsWith, IsTaken, IsFilled, without, taken_between, sound_before}
use Rattle.wav_reader.specs.Fills.{IsNextOf}
-- one piece of some bytes more
pub use Rattle.wav_reader.proofs.PieceLemmas.{pieces-more}
-- the samples of a ring's containers: how many bytes they have, and where they stand in a file as in the ring
pub use Rattle.wav_reader.proofs.BlockLemmas.{samples-length, samples-same}

-- the sound before so many bytes were taken
abbrev pub with_taken : ℕ → Supplied → (later : List ℕ) → List ℕ
with_taken count supply later = take count supply.held ++ later

pub before_is : (supply : Supplied) (count : ℕ) (later : List ℕ) → count ≤ length supply.held → sound_before supply (without count supply) later ≡ with_taken count supply later
before_is supply count later within =
    let less = length-drop count supply.held in
    let same : length supply.held - length (drop count supply.held) ≡ count = omega (arith, less, within) in
    ap (λ (number : ℕ). take number supply.held ++ later) same

pub given_before : (supply : Supplied) (count : ℕ) (later : List ℕ) → length supply.held ≤ supply.left → count ≤ length supply.held → MayGive (without count supply) later → MayGive supply (with_taken count supply later)
given_before supply count later rule within may =
    let first = length-take-le count supply.held within in
    let both = length-append (take count supply.held) later in
    let most = may.most in record {
      later = may.later;
      is = ap (λ (sound : List ℕ). take count supply.held ++ sound) may.is ∙ sym (append_assoc (take count supply.held) (drop count supply.held) may.later)
          ∙ ap (λ (held : List ℕ). held ++ may.later) (take-append-drop count supply.held);
      most = omega (arith, rule, within, first, both, most);
    }

pub rest_after : (supply : Supplied) (count : ℕ) (later : List ℕ) → count ≤ length supply.held → drop count (with_taken count supply later) ≡ later
rest_after supply count later within =
    ap (λ (number : ℕ). drop number (take count supply.held ++ later)) (sym (length-take-le count supply.held within)) ∙ drop-append_seam (take count supply.held) later

pub first_of : (supply : Supplied) (count : ℕ) (later : List ℕ) → count ≤ length supply.held → take count (with_taken count supply later) ≡ take count supply.held
first_of supply count later within =
    let long = length-take-le count supply.held within in
    take-append-le count (take count supply.held) later (omega (arith, long)) ∙ ap (λ (number : ℕ). take number (take count supply.held)) (sym long) ∙ take-length (take count supply.held)

abbrev numbered : Supplied → ℕ → ℕ → Supplied
numbered supply left taken = record supply { left = left; taken = taken }

-- where none were taken
pub without_none : (supply : Supplied) (count : ℕ) → count ≡ 0 → without count supply ≡ supply
without_none supply count none =
    ap (λ (count : ℕ). without count supply) none ∙ ap (λ (left : ℕ). numbered supply left (supply.taken + 0)) (less supply.left) ∙ ap (numbered supply supply.left) (more supply.taken) where
      less : (left : ℕ) → left - 0 ≡ left
      less left = omega arith

      more : (taken : ℕ) → taken + 0 ≡ taken
      more taken = omega arith

pub none_now : (supply : Supplied) → IsTaken supply supply
none_now supply = record { count = 0; within = omega arith; is = sym (without_none supply 0 refl) }

pub same_before : (old new : Supplied) (sound : List ℕ) → new ≡ old → sound_before old new sound ≡ sound
same_before old new sound same = ap (λ (new : Supplied). sound_before old new sound) same ∙ ap (λ (number : ℕ). take number old.held ++ sound) (nothing (length old.held)) where
  nothing : (n : ℕ) → n - n ≡ 0
  nothing n = omega arith

-- ---- what may be given before bytes were taken or read

pub held_most : (supply : Supplied) (sound : List ℕ) → MayGive supply sound → length supply.held ≤ length sound
held_most supply sound may =
    let is = ap length may.is in
    let both = length-append supply.held may.later in omega (arith, is, both)

pub may_before : (old new : Supplied) (later : List ℕ) → IsTaken old new → length old.held ≤ old.left → MayGive new later → MayGive old (sound_before old new later)
may_before old new later taken rule may =
    subst (λ (new : Supplied). MayGive old (sound_before old new later)) (sym taken.is)
    (subst (MayGive old) (sym (before_is old taken.count later taken.within)) (given_before old taken.count later rule taken.within (subst (λ (new : Supplied). MayGive new later) taken.is may)))

pub may_filled : (old new : Supplied) (later : List ℕ) → IsFilled old new → MayGive new later → MayGive old later
may_filled old new later filled may =
    let most = may.most in
    let left = filled.left in record {
      later = filled.more ++ may.later;
      is = may.is ∙ ap (λ (held : List ℕ). held ++ may.later) filled.held ∙ append_assoc old.held filled.more may.later;
      most = omega (arith, most, left);
    }

-- what is held and so many bytes more
pub may_more : (supply : Supplied) (more : List ℕ) → length supply.held + length more ≤ supply.left → MayGive supply (supply.held ++ more)
may_more supply more fits = let both = length-append supply.held more in record { later = more; is = refl; most = omega (arith, fits, both) }

-- a sound as long as what is left ends with it
pub ends_all : (supply : Supplied) (sound : List ℕ) → length sound ≡ supply.left → EndsWith supply sound
ends_all supply sound all = λ none. omega (arith, all, none)

-- where as much is held as a ring takes it ends with each sound that is to come
pub ends_filled : (ring : ℕ) (old new : Supplied) (later : List ℕ) → 1 ≤ ring → min ring old.left ≤ length old.held → IsTaken old new → length old.held ≤ old.left → MayGive new later → EndsWith old (sound_before old new later)
ends_filled ring old new later some full taken rule may = λ none.
    (let held = held_most old (sound_before old new later) (may_before old new later taken rule may) in by_numbers ring old.left (length old.held) (length (sound_before old new later)) some full held none) where
      by_numbers : (ring left held sound : ℕ) → 1 ≤ ring → min ring left ≤ held → held ≤ sound → sound ≡ 0 → left ≡ 0
      by_numbers ring left held sound some full most none = grind arith

-- ---- the bytes that were taken

pub count_is : (old new : Supplied) (taken : IsTaken old new) → taken_between old new ≡ take taken.count old.held
count_is old new taken =
    let long = ap (λ (supply : Supplied). length supply.held) taken.is ∙ length-drop taken.count old.held in
    let within = taken.within in
    let same : length old.held - length new.held ≡ taken.count = omega (arith, long, within) in
    ap (λ (number : ℕ). take number old.held) same

pub taken_more : (old new : Supplied) → IsTaken old new → new.taken ≡ old.taken + length (taken_between old new)
taken_more old new taken =
    let long = ap length (count_is old new taken) ∙ length-take-le taken.count old.held taken.within in
    ap (λ (supply : Supplied). supply.taken) taken.is ∙ sym (ap (λ (number : ℕ). old.taken + number) long)

-- the next bytes of a sound: its first ones, and after them those that follow
first_bytes : (count held : ℕ) (bytes : List ℕ) → count ≤ held → take count (take held bytes) ≡ take count bytes
first_bytes zero held bytes within = refl
first_bytes (suc count) zero bytes within = absurd (omega (arith, within))
first_bytes (suc count) (suc held) [] within = refl
first_bytes (suc count) (suc held) (byte ∷ bytes) within = ap (λ (rest : List ℕ). byte ∷ rest) (first_bytes count held bytes (omega (arith, within)))

none_of : (count : ℕ) → [] ≡ take {A = ℕ} count []
none_of zero = refl
none_of (suc count) = refl

rest_bytes : (count held : ℕ) (bytes : List ℕ) → count ≤ held → drop count (take held bytes) ≡ take (held - count) (drop count bytes)
rest_bytes zero held bytes within = ap (λ (n : ℕ). take n bytes) (all held) where
  all : (held : ℕ) → held ≡ held - 0
  all held = omega arith
rest_bytes (suc count) zero bytes within = absurd (omega (arith, within))
rest_bytes (suc count) (suc held) [] within = none_of (suc held - suc count)
rest_bytes (suc count) (suc held) (byte ∷ bytes) within = rest_bytes count held bytes (omega (arith, within)) ∙ ap (λ (n : ℕ). take n (drop count bytes)) (less held count) where
  less : (held count : ℕ) → held - count ≡ suc held - suc count
  less held count = omega arith

pub next_on : (pcm : List ℕ) (old new : Supplied) → IsTaken old new → IsNextOf pcm old → IsNextOf pcm new
next_on pcm old new taken next =
    subst (IsNextOf pcm) (sym taken.is)
    (ap (drop taken.count) next ∙ rest_bytes taken.count (length old.held) (drop old.taken pcm) taken.within
    ∙ ap (take (length old.held - taken.count)) (drop-drop taken.count old.taken pcm)
    ∙ ap (λ (n : ℕ). take n (drop (old.taken + taken.count) pcm)) (sym (length-drop taken.count old.held)))

pub next_were : (pcm : List ℕ) (old new : Supplied) → IsTaken old new → IsNextOf pcm old → taken_between old new ≡ take (length (taken_between old new)) (drop old.taken pcm)
next_were pcm old new taken next =
    let is = count_is old new taken in
    let long = ap length is ∙ length-take-le taken.count old.held taken.within in
    is ∙ ap (take taken.count) next ∙ first_bytes taken.count (length old.held) (drop old.taken pcm) taken.within ∙ ap (λ (n : ℕ). take n (drop old.taken pcm)) (sym long)

-- some bytes of a sound and those after them
pub bytes_both : (first second : List ℕ) (at then : ℕ) (pcm : List ℕ) → first ≡ take (length first) (drop at pcm) → then ≡ at + length first → second ≡ take (length second) (drop then pcm)
    → first ++ second ≡ take (length (first ++ second)) (drop at pcm)
bytes_both first second at then pcm one place other =
    let rest = drop at pcm in
    let after : drop then pcm ≡ drop (length first) rest = ap (λ (n : ℕ). drop n pcm) place ∙ sym (drop-drop (length first) at pcm) in
    ap (λ (front : List ℕ). front ++ second) one
    ∙ ap (λ (back : List ℕ). take (length first) rest ++ back) (other ∙ ap (take (length second)) after)
    ∙ sym (take-add (length first) (length second) rest)
    ∙ ap (λ (n : ℕ). take n rest) (sym (length-append first second))

-- ---- a file's sound

-- it has a block for each frame
pub ring_length : (file : List ℕ) (head : Head) → IsRingFormat head.mono head.format → head_of file ≡ Ok head → length (ring_bytes file head) ≡ head.frames * block_of head
ring_length file head form is =
    let within = head_of-within file head is in
    let rest = length-drop head.from file in
    let end = end_is head in
    let turned : sample_length head.format.bits * (samples_in head * head.frames) ≡ samples_in head * head.frames * sample_length head.format.bits = omega arith in
    ap length (ring_bytes-slots file head within)
    ∙ slots-length head.mono head.format.bits (drop head.from file) (samples_in head * head.frames) (omega (arith, within, rest, end, turned))
    ∙ sym (total_is head form)

-- what is known of a file before its sound is read is of such a format
pub form_of : (head : WavHead) → IsRingFormat head.mono (layout head.format)
form_of head = record { even = head.format.even; some = head.format.some; few = head.format.few; doubled = head.doubled }

-- a block and a frame have some bytes, and a block has no more than 32
pub block_some : (head : Head) → IsRingFormat head.mono head.format → 1 ≤ block_of head
block_some head form = places.block_some head form

pub frame_some : (head : Head) → IsRingFormat head.mono head.format → 1 ≤ frame_length head.mono head.format
frame_some head form = places.frame_some head form

pub block_few : (head : Head) → IsRingFormat head.mono head.format → block_of head ≤ 32
block_few head form = places.block_few head form

-- three bytes of the file become eight of the ring at most
pub sound_most : (head : Head) → IsRingFormat head.mono head.format → 3 * (head.frames * block_of head) ≤ 8 * (head.frames * frame_length head.mono head.format)
sound_most head form = places.sound_most head form
