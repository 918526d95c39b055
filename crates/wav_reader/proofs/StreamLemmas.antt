-- What is held after a fill.
use Rattle.std.proofs.Common.{◌≡◌, ◌≢◌, ◌≤◌, ◌<◌, ℕ, ◌+◌, ◌-◌, ◌*◌, ◌/◌, ◌%◌, min, Bool, true, false, if◌then◌else◌, List, ◌++◌, take, drop, length, Some, Result, Ok, Err, OnOk, OnErr, refl, sym, ap, subst, inl, inr, ◌∙◌, arith}
use Rattle.std.specs.Result.{is_err}
use Rattle.std.specs.Prelude.{◌⊎◌}
use Rattle.std.proofs.lemmas.List.{take-append-drop, take-take, length-take-le, take_all}
use Rattle.circular_buffer.specs.Buffer.{Buffer, buffer}
use Rattle.hda_outside.specs.declared.pieces.Cut.{Cut}
use Rattle.std.proofs.lemmas.Nat.{div-add-mod', le-div, mod_below}
use Rattle.std.proofs.Math.Nat.{mul-mod_left}
use Rattle.wav_reader.specs.Formats.{sample_length}
use Rattle.wav_reader.specs.Heads.{Head, IsRingFormat}
use Rattle.wav_reader.specs.Supplies.{Source, Supplied, IsFilled, block_of}
use Rattle.wav_reader.specs.Fills.{IsFull, IsCut, IsInFrame, AreFramesGiven}
use Rattle.wav_reader.specs.Readers.{IsGrown, IsNext, AreGivenFor, slot_length}
use Rattle.wav_reader.proofs.CountLemmas.{mul-div, mul-few, one-more, whole-less, whole-next, whole-all, part-whole, part-mod, sum-mod, rest-mod, div-div, div-front}
use Rattle.wav_reader.proofs.PlaceLemmas.{slot_some, samples_some, block_is}
use Rattle.wav_reader.proofs.RingLemmas.{samples_in}

-- what a stream is seen as
abbrev pub source_with : List ℕ → Head → Buffer ℕ → Source
source_with name head held = record { name = name; head = head; ring = held.capacity }

abbrev pub seen_with : List ℕ → Head → (total : ℕ) → Buffer ℕ → (taken : ℕ) → (cut : Bool) → Supplied
seen_with name head total held taken cut = record {
  held = held.items;
  left = if cut then length held.items else total - taken;
  taken = taken;
  source = Some (source_with name head held);
}

-- so many bytes are wanted, and no fill was cut before
pub record IsWanted (cut : Bool) (held room rest count : ℕ) : Type 0 where
  pub uncut : cut ≡ false
  pub count_is : count ≡ min rest room - held
  pub wants : count ≡ min room (if cut then held else rest) - held

pub wanted_by : (cut : Bool) (held room rest left capacity most long : ℕ) → left ≡ (if cut then held else rest) → capacity ≡ room → long ≡ held → most ≡ min left capacity
    → most - long ≢ 0 → IsWanted cut held room rest (most - long)
wanted_by true held room rest left capacity most long is ring all least some = absurd (some (none is ring all least)) where
  none : left ≡ held → capacity ≡ room → long ≡ held → most ≡ min left capacity → most - long ≡ 0
  none is ring all least = grind (arith, is, ring, all, least)
wanted_by false held room rest left capacity most long is ring all least some = record { uncut = refl; count_is = so is ring all least; wants = so is ring all least ∙ turned } where
  so : left ≡ rest → capacity ≡ room → long ≡ held → most ≡ min left capacity → most - long ≡ min rest room - held
  so is ring all least = grind (arith, is, ring, all, least)

  turned : min rest room - held ≡ min room rest - held
  turned = grind arith

-- nothing was cut
pub not_cut_by : (source : Source) (old new : Supplied) (result : Result Unit Cut) → is_err result ≡ false → OnErr result (IsCut source old new)
not_cut_by source old new (Ok u) none = tt
not_cut_by source old new (Err cut) none = absurd (cc)

pub not_full_by : (source : Source) (old new : Supplied) (result : Result Unit Cut) → is_err result ≡ true → OnOk result (IsFull source old new)
not_full_by source old new (Ok u) none = absurd (cc)
not_full_by source old new (Err cut) none = tt

grown_more : (count : ℕ) (old new : Buffer ℕ) (result : Result Unit Cut) → IsGrown count old new result
    → new.items ≡ old.items ++ drop (length old.items) new.items
grown_more count old new result grown =
    sym (take-append-drop (length old.items) new.items) ∙ ap (λ (front : List ℕ). front ++ drop (length old.items) new.items) grown.kept

pub same_source : (name : List ℕ) (head : Head) (count : ℕ) (old new : Buffer ℕ) (result : Result Unit Cut) → IsGrown count old new result
    → Some (source_with name head new) ≡ Some (source_with name head old)
same_source name head count old new result grown =
    ap (λ (room : ℕ). Some (record { name = name; head = head; ring = room })) grown.capacity

-- all was read
pub full_by : (name : List ℕ) (head : Head) (total taken count : ℕ) (old new : Buffer ℕ) (cut : Bool) (result : Result Unit Cut) → cut ≡ false
    → count ≡ min (total - taken) old.capacity - length old.items → IsGrown count old new result
    → OnOk result (IsFull (source_with name head old) (seen_with name head total old taken cut) (seen_with name head total new taken cut))
full_by name head total taken count old new cut (Ok u) uncut is grown =
    rw uncut (record { held = (let all = grown.all in omega (arith, all, is)); left = refl })
full_by name head total taken count old new cut (Err fault) uncut is grown = tt

pub filled_by : (name : List ℕ) (head : Head) (total taken count : ℕ) (old new : Buffer ℕ) (cut : Bool) (result : Result Unit Cut) → cut ≡ false
    → IsGrown count old new result → IsFilled (seen_with name head total old taken cut) (seen_with name head total new taken cut)
filled_by name head total taken count old new cut result uncut grown =
    rw uncut
    (record {
      more = drop (length old.items) new.items;
      held = grown_more count old new result grown;
      left = omega arith;
      taken = refl;
      source = same_source name head count old new result grown;
    })

-- it was cut

-- whole blocks of what is held
abbrev pub blocks_in : ℕ → List ℕ → List ℕ
blocks_in block items = take (length items / block * block) items

pub cut_length : (block : ℕ) (items : List ℕ) → length (blocks_in block items) ≡ length items / block * block
cut_length block items = length-take-le (length items / block * block) items (whole-less (length items) block)

-- more bytes have no fewer blocks
more_blocks : (less more block : ℕ) → 1 ≤ block → less ≤ more → less / block * block ≤ more / block * block
more_blocks less more block some few =
    let inside = whole-less less block in
    mul-few (less / block) (more / block) block (le-div (less / block) more block some (omega (arith, inside, few)))

pub cut_by : (name : List ℕ) (head : Head) (total taken count : ℕ) (old new : Buffer ℕ) (cut : Bool) (result : Result Unit Cut) → cut ≡ false → 1 ≤ block_of head
    → count ≡ min (total - taken) old.capacity - length old.items → IsGrown count old new result
    → OnErr result (IsCut (source_with name head old) (seen_with name head total old taken cut)
    (seen_with name head total (buffer (blocks_in (block_of head) new.items) new.capacity) taken true))
cut_by name head total taken count old new cut (Ok u) uncut some is grown = tt
cut_by name head total taken count old new cut (Err fault) uncut some is grown =
    let block = block_of head in
    let short = cut_length (block_of head) new.items in
    let inside = whole-less (length new.items) (block_of head) in
    let least = grown.least in
    let early = grown.early in
    let more = more_blocks (length old.items) (length new.items) (block_of head) some least in
    rw uncut
    (record {
      left = refl;
      blocks = ap (λ (n : ℕ). n % block_of head) short ∙ mul-mod_left (length new.items / block_of head) (block_of head);
      early = before (length (blocks_in (block_of head) new.items)) (length new.items) (length old.items) count (total - taken) old.capacity (omega (arith, short, inside)) early is;
      least = omega (arith, short, more);
    }) where
      before : (held new old count left ring : ℕ) → held ≤ new → new < old + count → count ≡ min left ring - old → held < old + (min ring left - old)
      before held new old count left ring short early is = grind arith

-- what was held stays
whole_inside : (block : ℕ) (old new : List ℕ) → 1 ≤ block → length old ≤ length new → length old % block ≡ 0 → length old ≤ length new / block * block
whole_inside block old new some least whole =
    let more = more_blocks (length old) (length new) block some least in
    let all = whole-all (length old) block whole in
    omega (arith, more, all)

pub cut_filled_by : (name : List ℕ) (head : Head) (total taken count : ℕ) (old new : Buffer ℕ) (cut : Bool) (result : Result Unit Cut) → cut ≡ false
    → 1 ≤ block_of head → IsGrown count old new result → length old.items + count ≤ total - taken → length old.items % block_of head ≡ 0
    → IsFilled (seen_with name head total old taken cut) (seen_with name head total (buffer (blocks_in (block_of head) new.items) new.capacity) taken true)
cut_filled_by name head total taken count old new cut result uncut some grown room whole =
    let block = block_of head in
    let short = cut_length (block_of head) new.items in
    let below = whole-less (length new.items) (block_of head) in
    let least = grown.least in
    let most = grown.most in
    let inside = whole_inside (block_of head) old.items new.items some least whole in
    let front : take (length old.items) (blocks_in (block_of head) new.items) ≡ old.items =
    take-take (length old.items) (length new.items / block_of head * block_of head) new.items inside ∙ grown.kept in
    rw uncut
    (record {
      more = drop (length old.items) (blocks_in (block_of head) new.items);
      held = sym (take-append-drop (length old.items) (blocks_in (block_of head) new.items))
          ∙ ap (λ (first : List ℕ). first ++ drop (length old.items) (blocks_in (block_of head) new.items)) front;
      left = omega (arith, short, below, most, room);
      taken = refl;
      source = same_source name head count old new result grown;
    })

-- the first of the next bytes are the next ones
pub next_front : (block : ℕ) (pcm : List ℕ) (taken : ℕ) (items : List ℕ) → IsNext pcm taken items → IsNext pcm taken (blocks_in block items)
next_front block pcm taken items next =
    let few = length items / block * block in
    let inside = whole-less (length items) block in
    ap (λ (bytes : List ℕ). take (length items / block * block) bytes) next
    ∙ take-take (length items / block * block) (length items) (drop taken pcm) inside
    ∙ ap (λ (count : ℕ). take count (drop taken pcm)) (sym (cut_length block items))

-- ---- what was given, and where it was short

-- what was held stays in front
pub begins_by : (count : ℕ) (old new : Buffer ℕ) (result : Result Unit Cut) → IsGrown count old new result → take (length new.items) old.items ≡ take (length old.items) new.items
begins_by count old new result grown = take_all (length new.items) old.items grown.least ∙ sym grown.kept

-- also of the first bytes of it
pub begins_cut : (count n : ℕ) (old new : Buffer ℕ) (result : Result Unit Cut) → n ≤ length new.items → IsGrown count old new result
    → take (length (take n new.items)) old.items ≡ take (length old.items) (take n new.items)
begins_cut count n old new result within grown = by (fewer n (length old.items)) where
  fewer : (n held : ℕ) → (n ≤ held) ⊎ (held ≤ n)
  fewer n held = grind arith

  long : length (take n new.items) ≡ n
  long = length-take-le n new.items within

  by : (n ≤ length old.items) ⊎ (length old.items ≤ n) → take (length (take n new.items)) old.items ≡ take (length old.items) (take n new.items)
  by (inl less) =
      ap (λ (k : ℕ). take k old.items) long ∙ ap (take n) (sym grown.kept) ∙ take-take n (length old.items) new.items less
      ∙ sym (take_all (length old.items) (take n new.items) (omega (arith, long, less)))
  by (inr more) =
      ap (λ (k : ℕ). take k old.items) long ∙ take_all n old.items more ∙ sym grown.kept ∙ sym (take-take (length old.items) n new.items more)

-- whole blocks are whole slots
pub slots_whole : (head : Head) → IsRingFormat head.mono head.format → (bytes : ℕ) → bytes % block_of head ≡ 0 → bytes % slot_length head.mono head.format.bits ≡ 0
slots_whole head form bytes whole =
    part-mod bytes (samples_in head) (slot_length head.mono head.format.bits) (ap (λ (n : ℕ). bytes % n) (sym (block_is head form)) ∙ whole)

pub slots_sum : (head : Head) → IsRingFormat head.mono head.format → (taken held : ℕ) → taken % block_of head ≡ 0 → held % block_of head ≡ 0
    → (taken + held) % slot_length head.mono head.format.bits ≡ 0
slots_sum head form taken held taken_is held_is = slots_whole head form (taken + held) (sum-mod taken held (block_of head) taken_is held_is)

-- the frames of so many samples
frames_all : (slots each slot sample : ℕ) → 1 ≤ each → 1 ≤ slot → slots * slot % (each * slot) ≡ 0 → slots * sample ≡ slots * slot / (each * slot) * (each * sample)
frames_all slots each slot sample some some' whole =
    let frames = slots * slot / (each * slot) in
    let all = part-whole (slots * slot) each slot whole in
    let number : slots ≡ slots * slot / (each * slot) * each = sym (mul-div slots slot some') ∙ ap (λ (n : ℕ). n / slot) all ∙ mul-div (slots * slot / (each * slot) * each) slot some' in
    let turned : slots * slot / (each * slot) * each * sample ≡ slots * slot / (each * slot) * (each * sample) = omega arith in
    ap (λ (n : ℕ). n * sample) number ∙ turned

frames_next : (slots each slot sample : ℕ) → 1 ≤ each → 1 ≤ slot → slots * sample + sample ≤ slots * slot / (each * slot) * (each * sample) + each * sample
frames_next slots each slot sample some some' =
    let number : slots * slot / (each * slot) ≡ slots / each = div-div (slots * slot) each slot ∙ ap (λ (n : ℕ). n / each) (mul-div slots slot some') in
    let next = one-more slots (slots / each * each + each) sample (whole-next slots each some) in
    let sum : (slots / each * each + each) * sample ≡ slots / each * (each * sample) + each * sample = omega arith in
    let same = ap (λ (n : ℕ). n * (each * sample)) number in
    omega (arith, next, sum, same)

module _ (head : Head) (old new : Buffer ℕ) (form : IsRingFormat head.mono head.format) where
  slots_of : (items : List ℕ) (slots : ℕ) → (length items - length old.items) / block_of head ≡ (length new.items - length old.items) / block_of head
      → length new.items ≡ length old.items + slots * slot_length head.mono head.format.bits
      → (length items - length old.items) / block_of head ≡ slots * slot_length head.mono head.format.bits / (samples_in head * slot_length head.mono head.format.bits)
  slots_of items slots same long =
      let more : length new.items - length old.items ≡ slots * slot_length head.mono head.format.bits = omega (arith, long) in
      same ∙ ap (λ (n : ℕ). n / block_of head) more ∙ ap (λ (n : ℕ). slots * slot_length head.mono head.format.bits / n) (block_is head form)

  -- the frames of what is held
  pub frames_by : (items : List ℕ) (before after : ℕ) (result : Result Unit Cut)
      → (length items - length old.items) / block_of head ≡ (length new.items - length old.items) / block_of head
      → OnOk result ((length new.items - length old.items) % block_of head ≡ 0) → AreGivenFor head.mono head.format.bits old new before after result
      → AreFramesGiven head old.items items before after result
  frames_by items before after (Ok u) same whole given =
      let slot = slot_length head.mono head.format.bits in
      let number = slots_of items given.slots same given.long in
      let long = given.long in
      let more : length new.items - length old.items ≡ given.slots * slot_length head.mono head.format.bits = omega (arith, long) in
      let whole' : given.slots * slot_length head.mono head.format.bits % (samples_in head * slot_length head.mono head.format.bits) ≡ 0 =
      ap (λ (n : ℕ). given.slots * slot_length head.mono head.format.bits % n) (sym (block_is head form)) ∙ ap (λ (n : ℕ). n % block_of head) (sym more) ∙ whole in
      let all = frames_all given.slots (samples_in head) (slot_length head.mono head.format.bits) (sample_length head.format.bits) (samples_some head form) (slot_some head.mono head.format.bits) whole' in
      let said = given.given in
      subst (λ (frames : ℕ). after ≤ before + frames * (samples_in head * sample_length head.format.bits)) (sym number) (omega (arith, said, all))
  frames_by items before after (Err cut) same whole given =
      let number = slots_of items given.slots same given.long in
      let next = frames_next given.slots (samples_in head) (slot_length head.mono head.format.bits) (sample_length head.format.bits) (samples_some head form) (slot_some head.mono head.format.bits) in
      let said = given.given in
      subst (λ (frames : ℕ). after < before + frames * (samples_in head * sample_length head.format.bits) + samples_in head * sample_length head.format.bits) (sym number)
      (omega (arith, said, next))

-- where all was read whole blocks were
pub whole_grown : (block count : ℕ) (old new : Buffer ℕ) (result : Result Unit Cut) → IsGrown count old new result → count % block ≡ 0
    → OnOk result ((length new.items - length old.items) % block ≡ 0)
whole_grown block count old new (Ok u) grown whole =
    let all = grown.all in
    let more : length new.items - length old.items ≡ count = omega (arith, all) in
    ap (λ (n : ℕ). n % block) more ∙ whole
whole_grown block count old new (Err cut) grown whole = tt

-- a place in a frame by another count of bytes in it
pub in_same_frame : (head : Head) (at at' place : ℕ) → at' / block_of head ≡ at / block_of head → IsInFrame head at place → IsInFrame head at' place
in_same_frame head at at' place same is = record {
  start = rw same is.start;
  within = rw same is.within;
  early = is.early;
}

-- whole blocks are wanted
pub whole_blocks : (block frames taken room held count : ℕ) → count ≡ min (frames * block - taken) room - held → taken % block ≡ 0 → held % block ≡ 0 → room % block ≡ 0 → count % block ≡ 0
whole_blocks block frames taken room held count is taken_is held_is room_is = by (least (frames * block - taken) room) where
  least : (left room : ℕ) → (min left room ≡ left) ⊎ (min left room ≡ room)
  least left room = grind arith

  by : (min (frames * block - taken) room ≡ frames * block - taken) ⊎ (min (frames * block - taken) room ≡ room) → count % block ≡ 0
  by (inl same) =
      ap (λ (n : ℕ). n % block) (is ∙ ap (λ (n : ℕ). n - held) same)
      ∙ rest-mod (frames * block - taken) held block (rest-mod (frames * block) taken block (mul-mod_left frames block) taken_is) held_is
  by (inr same) = ap (λ (n : ℕ). n % block) (is ∙ ap (λ (n : ℕ). n - held) same) ∙ rest-mod room held block room_is held_is

-- as many frames are whole
same_blocks : (block first items : ℕ) → 1 ≤ block → first ≤ items / block → (items / block * block - first * block) / block ≡ (items - first * block) / block
same_blocks block first items some less =
    let number = items / block - first in
    let all = div-add-mod' items block in
    let count : items / block ≡ items / block - first + first = omega (arith, less) in
    let parts : items / block * block ≡ (items / block - first) * block + first * block =
    ap (λ (n : ℕ). n * block) count ∙ add-mul (items / block - first) first block in
    let front : items / block * block - first * block ≡ (items / block - first) * block = omega (arith, parts) in
    let back : items - first * block ≡ (items / block - first) * block + items % block = omega (arith, parts, all) in
    ap (λ (n : ℕ). n / block) front ∙ mul-div (items / block - first) block some
    ∙ sym (ap (λ (n : ℕ). n / block) back ∙ div-front (items / block - first) block (items % block) (mod_below items block some)) where
      add-mul : (one other size : ℕ) → (one + other) * size ≡ one * size + other * size
      add-mul one other size = omega arith

pub same_frames : (block held : ℕ) (items : List ℕ) → 1 ≤ block → held ≤ length items → held % block ≡ 0
    → (length (blocks_in block items) - held) / block ≡ (length items - held) / block
same_frames block held items some within held_is =
    let all = whole-all held block held_is in
    let less = le-div (held / block) (length items) block some (omega (arith, all, within)) in
    ap (λ (n : ℕ). (n - held) / block) (cut_length block items)
    ∙ ap (λ (n : ℕ). (length items / block * block - n) / block) (sym all)
    ∙ same_blocks block (held / block) (length items) some less
    ∙ ap (λ (n : ℕ). (length items - n) / block) all

pub same_block : (block taken : ℕ) (items : List ℕ) → 1 ≤ block → taken % block ≡ 0 → (taken + length (blocks_in block items)) / block ≡ (taken + length items) / block
same_block block taken items some taken_is =
    let all = whole-all taken block taken_is in
    let rest = div-add-mod' (length items) block in
    let sum : (taken / block + length items / block) * block ≡ taken / block * block + length items / block * block = omega arith in
    let front : taken + length items / block * block ≡ (taken / block + length items / block) * block = omega (arith, all, sum) in
    let back : taken + length items ≡ (taken / block + length items / block) * block + length items % block = omega (arith, all, sum, rest) in
    ap (λ (n : ℕ). (taken + n) / block) (cut_length block items)
    ∙ ap (λ (n : ℕ). n / block) front ∙ mul-div (taken / block + length items / block) block some
    ∙ sym (ap (λ (n : ℕ). n / block) back ∙ div-front (taken / block + length items / block) block (length items % block) (mod_below (length items) block some))
