-- How a supply stays fed.
use Rattle.std.proofs.Common.{◌≡◌, ◌≢◌, ◌≤◌, ◌<◌, ◌+◌, ◌-◌, ◌*◌, ◌/◌, ◌%◌, ◌∙◌, ℕ, zero, suc, List, length, Option, Some, None, refl, sym, ap, subst, arith, inl, inr}
use Rattle.std.specs.Prelude.{◌⊎◌, min, Result, Ok, Err, OnOk, IsErr}
use Rattle.std.proofs.lemmas.List.{length-append, length-drop}
use Rattle.std.proofs.Math.Nat.{mul-mod_left, div-zero, mul-add-div_right}
use Rattle.std.proofs.lemmas.Nat.{div-add-mod'}
use Rattle.hda_outside.specs.Counts.{Rose}
use Rattle.hda_outside.specs.Shelf.{Files}
use Rattle.hda_outside.specs.declared.pieces.Cut.{Cut}
use Rattle.hda_outside.specs.declared.pieces.Cut.TheVariants.{Failed, Short, OutOfMemory}
use Rattle.wav_reader.specs.Shelves.{ShelfSeen, HasFile}
use Rattle.wav_reader.specs.Supplies.{Source, Supplied, IsTaken, block_of}
use Rattle.wav_reader.specs.Fills.{Fills, FillsBy, IsFull, wanted, IsInFrame, AreFramesGiven}
use Rattle.wav_reader.specs.Heads.{frame_length}
use Rattle.period_writer.specs.declared.course.Course.{Course}
use Rattle.period_writer.specs.Accounts.{Accounts}
use Rattle.period_writer.specs.Runs.{Measures}
use Rattle.program_runs.specs.Feeding.{Shelves, Streams, IsFed, IsFedSo, IsLeftAfter, HasCause, IsAccount, cut_after, sound_bytes, AreFramesRead, IsCutAt}

-- ---- what a fed supply holds

held_if : (m : Measures) (source : Option Source) (first now : Shelves) (cut : Option Cut) (supply : Supplied) (course : Course) → IsFed m source first now cut supply course → length supply.held ≤ supply.left
held_if m None first now cut supply course fed = let whole = fed.whole in omega (arith, whole)
held_if m (Some source) first now cut supply course fed = fed.within

pub held_within : (m : Measures) (now : Shelves) (cut : Option Cut) (supply : Supplied) (course : Course) → IsFedSo m now cut supply course → length supply.held ≤ supply.left
held_within m now cut supply course fed = held_if m fed.source fed.first now cut supply course fed.is

-- ---- after a call

left_on : (cut : Option Cut) (source : Source) (old new : Supplied) → IsTaken old new → length old.held ≤ old.left → IsLeftAfter cut source old → IsLeftAfter cut source new
left_on None source old new taken rule left =
    let within = taken.within in
    let all = ap (λ (supply : Supplied). supply.taken) taken.is in
    let less = ap (λ (supply : Supplied). supply.left) taken.is in
    omega (arith, within, rule, all, less, left)
left_on (Some cut) source old new taken rule left =
    let within = taken.within in
    let all = ap (λ (supply : Supplied). supply.taken) taken.is in
    let less = ap (λ (supply : Supplied). supply.left) taken.is in
    let held = ap (λ (supply : Supplied). length supply.held) taken.is ∙ length-drop taken.count old.held in
    let same = left.0 in
    let early = left.1 in
    (omega (arith, within, less, held, same), omega (arith, within, all, held, early))

account_on : (ring first now : ℕ) (old new : Supplied) → IsTaken old new → IsAccount ring first now old → IsAccount ring first now new
account_on ring first now old new taken account =
    let within = taken.within in
    let all = ap (λ (supply : Supplied). supply.taken) taken.is in
    let less = ap (λ (supply : Supplied). supply.left) taken.is in
    let held = ap (λ (supply : Supplied). length supply.held) taken.is ∙ length-drop taken.count old.held in
    elim account as (λ _. IsAccount ring first now new) [
      | inl most ↦ inl (omega (arith, within, all, held, most))
      | inr both ↦ (let same = both.0 in let most = both.1 in inr (omega (arith, within, less, held, same), omega (arith, all, most)))
    ]

-- as many bytes were read
read_on : (old new : Supplied) → IsTaken old new → old.taken + length old.held ≡ new.taken + length new.held
read_on old new taken =
    let within = taken.within in
    let all = ap (λ (supply : Supplied). supply.taken) taken.is in
    let held = ap (λ (supply : Supplied). length supply.held) taken.is ∙ length-drop taken.count old.held in
    omega (arith, within, all, held)

streams_on : (m : Measures) (source : Source) (first now : ShelfSeen) (cut : Option Cut) (old new : Supplied) (before after : Course) → IsTaken old new → Accounts m old new before after
    → Streams m source first now cut old before → Streams m source first now cut new after
streams_on m source first now cut old new before after taken accounts fed =
    let within = taken.within in
    let less = ap (λ (supply : Supplied). supply.left) taken.is in
    let held = ap (λ (supply : Supplied). length supply.held) taken.is ∙ length-drop taken.count old.held in
    let rule = fed.within in
    let fits = fed.fits in
    let used = accounts.used in
    let was = fed.used in
    record {
      source_is = ap (λ (supply : Supplied). supply.source) taken.is ∙ fed.source_is;
      ring_is = fed.ring_is;
      block_is = fed.block_is;
      ring_blocks = fed.ring_blocks;
      blocks = accounts.blocks fed.blocks;
      left_blocks = accounts.left_blocks fed.left_blocks;
      taken_blocks = accounts.taken_blocks fed.taken_blocks;
      within = omega (arith, within, less, held, rule);
      fits = omega (arith, held, fits);
      left_is = left_on cut source old new taken rule fed.left_is;
      told_is = fed.told_is;
      later = fed.later;
      cause = fed.cause;
      never_short = fed.never_short;
      account = account_on m.ring first.given now.given old new taken fed.account;
      frames = subst (λ (read : ℕ). AreFramesRead cut source first.given now.given read) (read_on old new taken) fed.frames;
      cut_at = subst (λ (read : ℕ). IsCutAt cut source read) (read_on old new taken) fed.cut_at;
      used = omega (arith, used, was);
    }

pub fed_on : (m : Measures) (source : Option Source) (first now : Shelves) (cut : Option Cut) (old new : Supplied) (before after : Course) → IsTaken old new → Accounts m old new before after
    → IsFed m source first now cut old before → IsFed m source first now cut new after
fed_on m None first now cut old new before after taken accounts fed =
    let within = taken.within in
    let less = ap (λ (supply : Supplied). supply.left) taken.is in
    let held = ap (λ (supply : Supplied). length supply.held) taken.is ∙ length-drop taken.count old.held in
    let whole = fed.whole in
    record { source_is = ap (λ (supply : Supplied). supply.source) taken.is ∙ fed.source_is; whole = omega (arith, less, held, whole); cut_is = fed.cut_is }
fed_on m (Some source) first now cut old new before after taken accounts fed = streams_on m source (first source.name) (now source.name) cut old new before after taken accounts fed

-- ---- after a fill

-- nothing is wanted after a cut
none_wanted : (source : Source) (supply : Supplied) → supply.left ≡ length supply.held → wanted source supply ≡ 0
none_wanted source supply all = ap (λ (left : ℕ). min source.ring left - length supply.held) all ∙ by_numbers source.ring (length supply.held) where
  by_numbers : (ring held : ℕ) → min ring held - held ≡ 0
  by_numbers ring held = grind arith

-- after a full fill as much is held as the ring takes
full_is : (ring held left want new : ℕ) → held ≤ ring → held ≤ left → want ≡ min ring left - held → new ≡ held + want → new ≡ min ring left
full_is ring held left want new fits within wants is = grind arith

-- what is whole blocks on both sides
least_blocks : (ring left block : ℕ) → ring % block ≡ 0 → left % block ≡ 0 → min ring left % block ≡ 0
least_blocks ring left block one other = by_cases (least ring left) where
  least : (ring left : ℕ) → (min ring left ≡ ring) ⊎ (min ring left ≡ left)
  least ring left = grind arith

  by_cases : (min ring left ≡ ring) ⊎ (min ring left ≡ left) → min ring left % block ≡ 0
  by_cases (inl is) = ap (λ (n : ℕ). n % block) is ∙ one
  by_cases (inr is) = ap (λ (n : ℕ). n % block) is ∙ other

some_is : (reason other : Cut) → Some reason ≡ Some other → reason ≡ other
some_is reason other same = cc

rose_since : (first before after : ℕ) → first ≤ before → Rose before after → Rose first after
rose_since first before after later rose = grind (arith, later, rose)

-- without a cut no answer was empty
abbrev whole_fill : Result (Unit {0}) Cut
whole_fill = Ok tt

-- one that was cut
abbrev failed_fill : Cut → Result (Unit {0}) Cut
failed_fill reason = Err reason

failed_short : (place : ℕ) → failed_fill Failed ≢ failed_fill (Short place)
failed_short place same = cc

no_short : (place : ℕ) → whole_fill ≢ Err (Short place)
no_short place same = cc

cause_filled : (cut : Option Cut) (source : Source) (first before after : ShelfSeen) → after.empties ≡ before.empties → (cut ≢ None → after ≡ before) → HasCause cut source first before → HasCause cut source first after
cause_filled None source first before after same idle cause = same ∙ cause
cause_filled (Some reason) source first before after same idle cause = subst (λ (now : ShelfSeen). HasCause (Some reason) source first now) (sym (idle (λ none. cc))) cause

-- after a cut there is nothing to read
idle_if : (cut : Option Cut) (source : Source) (supply : Supplied) → IsLeftAfter cut source supply → cut ≢ None → wanted source supply ≡ 0
idle_if None source supply left some = absurd (some refl)
idle_if (Some reason) source supply left some = none_wanted source supply left.0

left_full : (cut : Option Cut) (source : Source) (old new : Supplied) → IsFull source old new → new.taken ≡ old.taken → IsLeftAfter cut source old → IsLeftAfter cut source new
left_full None source old new full taken left = let same = full.left in omega (arith, same, taken, left)
left_full (Some reason) source old new full taken left =
    let same = full.left in
    let held = full.held in
    let none = none_wanted source old left.0 in
    let all = left.0 in
    let early = left.1 in
    (omega (arith, same, held, none, all), omega (arith, taken, held, none, early))

-- ---- the frames that were read

both_whole : (block taken held : ℕ) → taken % block ≡ 0 → held % block ≡ 0 → (taken + held) % block ≡ 0
both_whole block taken held one other =
    let first = div-add-mod' taken block in
    let second = div-add-mod' held block in
    let both : (taken / block + held / block) * block ≡ taken / block * block + held / block * block = omega arith in
    let sum : taken + held ≡ (taken / block + held / block) * block = omega (arith, first, second, both, one, other) in
    ap (λ (bytes : ℕ). bytes % block) sum ∙ mul-mod_left (taken / block + held / block) block

more_frames : (block read more : ℕ) → read % block ≡ 0 → (read + more) / block ≡ read / block + more / block
more_frames zero read more whole = (let all = div-zero (read + more) in let one = div-zero read in let other = div-zero more in omega (arith, all, one, other))
more_frames (suc block) read more whole =
    let all = div-add-mod' read (suc block) in
    let read_is : read ≡ read / suc block * suc block = omega (arith, all, whole) in
    ap (λ (n : ℕ). (n + more) / suc block) read_is ∙ mul-add-div_right (omega arith) (read / suc block) more

-- some more of them
frames_more : (block frame first before after read more read' : ℕ) → read % block ≡ 0 → read' ≡ read + more → before ≤ first + read / block * frame → after ≤ before + more / block * frame
    → after ≤ first + read' / block * frame
frames_more block frame first before after read more read' whole is few given =
    let sum : read' / block ≡ read / block + more / block = ap (λ (n : ℕ). n / block) is ∙ more_frames block read more whole in
    let both : (read / block + more / block) * frame ≡ read / block * frame + more / block * frame = omega arith in
    let all = ap (λ (n : ℕ). n * frame) sum in
    omega (arith, both, all, few, given)

frames_less : (block frame first before after read more read' : ℕ) → read % block ≡ 0 → read' ≡ read + more → before ≤ first + read / block * frame → after < before + more / block * frame + frame
    → after < first + read' / block * frame + frame
frames_less block frame first before after read more read' whole is few given =
    let sum : read' / block ≡ read / block + more / block = ap (λ (n : ℕ). n / block) is ∙ more_frames block read more whole in
    let both : (read / block + more / block) * frame ≡ read / block * frame + more / block * frame = omega arith in
    let all = ap (λ (n : ℕ). n * frame) sum in
    omega (arith, both, all, few, given)

frames_full : (cut : Option Cut) (source : Source) (first before after : ℕ) (old new : Supplied) (block : ℕ) → block ≡ block_of source.head → old.taken % block ≡ 0 → length old.held % block ≡ 0
    → IsFull source old new → new.taken ≡ old.taken
    → (old.taken % block_of source.head ≡ 0 → length old.held % block_of source.head ≡ 0 → AreFramesGiven source.head old.held new.held before after (Ok tt))
    → (cut ≢ None → (new ≡ old) × (after ≡ before))
    → AreFramesRead cut source first before (old.taken + length old.held) → AreFramesRead cut source first after (new.taken + length new.held)
frames_full None source first before after old new block is taken_blocks held_blocks full taken given idle read =
    let held = full.held in
    let taken_whole : old.taken % block_of source.head ≡ 0 = ap (λ (block : ℕ). old.taken % block) (sym is) ∙ taken_blocks in
    let held_whole : length old.held % block_of source.head ≡ 0 = ap (λ (block : ℕ). length old.held % block) (sym is) ∙ held_blocks in
    frames_more (block_of source.head) (frame_length source.head.mono source.head.format) first before after (old.taken + length old.held) (length new.held - length old.held)
    (new.taken + length new.held) (both_whole (block_of source.head) old.taken (length old.held) taken_whole held_whole) (omega (arith, held, taken)) read (given taken_whole held_whole)
frames_full (Some reason) source first before after old new block is taken_blocks held_blocks full taken given idle read = by (idle (λ none. some_none none)) where
  some_none : Some reason ≡ None → ⊥
  some_none same = cc

  by : (new ≡ old) × (after ≡ before) → AreFramesRead (Some reason) source first after (new.taken + length new.held)
  by (same, none) =
      let read_is : new.taken + length new.held ≡ old.taken + length old.held = ap (λ (supply : Supplied). supply.taken + length supply.held) same in
      rw (read_is, none) read

cut_at_full : (cut : Option Cut) (source : Source) (old new : Supplied) → (cut ≢ None → new ≡ old) → IsCutAt cut source (old.taken + length old.held) → IsCutAt cut source (new.taken + length new.held)
cut_at_full None source old new idle at = tt
cut_at_full (Some reason) source old new idle at =
    subst (λ (read : ℕ). IsCutAt (Some reason) source read) (sym (ap (λ (supply : Supplied). supply.taken + length supply.held) (idle some_none))) at where
      some_none : Some reason ≡ None → ⊥
      some_none same = cc

account_full : (ring first before after : ℕ) (source : Source) (old new : Supplied) → IsFull source old new → new.taken ≡ old.taken → after ≤ before + wanted source old → IsAccount ring first before old → IsAccount ring first after new
account_full ring first before after source old new full taken given account =
    let same = full.left in
    let held = full.held in
    elim account as (λ _. IsAccount ring first after new) [
      | inl most ↦ inl (omega (arith, held, taken, given, most))
      | inr both ↦ (let all = both.0 in let most = both.1 in let none = none_wanted source old all in inr (omega (arith, same, held, none, all), omega (arith, taken, given, none, most)))
    ]

module _ (m : Measures) (source : Source) (first before after : ShelfSeen) (cut : Option Cut) (old new : Supplied) (course : Course) where
  -- the result of a fill that read all that was wanted
  streams_full : Fills source old new before after (Ok tt) → before.faults ≤ after.faults → after.told ≡ before.told → Streams m source first before cut old course → Streams m source first after cut new course
  streams_full fills rises told fed =
      let full = fills.full in
      let within = fed.within in
      let fits = fed.fits in
      let ring : source.ring ≡ m.ring = fed.ring_is in
      let held : length new.held ≡ min m.ring old.left =
      full_is m.ring (length old.held) old.left (wanted source old) (length new.held) fits within (ap (λ (ring : ℕ). min ring old.left - length old.held) ring) full.held in
      let same = full.left in
      let taken = fills.taken in
      let later = fed.later in
      let used = fed.used in
      record {
        source_is = fills.source_is ∙ fed.source_is;
        ring_is = ring;
        block_is = fed.block_is;
        ring_blocks = fed.ring_blocks;
        blocks = ap (λ (n : ℕ). n % m.block) held ∙ least_blocks m.ring old.left m.block fed.ring_blocks fed.left_blocks;
        left_blocks = ap (λ (n : ℕ). n % m.block) same ∙ fed.left_blocks;
        taken_blocks = ap (λ (n : ℕ). n % m.block) taken ∙ fed.taken_blocks;
        within = least_right (length new.held) m.ring old.left new.left held same;
        fits = least_left (length new.held) m.ring old.left held;
        left_is = left_full cut source old new full taken fed.left_is;
        told_is = told ∙ fed.told_is;
        later = omega (arith, later, rises);
        cause = cause_filled cut source first before after (fills.not_short no_short) (λ some. (fills.idle (idle_if cut source old fed.left_is some)).2) fed.cause;
        never_short = fed.never_short;
        account = account_full m.ring first.given before.given after.given source old new full taken fills.given fed.account;
        frames = frames_full cut source first.given before.given after.given old new m.block (sym fed.block_is) fed.taken_blocks fed.blocks full taken fills.frames
            (λ some. (let idle = fills.idle (idle_if cut source old fed.left_is some) in (idle.1, ap (λ (seen : ShelfSeen). seen.given) idle.2))) fed.frames;
        cut_at = cut_at_full cut source old new (λ some. (fills.idle (idle_if cut source old fed.left_is some)).1) fed.cut_at;
        used = omega (arith, taken, used);
      } where
        least_right : (held ring left left' : ℕ) → held ≡ min ring left → left' ≡ left → held ≤ left'
        least_right held ring left left' is same = grind arith

        least_left : (held ring left : ℕ) → held ≡ min ring left → held ≤ ring
        least_left held ring left is = grind arith

  -- the result of a fill that was cut
  streams_cut : (reason : Cut) → reason ≢ OutOfMemory → Fills source old new before after (Err reason) → before.faults ≤ after.faults → after.told ≡ before.told → Streams m source first before cut old course
      → Streams m source first after (Some reason) new course
  streams_cut reason known fills rises told fed =
      let was = fills.cut in
      let within = fed.within in
      let fits = fed.fits in
      let ring : source.ring ≡ m.ring = fed.ring_is in
      let all = was.left in
      let early = was.early in
      let taken = fills.taken in
      let later = fed.later in
      let used = fed.used in
      let few : length new.held < min m.ring old.left = few_are m.ring (length old.held) old.left (wanted source old) (length new.held) fits within (ap (λ (ring : ℕ). min ring old.left - length old.held) ring) early in
      let blocks : length new.held % m.block ≡ 0 = ap (λ (block : ℕ). length new.held % block) (sym fed.block_is) ∙ was.blocks in
      record {
        source_is = fills.source_is ∙ fed.source_is;
        ring_is = ring;
        block_is = fed.block_is;
        ring_blocks = fed.ring_blocks;
        blocks = blocks;
        left_blocks = ap (λ (n : ℕ). n % m.block) all ∙ blocks;
        taken_blocks = ap (λ (n : ℕ). n % m.block) taken ∙ fed.taken_blocks;
        within = omega (arith, all);
        fits = few_left (length new.held) m.ring old.left few;
        left_is = (all, left_early cut fed.left_is (few_right (length new.held) m.ring old.left few));
        told_is = told ∙ fed.told_is;
        later = omega (arith, later, rises);
        cause = cause_cut reason known fed.cause fills later;
        never_short = λ file tells place same. fills.never_short file (subst (λ (told : Option Files). HasFile told source.name source.head file) (sym fed.told_is) tells) place (ap (λ (reason : Cut). Err reason) (some_is reason (Short place) same));
        account = account_cut fed.account;
        frames = frames_cut cut fed.left_is fed.frames;
        cut_at = cut_at_by reason fills.short_at;
        used = omega (arith, taken, used);
      } where
        few_are : (ring held left want new : ℕ) → held ≤ ring → held ≤ left → want ≡ min ring left - held → new < held + want → new < min ring left
        few_are ring held left want new fits within wants is = grind arith

        few_left : (held ring left : ℕ) → held < min ring left → held ≤ ring
        few_left held ring left is = grind arith

        few_right : (held ring left : ℕ) → held < min ring left → held < left
        few_right held ring left is = grind arith

        -- a fill is cut only where something was wanted, so not after a cut
        some_wanted : wanted source old ≡ 0 → ⊥
        some_wanted none = (let idle = fills.idle none in not_ok reason idle.0) where
          not_ok : (reason : Cut) → Err reason ≡ whole_fill → ⊥
          not_ok reason same = cc

        left_early : (cut : Option Cut) → IsLeftAfter cut source old → length new.held < old.left → new.taken + length new.held < sound_bytes source
        left_early None left less = (let taken = fills.taken in omega (arith, taken, left, less))
        left_early (Some other) left less = absurd (some_wanted (none_wanted source old left.0))

        none_before : (cut : Option Cut) → HasCause cut source first before → IsLeftAfter cut source old → before.empties ≡ first.empties
        none_before None cause left = cause
        none_before (Some other) cause left = absurd (some_wanted (none_wanted source old left.0))

        cause_cut : (reason : Cut) → reason ≢ OutOfMemory → HasCause cut source first before → Fills source old new before after (Err reason) → first.faults ≤ before.faults → HasCause (Some reason) source first after
        cause_cut Failed known cause fills later =
            (rose_since first.faults before.faults after.faults later (fills.failed refl), fills.not_short (λ place same. failed_short place same) ∙ none_before cut cause fed.left_is)
        cause_cut (Short place) known cause fills later = (let short = fills.short place refl in (short.0, subst (λ (empties : ℕ). Rose empties after.empties) (none_before cut cause fed.left_is) short.1))
        cause_cut OutOfMemory known cause fills later = absurd (known refl)

        taken_whole : old.taken % block_of source.head ≡ 0
        taken_whole = ap (λ (block : ℕ). old.taken % block) fed.block_is ∙ fed.taken_blocks

        held_whole : length old.held % block_of source.head ≡ 0
        held_whole = ap (λ (block : ℕ). length old.held % block) fed.block_is ∙ fed.blocks

        frames_cut : (cut : Option Cut) → IsLeftAfter cut source old → AreFramesRead cut source first.given before.given (old.taken + length old.held)
            → AreFramesRead (Some reason) source first.given after.given (new.taken + length new.held)
        frames_cut None left read =
            (let filled = fills.filled held_whole in
            let more = length-append old.held filled.more in
            let held = ap (λ (bytes : List ℕ). length bytes) filled.held in
            let taken = fills.taken in
            frames_less (block_of source.head) (frame_length source.head.mono source.head.format) first.given before.given after.given (old.taken + length old.held)
            (length new.held - length old.held) (new.taken + length new.held) (both_whole (block_of source.head) old.taken (length old.held) taken_whole held_whole)
            (omega (arith, more, held, taken)) read (fills.frames taken_whole held_whole))
        frames_cut (Some other) left read = absurd (some_wanted (none_wanted source old left.0))

        cut_at_by : (reason : Cut) → (old.taken % block_of source.head ≡ 0 → (place : ℕ) → failed_fill reason ≡ failed_fill (Short place) → IsInFrame source.head (new.taken + length new.held) place)
            → IsCutAt (Some reason) source (new.taken + length new.held)
        cut_at_by Failed at = tt
        cut_at_by (Short place) at = at taken_whole place refl
        cut_at_by OutOfMemory at = tt

        no_more : (ring held left want : ℕ) → held ≤ ring → held ≤ left → want ≡ min ring left - held → held + want ≤ ring
        no_more ring held left want fits within wants = grind arith

        account_cut : IsAccount m.ring first.given before.given old → IsAccount m.ring first.given after.given new
        account_cut account =
            let given = fills.given in
            let taken = fills.taken in
            let all = fills.cut.left in
            let within = fed.within in
            let fits = fed.fits in
            let most = no_more m.ring (length old.held) old.left (wanted source old) fits within (ap (λ (ring : ℕ). min ring old.left - length old.held) fed.ring_is) in
            elim account as (λ _. IsAccount m.ring first.given after.given new) [
              | inl few ↦ inr (all, omega (arith, given, taken, few, most))
              | inr both ↦ absurd (some_wanted (none_wanted source old both.0))
            ]

-- by the answer
streams_by : (m : Measures) (source : Source) (first before after : ShelfSeen) (cut : Option Cut) (old new : Supplied) (course : Course) (result : Result (Unit {0}) Cut) → result ≢ Err OutOfMemory → Fills source old new before after result
    → before.faults ≤ after.faults → after.told ≡ before.told → Streams m source first before cut old course → Streams m source first after (cut_after cut result) new course
streams_by m source first before after cut old new course (Ok done) known fills rises told fed = streams_full m source first before after cut old new course fills rises told fed
streams_by m source first before after cut old new course (Err reason) known fills rises told fed =
    streams_cut m source first before after cut old new course reason (λ same. known (ap (λ (reason : Cut). Err reason) same)) fills rises told fed

none_by : (cut : Option Cut) (result : Result (Unit {0}) Cut) → cut ≡ None → result ≡ Ok tt → cut_after cut result ≡ None
none_by cut result none done = ap (cut_after cut) done ∙ none

pub fed_filled : (m : Measures) (source : Option Source) (first before after : Shelves) (cut : Option Cut) (old new : Supplied) (course : Course) (result : Result (Unit {0}) Cut) → result ≢ Err OutOfMemory
    → FillsBy old.source old new before after result → ((name : List ℕ) → (before name).faults ≤ (after name).faults) → ((name : List ℕ) → (after name).told ≡ (before name).told)
    → IsFed m source first before cut old course → IsFed m source first after (cut_after cut result) new course
fed_filled m None first before after cut old new course result known fills rises told fed =
    let by = subst (λ (source : Option Source). FillsBy source old new before after result) fed.source_is fills in record {
      source_is = ap (λ (supply : Supplied). supply.source) by.1 ∙ fed.source_is;
      whole = ap (λ (supply : Supplied). length supply.held) by.1 ∙ fed.whole ∙ sym (ap (λ (supply : Supplied). supply.left) by.1);
      cut_is = none_by cut result fed.cut_is by.0;
    }
fed_filled m (Some source) first before after cut old new course result known fills rises told fed =
    streams_by m source (first source.name) (before source.name) (after source.name) cut old new course result known (subst (λ (source : Option Source). FillsBy source old new before after result) fed.source_is fills)
    (rises source.name) (told source.name) fed

never_err : (X E : Type 0) (x : X) → IsErr {T = X} {E = E} (Ok x) → ⊥
never_err X E x is = cc

-- after a fill whose cut was noted
pub fed_noted : {X E : Type 0} (result : Result X E) (m : Measures) (before after : Shelves) (cut cut' : Option Cut) (old new : Supplied) (course : Course) (filled : Result (Unit {0}) Cut)
    → OnOk result (cut' ≡ cut_after cut filled) → (filled ≡ Err OutOfMemory → IsErr result) → FillsBy old.source old new before after filled
    → ((name : List ℕ) → (before name).faults ≤ (after name).faults) → ((name : List ℕ) → (after name).told ≡ (before name).told)
    → OnOk result ((source : Option Source) (first : Shelves) → IsFed m source first before cut old course → IsFed m source first after cut' new course)
fed_noted {X} {E} (Ok x) m before after cut cut' old new course filled is memory fills rises told = λ source first fed.
    subst (λ (cut : Option Cut). IsFed m source first after cut new course) (sym is)
    (fed_filled m source first before after cut old new course filled (λ same. never_err X E x (memory same)) fills rises told fed)
fed_noted {X} {E} (Err e) m before after cut cut' old new course filled is memory fills rises told = tt
