-- How much a fed supply holds of what a ring takes, and what was taken of it.
use Rattle.std.proofs.Common.{◌≡◌, ◌≤◌, ◌+◌, ◌-◌, ◌*◌, ◌/◌, ◌%◌, ◌∙◌, ℕ, zero, suc, [], length, Option, Some, None, refl, sym, ap, subst, arith, inl, append-nil}
use Rattle.std.specs.Prelude.{min, Result, Ok, Err, OnOk}
use Rattle.std.proofs.Math.Nat.{mul-mod_left, zero-mod}
use Rattle.std.proofs.lemmas.Nat.{div-add-mod'}
use Rattle.stream_format.specs.declared.format.Format.{Format}
use Rattle.stream_format.specs.declared.format.Bits.{Bits}
use Rattle.stream_format.specs.declared.format.Bits.TheVariants.{B16, B24, B32}
use Rattle.stream_format.specs.Cadence.{block_bytes, container_bytes}
use Rattle.period_writer.specs.Rings as rings
use Rattle.hda_outside.specs.declared.pieces.Cut.{Cut}
use Rattle.wav_reader.specs.Shelves.{ShelfSeen, HasFile}
use Rattle.wav_reader.specs.Supplies.{Source, Supplied, MayGive, EndsWith, IsTaken, Suffices, taken_between, block_of}
use Rattle.wav_reader.specs.Fills.{Fills, FillsBy, IsNextOf, wanted}
use Rattle.wav_reader.specs.Wavs.{ring_bytes}
use Rattle.wav_reader.proofs.Callers.{may_before, may_filled, taken_more, next_on, next_were}
use Rattle.period_writer.specs.declared.course.Course.{Course}
use Rattle.period_writer.specs.Runs.{Measures}
use Rattle.program_runs.specs.Feeding.{Shelves, Streams, IsGivenWhole, IsFed, IsFedSo, IsFilledUp, IsSilent, Took, sound_bytes}

-- ---- as much is held as a ring takes

filled_by : (m : Measures) (source : Source) (first before after : ShelfSeen) (cut : Option Cut) (old new : Supplied) (course : Course) (result : Result (Unit {0}) Cut) → Fills source old new before after result
    → Streams m source first before cut old course → IsFilledUp m.ring new
filled_by m source first before after cut old new course (Ok done) fills fed =
    let full = fills.full in
    full_up m.ring (length old.held) old.left (wanted source old) (length new.held) new.left fed.fits fed.within (ap (λ (ring : ℕ). min ring old.left - length old.held) fed.ring_is) full.held full.left where
      full_up : (ring held left want new left' : ℕ) → held ≤ ring → held ≤ left → want ≡ min ring left - held → new ≡ held + want → left' ≡ left → min ring left' ≤ new
      full_up ring held left want new left' fits within wants is same = grind arith
filled_by m source first before after cut old new course (Err reason) fills fed = all_held m.ring new.left (length new.held) fills.cut.left where
  all_held : (ring left held : ℕ) → left ≡ held → min ring left ≤ held
  all_held ring left held same = grind arith

pub fed_up : (m : Measures) (source : Option Source) (first before after : Shelves) (cut : Option Cut) (old new : Supplied) (course : Course) (result : Result (Unit {0}) Cut)
    → FillsBy old.source old new before after result → IsFed m source first before cut old course → IsFilledUp m.ring new
fed_up m None first before after cut old new course result fills fed =
    let by = subst (λ (source : Option Source). FillsBy source old new before after result) fed.source_is fills in
    all_held m.ring new.left (length new.held) (sym (ap (λ (supply : Supplied). length supply.held) by.1 ∙ fed.whole ∙ sym (ap (λ (supply : Supplied). supply.left) by.1))) where
      all_held : (ring left held : ℕ) → left ≡ held → min ring left ≤ held
      all_held ring left held same = grind arith
fed_up m (Some source) first before after cut old new course result fills fed =
    filled_by m source (first source.name) (before source.name) (after source.name) cut old new course result (subst (λ (source : Option Source). FillsBy source old new before after result) fed.source_is fills) fed

pub suffices_up : (ring budget : ℕ) (supply : Supplied) → IsFilledUp ring supply → Suffices ring budget supply
suffices_up ring budget supply up = by_numbers ring budget supply.left (length supply.held) up where
  by_numbers : (ring budget left held : ℕ) → min ring left ≤ held → min budget (min ring left) ≤ held
  by_numbers ring budget left held up = grind arith

-- ---- what was taken

pub took_line : (told : Shelves) (old new : Supplied) → IsTaken old new → length old.held ≤ old.left → Took (taken_between old new) told old new
took_line told old new taken rule = record {
  may = λ later may. may_before old new later taken rule may;
  taken = taken_more old new taken;
  source_is = ap (λ (supply : Supplied). supply.source) taken.is;
  next = λ source file is tells next. next_on (ring_bytes file source.head) old new taken next;
  gave_is = λ source file is tells next. next_were (ring_bytes file source.head) old new taken next;
}

-- by a fill nothing
took_by : (m : Measures) (source : Option Source) (first before after : Shelves) (cut : Option Cut) (old new : Supplied) (course : Course) (result : Result (Unit {0}) Cut)
    → FillsBy old.source old new before after result → IsFed m source first before cut old course → Took [] before old new
took_by m None first before after cut old new course result fills fed =
    let by = subst (λ (source : Option Source). FillsBy source old new before after result) fed.source_is fills in
    subst (λ (supply : Supplied). Took [] before old supply) (sym by.1) (took_none before old)
  where
    took_none : (told : Shelves) (supply : Supplied) → Took [] told supply supply
    took_none told supply = record { may = λ later may. may; taken = omega arith; source_is = refl; next = λ source file is tells next. next; gave_is = λ source file is tells next. refl }
took_by m (Some source) first before after cut old new course result fills fed =
    let by = subst (λ (source : Option Source). FillsBy source old new before after result) fed.source_is fills in
    let filled = by.filled (ap (λ (block : ℕ). length old.held % block) fed.block_is ∙ fed.blocks) in
    record {
      may = λ later may. may_filled old new later filled may;
      taken = none (new.taken) (old.taken) by.taken;
      source_is = by.source_is;
      next = λ other file is tells next.
          (let same : other ≡ source = one_source other source (sym is ∙ fed.source_is) in
          subst (λ (source : Source). IsNextOf (ring_bytes file source.head) new) (sym same)
          (by.reads file (subst (λ (source : Source). HasFile (before source.name).told source.name source.head file) same tells) (subst (λ (source : Source). IsNextOf (ring_bytes file source.head) old) same next)));
      gave_is = λ other file is tells next. refl;
    }
  where
    none : (new old : ℕ) → new ≡ old → new ≡ old + 0
    none new old same = omega (arith, same)

    one_source : (other source : Source) → Some other ≡ Some source → other ≡ source
    one_source other source same = cc

pub took_filled : (m : Measures) (before after : Shelves) (cut : Option Cut) (old new : Supplied) (course : Course) (result : Result (Unit {0}) Cut) → FillsBy old.source old new before after result → IsFedSo m before cut old course → Took [] before old new
took_filled m before after cut old new course result fills fed = took_by m fed.source fed.first before after cut old new course result fills fed.is

-- ---- at first

abbrev pub first_supply : Source → Supplied
first_supply source = record { held = []; left = sound_bytes source; taken = 0; source = Some source }

none_blocks : (block : ℕ) → 0 % block ≡ 0
none_blocks block = zero-mod block

first_streams : (m : Measures) (source : Source) (now : ShelfSeen) (course : Course) → source.ring ≡ m.ring → block_of source.head ≡ m.block → m.ring % m.block ≡ 0 → Streams m source now now None (first_supply source) course
first_streams m source now course ring block whole = record {
  source_is = refl;
  ring_is = ring;
  block_is = block;
  ring_blocks = whole;
  blocks = none_blocks m.block;
  left_blocks = ap (λ (block : ℕ). sound_bytes source % block) (sym block) ∙ mul-mod_left source.head.frames (block_of source.head);
  taken_blocks = none_blocks m.block;
  within = omega arith;
  fits = omega arith;
  left_is = omega arith;
  told_is = refl;
  later = omega arith;
  cause = refl;
  never_short = λ file tells place same. cc;
  account = inl (omega arith);
  frames = omega arith;
  cut_at = tt;
  used = omega arith;
}

pub fed_first : (m : Measures) (source : Source) (now : Shelves) (supply : Supplied) (course : Course) → supply ≡ first_supply source → source.ring ≡ m.ring → block_of source.head ≡ m.block → m.ring % m.block ≡ 0
    → IsFed m (Some source) now now None supply course
fed_first m source now supply course is ring block whole =
    subst (λ (supply : Supplied). Streams m source (now source.name) (now source.name) None supply course) (sym is) (first_streams m source (now source.name) course ring block whole)

-- a unit of a period has whole blocks
unit_whole : (channels : ℕ) (bits : Bits) → channels % 2 ≡ 0 → 2 ≤ channels → channels ≤ 8 → 384 % (channels * container_bytes bits) ≡ 0
unit_whole zero bits even some few = absurd (omega (arith, some))
unit_whole (suc zero) bits even some few = absurd (omega (arith, some))
unit_whole (suc (suc zero)) B16 even some few = refl
unit_whole (suc (suc zero)) B24 even some few = refl
unit_whole (suc (suc zero)) B32 even some few = refl
unit_whole (suc (suc (suc zero))) bits even some few = absurd (omega (arith, even))
unit_whole (suc (suc (suc (suc zero)))) B16 even some few = refl
unit_whole (suc (suc (suc (suc zero)))) B24 even some few = refl
unit_whole (suc (suc (suc (suc zero)))) B32 even some few = refl
unit_whole (suc (suc (suc (suc (suc zero))))) bits even some few = absurd (omega (arith, even))
unit_whole (suc (suc (suc (suc (suc (suc zero)))))) B16 even some few = refl
unit_whole (suc (suc (suc (suc (suc (suc zero)))))) B24 even some few = refl
unit_whole (suc (suc (suc (suc (suc (suc zero)))))) B32 even some few = refl
unit_whole (suc (suc (suc (suc (suc (suc (suc zero))))))) bits even some few = absurd (omega (arith, even))
unit_whole (suc (suc (suc (suc (suc (suc (suc (suc zero)))))))) B16 even some few = refl
unit_whole (suc (suc (suc (suc (suc (suc (suc (suc zero)))))))) B24 even some few = refl
unit_whole (suc (suc (suc (suc (suc (suc (suc (suc zero)))))))) B32 even some few = refl
unit_whole (suc (suc (suc (suc (suc (suc (suc (suc (suc channels))))))))) bits even some few = absurd (omega (arith, few))

pub ring_whole : (periods period : ℕ) (format : Format) → rings.ring_bytes periods period % block_bytes format ≡ 0
ring_whole periods period format =
    let block = block_bytes format in
    let none = unit_whole format.channels format.bits format.even format.some format.few in
    let split = div-add-mod' 384 (block_bytes format) in
    let unit : 384 ≡ 384 / block_bytes format * block_bytes format = omega (arith, none, split) in
    let units : rings.ring_bytes periods period ≡ period * periods * 384 = omega arith in
    let turned : period * periods * (384 / block_bytes format * block_bytes format) ≡ period * periods * (384 / block_bytes format) * block_bytes format = omega arith in
    ap (λ (ring : ℕ). ring % block) (units ∙ ap (λ (unit : ℕ). period * periods * unit) unit ∙ turned) ∙ mul-mod_left (period * periods * (384 / block)) block

-- ---- one without sound

abbrev pub nothing_told : Shelves
nothing_told = λ name. record { told = None; faults = 0; empties = 0; given = 0 }

pub given_nothing : (supply : Supplied) → IsSilent supply → IsGivenWhole None supply
given_nothing supply is = record {
  source_is = ap (λ (supply : Supplied). supply.source) is;
  whole = ap (λ (supply : Supplied). length supply.held) is ∙ sym (ap (λ (supply : Supplied). supply.left) is);
  cut_is = refl;
}

-- what is held whole may be given, and ends what is left
pub may_held : (supply : Supplied) → length supply.held ≡ supply.left → MayGive supply supply.held
may_held supply all = record { later = []; is = sym (append-nil supply.held); most = omega (arith, all) }

pub ends_held : (supply : Supplied) → length supply.held ≡ supply.left → EndsWith supply supply.held
ends_held supply all = λ none. omega (arith, all, none)

-- what holds anyway holds where an answer is good
pub ok_any : (X E : Type 0) (result : Result X E) (A : Type 0) → A → OnOk result A
ok_any X E (Ok x) A holds = holds
ok_any X E (Err e) A holds = tt
