-- The text of what a pin heard, by its stretches and the bytes of its sound.
use Rattle.std.proofs.Common.{◌≡◌, ◌<◌, ◌≤◌, ◌+◌, ℕ, min, Bool, true, false, if◌then◌else◌, List, [], ◌∷◌, ◌++◌, length, map, take, drop, get_or, inl, inr, refl, sym, ap, ◌∙◌, arith}
use Rattle.std.specs.Prelude.{All}
use Rattle.std.specs.List.{flat_map}
use Rattle.std.proofs.lemmas.List.{take_min, drop_all, drop_more}
use Rattle.std.proofs.lemmas.List.Elements.{All-cons, All-nil}
use Rattle.std.proofs.lemmas.Bool.{cases_lt}
use Rattle.std.proofs.lemmas.Grind.{flat_map-append}
use Rattle.std.proofs.Math.Seq.{take-append_seam, drop-append_seam}
use Rattle.stream_format.specs.declared.format.Bits.{Bits}
use Rattle.heard_frames.specs.declared.heard.Heard.{Heard}
use Rattle.heard_frames.specs.declared.heard.Heard.TheVariants as heard
use Rattle.heard_lists.specs.declared.stretches.Kind.{Kind}
use Rattle.heard_lists.specs.declared.stretches.Kind.TheVariants as kind
use Rattle.heard_lists.specs.declared.stretches.Stretch.{Stretch}
use Rattle.heard_lists.specs.Stretches.{kind_of, is_same, with_first, stretches_of, sound_bytes}
use Rattle.heard_lists.proofs.Callers.{same_kinds, all_silent}
use Rattle.sound_report.specs.PinParts.{is_like, before, stretches, stretch_lines, heard_lines}
use Rattle.sound_report.specs.StretchTexts.{samples_len, stretch_text, stretches_text}
use Rattle.sound_report.proofs.SoundLines.{sound-samples, length-sound}

-- ---- stretches as lists of items, and as kinds and counts

-- its kind, and how many items it has
abbrev summary : List Heard → Stretch
summary [] = record { kind = kind.Quiet; items = 0 }
summary (item ∷ items) = record { kind = kind_of item; items = length (item ∷ items) }

-- it has items, all of one kind
record IsOne (stretch : List Heard) : Type 0 where
  some : 0 < length stretch
  same : All (λ (item : Heard). kind_of item ≡ (summary stretch).kind) stretch

abbrev AreOnes : List (List Heard) → Type 0
AreOnes [] = Unit {0}
AreOnes (stretch ∷ more) = IsOne stretch × AreOnes more

-- these are the stretches of a list
record AreParts (items : List Heard) (parts : List (List Heard)) : Type 0 where
  whole : flat_map (λ (stretch : List Heard). stretch) parts ≡ items
  ones : AreOnes parts
  told : stretches_of items ≡ map summary parts

like_same : (first second : Heard) → is_like first second ≡ is_same (kind_of first) (kind_of second)
like_same (heard.Sound left right) (heard.Sound l r) = refl
like_same heard.Quiet heard.Quiet = refl
like_same heard.Hole heard.Hole = refl
like_same heard.Altered heard.Altered = refl
like_same _ _ = refl

one-item : (item : Heard) → IsOne (item ∷ [])
one-item item = record {
  some = omega arith;
  same = All-cons (λ (i : Heard). kind_of i ≡ kind_of item) item [] refl (All-nil (λ (i : Heard). kind_of i ≡ kind_of item));
}

one-more : (item next : Heard) (stretch : List Heard) → kind_of item ≡ kind_of next → IsOne (next ∷ stretch) → IsOne (item ∷ next ∷ stretch)
one-more item next stretch is one = record {
  some = omega arith;
  same = All-cons (λ (i : Heard). kind_of i ≡ kind_of item) item (next ∷ stretch) refl (λ k d within. one.same k d within ∙ sym is);
}

parts-before : (item : Heard) (items : List Heard) (parts : List (List Heard)) → AreParts items parts → AreParts (item ∷ items) (before item parts)
unfolding stretches_of
parts-before item items [] are = record {
  whole = ap (λ (rest : List Heard). item ∷ rest) are.whole;
  ones = (one-item item, tt);
  told = ap (with_first (kind_of item)) are.told;
}
parts-before item items ([] ∷ more) are = absurd (let some = are.ones.0.some in omega (arith, some))
parts-before item items ((next ∷ stretch) ∷ more) are = by_kind (is_same (kind_of item) (kind_of next)) refl
  where
    by_kind : (same : Bool) → is_same (kind_of item) (kind_of next) ≡ same → AreParts (item ∷ items) (before item ((next ∷ stretch) ∷ more))
    by_kind true is =
        let like : is_like item next ≡ true = like_same item next ∙ is in
        let here : kind_of item ≡ kind_of next = same_kinds (kind_of item) (kind_of next) is in
        rw like (record {
          whole = ap (λ (rest : List Heard). item ∷ rest) are.whole;
          ones = (one-more item next stretch here are.ones.0, are.ones.1);
          told = ap (with_first (kind_of item)) are.told
              ∙ (ap (λ (same : Bool). if same then record { kind = kind_of next; items = length (next ∷ stretch) + 1 } ∷ map summary more
              else record { kind = kind_of item; items = 1 } ∷ record { kind = kind_of next; items = length (next ∷ stretch) } ∷ map summary more) is
              ∙ (ap (λ (k : Kind). record { kind = k; items = length (next ∷ stretch) + 1 } ∷ map summary more) (sym here)
              ∙ ap (λ (n : ℕ). record { kind = kind_of item; items = n } ∷ map summary more) (let e : length (next ∷ stretch) + 1 ≡ length (item ∷ next ∷ stretch) = omega arith in e)));
        })
    by_kind false is =
        let like : is_like item next ≡ false = like_same item next ∙ is in
        rw like (record {
          whole = ap (λ (rest : List Heard). item ∷ rest) are.whole;
          ones = (one-item item, are.ones);
          told = ap (with_first (kind_of item)) are.told
              ∙ ap (λ (same : Bool). if same then record { kind = kind_of next; items = length (next ∷ stretch) + 1 } ∷ map summary more
              else record { kind = kind_of item; items = 1 } ∷ record { kind = kind_of next; items = length (next ∷ stretch) } ∷ map summary more) is;
        })

parts-of : (items : List Heard) → AreParts items (stretches items)
unfolding stretches stretches_of
parts-of [] = record { whole = refl; ones = tt; told = refl }
parts-of (item ∷ items) = parts-before item items (stretches items) (parts-of items)

-- ---- the text

one-text : (bits : Bits) (stretch : List Heard) → IsOne stretch
    → stretch_lines bits stretch ≡ stretch_text bits (summary stretch).kind (summary stretch).items (flat_map (sound_bytes bits) stretch)
one-text bits [] one = absurd (let some = one.some in omega (arith, some))
one-text bits (heard.Sound left right ∷ items) one = sound-samples bits (heard.Sound left right ∷ items) one.same
one-text bits (heard.Quiet ∷ items) one = refl
one-text bits (heard.Hole ∷ items) one = refl
one-text bits (heard.Altered ∷ items) one = refl

one-len : (bits : Bits) (stretch : List Heard) → IsOne stretch
    → samples_len bits (summary stretch).kind (summary stretch).items ≡ length (flat_map (sound_bytes bits) stretch)
one-len bits [] one = absurd (let some = one.some in omega (arith, some))
one-len bits (heard.Sound left right ∷ items) one = sym (length-sound bits (heard.Sound left right ∷ items) one.same)
one-len bits (heard.Quiet ∷ items) one = sym (ap length (all_silent bits kind.Quiet (heard.Quiet ∷ items) one.same refl))
one-len bits (heard.Hole ∷ items) one = sym (ap length (all_silent bits kind.Hole (heard.Hole ∷ items) one.same refl))
one-len bits (heard.Altered ∷ items) one = sym (ap length (all_silent bits kind.Altered (heard.Altered ∷ items) one.same refl))

text-parts : (bits : Bits) (parts : List (List Heard)) → AreOnes parts
    → flat_map (stretch_lines bits) parts ≡ stretches_text bits (map summary parts) (flat_map (sound_bytes bits) (flat_map (λ (stretch : List Heard). stretch) parts))
text-parts bits [] ones = refl
text-parts bits (stretch ∷ more) ones =
    let rest : List Heard = flat_map (λ (s : List Heard). s) more in
    let samples : List ℕ = flat_map (sound_bytes bits) stretch in
    let later : List ℕ = flat_map (sound_bytes bits) rest in
    let len : ℕ = samples_len bits (summary stretch).kind (summary stretch).items in
    let whole : flat_map (sound_bytes bits) (stretch ++ rest) ≡ samples ++ later = flat_map-append (sound_bytes bits) stretch rest in
    let long : len ≡ length samples = one-len bits stretch ones.0 in
    let front : take len (samples ++ later) ≡ samples = ap (λ (n : ℕ). take n (samples ++ later)) long ∙ take-append_seam samples later in
    let back : drop len (samples ++ later) ≡ later = ap (λ (n : ℕ). drop n (samples ++ later)) long ∙ drop-append_seam samples later in
    ap (λ (lines : List ℕ). lines ++ flat_map (stretch_lines bits) more) (one-text bits stretch ones.0)
    ∙ (ap (λ (lines : List ℕ). stretch_text bits (summary stretch).kind (summary stretch).items samples ++ lines) (text-parts bits more ones.1)
    ∙ (ap (λ (s : List ℕ). stretch_text bits (summary stretch).kind (summary stretch).items s ++ stretches_text bits (map summary more) later) (sym front)
    ∙ (ap (λ (s : List ℕ). stretch_text bits (summary stretch).kind (summary stretch).items (take len (samples ++ later)) ++ stretches_text bits (map summary more) s) (sym back)
    ∙ ap (stretches_text bits (map summary (stretch ∷ more))) (sym whole))))

-- the lines of a list are those of its stretches
pub heard-told : (bits : Bits) (items : List Heard) → heard_lines bits items ≡ stretches_text bits (stretches_of items) (flat_map (sound_bytes bits) items)
heard-told bits items =
    let parts = parts-of items in
    text-parts bits (stretches items) parts.ones
    ∙ (ap (λ (s : List Stretch). stretches_text bits s (flat_map (sound_bytes bits) (flat_map (λ (stretch : List Heard). stretch) (stretches items)))) (sym parts.told)
    ∙ ap (λ (list : List Heard). stretches_text bits (stretches_of items) (flat_map (sound_bytes bits) list)) parts.whole)

-- ---- a loop over stretches

drop_min : {X : Type 0} (n : ℕ) (xs : List X) → drop (min n (length xs)) xs ≡ drop n xs
drop_min n xs = elim (cases_lt n (length xs)) as (λ _. drop (min n (length xs)) xs ≡ drop n xs) [
  | inl lt ↦ ap (λ (m : ℕ). drop m xs) (let e : min n (length xs) ≡ n = omega (arith, lt) in e)
  | inr ge ↦ drop_all (min n (length xs)) xs (omega (arith, ge)) ∙ sym (drop_all n xs ge)
]

-- the first stretch that is left, and those after it
pub text-left : (bits : Bits) (list : List Stretch) (place : ℕ) (stretch d : Stretch) (rest : List ℕ) (len : ℕ) → place < length list → stretch ≡ get_or list place d
    → len ≡ min (samples_len bits stretch.kind stretch.items) (length rest)
    → stretches_text bits (drop place list) rest ≡ stretch_text bits stretch.kind stretch.items (take len rest) ++ stretches_text bits (drop (place + 1) list) (drop len rest)
text-left bits list place stretch d rest len within is cut =
    let n : ℕ = samples_len bits stretch.kind stretch.items in
    let front : take n rest ≡ take len rest = sym (ap (λ (m : ℕ). take m rest) cut ∙ take_min n rest) in
    let back : drop n rest ≡ drop len rest = sym (ap (λ (m : ℕ). drop m rest) cut ∙ drop_min n rest) in
    ap (λ (s : List Stretch). stretches_text bits s rest) (drop_more list place d within ∙ ap (λ (s : Stretch). s ∷ drop (place + 1) list) (sym is))
    ∙ (ap (λ (s : List ℕ). stretch_text bits stretch.kind stretch.items s ++ stretches_text bits (drop (place + 1) list) (drop n rest)) front
    ∙ ap (λ (s : List ℕ). stretch_text bits stretch.kind stretch.items (take len rest) ++ stretches_text bits (drop (place + 1) list) s) back)

pub text-none : (bits : Bits) (list : List Stretch) (place : ℕ) (rest : List ℕ) → length list ≤ place → stretches_text bits (drop place list) rest ≡ []
text-none bits list place rest past = ap (λ (s : List Stretch). stretches_text bits s rest) (drop_all place list past)
