-- What is read keeps the ranges of the grammar, from numbers up to schedules.
use Rattle.std.proofs.Common.{ℕ, ◌+◌, ◌*◌, ◌≤◌, Bool, true, false, cond, leb, ltb, eqb, List, [], ◌∷◌, length, map, All, Option, Some, None, Ok, Err, inl, inr, sym, subst, lit≤}
use Rattle.std.specs.Prelude.{IfSome, IfOk, ◌&&◌}
use Rattle.std.specs.Str.Lines.{lines}
use Rattle.std.proofs.lemmas.Bool.Decides.{leb_tells}
use Rattle.std.proofs.lemmas.Option.{IfSome_then}
use Rattle.std.proofs.lemmas.List.Elements.{All-nil, All-cons}
use Rattle.schedule_reader.specs.declared.keywords.Keyword.{Keyword}
use Rattle.schedule_reader.specs.declared.keywords.Keyword.TheVariants.{Corb, Answer, Lose, Rirb, Fetch, Link, Plug, Unplug, Run, Irq, Repeat, End}
use Rattle.schedule_reader.specs.declared.heads.Head.{Head}
use Rattle.schedule_reader.specs.declared.heads.Head.TheVariants as head
use Rattle.schedule_reader.specs.declared.rows.Row.{Row}
use Rattle.schedule_reader.specs.declared.rows.Row.TheVariants as row
use Rattle.schedule_reader.specs.declared.fault.SchedFault.TheVariants.{TooManySteps, TooManyFrames}
use Rattle.schedule_reader.specs.declared.schedule.Schedule.{Schedule}
use Rattle.schedule_reader.specs.Cuts.{pieces, words, one, two}
use Rattle.schedule_reader.specs.Numbers.{◌>>=◌, within, decimal, number, hex_digit, nid_of}
use Rattle.schedule_reader.specs.Keywords.{keyword_of}
use Rattle.schedule_reader.specs.Readers.{codec, alone, only_codec, only_frames, codec_and_nid, stream_and_bytes, step_with}
use Rattle.schedule_reader.specs.Readers as readers
use Rattle.schedule_reader.specs.Readers.{only_budget, only_times, head_with}
use Rattle.schedule_reader.specs.Heads.{head_of, step_of}
use Rattle.schedule_reader.proofs.HeadLemmas.{head_of-reads, step_of-reads}
use Rattle.schedule_reader.specs.Rows.{bar, comma, all_of, step_in, is_dash, steps_in, group_in, row_with, row_of, is_skipped, row_on}
use Rattle.schedule_reader.specs.Parts.{items_ahead, parts_of, parts}
use Rattle.schedule_reader.specs.Counts.{steps_of, frames_of}
use Rattle.schedule_reader.specs.Ranges.{IsStepInRange, IsGroupInRange, IsItemInRange, IsPartInRange, IsInRange}
use Rattle.schedule_reader.specs.Schedules.{rows, most_steps, most_frames, limited}

-- one part after another
if_then : {A B : Type 0} (P : A → Type 0) (Q : B → Type 0) (part : Option A) (next : A → Option B) → IfSome part P → ((x : A) → P x → IfSome (next x) Q) → IfSome (part >>= next) Q
if_then P Q None next p q = tt
if_then P Q (Some x) next p q = q x p

-- a part of which nothing is known
any_then : {A B : Type 0} (Q : B → Type 0) (part : Option A) (next : A → Option B) → ((x : A) → IfSome (next x) Q) → IfSome (part >>= next) Q
any_then Q None next q = tt
any_then Q (Some x) next q = q x

abbrev IsBetween : ℕ → ℕ → ℕ → Type 0
IsBetween least most n = (least ≤ n) × (n ≤ most)

within-range : (least most n : ℕ) → IfSome (within least most n) (IsBetween least most)
within-range least most n = elim (leb_tells least n) [
  | inl low ↦ elim (leb_tells n most) [
    | inl high ↦ subst (λ b. IfSome (cond (b && leb n most) (Some n) None) (IsBetween least most)) (sym low.0) (subst (λ b. IfSome (cond b (Some n) None) (IsBetween least most)) (sym high.0) (low.1, high.1))
    | inr high ↦ subst (λ b. IfSome (cond (b && leb n most) (Some n) None) (IsBetween least most)) (sym low.0) (subst (λ b. IfSome (cond b (Some n) None) (IsBetween least most)) (sym high.0) tt)
  ]
  | inr low ↦ subst (λ b. IfSome (cond (b && leb n most) (Some n) None) (IsBetween least most)) (sym low.0) tt
]

number-range : (least most : ℕ) (word : List ℕ) → IfSome (number least most word) (IsBetween least most)
number-range least most word = any_then (IsBetween least most) (decimal word) (within least most) (λ n. within-range least most n)

nid-range : (word : List ℕ) → IfSome (nid_of word) (IsBetween 1 127)
unfolding nid_of
nid-range [] = tt
nid-range (high ∷ []) = tt
nid-range (high ∷ low ∷ []) = any_then (IsBetween 1 127) (hex_digit high) _ (λ h. any_then (IsBetween 1 127) (hex_digit low) _ (λ l. within-range 1 127 (16 * h + l)))
nid-range (high ∷ low ∷ other ∷ word) = tt

alone-range : {A : Type 0} (P : A → Type 0) (x : A) (operands : List (List ℕ)) → P x → IfSome (alone x operands) P
alone-range P x operands p = by_test (eqb (length operands) 0)
  where
    by_test : (b : Bool) → IfSome (cond b (Some x) None) P
    by_test true = p
    by_test false = tt

codec-range : (word : List ℕ) → IfSome (codec word) (λ c. c ≤ 14)
codec-range word = IfSome_then (codec word) {P = IsBetween 0 14} {Q = λ c. c ≤ 14} (number-range 0 14 word) (λ c h. h.1)

only_codec-range : (operands : List (List ℕ)) → IfSome (only_codec operands) (λ c. c ≤ 14)
only_codec-range operands = any_then (λ c. c ≤ 14) (one operands) codec (λ word. codec-range word)

only_frames-range : (operands : List (List ℕ)) → IfSome (only_frames operands) (IsBetween 1 1000000)
only_frames-range operands = any_then (IsBetween 1 1000000) (one operands) (number 1 1000000) (λ word. number-range 1 1000000 word)

only_times-range : (operands : List (List ℕ)) → IfSome (only_times operands) (IsBetween 1 1000000)
only_times-range operands = any_then (IsBetween 1 1000000) (one operands) (number 1 1000000) (λ word. number-range 1 1000000 word)

abbrev IsPin : ℕ × ℕ → Type 0
IsPin both = (both.0 ≤ 14) × (1 ≤ both.1) × (both.1 ≤ 127)

codec_and_nid-range : (operands : List (List ℕ)) → IfSome (codec_and_nid operands) IsPin
codec_and_nid-range operands =
    any_then IsPin (two operands) _ (λ both.
    if_then (λ c. c ≤ 14) IsPin (codec both.0) _ (codec-range both.0) (λ c at_most.
    if_then (IsBetween 1 127) IsPin (nid_of both.1) _ (nid-range both.1) (λ n between. (at_most, between.0, between.1))))

abbrev IsFetch : ℕ × ℕ → Type 0
IsFetch both = (both.0 ≤ 1) × (1 ≤ both.1) × (both.1 ≤ 65535)

stream_and_bytes-range : (operands : List (List ℕ)) → IfSome (stream_and_bytes operands) IsFetch
stream_and_bytes-range operands =
    any_then IsFetch (two operands) _ (λ both.
    if_then (IsBetween 0 1) IsFetch (number 0 1 both.0) _ (number-range 0 1 both.0) (λ s stream.
    if_then (IsBetween 1 65535) IsFetch (number 1 65535 both.1) _ (number-range 1 65535 both.1) (λ n between. (stream.1, between.0, between.1))))

step_with-range : (first : Keyword) (operands : List (List ℕ)) → IfSome (step_with first operands) IsStepInRange
step_with-range Corb operands = alone-range IsStepInRange _ operands tt
step_with-range Rirb operands = alone-range IsStepInRange _ operands tt
step_with-range Answer operands = if_then (λ c. c ≤ 14) IsStepInRange (only_codec operands) _ (only_codec-range operands) (λ c h. h)
step_with-range Lose operands = if_then (λ c. c ≤ 14) IsStepInRange (only_codec operands) _ (only_codec-range operands) (λ c h. h)
step_with-range Fetch operands = if_then IsFetch IsStepInRange (stream_and_bytes operands) _ (stream_and_bytes-range operands) (λ both h. h)
step_with-range Link operands = if_then (IsBetween 1 1000000) IsStepInRange (only_frames operands) _ (only_frames-range operands) (λ n h. h)
step_with-range Plug operands = if_then IsPin IsStepInRange (codec_and_nid operands) _ (codec_and_nid-range operands) (λ both h. h)
step_with-range Unplug operands = if_then IsPin IsStepInRange (codec_and_nid operands) _ (codec_and_nid-range operands) (λ both h. h)
step_with-range Run operands = tt
step_with-range Irq operands = tt
step_with-range Repeat operands = tt
step_with-range End operands = tt

read_step-range : (texts : List (List ℕ)) → IfSome (readers.step_of texts) IsStepInRange
unfolding readers.step_of
read_step-range [] = tt
read_step-range (word ∷ operands) = any_then IsStepInRange (keyword_of word) _ (λ first. step_with-range first operands)

step_of-range : (texts : List (List ℕ)) → IfSome (step_of texts) IsStepInRange
step_of-range texts = subst (λ found. IfSome found IsStepInRange) (sym (step_of-reads texts)) (read_step-range texts)

all_of-range : {A : Type 0} (P : A → Type 0) (read : List ℕ → Option A) → ((text : List ℕ) → IfSome (read text) P) → (texts : List (List ℕ)) → IfSome (all_of read texts) (All P)
all_of-range P read h [] = All-nil P
all_of-range P read h (text ∷ texts) =
    if_then P (All P) (read text) _ (h text) (λ x p.
    if_then (All P) (All P) (all_of read texts) _ (all_of-range P read h texts) (λ xs ps. All-cons P x xs p ps))

steps_in-range : (text : List ℕ) → IfSome (steps_in text) (All IsStepInRange)
unfolding steps_in
steps_in-range text = by_test (is_dash text)
  where
    by_test : (b : Bool) → IfSome (cond b (Some []) (all_of step_in (pieces comma text))) (All IsStepInRange)
    by_test true = All-nil IsStepInRange
    by_test false = all_of-range IsStepInRange step_in (λ piece. step_of-range (words piece)) (pieces comma text)

group_in-range : (text : List ℕ) → IfSome (group_in text) IsGroupInRange
unfolding group_in
group_in-range text = if_then (All IsStepInRange) IsGroupInRange (steps_in text) _ (steps_in-range text) (λ steps h. h)

-- what stands before the first bar
abbrev IsHeadInRange : Head → Type 0
IsHeadInRange (head.Device step) = IsStepInRange step
IsHeadInRange (head.Drive irq budget) = Unit {0}
IsHeadInRange (head.Repeat times) = IsBetween 1 1000000 times
IsHeadInRange head.End = Unit {0}

device-range : (first : Keyword) (operands : List (List ℕ)) → IfSome (step_with first operands >>= λ step. Some (head.Device step)) IsHeadInRange
device-range first operands = if_then IsStepInRange IsHeadInRange (step_with first operands) _ (step_with-range first operands) (λ step h. h)

head_with-range : (first : Keyword) (operands : List (List ℕ)) → IfSome (head_with first operands) IsHeadInRange
head_with-range Run operands = any_then IsHeadInRange (only_budget operands) _ (λ budget. tt)
head_with-range Irq operands = any_then IsHeadInRange (only_budget operands) _ (λ budget. tt)
head_with-range Repeat operands = if_then (IsBetween 1 1000000) IsHeadInRange (only_times operands) _ (only_times-range operands) (λ times h. h)
head_with-range End operands = alone-range IsHeadInRange head.End operands tt
head_with-range Corb operands = device-range Corb operands
head_with-range Answer operands = device-range Answer operands
head_with-range Lose operands = device-range Lose operands
head_with-range Rirb operands = device-range Rirb operands
head_with-range Fetch operands = device-range Fetch operands
head_with-range Link operands = device-range Link operands
head_with-range Plug operands = device-range Plug operands
head_with-range Unplug operands = device-range Unplug operands

read_head-range : (texts : List (List ℕ)) → IfSome (readers.head_of texts) IsHeadInRange
unfolding readers.head_of
read_head-range [] = tt
read_head-range (word ∷ operands) = any_then IsHeadInRange (keyword_of word) _ (λ first. head_with-range first operands)

head_of-range : (texts : List (List ℕ)) → IfSome (head_of texts) IsHeadInRange
head_of-range texts = subst (λ found. IfSome found IsHeadInRange) (sym (head_of-reads texts)) (read_head-range texts)

-- what a line says
abbrev IsRowInRange : Row → Type 0
IsRowInRange row.Skipped = Unit {0}
IsRowInRange (row.Item item) = IsItemInRange item
IsRowInRange (row.Repeat times) = IsBetween 1 1000000 times
IsRowInRange row.End = Unit {0}

row_with-range : (first : Head) (texts : List (List ℕ)) → IsHeadInRange first → IfSome (row_with first texts) IsRowInRange
row_with-range (head.Drive irq budget) texts h = if_then (All IsGroupInRange) IsRowInRange (all_of group_in texts) _ (all_of-range IsGroupInRange group_in group_in-range texts) (λ groups h. h)
row_with-range (head.Device step) [] h = h
row_with-range (head.Device step) (text ∷ texts) h = tt
row_with-range (head.Repeat times) [] h = h
row_with-range (head.Repeat times) (text ∷ texts) h = tt
row_with-range head.End [] h = tt
row_with-range head.End (text ∷ texts) h = tt

row_of-range : (texts : List (List ℕ)) → IfSome (row_of texts) IsRowInRange
row_of-range [] = tt
row_of-range (text ∷ texts) = if_then IsHeadInRange IsRowInRange (head_of (words text)) _ (head_of-range (words text)) (λ first h. row_with-range first texts h)

row_on-range : (line : List ℕ) → IfSome (row_on line) IsRowInRange
unfolding row_on
row_on-range line = by_test (is_skipped line)
  where
    by_test : (b : Bool) → IfSome (cond b (Some row.Skipped) (row_of (pieces bar line))) IsRowInRange
    by_test true = tt
    by_test false = row_of-range (pieces bar line)

items_ahead-next : (here : Option Row) (later : List (Option Row)) → IfSome here IsRowInRange → All IsItemInRange (items_ahead later) → All IsItemInRange (items_ahead (here ∷ later))
items_ahead-next None later h all = all
items_ahead-next (Some row.Skipped) later h all = all
items_ahead-next (Some (row.Item item)) later h all = All-cons IsItemInRange item (items_ahead later) h all
items_ahead-next (Some (row.Repeat times)) later h all = All-nil IsItemInRange
items_ahead-next (Some row.End) later h all = All-nil IsItemInRange

items_ahead-range : (texts : List (List ℕ)) → All IsItemInRange (items_ahead (map row_on texts))
items_ahead-range [] = All-nil IsItemInRange
items_ahead-range (line ∷ texts) = items_ahead-next (row_on line) (map row_on texts) (row_on-range line) (items_ahead-range texts)

parts_of-next : (begun : Bool) (here : Option Row) (later : List (Option Row)) → IfSome here IsRowInRange → All IsItemInRange (items_ahead later) → ((b : Bool) → All IsPartInRange (parts_of b later)) → All IsPartInRange (parts_of begun (here ∷ later))
parts_of-next begun None later h items all = all begun
parts_of-next begun (Some row.Skipped) later h items all = all begun
parts_of-next false (Some (row.Item item)) later h items all =
    All-cons IsPartInRange _ (parts_of true later) (record { once = lit≤ tt; most = lit≤ tt; items = All-cons IsItemInRange item (items_ahead later) h items }) (all true)
parts_of-next true (Some (row.Item item)) later h items all = all true
parts_of-next begun (Some (row.Repeat times)) later h items all =
    All-cons IsPartInRange _ (parts_of true later) (record { once = h.0; most = h.1; items = items }) (all true)
parts_of-next begun (Some row.End) later h items all = all false

parts_of-range : (begun : Bool) (texts : List (List ℕ)) → All IsPartInRange (parts_of begun (map row_on texts))
parts_of-range begun [] = All-nil IsPartInRange
parts_of-range begun (line ∷ texts) =
    parts_of-next begun (row_on line) (map row_on texts) (row_on-range line) (items_ahead-range texts) (λ b. parts_of-range b texts)

pub parts-range : (bytes : List ℕ) → IsInRange (record { parts = parts (rows bytes) })
parts-range bytes = parts_of-range false (lines bytes)

pub limited-range : (schedule : Schedule) → IsInRange schedule → IfOk (limited schedule) IsInRange
unfolding limited
limited-range schedule h = by_test (ltb most_steps (steps_of schedule)) (ltb most_frames (frames_of schedule))
  where
    by_test : (b c : Bool) → IfOk (cond b (Err TooManySteps) (cond c (Err TooManyFrames) (Ok schedule))) IsInRange
    by_test true c = tt
    by_test false true = tt
    by_test false false = h
