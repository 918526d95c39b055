-- How many driver lines some items have.
use Rattle.std.proofs.Common.{◌≡◌, ℕ, zero, suc, ◌+◌, ◌*◌, ◌<◌, ◌≤◌, true, false, List, [], ◌∷◌, ◌++◌, length, take, get_or, refl, sym, ap, ◌∙◌, append-nil, length-append, arith}
use Rattle.std.specs.Prelude.{replicate, sum_by}
use Rattle.std.specs.List.{flat_map}
use Rattle.std.proofs.lemmas.List.{replicate_more, take_more}
use Rattle.std.proofs.lemmas.List.Concat.{flat_map-append}
use Rattle.std.proofs.lemmas.List.Sums.{sum_by-cons, sum_by_more_le, sum_by-le-sum_by}
use Rattle.schedule_reader.specs.declared.schedule.Schedule.{Schedule}
use Rattle.schedule_reader.specs.declared.schedule.Item.{Item}
use Rattle.schedule_reader.specs.declared.schedule.Item.TheVariants.{Device, Drive}
use Rattle.schedule_reader.specs.declared.schedule.Part.{Part}
use Rattle.schedule_reader.specs.Counts.{items_in, items_of, item_steps, steps_of}
use Rattle.schedule_reader.specs.Schedules.{IsLimited}
use Rattle.program_runs.specs.Lines.{is_line, lines_in, lines_of}
use Rattle.program_runs.proofs.Goes.{lines_both}

pub count_both : (first second : List Item) → length (lines_in (first ++ second)) ≡ length (lines_in first) + length (lines_in second)
count_both first second = ap length (lines_both first second) ∙ length-append (lines_in first) (lines_in second)

-- ---- item by item

abbrev pub one_line : Item → ℕ
one_line item = length (lines_in (item ∷ []))

pub item_counts : (items : List Item) → length (lines_in items) ≡ sum_by one_line items
item_counts [] = refl
item_counts (item ∷ items) =
    count_both (item ∷ []) items ∙ ap (λ (n : ℕ). one_line item + n) (item_counts items) ∙ sym (sum_by-cons one_line item items)

-- one item more
pub count_more : (items : List Item) (i : ℕ) (other : Item) → i < length items → length (lines_in (take (i + 1) items)) ≡ length (lines_in (take i items)) + one_line (get_or items i other)
count_more items i other less =
    ap (λ (front : List Item). length (lines_in front)) (take_more items i other less) ∙ count_both (take i items) (get_or items i other ∷ [])

pub count_within : (items : List Item) (i : ℕ) (other : Item) → i < length items → length (lines_in (take i items)) + one_line (get_or items i other) ≤ length (lines_in items)
count_within items i other less =
    let front = item_counts (take i items) in
    let all = item_counts items in
    let within = sum_by_more_le one_line items i other less in
    omega (arith, front, all, within)

pub one_if : (item : Item) → is_line item ≡ true → one_line item ≡ 1
one_if (Device step) is = cc
one_if (Drive line) is = refl

pub none_if : (item : Item) → is_line item ≡ false → one_line item ≡ 0
none_if (Device step) is = refl
none_if (Drive line) is = cc

-- ---- the same items so often

abbrev pub items_times : List Item → ℕ → List Item
items_times items times = flat_map (λ (each : List Item). each) (replicate times items)

pub items_more : (items : List Item) (times : ℕ) → items_times items (times + 1) ≡ items_times items times ++ items
items_more items times =
    ap (flat_map (λ (each : List Item). each)) (sym (replicate_more times items))
    ∙ flat_map-append (λ (each : List Item). each) (replicate times items) (items ∷ [])
    ∙ ap (λ (back : List Item). items_times items times ++ back) (append-nil items)

pub count_times : (items : List Item) (times : ℕ) → length (lines_in (items_times items times)) ≡ times * length (lines_in items)
count_times items zero = omega arith
count_times items (suc times) = count_both items (items_times items times) ∙ ap (λ (n : ℕ). length (lines_in items) + n) (count_times items times) ∙ omega arith

-- once more is no more than all
pub times_within : (count done times most : ℕ) → done < times → times * count ≤ most → done * count + count ≤ most
times_within count done zero most less within = absurd (omega (arith, less))
times_within count done (suc times) most less within = (let once = by done times less in omega (arith, once, within))
  where
    by : (done times : ℕ) → done < suc times → done * count + count ≤ suc times * count
    by zero times less = omega arith
    by (suc done) (suc times) less = (let rest = by done times (omega (arith, less)) in omega (arith, rest))
    by (suc done) zero less = absurd (omega (arith, less))

-- ---- part by part

abbrev pub part_lines : Part → ℕ
part_lines part = length (lines_in (items_in part))

pub part_counts : (parts : List Part) → length (lines_in (flat_map items_in parts)) ≡ sum_by part_lines parts
part_counts [] = refl
part_counts (part ∷ parts) =
    count_both (items_in part) (flat_map items_in parts) ∙ ap (λ (n : ℕ). part_lines part + n) (part_counts parts) ∙ sym (sum_by-cons part_lines part parts)

pub part_is : (part : Part) → part_lines part ≡ part.times * length (lines_in part.items)
part_is part = count_times part.items part.times

-- ---- and of a schedule no more than it has steps

line_steps : (item : Item) → one_line item ≤ item_steps item
line_steps (Device step) = omega arith
line_steps (Drive line) = omega arith

pub few_lines : (schedule : Schedule) → length (lines_of schedule) ≤ steps_of schedule
unfolding steps_of
few_lines schedule =
    let all = item_counts (items_of schedule) in
    let within = sum_by-le-sum_by one_line item_steps (items_of schedule) line_steps in
    omega (arith, all, within)

-- the lines of the first parts and of one more are few
pub few_before : (schedule : Schedule) (i : ℕ) (other : Part) → IsLimited schedule → i < length schedule.parts → sum_by part_lines (take i schedule.parts) + part_lines (get_or schedule.parts i other) ≤ 1000000
few_before schedule i other limited less =
    let all = part_counts schedule.parts in
    let few = few_lines schedule in
    let within = sum_by_more_le part_lines schedule.parts i other less in
    omega (arith, all, few, within, limited.steps)
