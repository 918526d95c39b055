-- What a run takes of a supply, and how much of it is recorded.
use Rattle.std.proofs.Common.{◌≡◌, ◌≤◌, ◌+◌, ◌-◌, ◌*◌, ◌/◌, ◌%◌, ◌∙◌, ℕ, zero, suc, Bool, true, false, length, refl, ap, sym, subst, arith}
use Rattle.std.specs.Prelude.{min, if◌then◌else◌}
use Rattle.std.proofs.lemmas.List.{length-drop}
use Rattle.std.proofs.lemmas.Nat.{div-add-mod', mod-mul-add, mod_below}
use Rattle.std.proofs.Math.Nat.{mul-mod_left, mod-zero}
use Rattle.wav_reader.specs.Supplies.{Supplied, without}
use Rattle.period_writer.specs.declared.course.Course.{Course}
use Rattle.period_writer.specs.declared.course.Ran.TheVariants.{Drained, Playing, Late}
use Rattle.period_writer.specs.Courses.{IsCourse}
use Rattle.period_writer.specs.Accounts.{Accounts, unrecorded}
use Rattle.period_writer.specs.Runs.{Measures, RunFacts, Tally, facts_of, has_drained, is_late, is_late_since, run_room, run_sound, tally_if, tally_after}
use Rattle.period_writer.specs.Rings.{whole_blocks}
use Rattle.period_writer.proofs.RunRooms.{room_small}

-- ---- whole blocks

whole_is : (block n : ℕ) → whole_blocks block n % block ≡ 0
whole_is block n =
    let is = div-add-mod' n block in
    let whole : n - n % block ≡ n / block * block = omega (arith, is) in
    ap (λ (bytes : ℕ). bytes % block) whole ∙ mul-mod_left (n / block) block

-- where whole blocks are taken of whole blocks, whole blocks are left
rest_is : (block held count : ℕ) → held % block ≡ 0 → count % block ≡ 0 → count ≤ held → (held - count) % block ≡ 0
rest_is zero held count held_is count_is within =
    let all = sym (mod-zero held) ∙ held_is in
    mod-zero (held - count) ∙ omega (arith, all)
rest_is (suc k) held count held_is count_is within =
    let block = suc k in
    let rest = held - count in
    let some : 1 ≤ block = omega arith in
    let first = div-add-mod' held block in
    let second = div-add-mod' count block in
    let third = div-add-mod' rest block in
    let both : (rest / block + count / block) * block ≡ rest / block * block + count / block * block = omega arith in
    let sum : (rest / block + count / block) * block + rest % block ≡ held / block * block =
    omega (arith, first, second, third, both, held_is, count_is, within) in
    sym (mod-mul-add (rest / block + count / block) block (rest % block) (mod_below rest block some)) ∙ ap (λ (bytes : ℕ). bytes % block) sum ∙ mul-mod_left (held / block) block

-- where whole blocks are taken more
sum_is : (block taken count : ℕ) → taken % block ≡ 0 → count % block ≡ 0 → (taken + count) % block ≡ 0
sum_is block taken count taken_is count_is =
    let first = div-add-mod' taken block in
    let second = div-add-mod' count block in
    let both : (taken / block + count / block) * block ≡ taken / block * block + count / block * block = omega arith in
    let sum : taken + count ≡ (taken / block + count / block) * block = omega (arith, first, second, both, taken_is, count_is) in
    ap (λ (bytes : ℕ). bytes % block) sum ∙ mul-mod_left (taken / block + count / block) block

blocks_left : (block count : ℕ) (supply : Supplied) → count % block ≡ 0 → count ≤ length supply.held → length supply.held % block ≡ 0 → length (without count supply).held % block ≡ 0
blocks_left block count supply count_is within held_is =
    ap (λ (bytes : ℕ). bytes % block) (length-drop count supply.held) ∙ rest_is block (length supply.held) count held_is count_is within

-- ---- what is recorded

drained_or : (drained : Bool) (ring : ℕ) → unrecorded ring (if drained then Drained else Playing) ≡ 0
drained_or true ring = refl
drained_or false ring = refl

late_or : (since_first : Bool) (ring course_from from to limit slack : ℕ) → unrecorded ring (if since_first then Late course_from to limit else Late from to slack) ≡ ring
late_or true ring course_from from to limit slack = refl
late_or false ring course_from from to limit slack = refl

in_ring : (block budget room left ring : ℕ) → room ≤ ring → whole_blocks block (min budget (min room left)) ≤ ring
in_ring block budget room left ring fits = grind arith

used_by : (late : Bool) (m : Measures) (tally : Tally) (facts : RunFacts) (taken : ℕ) → run_sound m tally.course facts ≤ m.ring
    → (taken + run_sound m tally.course facts) + (tally.course.used + 0) ≤ taken + ((tally_if late m tally facts).course.used + unrecorded m.ring (tally_if late m tally facts).course.ran)
used_by true m tally facts taken fits =
    let all = late_or (is_late_since m tally.course facts) m.ring tally.course.from facts.from facts.to m.limit m.slack in omega (arith, fits, all)
used_by false m tally facts taken fits = let none = drained_or (has_drained m tally.course facts) m.ring in omega (arith, none)

grows_by : (late : Bool) (m : Measures) (tally : Tally) (facts : RunFacts) → tally.course.used ≤ (tally_if late m tally facts).course.used
grows_by true m tally facts = omega arith
grows_by false m tally facts = omega arith

-- a run that took so many bytes, after which the last one played on or before the first one
pub accounts_of : (m : Measures) (runs : ℕ) (before : Course) (tally tally' : Tally) (supply : Supplied) (budget left from lpib to count : ℕ) → 1 ≤ m.ring → IsCourse m.ring runs tally.course
    → before.ran ≡ Playing → before.used ≡ tally.course.used
    → tally' ≡ tally_after m tally (facts_of budget left from lpib to) → count ≡ run_sound m tally.course (facts_of budget left from lpib 0) → count ≤ length supply.held → length supply.held ≤ supply.left
    → Accounts m supply (without count supply) before tally'.course
accounts_of m runs before tally tally' supply budget left from lpib to count some is plays same recorded counts within rule =
    let facts = facts_of budget left from lpib to in
    let late = is_late m tally.course facts in
    let room = room_small m runs tally.course facts some is in
    let fits : run_sound m tally.course facts ≤ m.ring = in_ring m.block budget (run_room m tally.course facts) left m.ring room in
    let none : unrecorded m.ring before.ran ≡ 0 = ap (unrecorded m.ring) plays in
    let used = used_by late m tally facts supply.taken fits in
    let first : (supply.taken + count) + (before.used + unrecorded m.ring before.ran) ≤ supply.taken + ((tally_if late m tally facts).course.used + unrecorded m.ring (tally_if late m tally facts).course.ran) =
    omega (arith, used, none, same, counts) in
    let more = grows_by late m tally facts in
    let whole = ap (λ (bytes : ℕ). bytes % m.block) counts ∙ whole_is m.block (min budget (min (run_room m tally.course facts) left)) in
    record {
      blocks = blocks_left m.block count supply whole within;
      left_blocks = λ left_is. rest_is m.block supply.left count left_is whole (omega (arith, within, rule));
      taken_blocks = λ taken_is. sum_is m.block supply.taken count taken_is whole;
      used = subst (λ (tally' : Tally). (supply.taken + count) + (before.used + unrecorded m.ring before.ran) ≤ supply.taken + (tally'.course.used + unrecorded m.ring tally'.course.ran)) (sym recorded) first;
      grows = subst (λ (tally' : Tally). before.used ≤ tally'.course.used) (sym recorded) (omega (arith, more, same));
    }

-- where nothing is taken and no run is made
pub accounts_none : (m : Measures) (supply : Supplied) (course : Course) → Accounts m supply supply course course
accounts_none m supply course = record { blocks = λ whole. whole; left_blocks = λ whole. whole; taken_blocks = λ whole. whole; used = omega arith; grows = omega arith }

-- before the first run nothing was used
pub none_used : (ring runs : ℕ) (course : Course) → IsCourse ring runs course → course.started ≡ false → 0 ≡ course.used
none_used ring runs course is fresh =
    let used = is.used in
    let end = is.sound_end in
    let none = is.reach ∙ ap (λ (started : Bool). if started then course.at + ring else 0) fresh in
    omega (arith, used, end, none)
