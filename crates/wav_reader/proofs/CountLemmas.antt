-- Counts of samples, frames and bytes.
use Rattle.std.proofs.Common.{◌≡◌, ◌≤◌, ◌<◌, ℕ, suc, ◌+◌, ◌-◌, ◌*◌, ◌/◌, ◌%◌, sym, ap, ◌∙◌, arith}
use Rattle.std.proofs.Math.Nat.{div-div-eq-div-mul, mul-mod_left, mul-sub, mul_comm}
use Rattle.std.proofs.lemmas.Nat.{div-add-mod', div-mul-add, div_below, le-div, mod_below, mul-le}

-- a multiple, divided
pub mul-div : (count size : ℕ) → 1 ≤ size → count * size / size ≡ count
mul-div count size some =
    let none : count * size ≡ count * size + 0 = omega arith in
    ap (λ (n : ℕ). n / size) none ∙ div-mul-add count size 0 some

pub mul-less : (one other size : ℕ) → 1 ≤ size → one * size ≤ other * size → one ≤ other
mul-less one other size some less =
    let part = le-div one (other * size) size some less in
    let all = mul-div other size some in
    omega (arith, part, all)

pub mul-few : (one other size : ℕ) → one ≤ other → one * size ≤ other * size
mul-few one other size less = mul-le one size other size less (omega arith)

-- one more of them
pub one-more : (one other size : ℕ) → one < other → one * size + size ≤ other * size
one-more one other size less =
    let more = mul-few (suc one) other size (omega (arith, less)) in
    let sum : suc one * size ≡ one * size + size = omega arith in
    omega (arith, more, sum)

-- as many as are whole
pub whole-less : (bytes size : ℕ) → bytes / size * size ≤ bytes
whole-less bytes size = let all = div-add-mod' bytes size in omega (arith, all)

pub whole-next : (bytes size : ℕ) → 1 ≤ size → bytes < bytes / size * size + size
whole-next bytes size some =
    let all = div-add-mod' bytes size in
    let rest = mod_below bytes size some in
    omega (arith, all, rest)

pub whole-all : (bytes size : ℕ) → bytes % size ≡ 0 → bytes / size * size ≡ bytes
whole-all bytes size whole = let all = div-add-mod' bytes size in omega (arith, all, whole)

pub whole-ends : (from len size total : ℕ) → from + len ≤ total → from + len / size * size ≤ total
whole-ends from len size total inside = let less = whole-less len size in omega (arith, less, inside)

-- no more than fit
pub div-few : (bytes count size : ℕ) → 1 ≤ size → bytes ≤ count * size → bytes / size ≤ count
div-few bytes count size some few =
    let sum : suc count * size ≡ count * size + size = omega arith in
    let less = div_below bytes size (suc count) some (omega (arith, sum, few, some)) in
    omega (arith, less)

-- a place by the number of a whole before it
pub div-front : (number size place : ℕ) → place < size → (number * size + place) / size ≡ number
div-front number size place within = div-mul-add number size place within

pub div-add : (bytes count size : ℕ) → 1 ≤ size → bytes % size ≡ 0 → (bytes + count * size) / size ≡ bytes / size + count
div-add bytes count size some whole =
    let all = whole-all bytes size whole in
    let sum : bytes / size * size + count * size ≡ (bytes / size + count) * size = omega arith in
    ap (λ (n : ℕ). n / size) (ap (λ (n : ℕ). n + count * size) (sym all) ∙ sum) ∙ mul-div (bytes / size + count) size some

-- wholes of so many parts
pub div-div : (bytes each size : ℕ) → bytes / (each * size) ≡ bytes / size / each
div-div bytes each size =
    let turned : each * size ≡ size * each = omega arith in
    ap (λ (n : ℕ). bytes / n) turned ∙ sym (div-div-eq-div-mul bytes size each)

-- whole blocks have whole parts
pub part-whole : (bytes each size : ℕ) → bytes % (each * size) ≡ 0 → bytes ≡ bytes / (each * size) * each * size
part-whole bytes each size whole =
    let all = whole-all bytes (each * size) whole in
    let turned : bytes / (each * size) * (each * size) ≡ bytes / (each * size) * each * size = omega arith in
    sym all ∙ turned

pub part-mod : (bytes each size : ℕ) → bytes % (each * size) ≡ 0 → bytes % size ≡ 0
part-mod bytes each size whole =
    ap (λ (n : ℕ). n % size) (part-whole bytes each size whole) ∙ mul-mod_left (bytes / (each * size) * each) size

-- the sum of whole ones
pub sum-mod : (one other size : ℕ) → one % size ≡ 0 → other % size ≡ 0 → (one + other) % size ≡ 0
sum-mod one other size whole whole' =
    let first = whole-all one size whole in
    let second = whole-all other size whole' in
    let sum : one / size * size + other / size * size ≡ (one / size + other / size) * size = omega arith in
    ap (λ (n : ℕ). n % size) (ap (λ (n : ℕ). n + other) (sym first) ∙ ap (λ (n : ℕ). one / size * size + n) (sym second) ∙ sum)
    ∙ mul-mod_left (one / size + other / size) size

-- and the difference
pub rest-mod : (one other size : ℕ) → one % size ≡ 0 → other % size ≡ 0 → (one - other) % size ≡ 0
rest-mod one other size whole whole' =
    let first = whole-all one size whole in
    let second = whole-all other size whole' in
    let split = mul-sub size (one / size) (other / size) in
    let left : size * (one / size) ≡ one / size * size = omega arith in
    let right : size * (other / size) ≡ other / size * size = omega arith in
    let turned : size * (one / size - other / size) ≡ (one / size - other / size) * size = mul_comm size (one / size - other / size) in
    ap (λ (n : ℕ). n % size)
    (ap (λ (n : ℕ). n - other) (sym first) ∙ ap (λ (n : ℕ). one / size * size - n) (sym second)
    ∙ ap (λ (n : ℕ). n - other / size * size) (sym left) ∙ ap (λ (n : ℕ). size * (one / size) - n) (sym right) ∙ sym split ∙ turned)
    ∙ mul-mod_left (one / size - other / size) size

-- some of the wholes
pub some-inside : (count len size : ℕ) → count ≤ len / size → count * size ≤ len
some-inside count len size few =
    let some = mul-few count (len / size) size few in
    let all = whole-less len size in
    omega (arith, some, all)
