-- The codecs that are walked are those on the link.
use Rattle.std.proofs.Common.{◌≡◌, ◌≢◌, ◌≤◌, ◌<◌, ◌+◌, ◌==◌, ℕ, zero, suc, Bool, true, false, List, [], ◌∷◌, ◌++◌, map, length, if◌then◌else◌, refl, sym, ap, subst, ◌∙◌, arith, rules, tests, append_assoc, append-nil}
use Rattle.std.specs.Prelude.{All, Contains, take}
use Rattle.std.specs.Int.{bit_at}
use Rattle.std.proofs.lemmas.List.{take_all}
use Rattle.std.proofs.lemmas.List.Elements.{All-nil, All-cons, All-head, All-tail, All-append, All-weaker, All-contains}
use Rattle.verb_codes.specs.Words.{has_bit}
use Rattle.codec_graph.specs.declared.raw.RawCodec.{RawCodec}
use Rattle.command_engine.specs.Fetchings.{AscendFrom}
use Rattle.driver_progress.specs.Announcing.{AreCodecs}
use Rattle.driver_bring_up.specs.Addresses.{addresses_below, addresses_in, most_codecs}

-- ascending, from this number up to 14
abbrev pub IsAbove : ℕ → List ℕ → Type 0
IsAbove from [] = Unit {0}
IsAbove from (address ∷ addresses) = (from ≤ address) × (address ≤ 14) × IsAbove (address + 1) addresses

pub above : (from : ℕ) (graphs : List RawCodec) → AscendFrom from graphs → IsAbove from (map (λ (graph : RawCodec). graph.address) graphs)
above from [] ascend = tt {0}
above from (graph ∷ graphs) ascend = (ascend.0, ascend.1, above (graph.address + 1) graphs ascend.2)

above_all : (low from : ℕ) (addresses : List ℕ) → low ≤ from → IsAbove from addresses → All (λ (address : ℕ). low ≤ address) addresses
above_all low from [] less is = All-nil (λ (address : ℕ). low ≤ address)
above_all low from (address ∷ addresses) less is =
    let first = is.0 in
    All-cons (λ (address : ℕ). low ≤ address) address addresses (omega (arith, less, first)) (above_all low (address + 1) addresses (omega (arith, less, first)) is.2)

-- ---- one address more

set_there : (bits address : ℕ) → bit_at bits address ≡ 1 → has_bit bits address ≡ true
set_there bits address is = ap (λ (bit : ℕ). bit == 1) is

one_of : (n : ℕ) → (n == 1) ≡ true → n ≡ 1
one_of n is = search (rules, tests)

not_there : (bits n : ℕ) (addresses : List ℕ) (has : Bool) → has_bit bits n ≡ has → ((bit_at bits n ≡ 1) → Contains addresses n) → All (λ (address : ℕ). address ≢ n) addresses → has ≡ false
not_there bits n addresses false is only others = refl
not_there bits n addresses true is only others = absurd (All-contains (λ (address : ℕ). address ≢ n) addresses n others (only (one_of (bit_at bits n) is)) refl)

-- those below a number, and the rest of them
record Split (bits n : ℕ) (addresses : List ℕ) : Type 0 where
  front : List ℕ
  back : List ℕ
  both : addresses ≡ front ++ back
  below : addresses_below bits n ≡ front
  low : All (λ (address : ℕ). address < n) front
  high : IsAbove n back

low_others : (n : ℕ) (front : List ℕ) → All (λ (address : ℕ). address < n) front → All (λ (address : ℕ). address ≢ n) front
low_others n front low = All-weaker (λ (address : ℕ). address < n) (λ (address : ℕ). address ≢ n) (λ address less same. let bad : address < address = subst (λ (n : ℕ). address < n) (sym same) less in omega (arith, bad)) front low

high_others : (n : ℕ) (back : List ℕ) → All (λ (address : ℕ). n + 1 ≤ address) back → All (λ (address : ℕ). address ≢ n) back
high_others n back high = All-weaker (λ (address : ℕ). n + 1 ≤ address) (λ (address : ℕ). address ≢ n) (λ address less same. let bad : address + 1 ≤ address = subst (λ (n : ℕ). n + 1 ≤ address) (sym same) less in omega (arith, bad)) back high

lower : (n : ℕ) (front : List ℕ) → All (λ (address : ℕ). address < n) front → All (λ (address : ℕ). address < suc n) front
lower n front low = All-weaker (λ (address : ℕ). address < n) (λ (address : ℕ). address < suc n) (λ address less. omega (arith, less)) front low

one_more : (n : ℕ) → n + 1 ≡ suc n
one_more n = omega arith

-- without the next one
skip : (bits n : ℕ) (addresses : List ℕ) (split : Split bits n addresses) → (bit_at bits n ≡ 1 → Contains addresses n) → IsAbove (n + 1) split.back → Split bits (suc n) addresses
skip bits n addresses split only high =
    let others = All-append (λ (address : ℕ). address ≢ n) split.front split.back (low_others n split.front split.low) (high_others n split.back (above_all (n + 1) (n + 1) split.back (omega arith) high)) in
    let none = not_there bits n addresses (has_bit bits n) refl only (subst (All (λ (address : ℕ). address ≢ n)) (sym split.both) others) in record {
      front = split.front;
      back = split.back;
      both = split.both;
      below = ap (λ (has : Bool). addresses_below bits n ++ (if has then n ∷ [] else [])) none ∙ append-nil (addresses_below bits n) ∙ split.below;
      low = lower n split.front split.low;
      high = subst (λ (n : ℕ). IsAbove n split.back) (one_more n) high;
    }

-- with it
with_next : (bits n : ℕ) (addresses front back : List ℕ) → addresses ≡ front ++ n ∷ back → addresses_below bits n ≡ front → All (λ (address : ℕ). address < n) front → IsAbove (n + 1) back → bit_at bits n ≡ 1 → Split bits (suc n) addresses
with_next bits n addresses front back both below low high is = record {
  front = front ++ n ∷ [];
  back = back;
  both = both ∙ sym (append_assoc front (n ∷ []) back);
  below = ap (λ (has : Bool). addresses_below bits n ++ (if has then n ∷ [] else [])) (set_there bits n is) ∙ ap (λ (front : List ℕ). front ++ n ∷ []) below;
  low = All-append (λ (address : ℕ). address < suc n) front (n ∷ []) (lower n front low) (All-cons (λ (address : ℕ). address < suc n) n [] (omega arith) (All-nil (λ (address : ℕ). address < suc n)));
  high = subst (λ (n : ℕ). IsAbove n back) (one_more n) high;
}

step : (bits n : ℕ) (addresses front back : List ℕ) → addresses ≡ front ++ back → addresses_below bits n ≡ front → All (λ (address : ℕ). address < n) front → IsAbove n back → n < 15
    → All (λ (address : ℕ). bit_at bits address ≡ 1) addresses → (bit_at bits n ≡ 1 → Contains addresses n) → Split bits (suc n) addresses
step bits n addresses front [] both below low high less set only = skip bits n addresses (record { front = front; back = []; both = both; below = below; low = low; high = tt {0} }) only (tt {0})
step bits n addresses front (address ∷ back) both below low high less set only = by (address == n) refl
  where
    same : (address == n) ≡ true → address ≡ n
    same is = search (rules, tests)

    differs : (address == n) ≡ false → address ≢ n
    differs is = search (rules, tests)

    set_here : bit_at bits address ≡ 1
    set_here = All-head (λ (address : ℕ). bit_at bits address ≡ 1) address back (all_back front (subst (All (λ (address : ℕ). bit_at bits address ≡ 1)) both set))
      where
        all_back : (front : List ℕ) → All (λ (address : ℕ). bit_at bits address ≡ 1) (front ++ address ∷ back) → All (λ (address : ℕ). bit_at bits address ≡ 1) (address ∷ back)
        all_back [] all = all
        all_back (first ∷ front) all = all_back front (All-tail (λ (address : ℕ). bit_at bits address ≡ 1) first (front ++ address ∷ back) all)

    by : (is : Bool) → (address == n) ≡ is → Split bits (suc n) addresses
    by true is =
        let at = same is in
        with_next bits n addresses front back (both ∙ ap (λ (address : ℕ). front ++ address ∷ back) at) below low (subst (λ (address : ℕ). IsAbove (address + 1) back) at high.2) (subst (λ (address : ℕ). bit_at bits address ≡ 1) at set_here)
    by false is =
        let other = differs is in
        let low_one = high.0 in
        skip bits n addresses (record { front = front; back = address ∷ back; both = both; below = below; low = low; high = high }) only (above_it low_one other, high.1, high.2)
      where
        above_it : n ≤ address → address ≢ n → n + 1 ≤ address
        above_it low_one other = search (rules, tests)

-- ---- all of them

steps : (n : ℕ) (bits : ℕ) (addresses : List ℕ) → n ≤ 15 → IsAbove 0 addresses → All (λ (address : ℕ). bit_at bits address ≡ 1) addresses → ((bit : ℕ) → bit < 15 → bit_at bits bit ≡ 1 → Contains addresses bit) → Split bits n addresses
steps zero bits addresses less high set only = record { front = []; back = addresses; both = refl; below = refl; low = All-nil (λ (address : ℕ). address < 0); high = high }
steps (suc n) bits addresses less high set only =
    let before = steps n bits addresses (omega (arith, less)) high set only in
    step bits n addresses before.front before.back before.both before.below before.low before.high (omega (arith, less)) set (only n (omega (arith, less)))

none_above : (back : List ℕ) → IsAbove 15 back → back ≡ []
none_above [] high = refl
none_above (address ∷ back) high = let low = high.0 in let few = high.1 in absurd (omega (arith, low, few))

pub codecs_found : (bits : ℕ) (addresses : List ℕ) → IsAbove 0 addresses → length addresses ≤ most_codecs → AreCodecs bits addresses → addresses_in bits ≡ addresses
codecs_found bits addresses high few are =
    let all = steps 15 bits addresses (omega arith) high are.set are.only in
    let below : addresses_below bits 15 ≡ addresses = all.below ∙ sym (all.both ∙ ap (λ (back : List ℕ). all.front ++ back) (none_above all.back all.high) ∙ append-nil all.front) in
    ap (λ (addresses : List ℕ). take most_codecs addresses) below ∙ take_all most_codecs addresses few
