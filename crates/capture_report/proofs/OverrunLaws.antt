-- Overruns are the maximal stretches of dropped blocks.
use Rattle.std.proofs.Common.{◌≡◌, ℕ, zero, suc, ◌+◌, ◌-◌, ◌<◌, ◌≤◌, ◌==◌, Bool, true, false, if◌then◌else◌, List, [], ◌∷◌, refl, sym, ap, subst, ◌∙◌, arith}
use Rattle.std.specs.Prelude.{◌≢◌, All, AllPairs, Contains}
use Rattle.std.proofs.lemmas.Bool.{cases_eq, cases_lt, true≢false}
use Rattle.std.proofs.lemmas.Bool.Decides.{nat_tests}
use Rattle.std.proofs.lemmas.List.Elements.{All-cons, Contains-append_right}
use Rattle.std.proofs.lemmas.List.Kept.{AllPairs-cons}
use mathlib.Core.Logic.{⊎_elim}
use Rattle.capture_report.specs.declared.overruns.Overrun.{Overrun}
use Rattle.capture_report.specs.Overruns.{is_dropped, IsOverrun, LiesBefore, joined, overruns_from, overruns_of}

-- ---- overruns from a number on

-- the first overrun of dropped blocks from a number on
pub record IsNext (dropped : ℕ → Bool) (from : ℕ) (overrun : Overrun) : Type 0 where
  pub later : from ≤ overrun.first
  pub gap : (number : ℕ) → from ≤ number → number < overrun.first → dropped number ≡ false
  pub some : 0 < overrun.count
  pub inside : (number : ℕ) → overrun.first ≤ number → number < overrun.first + overrun.count → dropped number ≡ true
  pub behind : dropped (overrun.first + overrun.count) ≡ false

-- all of them
abbrev pub AreFrom : (ℕ → Bool) → ℕ → List Overrun → Type 0
AreFrom dropped from [] = (number : ℕ) → from ≤ number → dropped number ≡ false
AreFrom dropped from (overrun ∷ more) = IsNext dropped from overrun × AreFrom dropped (overrun.first + overrun.count + 1) more

both : {b : Bool} → b ≡ true → b ≡ false → ⊥
both did didnt = true≢false (sym did ∙ didnt)

module _ (dropped : ℕ → Bool) where
  abbrev No : ℕ → Type 0
  No number = dropped number ≡ false

  abbrev Yes : ℕ → Type 0
  Yes number = dropped number ≡ true

  from_here : (from number : ℕ) → No from → from ≤ number → (from + 1 ≤ number → No number) → No number
  from_here from number didnt within on =
      ⊎_elim (λ e. subst No e didnt) (λ other. on (omega (arith, within, other))) (cases_eq from number)

  -- one block earlier, which was taken
  widen : (from : ℕ) (overruns : List Overrun) → No from → AreFrom dropped (from + 1) overruns → AreFrom dropped from overruns
  widen from [] didnt all = λ number within. from_here from number didnt within (λ more. all number more)
  widen from (overrun ∷ more) didnt all =
      let next = all.0 in (
        record {
          later = (let l = next.later in omega (arith, l));
          gap = λ number within below. from_here from number didnt within (λ on. next.gap number on below);
          some = next.some;
          inside = next.inside;
          behind = next.behind;
        },
        all.1,
      )

  -- one block later
  narrow : (from : ℕ) (overruns : List Overrun) → No from → AreFrom dropped from overruns → AreFrom dropped (from + 1) overruns
  narrow from [] didnt all = λ number within. all number (omega (arith, within))
  narrow from (overrun ∷ more) didnt all =
      let next = all.0 in (
        record {
          later =
              ⊎_elim (λ less. omega (arith, less))
              (λ past. absurd (both (next.inside from past (let l = next.later in let s = next.some in omega (arith, l, s))) didnt))
              (cases_lt from overrun.first);
          gap = λ number within below. next.gap number (omega (arith, within)) below;
          some = next.some;
          inside = next.inside;
          behind = next.behind;
        },
        all.1,
      )

  only : (number k : ℕ) → Yes number → number ≤ k → k < number + 1 → Yes k
  only number k did low high = subst Yes (let e : number ≡ k = omega (arith, low, high) in e) did

  -- a block that was dropped, before them
  join_if : (here : Bool) (number : ℕ) (next : Overrun) (more : List Overrun) → (next.first == number + 1) ≡ here → Yes number → AreFrom dropped (number + 1) (next ∷ more)
      → AreFrom dropped number (if here then record { first = number; count = 1 + next.count } ∷ more else record { first = number; count = 1 } ∷ next ∷ more)
  join_if true number next more test did all =
      let same : next.first ≡ number + 1 = grind (arith, nat_tests, test) in
      let end : next.first + next.count ≡ number + (1 + next.count) = omega (arith, same) in (
        record {
          later = omega arith;
          gap = λ k within below. absurd (omega (arith, within, below));
          some = omega arith;
          inside = λ k within below.
              ⊎_elim (λ e. subst Yes e did) (λ other. all.0.inside k (omega (arith, same, within, other)) (omega (arith, end, below))) (cases_eq number k);
          behind = subst No end all.0.behind;
        },
        subst (λ (k : ℕ). AreFrom dropped (k + 1) more) end all.1,
      )
  join_if false number next more test did all =
      let l = all.0.later in
      let other : number + 1 < next.first = (let apart : next.first ≢ number + 1 = grind (arith, nat_tests, test) in omega (arith, apart, l)) in
      let didnt : No (number + 1) = all.0.gap (number + 1) (omega arith) other in (
        record {
          later = omega arith;
          gap = λ k within below. absurd (omega (arith, within, below));
          some = omega arith;
          inside = λ k within below. only number k did within below;
          behind = didnt;
        },
        narrow (number + 1) (next ∷ more) didnt all,
      )

  join : (number : ℕ) (overruns : List Overrun) → Yes number → AreFrom dropped (number + 1) overruns
      → AreFrom dropped number (joined (record { first = number; count = 1 }) overruns)
  join number [] did all = (
    record {
      later = omega arith;
      gap = λ k within below. absurd (omega (arith, within, below));
      some = omega arith;
      inside = λ k within below. only number k did within below;
      behind = all (number + 1) (omega arith);
    },
    λ k within. all k (omega (arith, within)),
  )
  join number (next ∷ more) did all = join_if (next.first == number + 1) number next more refl did all

  moved : (number k : ℕ) (taken : List Bool) (mark : Bool) → ((k : ℕ) → dropped (number + k) ≡ is_dropped (mark ∷ taken) k) → dropped (number + 1 + k) ≡ is_dropped taken k
  moved number k taken mark is = ap dropped (let e : number + 1 + k ≡ number + suc k = omega arith in e) ∙ is (suc k)

  first_is : (number : ℕ) (taken : List Bool) (mark : Bool) → ((k : ℕ) → dropped (number + k) ≡ is_dropped (mark ∷ taken) k) → dropped number ≡ is_dropped (mark ∷ taken) 0
  first_is number taken mark is = ap dropped (let e : number ≡ number + 0 = omega arith in e) ∙ is 0

  pub are_from : (number : ℕ) (taken : List Bool) → ((k : ℕ) → dropped (number + k) ≡ is_dropped taken k) → AreFrom dropped number (overruns_from number taken)
  unfolding overruns_from
  are_from number [] is = λ k within. ap dropped (let e : k ≡ number + (k - number) = omega (arith, within) in e) ∙ is (k - number)
  are_from number (true ∷ taken) is =
      widen number (overruns_from (number + 1) taken) (first_is number taken true is)
      (are_from (number + 1) taken (λ k. moved number k taken true is))
  are_from number (false ∷ taken) is =
      join number (overruns_from (number + 1) taken) (first_is number taken false is)
      (are_from (number + 1) taken (λ k. moved number k taken false is))

  all_later : (from : ℕ) (overruns : List Overrun) → AreFrom dropped from overruns → All (λ (o : Overrun). from ≤ o.first) overruns
  all_later from [] all = λ k d within. absurd (omega (arith, within))
  all_later from (overrun ∷ more) all =
      let l = all.0.later in
      let on = all_later (overrun.first + overrun.count + 1) more all.1 in
      All-cons (λ (o : Overrun). from ≤ o.first) overrun more l (λ k d within. let o = on k d within in omega (arith, o, l))

  -- they ascend
  pub ascend_from : (from : ℕ) (overruns : List Overrun) → AreFrom dropped from overruns → AllPairs LiesBefore overruns
  ascend_from from [] all = λ i j d less within. absurd (omega (arith, within))
  ascend_from from (overrun ∷ more) all =
      let on = all_later (overrun.first + overrun.count + 1) more all.1 in
      AllPairs-cons LiesBefore overrun more (λ k d within. let o = on k d within in omega (arith, o)) (ascend_from (overrun.first + overrun.count + 1) more all.1)

-- ---- each is one, and each one is among them

module _ (taken : List Bool) where
  pub each : (from : ℕ) (overruns : List Overrun) (overrun : Overrun) → AreFrom (is_dropped taken) from overruns
      → ((number : ℕ) → number + 1 ≡ from → is_dropped taken number ≡ false) → Contains overruns overrun → IsOverrun taken overrun
  each from [] overrun all before among = absurd (let w = among.1 in omega (arith, w))
  each from (next ∷ more) overrun all before (zero, within, is) =
      let here : IsOverrun taken next =
      record {
        some = all.0.some;
        dropped = all.0.inside;
        before = λ number e.
            ⊎_elim (λ below. before number (let l = all.0.later in omega (arith, l, below, e)))
            (λ past. all.0.gap number past (omega (arith, e)))
            (cases_lt number from);
        behind = all.0.behind;
      } in
      subst (IsOverrun taken) is here
  each from (next ∷ more) overrun all before (suc k, within, is) =
      each (next.first + next.count + 1) more overrun all.1
      (λ number e. subst (λ (n : ℕ). is_dropped taken n ≡ false) (let same : next.first + next.count ≡ number = omega (arith, e) in same) all.0.behind)
      (k, (omega (arith, within)), is)

  same_overrun : (one other : Overrun) → one.first ≡ other.first → one.count ≡ other.count → one ≡ other
  same_overrun one other first count =
      ap (λ (f : ℕ). record { first = f; count = one.count }) first ∙ ap (λ (c : ℕ). record { first = other.first; count = c }) count

  pub among : (from : ℕ) (overruns : List Overrun) (overrun : Overrun) → AreFrom (is_dropped taken) from overruns → IsOverrun taken overrun → from ≤ overrun.first
      → Contains overruns overrun
  among from [] overrun all is later =
      let some = is.some in
      absurd (both (is.dropped overrun.first (omega arith) (omega (arith, some))) (all overrun.first later))
  among from (next ∷ more) overrun all is later =
      let some = is.some in
      let next_some = all.0.some in
      ⊎_elim
      (λ below. absurd (both (is.dropped overrun.first (omega arith) (omega (arith, some))) (all.0.gap overrun.first later below)))
      (λ past. ⊎_elim
      (λ same. ⊎_elim
      (λ shorter. absurd (both (all.0.inside (overrun.first + overrun.count) (omega (arith, past)) (omega (arith, same, shorter))) is.behind))
      (λ longer. ⊎_elim
      (λ less. absurd (both (is.dropped (next.first + next.count) (omega (arith, same)) (omega (arith, same, less))) all.0.behind))
      (λ least. (0, (omega arith), same_overrun next overrun same (omega (arith, longer, least))))
      (cases_lt next.count overrun.count))
      (cases_lt overrun.count next.count))
      (λ other. ⊎_elim
      (λ within.
      let one_before : overrun.first - 1 + 1 ≡ overrun.first = omega (arith, past, other) in
      absurd (both (all.0.inside (overrun.first - 1) (omega (arith, past, other)) (omega (arith, within, one_before))) (is.before (overrun.first - 1) one_before)))
      (λ after. ⊎_elim
      (λ end. absurd (both (is.dropped overrun.first (omega arith) (omega (arith, some))) (subst (λ (n : ℕ). is_dropped taken n ≡ false) end all.0.behind)))
      (λ not_end. Contains-append_right (next ∷ []) more overrun (among (next.first + next.count + 1) more overrun all.1 is (omega (arith, after, not_end))))
      (cases_eq (next.first + next.count) overrun.first))
      (cases_lt overrun.first (next.first + next.count)))
      (cases_eq next.first overrun.first))
      (cases_lt overrun.first next.first)

-- ---- the laws

all_of : (taken : List Bool) → AreFrom (is_dropped taken) 0 (overruns_of taken)
all_of taken = are_from (is_dropped taken) 0 taken (λ k. ap (is_dropped taken) (let e : 0 + k ≡ k = omega arith in e))

pub each_is_maximal : (taken : List Bool) (overrun : Overrun) → Contains (overruns_of taken) overrun → IsOverrun taken overrun
each_is_maximal taken overrun = each taken 0 (overruns_of taken) overrun (all_of taken) (λ number e. absurd (omega (arith, e)))

pub all_are_told : (taken : List Bool) (overrun : Overrun) → IsOverrun taken overrun → Contains (overruns_of taken) overrun
all_are_told taken overrun is = among taken 0 (overruns_of taken) overrun (all_of taken) is (omega arith)

pub they_ascend : (taken : List Bool) → AllPairs LiesBefore (overruns_of taken)
they_ascend taken = ascend_from (is_dropped taken) 0 (overruns_of taken) (all_of taken)
