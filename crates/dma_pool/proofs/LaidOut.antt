-- Runs that are laid out in a pool.
use Rattle.std.proofs.Common.{◌≡◌, ◌≤◌, ◌<◌, ◌+◌, ◌-◌, ◌/◌, ◌%◌, ℕ, ◌≢◌, inl, inr, List, [], ◌∷◌, ◌++◌, take, drop, length, get_or, add-one, append_assoc, length-append, length-take, length-drop, refl, sym, ap, ◌∙◌, subst, zero, suc, true, false, Result, Ok, Err, arith}
use Rattle.std.specs.List.{All, Contains}
use Rattle.std.specs.Result.{OnErr, is_err, is_ok}
use Rattle.std.proofs.Math.Seq.{drop-cons}
use Rattle.std.proofs.lemmas.List.{take-append-drop, take_more, drop_all}
use Rattle.std.proofs.lemmas.List.Elements.{All-append, All-push, Contains-append_left, Contains-append_right, Contains-append_cases, Contains-push}
use Rattle.std.specs.Int.{div_ceil}
use Rattle.dma_pool.specs.declared.runs.Run.{Run}
use Rattle.dma_pool.specs.Blocks.{run_at, IsElsewhere}
use Rattle.dma_pool.specs.Pools.{IsLaidOut, IsApart, IsFree, AddsRun, end_of, granules_of}
use Rattle.dma_pool.specs.Gaps.{IsGap}

-- runs that begin later also begin later than what is lower
pub laid_out-lower : (lower from granules : ℕ) (runs : List Run) → lower ≤ from → IsLaidOut from granules runs → IsLaidOut lower granules runs
laid_out-lower lower from granules [] le h = omega (arith, h, le)
laid_out-lower lower from granules (run ∷ runs) le h = (omega (arith, h.0, le), h.1, h.2)

-- they begin in the pool
pub laid_out-within : (from granules : ℕ) (runs : List Run) → IsLaidOut from granules runs → from ≤ granules
laid_out-within from granules [] h = h
laid_out-within from granules (run ∷ runs) h = let rest = laid_out-within (end_of run) granules runs h.2 in omega (arith, h.0, rest)

-- there are no more runs than granules
pub laid_out-length : (from granules : ℕ) (runs : List Run) → IsLaidOut from granules runs → from + length runs ≤ granules
laid_out-length from granules [] h = omega (arith, h)
laid_out-length from granules (run ∷ runs) h = let rest = laid_out-length (end_of run) granules runs h.2 in omega (arith, h.0, h.1, rest)

-- each run begins no lower
pub laid_out-first : (from granules : ℕ) (runs : List Run) → IsLaidOut from granules runs → All (λ (run : Run). from ≤ run.first) runs
laid_out-first from granules [] h = λ k d lt. absurd (omega (arith, lt))
laid_out-first from granules (run ∷ runs) h =
    let rest = laid_out-first from granules runs (laid_out-lower from (end_of run) granules runs (omega (arith, h.0)) h.2) in
    All-append (λ (run : Run). from ≤ run.first) (run ∷ []) runs (λ k d lt. first_item k d lt) rest where
      first_item : (k : ℕ) (d : Run) → k < length (run ∷ []) → from ≤ (get_or (run ∷ []) k d).first
      first_item zero d lt = h.0
      first_item (suc k) d lt = absurd (omega (arith, lt))

-- a run may be left out
pub laid_out-without : (from granules : ℕ) (front : List Run) (run : Run) (back : List Run) → IsLaidOut from granules (front ++ run ∷ back) → IsLaidOut from granules (front ++ back)
laid_out-without from granules [] run back h = laid_out-lower from (end_of run) granules back (omega (arith, h.0)) h.2
laid_out-without from granules (r ∷ front) run back h = (h.0, h.1, laid_out-without (end_of r) granules front run back h.2)

-- the runs have no more granules than the pool
pub laid_out-sum : (from granules : ℕ) (runs : List Run) → IsLaidOut from granules runs → from + granules_of runs ≤ granules
laid_out-sum from granules [] h = omega (arith, h)
laid_out-sum from granules (run ∷ runs) h = let rest = laid_out-sum (end_of run) granules runs h.2 in omega (arith, h.0, rest)

granules_of-append : (front back : List Run) → granules_of (front ++ back) ≡ granules_of front + granules_of back
granules_of-append [] back = omega arith
granules_of-append (run ∷ front) back = let rest = granules_of-append front back in omega (arith, rest)

-- the granules of one run more
pub granules_of-more : (runs : List Run) (i : ℕ) (d : Run) → i < length runs → granules_of (take (i + 1) runs) ≡ granules_of (take i runs) + (get_or runs i d).count
granules_of-more runs i d within =
    let split = granules_of-append (take i runs) (get_or runs i d ∷ []) in
    rw (take_more runs i d within) (omega (arith, split))

-- and no more than those of all
pub granules_of-part : (runs : List Run) (i : ℕ) (d : Run) → i < length runs → granules_of (take i runs) + (get_or runs i d).count ≤ granules_of runs
granules_of-part runs i d within =
    let split = granules_of-append (take i runs) (drop i runs) in
    let here = drop-cons runs i d within in
    let sum : granules_of (take i runs) + granules_of (drop i runs) ≡ granules_of runs = sym split ∙ ap granules_of (take-append-drop i runs) in
    let tail : granules_of (drop i runs) ≡ (get_or runs i d).count + granules_of (drop (suc i) runs) = ap granules_of here in
    omega (arith, sum, tail)

-- what is known between the runs before a place of the list and those from it on
pub record IsSplit (granules count : ℕ) (taken : List Run) (index first : ℕ) : Type 0 where
  pub rest : IsLaidOut first granules (drop index taken)
  pub before : All (λ (run : Run). end_of run ≤ first) (take index taken)
  pub front : (runs : List Run) → IsLaidOut first granules runs → IsLaidOut 0 granules (take index taken ++ runs)
  pub lowest : (place : ℕ) → IsFree granules taken place count → first ≤ place

-- the run at the place is the first of the rest
pub rest-cons : (granules count : ℕ) (taken : List Run) (index first : ℕ) (d : Run) → index < length taken → IsSplit granules count taken index first → IsLaidOut first granules (get_or taken index d ∷ drop (index + 1) taken)
rest-cons granules count taken index first d within s =
    rw add-one (subst (IsLaidOut first granules) (drop-cons taken index d within) s.rest)

-- a gap with room before the rest is the first fit
pub split-gap : (granules count : ℕ) (taken : List Run) (index first : ℕ) → 1 ≤ count → index ≤ length taken → IsLaidOut (first + count) granules (drop index taken) → IsSplit granules count taken index first → IsGap granules taken index first count
split-gap granules count taken index first some within after s = record {
  fits = record {
    free = record {
      within = laid_out-within (first + count) granules (drop index taken) after;
      apart = rw (← take-append-drop index taken) at_all;
    };
    lowest = s.lowest;
  };
  laid_out = s.front (record { first = first; count = count } ∷ drop index taken) (omega arith, some, after);
  within = within;
} where
  ends : All (IsApart first count) (take index taken)
  ends k d lt = inl (s.before k d lt)

  begins : All (IsApart first count) (drop index taken)
  begins k d lt = inr (laid_out-first (first + count) granules (drop index taken) after k d lt)

  at_all : All (IsApart first count) (take index taken ++ drop index taken)
  at_all = All-append (IsApart first count) (take index taken) (drop index taken) ends begins

-- no room before the run at the place: go on after it
pub split-more : (granules count : ℕ) (taken : List Run) (index first : ℕ) (d : Run) → index < length taken → (get_or taken index d).first - first < count → IsSplit granules count taken index first → IsSplit granules count taken (index + 1) (end_of (get_or taken index d))
split-more granules count taken index first d within narrow s = record {
  rest = here.2;
  before = rw (take_more taken index d within) (All-push (λ (run : Run). end_of run ≤ end_of r) (take index taken) r earlier (omega arith));
  front = λ runs h. rw (take_more taken index d within, append_assoc) (s.front (r ∷ runs) (here.0, here.1, h));
  lowest = λ place free. lowest_from place free (free.apart index d within);
} where
  r : Run
  r = get_or taken index d

  here : IsLaidOut first granules (r ∷ drop (index + 1) taken)
  here = rest-cons granules count taken index first d within s

  earlier : All (λ (run : Run). end_of run ≤ end_of r) (take index taken)
  earlier k e lt = let b = s.before k e lt in omega (arith, b, here.0)

  lowest_from : (place : ℕ) → IsFree granules taken place count → IsApart place count r → end_of r ≤ place
  lowest_from place free (inl le) = le
  lowest_from place free (inr le) = let low = s.lowest place free in absurd (omega (arith, low, le, narrow))

-- no room after the last run either
pub split-none : (granules count : ℕ) (taken : List Run) (index first : ℕ) → granules - first < count → IsSplit granules count taken index first → (place : ℕ) → IsFree granules taken place count → ⊥
split-none granules count taken index first narrow s place free = let low = s.lowest place free in omega (arith, low, free.within, narrow)

-- the run at the place ends in the pool
pub split-end : (granules count : ℕ) (taken : List Run) (index first : ℕ) (d : Run) → index < length taken → IsSplit granules count taken index first → end_of (get_or taken index d) ≤ granules
split-end granules count taken index first d within s =
    laid_out-within (end_of (get_or taken index d)) granules (drop (index + 1) taken) (rest-cons granules count taken index first d within s).2

-- room before the run at the place
pub split-room : (granules count : ℕ) (taken : List Run) (index first : ℕ) (d : Run) → 1 ≤ count → index < length taken → count ≤ (get_or taken index d).first - first → IsSplit granules count taken index first → IsGap granules taken index first count
split-room granules count taken index first d some within room s =
    split-gap granules count taken index first some (omega arith) (rw (drop-cons taken index d within) (omega (arith, here.0, some, room), here.1, here.2)) s where
      here : IsLaidOut first granules (get_or taken index d ∷ drop (suc index) taken)
      here = subst (IsLaidOut first granules) (drop-cons taken index d within) s.rest

-- room after the last run
pub split-last : (granules count : ℕ) (taken : List Run) (index first : ℕ) → 1 ≤ count → index ≡ length taken → count ≤ granules - first → IsSplit granules count taken index first → IsGap granules taken index first count
split-last granules count taken index first some last room s =
    split-gap granules count taken index first some (omega (arith, last)) (rw after_all (omega (arith, some, room))) s where
      after_all : drop index taken ≡ []
      after_all = drop_all index taken (omega (arith, last))

-- the runs round one of them
pub runs_round : (taken : List Run) (index : ℕ) (d : Run) → index < length taken → take index taken ++ get_or taken index d ∷ drop (suc index) taken ≡ taken
runs_round taken index d within = ap (λ rest. take index taken ++ rest) (sym (drop-cons taken index d within)) ∙ take-append-drop index taken

-- without the run at a place the others stay laid out
pub laid_out-remove : (granules : ℕ) (taken : List Run) (index : ℕ) (d : Run) → index < length taken → IsLaidOut 0 granules taken → IsLaidOut 0 granules (take index taken ++ drop (suc index) taken)
laid_out-remove granules taken index d within h =
    laid_out-without 0 granules (take index taken) (get_or taken index d) (drop (suc index) taken) (rw (runs_round taken index d within) h)

-- where there is a gap the runs are fewer than the granules
pub gap-room : (granules : ℕ) (taken : List Run) (index first count : ℕ) → IsGap granules taken index first count → length taken < granules
gap-room granules taken index first count gap =
    let all = laid_out-length 0 granules (take index taken ++ record { first = first; count = count } ∷ drop index taken) gap.laid_out in
    let long = length-append (take index taken) (record { first = first; count = count } ∷ drop index taken) in
    let front = length-take index taken in
    let back = length-drop index taken in
    omega (arith, all, long, front, back, gap.within)

-- what holds at an error
pub at_error : {T E : Type 0} (r : Result T E) (P : Type 0) → true ≡ is_err r → OnErr r P → P
at_error (Ok x) P e h = cc
at_error (Err x) P e h = h

-- a list with one item more in it
pub AddsRun-insert : (taken : List Run) (index : ℕ) (run : Run) → AddsRun taken run (take index taken ++ run ∷ drop index taken)
AddsRun-insert taken index run = record {
  front = take index taken;
  back = drop index taken;
  was = sym (take-append-drop index taken);
  becomes = refl;
}

-- no error is a success
pub ok_from : {T E : Type 0} (r : Result T E) → false ≡ is_err r → is_ok r ≡ true
ok_from (Ok x) e = refl
ok_from (Err x) e = cc

-- the run is among the new ones, and so are the old ones
pub AddsRun-has : (old : List Run) (run : Run) (new : List Run) → AddsRun old run new → Contains new run
AddsRun-has old run new a = rw a.becomes (Contains-append_right a.front (run ∷ a.back) run (Contains-append_left (run ∷ []) a.back run (Contains-push [] run)))

pub AddsRun-keeps : (old : List Run) (run : Run) (new : List Run) → AddsRun old run new → (other : Run) → Contains old other → Contains new other
AddsRun-keeps old run new a other h =
    elim (Contains-append_cases a.front a.back other (rw a.was at h)) as (λ _. Contains new other) [
      | inl early ↦ rw a.becomes (Contains-append_left a.front (run ∷ a.back) other early)
      | inr late ↦ rw a.becomes (Contains-append_right a.front (run ∷ a.back) other (Contains-append_right (run ∷ []) a.back other late))
    ]

pub AddsRun-others : (old : List Run) (run : Run) (new : List Run) → AddsRun old run new → (other : Run) → Contains new other → other ≢ run → Contains old other
AddsRun-others old run new a other h differs =
    elim (Contains-append_cases a.front (run ∷ a.back) other (rw a.becomes at h)) as (λ _. Contains old other) [
      | inl early ↦ rw a.was (Contains-append_left a.front a.back other early)
      | inr late ↦ elim (Contains-append_cases (run ∷ []) a.back other late) as (λ _. Contains old other) [
        | inl same ↦ absurd (differs (only_item same))
        | inr later ↦ rw a.was (Contains-append_right a.front a.back other later)
      ]
    ] where
      only_item : Contains (run ∷ []) other → other ≡ run
      only_item (zero, lt, e) = sym e
      only_item (suc k, lt, e) = absurd (omega (arith, lt))

-- a run that has none of a block's addresses is not the block's
elsewhere_differs : (address bytes : ℕ) (run : Run) → address % 128 ≡ 0 → 1 ≤ bytes → IsElsewhere address bytes run → run ≡ run_at address bytes → ⊥
elsewhere_differs address bytes run aligned some apart same =
    let first : run.first ≡ address / 128 = ap (λ (r : Run). r.first) same in
    let count : run.count ≡ div_ceil bytes 128 = ap (λ (r : Run). r.count) same in
    omega (arith, apart, first, count, aligned, some)

pub elsewhere_fresh : (address bytes : ℕ) (taken : List Run) → address % 128 ≡ 0 → 1 ≤ bytes → All (IsElsewhere address bytes) taken → Contains taken (run_at address bytes) → ⊥
elsewhere_fresh address bytes taken aligned some apart h =
    elsewhere_differs address bytes (get_or taken h.0 (run_at address bytes)) aligned some (apart h.0 (run_at address bytes) h.1) h.2
