-- What the layers above cite of runs that are taken and given back.
use Rattle.std.proofs.Common.{◌≡◌, ℕ, List, [], ◌∷◌, ◌++◌, refl, sym, subst, ◌∙◌, true, false, Result, Ok, Err, rules}
use Rattle.std.specs.Prelude.{Contains}
use Rattle.std.specs.Result.{OnErr, OnOk, is_err}
use Rattle.std.proofs.lemmas.List.Elements.{Contains-append_right}
use Rattle.dma_pool.specs.declared.runs.Run.{Run}
use Rattle.dma_pool.specs.Pools.{PoolState, AddsRun}
use Rattle.dma_pool.specs.Blocks.{run_at}
-- what is taken after one run more was taken before or is that run
pub use Rattle.dma_pool.proofs.LaidOut.{AddsRun-others}
-- what was taken stays so
pub use Rattle.dma_pool.proofs.LaidOut.{AddsRun-keeps}
-- a run that was added is there
pub use Rattle.dma_pool.proofs.LaidOut.{AddsRun-has}

first_one : (run : Run) (runs : List Run) → Contains (run ∷ runs) run
first_one run runs = (0, search rules, refl)

later_one : (run other : Run) (runs : List Run) → Contains runs run → Contains (other ∷ runs) run
later_one run other runs has = Contains-append_right (other ∷ []) runs run has

-- a run that was not there is taken out again
same_rest : (front back front' back' : List Run) (run : Run) → (Contains (front ++ back) run → ⊥) → front ++ run ∷ back ≡ front' ++ run ∷ back' → front' ++ back' ≡ front ++ back
same_rest [] back [] back' run fresh e = cc
same_rest [] back (other ∷ front') back' run fresh e =
    let rest : back ≡ front' ++ run ∷ back' = cc in
    absurd (fresh (subst (λ (runs : List Run). Contains runs run) (sym rest) (Contains-append_right front' (run ∷ back') run (first_one run back'))))
same_rest (other ∷ front) back [] back' run fresh e =
    let first : other ≡ run = cc in
    absurd (fresh (subst (λ (r : Run). Contains (r ∷ (front ++ back)) run) (sym first) (first_one run (front ++ back))))
same_rest (other ∷ front) back (other' ∷ front') back' run fresh e =
    let first : other ≡ other' = cc in
    let rest : front ++ run ∷ back ≡ front' ++ run ∷ back' = cc in
    let ih = same_rest front back front' back' run (λ has. fresh (later_one run other (front ++ back) has)) rest in
    cc

-- so the pool is as it was
pub given_back : (pool middle given : PoolState) (run : Run) → (Contains pool.taken run → ⊥) → AddsRun pool.taken run middle.taken → AddsRun given.taken run middle.taken
    → middle.granules ≡ pool.granules → given.granules ≡ middle.granules → given ≡ pool
given_back pool middle given run fresh takes gives kept stayed =
    let rest = same_rest takes.front takes.back gives.front gives.back run (subst (λ (runs : List Run). Contains runs run → ⊥) takes.was fresh) (sym takes.becomes ∙ gives.becomes) in
    let taken : given.taken ≡ pool.taken = gives.was ∙ rest ∙ sym takes.was in
    let granules : given.granules ≡ pool.granules = stayed ∙ kept in
    subst (λ (n : ℕ). given ≡ record { granules = n; taken = pool.taken }) granules
    (subst (λ (runs : List Run). given ≡ record { granules = given.granules; taken = runs }) taken refl)

-- the same run by another name
pub adds_at : (address address' bytes bytes' : ℕ) (before after : List Run) → address ≡ address' → bytes ≡ bytes' → AddsRun before (run_at address bytes) after → AddsRun before (run_at address' bytes') after
adds_at address address' bytes bytes' before after a b adds =
    subst (λ (at : ℕ). AddsRun before (run_at at bytes') after) a (subst (λ (n : ℕ). AddsRun before (run_at address n) after) b adds)

-- what holds at an error and at a success
pub at_error : {T E : Type 0} (r : Result T E) (P : Type 0) → true ≡ is_err r → OnErr r P → P
at_error (Ok x) P e h = cc
at_error (Err x) P e h = h

pub at_success : {T E : Type 0} (r : Result T E) (P : Type 0) → false ≡ is_err r → OnOk r P → P
at_success (Ok x) P e h = h
at_success (Err x) P e h = cc
