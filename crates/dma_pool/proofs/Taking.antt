-- Blocks that are taken one after another.
use Rattle.std.proofs.Common.{◌≡◌, ◌<◌, ◌+◌, ◌-◌, ℕ, zero, suc, List, [], ◌∷◌, take, drop, length, get_or, set, replicate, refl, sym, ap, ◌∙◌, subst, Option, Some, arith}
use Rattle.std.specs.Prelude.{All}
use Rattle.std.proofs.lemmas.List.{drop-drop, drop-replicate, get_or-take, get_or-drop, get_or-replicate, drop-set, take-set, take-take}
use Rattle.std.proofs.lemmas.List.Elements.{All-append}
use Rattle.dma_pool.specs.declared.blocks.Block.{Block}
use Rattle.dma_pool.specs.declared.runs.Run.{Run}
use Rattle.dma_pool.specs.Several.{TakesFirst, TakesAll, MeetsNoRun, HasBlock, addresses_in}

-- ---- places

-- the places after an empty one are empty too
pub rest_empty : {X : Type 0} (xs : List X) (i : ℕ) (y : X) → drop i xs ≡ replicate (length xs - i) y → drop (i + 1) xs ≡ replicate (length xs - (i + 1)) y
rest_empty {X} xs i y h = sym (drop-drop 1 i xs) ∙ ap (drop 1) h ∙ drop-replicate 1 (length xs - i) y ∙ ap (λ n. replicate n y) (omega arith)

-- and stay so where the places up to it stay
pub empty_here : {X : Type 0} (xs ys : List X) (i : ℕ) (y d : X) → i < length xs → take (i + 1) ys ≡ take (i + 1) xs → drop i xs ≡ replicate (length xs - i) y → get_or ys i d ≡ y
empty_here {X} xs ys i y d within same h =
    sym (get_or-take (i + 1) ys i d (omega arith)) ∙ ap (λ l. get_or l i d) same ∙ get_or-take (i + 1) xs i d (omega arith)
    ∙ ap (get_or xs i) refl ∙ here where
      here : get_or xs i d ≡ y
      here =
          let at : i + 0 ≡ i = omega arith in
          ap (λ n. get_or xs n d) (sym at) ∙ sym (get_or-drop i xs 0 d) ∙ ap (λ l. get_or l 0 d) h ∙ get_or-replicate (length xs - i) 0 y d (omega arith)

-- the places before an index, where one at it was set
pub before_same : {X : Type 0} (xs ys : List X) (i : ℕ) (y : X) → take (i + 1) ys ≡ take (i + 1) xs → take i (set ys i y) ≡ take i xs
before_same {X} xs ys i y same =
    take-set ys i y ∙ sym (take-take i (i + 1) ys (omega arith)) ∙ ap (take i) same ∙ take-take i (i + 1) xs (omega arith)

-- ---- takes

-- one take before others
pub takes_more : (granules bytes address : ℕ) (taken middle taken' : List Run) (places : List (Option Block)) (index : ℕ) (block : Block) → index < length places
    → block.address ≡ address → TakesFirst granules bytes taken address middle → TakesAll granules bytes middle (addresses_in (drop (index + 1) places)) taken'
    → TakesAll granules bytes taken (addresses_in (drop index (set places index (Some block)))) taken'
takes_more granules bytes address taken middle taken' places index block within at first rest =
    subst (λ (places : List (Option Block)). TakesAll granules bytes taken (addresses_in places) taken') (sym (drop-set places index (Some block) within))
    (middle, subst (λ (a : ℕ). TakesFirst granules bytes taken a middle) (sym at) first, rest)

pub blocks_more : (bytes : ℕ) (places : List (Option Block)) (index : ℕ) (block : Block) → index < length places → block.bytes ≡ bytes
    → All (HasBlock bytes) (drop (index + 1) places) → All (HasBlock bytes) (drop index (set places index (Some block)))
blocks_more bytes places index block within has rest =
    subst (All (HasBlock bytes)) (sym (drop-set places index (Some block) within)) (All-append (HasBlock bytes) (Some block ∷ []) (drop (index + 1) places) here rest) where
      here : All (HasBlock bytes) (Some block ∷ [])
      here zero d lt = has
      here (suc k) d lt = absurd (omega (arith, lt))

pub meets_later : (granules bytes count address : ℕ) (taken middle : List Run) → TakesFirst granules bytes taken address middle → MeetsNoRun granules bytes (count - 1) middle → MeetsNoRun granules bytes count taken
meets_later granules bytes count address taken middle first later = record {
  addresses = address ∷ later.addresses;
  middle = later.middle;
  before = (middle, first, later.before);
  few = let few = later.few in omega (arith, few);
  none = later.none;
}
