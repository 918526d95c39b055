-- Runs that are taken stay so as others are taken and given back.
use Rattle.std.proofs.Common.{◌≡◌, ◌≢◌, ◌≤◌, ◌==◌, ◌&&◌, ◌||◌, ℕ, Bool, true, false, List, [], ◌∷◌, get_or, ap, ◌∙◌, arith, rules, tests, eq-eqb}
use Rattle.std.specs.Prelude.{Contains, All}
use Rattle.std.proofs.lemmas.Bool.{and_from}
use Rattle.dma_pool.specs.declared.blocks.Lent.{Lent}
use Rattle.dma_pool.specs.declared.runs.Run.{Run}
use Rattle.dma_pool.specs.Pools.{PoolState, granules_for}
use Rattle.dma_pool.specs.Blocks.{run_at}
use Rattle.command_engine.specs.Blocks.{corb_bytes, rirb_bytes}
use Rattle.command_engine.specs.Opening as of_engine
use Rattle.period_writer.specs.declared.geometry.Geometry.{Geometry}
use Rattle.period_writer.specs.Rings.{period_bytes, list_bytes}
use Rattle.period_writer.specs.Opening as of_writer
use Rattle.period_writer.specs.Writers.{WriterState, OwnsBlocks}
use Rattle.period_writer.proofs.Callers.{takes_keep}
use Rattle.dma_pool.proofs.Callers.{AddsRun-keeps, AddsRun-others}

-- ---- the test whether a run is taken

-- whether two runs are the same
abbrev pub are_same : Run → Run → Bool
are_same one other = one.first == other.first && one.count == other.count

-- whether a run is among them
abbrev pub is_taken : List Run → Run → Bool
is_taken [] run = false
is_taken (other ∷ taken) run = are_same other run || is_taken taken run

abbrev run_of : (first count : ℕ) → Run
run_of first count = record { first = first; count = count }

pub same_run : (one other : Run) → are_same one other ≡ true → one ≡ other
same_run one other is =
    let first : one.first ≡ other.first = search (rules, tests) in
    let count : one.count ≡ other.count = search (rules, tests) in
    ap (λ (n : ℕ). run_of n one.count) first ∙ ap (λ (n : ℕ). run_of other.first n) count

pub run_same : (one other : Run) → one ≡ other → are_same one other ≡ true
run_same one other is =
    and_from (one.first == other.first) (one.count == other.count) (eq-eqb one.first other.first (ap (λ (run : Run). run.first) is)) (eq-eqb one.count other.count (ap (λ (run : Run). run.count) is))

-- ---- runs that stay

-- a run stays taken as a writer is opened
pub opens_keep : (geometry : Geometry) (pool : PoolState) (list : ℕ) (periods : List ℕ) (pool' : PoolState) (run : Run) → of_writer.OpensWriter geometry pool list periods pool' → Contains pool.taken run → Contains pool'.taken run
opens_keep geometry pool list periods pool' run opens has =
    takes_keep pool.granules (period_bytes geometry.period) opens.middle periods pool'.taken run opens.periods_taken
    (AddsRun-keeps pool.taken (run_at list (list_bytes geometry.periods)) opens.middle opens.list_taken.adds run has)

-- a run of another number of granules stays taken as an engine is closed
pub engine_leaves : (pool : PoolState) (corb rirb : ℕ) (pool' : PoolState) (run : Run) → of_engine.GivesBack pool corb rirb pool' → run.count ≢ granules_for corb_bytes → run.count ≢ granules_for rirb_bytes
    → Contains pool.taken run → Contains pool'.taken run
engine_leaves pool corb rirb pool' run gives other_corb other_rirb has =
    AddsRun-others pool'.taken (run_at rirb rirb_bytes) gives.middle gives.rirb_given run
    (AddsRun-others gives.middle (run_at corb corb_bytes) pool.taken gives.corb_given run has (λ same. other_corb (ap (λ (one : Run). one.count) same)))
    (λ same. other_rirb (ap (λ (one : Run). one.count) same))

-- the blocks of an engine have 8 and 16 granules, the list of buffers 4 at most, and a period a multiple of 3
list_leaves : (pool : PoolState) (corb rirb : ℕ) (pool' : PoolState) (list periods : ℕ) → periods ≤ 32 → of_engine.GivesBack pool corb rirb pool'
    → Contains pool.taken (run_at list (list_bytes periods)) → Contains pool'.taken (run_at list (list_bytes periods))
list_leaves pool corb rirb pool' list periods few gives has =
    engine_leaves pool corb rirb pool' (run_at list (list_bytes periods)) gives (λ same. omega (arith, few, same)) (λ same. omega (arith, few, same)) has

period_leaves : (pool : PoolState) (corb rirb : ℕ) (pool' : PoolState) (address period : ℕ) → of_engine.GivesBack pool corb rirb pool'
    → Contains pool.taken (run_at address (period_bytes period)) → Contains pool'.taken (run_at address (period_bytes period))
period_leaves pool corb rirb pool' address period gives has =
    engine_leaves pool corb rirb pool' (run_at address (period_bytes period)) gives (λ same. omega (arith, same)) (λ same. omega (arith, same)) has

periods_leave : (pool : PoolState) (corb rirb : ℕ) (pool' : PoolState) (period : ℕ) (lents : List Lent) → of_engine.GivesBack pool corb rirb pool'
    → All (λ (lent : Lent). Contains pool.taken (run_at lent.address (period_bytes period))) lents → All (λ (lent : Lent). Contains pool'.taken (run_at lent.address (period_bytes period))) lents
periods_leave pool corb rirb pool' period lents gives owned k d less = period_leaves pool corb rirb pool' (get_or lents k d).address period gives (owned k d less)

-- and those of a ring
pub ring_leaves : (pool : PoolState) (corb rirb : ℕ) (pool' : PoolState) (writer : WriterState) → of_engine.GivesBack pool corb rirb pool' → OwnsBlocks pool.taken writer → OwnsBlocks pool'.taken writer
ring_leaves pool corb rirb pool' writer gives owns = record {
  list = list_leaves pool corb rirb pool' writer.list.address writer.geometry.periods writer.geometry.few_periods gives owns.list;
  periods = periods_leave pool corb rirb pool' writer.geometry.period writer.periods gives owns.periods;
}
