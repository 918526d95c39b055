-- The blocks of a driver that records: taken runs of its pool that stay so as others are taken and given back, and lie apart.
use Rattle.std.proofs.Common.{◌≡◌, ◌≢◌, ◌≤◌, ◌<◌, ◌+◌, ◌%◌, ◌⊎◌, inl, inr, ℕ, zero, suc, true, List, [], ◌∷◌, length, get_or, nat_le, sym, ap, subst, ◌∙◌, arith, rules}
use Rattle.std.specs.Prelude.{Contains, All, slice_index}
use Rattle.std.proofs.lemmas.Bool.{or_left, or_right}
use Rattle.dma_pool.specs.declared.blocks.Lent.{Lent}
use Rattle.dma_pool.specs.declared.runs.Run.{Run}
use Rattle.dma_pool.specs.Pools.{PoolState, IsLaidOut, end_of, granules_for}
use Rattle.dma_pool.specs.Blocks.{run_at}
use Rattle.dma_pool.proofs.Callers.{AddsRun-keeps, AddsRun-others}
use Rattle.command_engine.specs.Blocks.{corb_bytes, rirb_bytes}
use Rattle.command_engine.specs.Opening as of_engine
use Rattle.period_writer.specs.declared.geometry.Geometry.{Geometry}
use Rattle.period_writer.specs.Blocks.{are_apart, addresses_of}
use Rattle.period_writer.specs.Rings.{period_bytes, list_bytes}
use Rattle.period_writer.specs.Opening.{OpensWriter, GivesBack}
use Rattle.period_writer.proofs.Callers.{takes_keep, others_stay}
use Rattle.hda_capture.specs.Recorders.{RecorderState, OwnsBlocks}
use Rattle.recording_driver.specs.RecordingDrivers.{IsBesideRecorder}

-- ---- runs of the rings of commands are none of a ring of periods

-- the list of buffers has 4 granules at most, and a period a multiple of 3
pub Differs : (bytes : ℕ) → Type 0
Differs bytes = ((periods : ℕ) → periods ≤ 32 → granules_for bytes ≡ granules_for (list_bytes periods) → ⊥) × ((period : ℕ) → granules_for bytes ≡ granules_for (period_bytes period) → ⊥)

pub corb_differs : Differs corb_bytes
unfolding Differs
corb_differs = (λ periods few same. omega (arith, few, same), λ period same. omega (arith, same))

pub rirb_differs : Differs rirb_bytes
unfolding Differs
rirb_differs = (λ periods few same. omega (arith, few, same), λ period same. omega (arith, same))

-- ---- runs that stay taken

-- one of the rings of commands, as a ring of periods is given back
pub ring_given : (geometry : Geometry) (pool : PoolState) (list : ℕ) (periods : List ℕ) (pool' : PoolState) (address bytes : ℕ) → Differs bytes → GivesBack geometry pool list periods pool'
    → Contains pool.taken (run_at address bytes) → Contains pool'.taken (run_at address bytes)
unfolding Differs
ring_given geometry pool list periods pool' address bytes differs gives has =
    AddsRun-others pool'.taken (run_at list (list_bytes geometry.periods)) gives.middle gives.list_given (run_at address bytes)
    (others_stay (period_bytes geometry.period) gives.middle periods pool.taken (run_at address bytes) gives.periods_given has
    (λ i within same. differs.1 geometry.period (ap (λ (run : Run). run.count) same)))
    (λ same. differs.0 geometry.periods geometry.few_periods (ap (λ (run : Run). run.count) same))

-- and as one is taken
pub ring_taken : (geometry : Geometry) (pool : PoolState) (list : ℕ) (periods : List ℕ) (pool' : PoolState) (run : Run) → OpensWriter geometry pool list periods pool' → Contains pool.taken run → Contains pool'.taken run
ring_taken geometry pool list periods pool' run opens has =
    takes_keep pool.granules (period_bytes geometry.period) opens.middle periods pool'.taken run opens.periods_taken
    (AddsRun-keeps pool.taken (run_at list (list_bytes geometry.periods)) opens.middle opens.list_taken.adds run has)

-- those of a ring of periods, as the rings of commands are given back
engine_leaves : (pool : PoolState) (corb rirb : ℕ) (pool' : PoolState) (run : Run) → of_engine.GivesBack pool corb rirb pool' → run.count ≢ granules_for corb_bytes → run.count ≢ granules_for rirb_bytes
    → Contains pool.taken run → Contains pool'.taken run
engine_leaves pool corb rirb pool' run gives other_corb other_rirb has =
    AddsRun-others pool'.taken (run_at rirb rirb_bytes) gives.middle gives.rirb_given run
    (AddsRun-others gives.middle (run_at corb corb_bytes) pool.taken gives.corb_given run has (λ same. other_corb (ap (λ (one : Run). one.count) same)))
    (λ same. other_rirb (ap (λ (one : Run). one.count) same))

pub recorder_left : (pool : PoolState) (corb rirb : ℕ) (pool' : PoolState) (recorder : RecorderState) → of_engine.GivesBack pool corb rirb pool' → OwnsBlocks pool.taken recorder → OwnsBlocks pool'.taken recorder
unfolding Differs
recorder_left pool corb rirb pool' recorder gives owns =
    let geometry = recorder.geometry in record {
      list = engine_leaves pool corb rirb pool' (run_at recorder.list.address (list_bytes geometry.periods)) gives
          (λ same. corb_differs.0 geometry.periods geometry.few_periods (sym same)) (λ same. rirb_differs.0 geometry.periods geometry.few_periods (sym same)) owns.list;
      periods = λ place lent within.
          engine_leaves pool corb rirb pool' (run_at (get_or recorder.periods place lent).address (period_bytes geometry.period)) gives
          (λ same. corb_differs.1 geometry.period (sym same)) (λ same. rirb_differs.1 geometry.period (sym same)) (owns.periods place lent within);
    }

-- ---- taken runs lie apart

later : (from granules : ℕ) (runs : List Run) (place : ℕ) (run : Run) → IsLaidOut from granules runs → place < length runs → get_or runs place run ≡ run → from ≤ run.first
later from granules [] place run laid within is = absurd (omega (arith, within))
later from granules (first ∷ runs) zero run laid within is = subst (λ (run : Run). from ≤ run.first) is laid.0
later from granules (first ∷ runs) (suc place) run laid within is =
    let rest = later (end_of first) granules runs place run laid.2 (omega (arith, within)) is in
    omega (arith, rest, laid.0)

-- two of other lengths
runs_apart : (from granules : ℕ) (runs : List Run) (one other : Run) → IsLaidOut from granules runs → Contains runs one → Contains runs other → (one.count ≡ other.count → ⊥)
    → (end_of one ≤ other.first) ⊎ (end_of other ≤ one.first)
runs_apart from granules [] one other laid (place, within, is) has differ = absurd (omega (arith, within))
runs_apart from granules (run ∷ runs) one other laid (zero, within, is) (zero, within', is') differ =
    absurd (differ (ap (λ (run : Run). run.count) (sym is ∙ is')))
runs_apart from granules (run ∷ runs) one other laid (zero, within, is) (suc place, within', is') differ =
    inl (subst (λ (run : Run). end_of run ≤ other.first) is (later (end_of run) granules runs place other laid.2 (omega (arith, within')) is'))
runs_apart from granules (run ∷ runs) one other laid (suc place, within, is) (zero, within', is') differ =
    inr (subst (λ (run : Run). end_of run ≤ one.first) is' (later (end_of run) granules runs place one laid.2 (omega (arith, within)) is))
runs_apart from granules (run ∷ runs) one other laid (suc place, within, is) (suc place', within', is') differ =
    runs_apart (end_of run) granules runs one other laid.2 (place, omega (arith, within), is) (place', omega (arith, within'), is') differ

blocks_apart : (one bytes other bytes' : ℕ) → one % 128 ≡ 0 → other % 128 ≡ 0
    → (end_of (run_at one bytes) ≤ (run_at other bytes').first) ⊎ (end_of (run_at other bytes') ≤ (run_at one bytes).first)
    → are_apart one bytes other bytes' ≡ true
blocks_apart one bytes other bytes' aligned aligned' (inl before) =
    let less : one + bytes ≤ other = omega (arith, before, aligned, aligned') in
    or_left (nat_le (one + bytes) other) (nat_le (other + bytes') one) (search (rules, less))
blocks_apart one bytes other bytes' aligned aligned' (inr behind) =
    let less : other + bytes' ≤ one = omega (arith, behind, aligned, aligned') in
    or_right (nat_le (one + bytes) other) (nat_le (other + bytes') one) (search (rules, less))

periods_apart : (granules : ℕ) (taken : List Run) (address bytes period : ℕ) (lents : List Lent) → IsLaidOut 0 granules taken → address % 128 ≡ 0 → Contains taken (run_at address bytes)
    → (granules_for bytes ≡ granules_for (period_bytes period) → ⊥) → All (λ (lent : Lent). Contains taken (run_at lent.address (period_bytes period))) lents
    → (place : ℕ) → place < length (addresses_of lents) → are_apart address bytes (slice_index (addresses_of lents) place) (period_bytes period) ≡ true
periods_apart granules taken address bytes period [] laid aligned has differ owned place within = absurd (omega (arith, within))
periods_apart granules taken address bytes period (lent ∷ lents) laid aligned has differ owned zero within =
    blocks_apart address bytes lent.address (period_bytes period) aligned lent.aligned
    (runs_apart 0 granules taken (run_at address bytes) (run_at lent.address (period_bytes period)) laid has (owned 0 lent (omega arith)) differ)
periods_apart granules taken address bytes period (lent ∷ lents) laid aligned has differ owned (suc place) within =
    periods_apart granules taken address bytes period lents laid aligned has differ (λ k d less. owned (suc k) d (omega (arith, less))) place (omega (arith, within))

-- one of the rings of commands lies beside a recorder's ring
pub beside_recorder : (granules : ℕ) (taken : List Run) (address bytes : ℕ) (recorder : RecorderState) → IsLaidOut 0 granules taken → address % 128 ≡ 0 → Contains taken (run_at address bytes)
    → Differs bytes → OwnsBlocks taken recorder → IsBesideRecorder address bytes recorder
unfolding Differs
beside_recorder granules taken address bytes recorder laid aligned has differs owns = record {
  list = blocks_apart address bytes recorder.list.address (list_bytes recorder.geometry.periods) aligned recorder.list.aligned
      (runs_apart 0 granules taken (run_at address bytes) (run_at recorder.list.address (list_bytes recorder.geometry.periods)) laid has owns.list
      (differs.0 recorder.geometry.periods recorder.geometry.few_periods));
  periods = periods_apart granules taken address bytes recorder.geometry.period recorder.periods laid aligned has (differs.1 recorder.geometry.period) owns.periods;
}
