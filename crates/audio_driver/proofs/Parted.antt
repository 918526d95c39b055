-- The parts of a driver: its phase, and blocks that are different taken runs of one pool.
use Rattle.std.proofs.Common.{◌≡◌, ◌≤◌, ◌<◌, ◌+◌, ◌%◌, ◌⊎◌, inl, inr, ℕ, zero, suc, Bool, true, false, List, [], ◌∷◌, length, get_or, nat_le, refl, sym, ap, subst, ◌∙◌, arith, rules}
use Rattle.std.specs.Prelude.{Contains, All, slice_index}
use Rattle.std.proofs.lemmas.Bool.{or_left, or_right}
use Rattle.dma_pool.specs.declared.blocks.Lent.{Lent}
use Rattle.dma_pool.specs.declared.runs.Run.{Run}
use Rattle.dma_pool.specs.Pools.{IsLaidOut, end_of, granules_for}
use Rattle.dma_pool.specs.Blocks.{run_at}
use Rattle.command_engine.specs.Blocks.{corb_bytes, rirb_bytes}
use Rattle.period_writer.specs.Blocks.{are_apart, addresses_of}
use Rattle.period_writer.specs.Rings.{period_bytes, list_bytes}
use Rattle.period_writer.specs.declared.course.Ran.{Ran}
use Rattle.period_writer.specs.declared.course.Ran.TheVariants as ran
use Rattle.period_writer.specs.Writers.{WriterState, OwnsBlocks}
use Rattle.driver_progress.specs.declared.phase.Phase.{Phase}
use Rattle.driver_progress.specs.declared.phase.Phase.TheVariants.{Ready}
use Rattle.driver_progress.specs.Phases.{is_ready}
use Rattle.audio_driver.specs.States.{phase_if}
use Rattle.audio_driver.specs.Parting.{IsBesideRing}

-- ---- the phase

-- no run leads to `Ready`
pub not_started : (started : Bool) (phase : Phase) (ran : Ran) → is_ready (phase_if started phase ran) ≡ true → started ≡ false
not_started false phase ran ready = refl
not_started true phase ran.Playing ready = cc
not_started true phase ran.Drained ready = cc
not_started true phase (ran.Late from to limit) ready = cc

pub ready_before : (started : Bool) (phase : Phase) (ran : Ran) → is_ready (phase_if started phase ran) ≡ true → is_ready phase ≡ true
ready_before false phase ran ready = ready
ready_before true phase ran.Playing ready = cc
ready_before true phase ran.Drained ready = cc
ready_before true phase (ran.Late from to limit) ready = cc

pub not_ready : (phase : Phase) → is_ready phase ≡ false → phase ≡ Ready → ⊥
not_ready phase other same = let is = sym (ap is_ready same) ∙ other in cc

-- ---- taken runs

later : (from granules : ℕ) (runs : List Run) (place : ℕ) (run : Run) → IsLaidOut from granules runs → place < length runs → get_or runs place run ≡ run → from ≤ run.first
later from granules [] place run laid within is = absurd (omega (arith, within))
later from granules (first ∷ runs) zero run laid within is = subst (λ (run : Run). from ≤ run.first) is laid.0
later from granules (first ∷ runs) (suc place) run laid within is =
    let rest = later (end_of first) granules runs place run laid.2 (omega (arith, within)) is in
    omega (arith, rest, laid.0)

-- two taken runs of other lengths lie apart
runs_apart : (from granules : ℕ) (runs : List Run) (one other : Run) → IsLaidOut from granules runs → Contains runs one → Contains runs other → (one.count ≡ other.count → ⊥)
    → (end_of one ≤ other.first) ⊎ (end_of other ≤ one.first)
runs_apart from granules [] one other laid (place, within, is) has differ = absurd (omega (arith, within))
runs_apart from granules (run ∷ runs) one other laid (zero, within, is) (zero, within', is') differ =
    absurd (differ (ap (λ (run : Run). run.count) (sym is ∙ is')))
runs_apart from granules (run ∷ runs) one other laid (zero, within, is) (suc place, within', is') differ =
    inl (subst (λ (run : Run). end_of run ≤ other.first) is (later (end_of run) granules runs place other laid.2 (omega (arith, within')) is'))
runs_apart from granules (run ∷ runs) one other laid (suc place, within, is) (zero, within', is') differ =
    inr (subst (λ (run : Run). end_of run ≤ one.first) is' (later (end_of run) granules runs place one laid.2 (omega (arith, within)) is))
runs_apart from granules (run ∷ runs) one other laid (suc place, within, is) (suc place', within', is') differ =
    runs_apart (end_of run) granules runs one other laid.2 (place, omega (arith, within), is) (place', omega (arith, within'), is') differ

-- so do their blocks
blocks_apart : (one bytes other bytes' : ℕ) → one % 128 ≡ 0 → other % 128 ≡ 0
    → (end_of (run_at one bytes) ≤ (run_at other bytes').first) ⊎ (end_of (run_at other bytes') ≤ (run_at one bytes).first)
    → are_apart one bytes other bytes' ≡ true
blocks_apart one bytes other bytes' aligned aligned' (inl before) =
    let less : one + bytes ≤ other = omega (arith, before, aligned, aligned') in
    or_left (nat_le (one + bytes) other) (nat_le (other + bytes') one) (search (rules, less))
blocks_apart one bytes other bytes' aligned aligned' (inr behind) =
    let less : other + bytes' ≤ one = omega (arith, behind, aligned, aligned') in
    or_right (nat_le (one + bytes) other) (nat_le (other + bytes') one) (search (rules, less))

-- ---- the blocks of an engine and of a ring

-- the list of buffers has 4 granules at most, and a period a multiple of 3
pub Differs : (bytes : ℕ) → Type 0
Differs bytes = ((periods : ℕ) → periods ≤ 32 → granules_for bytes ≡ granules_for (list_bytes periods) → ⊥) × ((period : ℕ) → granules_for bytes ≡ granules_for (period_bytes period) → ⊥)

pub corb_differs : Differs corb_bytes
unfolding Differs
corb_differs = (λ periods few same. omega (arith, few, same), λ period same. omega (arith, same))

pub rirb_differs : Differs rirb_bytes
unfolding Differs
rirb_differs = (λ periods few same. omega (arith, few, same), λ period same. omega (arith, same))

periods_apart : (granules : ℕ) (taken : List Run) (address bytes period : ℕ) (lents : List Lent) → IsLaidOut 0 granules taken → address % 128 ≡ 0 → Contains taken (run_at address bytes)
    → (granules_for bytes ≡ granules_for (period_bytes period) → ⊥) → All (λ (lent : Lent). Contains taken (run_at lent.address (period_bytes period))) lents
    → (place : ℕ) → place < length (addresses_of lents) → are_apart address bytes (slice_index (addresses_of lents) place) (period_bytes period) ≡ true
periods_apart granules taken address bytes period [] laid aligned has differ owned place within = absurd (omega (arith, within))
periods_apart granules taken address bytes period (lent ∷ lents) laid aligned has differ owned zero within =
    blocks_apart address bytes lent.address (period_bytes period) aligned lent.aligned
    (runs_apart 0 granules taken (run_at address bytes) (run_at lent.address (period_bytes period)) laid has (owned 0 lent (omega arith)) differ)
periods_apart granules taken address bytes period (lent ∷ lents) laid aligned has differ owned (suc place) within =
    periods_apart granules taken address bytes period lents laid aligned has differ (λ k d less. owned (suc k) d (omega (arith, less))) place (omega (arith, within))

pub beside_ring : (granules : ℕ) (taken : List Run) (address bytes : ℕ) (writer : WriterState) → IsLaidOut 0 granules taken → address % 128 ≡ 0 → Contains taken (run_at address bytes)
    → Differs bytes → OwnsBlocks taken writer → IsBesideRing address bytes writer
unfolding Differs
beside_ring granules taken address bytes writer laid aligned has differs owns = record {
  list = blocks_apart address bytes writer.list.address (list_bytes writer.geometry.periods) aligned writer.list.aligned
      (runs_apart 0 granules taken (run_at address bytes) (run_at writer.list.address (list_bytes writer.geometry.periods)) laid has owns.list
      (differs.0 writer.geometry.periods writer.geometry.few_periods));
  periods = periods_apart granules taken address bytes writer.geometry.period writer.periods laid aligned has (differs.1 writer.geometry.period) owns.periods;
}
