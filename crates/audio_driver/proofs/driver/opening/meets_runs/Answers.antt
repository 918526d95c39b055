use Rattle.std.proofs.Common.{◌≡◌, ◌∙◌, ◌/◌, ℕ, subst, sym, inl, inr}
use Rattle.std.specs.Prelude.{Contains}
use Rattle.std.proofs.lemmas.Result.{on_ok_weaker, on_err_weaker}
use Rattle.dma_pool.specs.Pools.{PoolState, IsFirstFit, AddsRun, HasNoRun, granules_for}
use Rattle.dma_pool.specs.Blocks.{run_at}
use Rattle.dma_pool.proofs.Callers.{given_back}
use Rattle.command_engine.specs.Blocks.{corb_bytes, rirb_bytes}
use Rattle.command_engine.specs.Opening as of_engine
use Rattle.audio_driver.proofs.driver.opening.meets_runs.Goals as goal

-- a block that is given back to the pool as its take left it
back : (pool middle met given : PoolState) (address size bytes : ℕ) → (Contains pool.taken (run_at address size) → ⊥) → size ≡ bytes → AddsRun pool.taken (run_at address bytes) middle.taken → middle.granules ≡ pool.granules
    → met ≡ middle → AddsRun given.taken (run_at address size) met.taken → given.granules ≡ met.granules → given ≡ pool
back pool middle met given address size bytes fresh size_is adds kept same gives stayed =
    given_back pool middle given (run_at address size) fresh (subst (λ (n : ℕ). AddsRun pool.taken (run_at address n) middle.taken) (sym size_is) adds)
    (subst (λ (pool : PoolState). AddsRun given.taken (run_at address size) pool.taken) same gives) kept (subst (λ (pool : PoolState). given.granules ≡ pool.granules) same stayed)

pub returns-in_default-clause-none : goal.returns-in_default-clause-none
returns-in_default-clause-none c = inl (inr (record {
  corb = c.in_ok-corb.corb.address;
  middle = c.take.new.self.taken;
  corb_taken = record { fits = c.in_ok-corb.ensures.fits; adds = c.in_ok-corb.ensures.takes };
  none = subst (λ (n : ℕ). HasNoRun n c.take.new.self.taken (granules_for rirb_bytes)) c.in_ok-corb.ensures.granules c.in_default.ensures.none;
}))

pub returns-in_default-clause-unchanged : goal.returns-in_default-clause-unchanged
returns-in_default-clause-unchanged c =
    back c.args.pool.now c.take.new.self c.take-2.new.self c.give.new.self c.in_ok-corb.corb.address c.in_ok-corb.corb.bytes corb_bytes c.in_ok-corb.ensures.fresh c.in_ok-corb.ensures.bytes c.in_ok-corb.ensures.takes c.in_ok-corb.ensures.granules
    c.in_default.ensures.unchanged c.give.ensures.gives c.give.ensures.granules

pub give-requires-3 : goal.give-requires-3
give-requires-3 c =
    let gave = back c.take.new.self c.take-2.new.self c.meets_runs-met.new.pool c.give-2.new.self c.in-Ok.rirb.address c.in-Ok.rirb.bytes rirb_bytes c.in-Ok.ensures.fresh c.in-Ok.ensures.bytes c.in-Ok.ensures.takes c.in-Ok.ensures.granules
    c.meets_runs-met.ensures.unchanged c.give-2.ensures.gives c.give-2.ensures.granules in
    subst (λ (pool : PoolState). Contains pool.taken (run_at c.in_ok-corb.corb.address c.in_ok-corb.corb.bytes)) (sym gave) c.in_ok-corb.ensures.owned

-- both blocks of the engine were taken
both : (pool one other : PoolState) (corb rirb : ℕ) → IsFirstFit pool.granules pool.taken (corb / 128) (granules_for corb_bytes) → AddsRun pool.taken (run_at corb corb_bytes) one.taken → one.granules ≡ pool.granules
    → IsFirstFit one.granules one.taken (rirb / 128) (granules_for rirb_bytes) → AddsRun one.taken (run_at rirb rirb_bytes) other.taken → other.granules ≡ one.granules → of_engine.OpensEngine pool corb rirb other
both pool one other corb rirb fits adds kept fits' adds' kept' = record {
  middle = one.taken;
  corb_taken = record { fits = fits; adds = adds };
  rirb_taken = record { fits = subst (λ (granules : ℕ). IsFirstFit granules one.taken (rirb / 128) (granules_for rirb_bytes)) kept fits'; adds = adds' };
  granules = kept' ∙ kept;
}

pub returns-clause-runs : goal.returns-clause-runs
returns-clause-runs c = on_ok_weaker c.meets_runs-met.result (λ has. (
  c.in_ok-corb.corb.address,
  c.in-Ok.rirb.address,
  has.0,
  has.1,
  has.2,
  record {
    middle = c.take-2.new.self;
    engine = both c.args.pool.now c.take.new.self c.take-2.new.self c.in_ok-corb.corb.address c.in-Ok.rirb.address c.in_ok-corb.ensures.fits c.in_ok-corb.ensures.takes c.in_ok-corb.ensures.granules c.in-Ok.ensures.fits c.in-Ok.ensures.takes c.in-Ok.ensures.granules;
    writer = has.3;
  },
)) c.meets_runs-met.ensures.runs

pub returns-clause-none : goal.returns-clause-none
returns-clause-none c = on_err_weaker c.meets_runs-met.result (λ none. inr (record {
  corb = c.in_ok-corb.corb.address;
  rirb = c.in-Ok.rirb.address;
  middle = c.take-2.new.self;
  engine = both c.args.pool.now c.take.new.self c.take-2.new.self c.in_ok-corb.corb.address c.in-Ok.rirb.address c.in_ok-corb.ensures.fits c.in_ok-corb.ensures.takes c.in_ok-corb.ensures.granules c.in-Ok.ensures.fits c.in-Ok.ensures.takes c.in-Ok.ensures.granules;
  none = none;
})) c.meets_runs-met.ensures.none

pub returns-clause-unchanged : goal.returns-clause-unchanged
returns-clause-unchanged c =
    let gave = back c.take.new.self c.take-2.new.self c.meets_runs-met.new.pool c.give-2.new.self c.in-Ok.rirb.address c.in-Ok.rirb.bytes rirb_bytes c.in-Ok.ensures.fresh c.in-Ok.ensures.bytes c.in-Ok.ensures.takes c.in-Ok.ensures.granules
    c.meets_runs-met.ensures.unchanged c.give-2.ensures.gives c.give-2.ensures.granules in
    back c.args.pool.now c.take.new.self c.give-2.new.self c.give-3.new.self c.in_ok-corb.corb.address c.in_ok-corb.corb.bytes corb_bytes c.in_ok-corb.ensures.fresh c.in_ok-corb.ensures.bytes c.in_ok-corb.ensures.takes c.in_ok-corb.ensures.granules
    gave c.give-3.ensures.gives c.give-3.ensures.granules
