use Rattle.std.proofs.Common.{◌≡◌, ◌*◌, ◌∙◌, ℕ, Err, Ok, OnErr, Result, subst, sym, refl, inl, inr, ap}
use Rattle.std.proofs.lemmas.Result.{on_ok_weaker, on_err_weaker}
use Rattle.world_streams.specs.declared.buffers.TheConstants.{BUFFER_ENTRY_BYTES}
use Rattle.dma_pool.specs.Pools.{PoolState, AddsRun, HasNoRun, granules_for}
use Rattle.dma_pool.specs.Blocks.{run_at}
use Rattle.dma_pool.specs.Several.{TakesFirst, TakesAll, MeetsNoRun}
use Rattle.dma_pool.proofs.Callers.{given_back}
use Rattle.period_writer.specs.Rings.{period_bytes, list_bytes}
use Rattle.period_writer.proofs.writer.Writer.meets_runs.Goals as goal

on_err : {X E P : Type 0} (result : Result X E) → P → OnErr result P
on_err (Ok done) p = tt
on_err (Err fault) p = p

pub returns-in_err-list-clause-none : goal.returns-in_err-list-clause-none
returns-in_err-list-clause-none c =
    let e : c.from.result ≡ c.args.geometry.now.periods = c.from.ensures ∙ c.periods.ensures in
    on_err c.from_residual.result
    (inl (subst (λ (n : ℕ). HasNoRun c.args.pool.now.granules c.args.pool.now.taken (granules_for (BUFFER_ENTRY_BYTES * n))) e c.in_err-list.ensures.none))

-- the list was taken
first : (c : goal.After-give) → TakesFirst c.args.pool.now.granules (list_bytes c.args.geometry.now.periods) c.args.pool.now.taken c.in_ok-list.list.address c.take.new.self.taken
first c =
    let e : c.from.result ≡ c.args.geometry.now.periods = c.from.ensures ∙ c.periods.ensures in
    subst (λ (n : ℕ). TakesFirst c.args.pool.now.granules (BUFFER_ENTRY_BYTES * n) c.args.pool.now.taken c.in_ok-list.list.address c.take.new.self.taken) e
    (record { fits = c.in_ok-list.ensures.fits; adds = c.in_ok-list.ensures.takes })

pub returns-clause-runs : goal.returns-clause-runs
returns-clause-runs c = on_ok_weaker c.meet_runs-met.result (λ met. (
  c.in_ok-list.list.address,
  met.addresses,
  record { granules = c.args.pool.now.granules; taken = met.after },
  record {
    middle = c.take.new.self.taken;
    list_taken = first c;
    periods_taken = subst (λ (granules : ℕ). TakesAll granules (period_bytes c.args.geometry.now.period) c.take.new.self.taken met.addresses met.after) c.in_ok-list.ensures.granules
        (subst (λ (bytes : ℕ). TakesAll c.take.new.self.granules bytes c.take.new.self.taken met.addresses met.after) c.period_bytes.ensures met.takes);
    number = met.number ∙ c.periods-2.ensures;
    granules = refl;
  },
)) c.meet_runs-met.ensures.runs

pub returns-clause-none : goal.returns-clause-none
returns-clause-none c = on_err_weaker c.meet_runs-met.result (λ none. inr (record {
  list = c.in_ok-list.list.address;
  middle = c.take.new.self.taken;
  list_taken = first c;
  none = subst (λ (granules : ℕ). MeetsNoRun granules (period_bytes c.args.geometry.now.period) c.args.geometry.now.periods c.take.new.self.taken) c.in_ok-list.ensures.granules
      (subst (λ (count : ℕ). MeetsNoRun c.take.new.self.granules (period_bytes c.args.geometry.now.period) count c.take.new.self.taken) c.periods-2.ensures
      (subst (λ (bytes : ℕ). MeetsNoRun c.take.new.self.granules bytes c.periods-2.result c.take.new.self.taken) c.period_bytes.ensures none));
})) c.meet_runs-met.ensures.none

pub returns-clause-unchanged : goal.returns-clause-unchanged
returns-clause-unchanged c =
    let same : c.meet_runs-met.new.pool ≡ c.take.new.self = c.meet_runs-met.ensures.unchanged in
    given_back c.args.pool.now c.take.new.self c.give.new.self (run_at c.in_ok-list.list.address c.in_ok-list.list.bytes) c.in_ok-list.ensures.fresh
    (subst (λ (n : ℕ). AddsRun c.args.pool.now.taken (run_at c.in_ok-list.list.address n) c.take.new.self.taken) (sym c.in_ok-list.ensures.bytes) c.in_ok-list.ensures.takes)
    (subst (λ (pool : PoolState). AddsRun c.give.new.self.taken (run_at c.in_ok-list.list.address c.in_ok-list.list.bytes) pool.taken) same c.give.ensures.gives)
    c.in_ok-list.ensures.granules
    (subst (λ (pool : PoolState). c.give.new.self.granules ≡ pool.granules) same c.give.ensures.granules)
