use Rattle.std.proofs.Common.{◌≡◌, ◌-◌, ℕ, length, [], ◌∷◌, arith, refl, sym, subst}
use Rattle.std.specs.Prelude.{Contains}
use Rattle.std.proofs.lemmas.Result.{on_ok_weaker, on_err_weaker}
use Rattle.dma_pool.specs.Blocks.{run_at}
use Rattle.dma_pool.specs.Pools.{PoolState, AddsRun}
use Rattle.dma_pool.specs.Several.{TakesAll, MeetsNoRun}
use Rattle.dma_pool.proofs.Callers.{given_back}
use Rattle.period_writer.specs.Blocks.{MeetRuns}
use Rattle.period_writer.proofs.blocks.+meet_runs.Goals as goal

pub returns-then-count-eq0-clause-runs : goal.returns-then-count-eq0-clause-runs
returns-then-count-eq0-clause-runs t c = record { addresses = []; after = c.args.pool.now.taken; takes = refl; number = sym c.if-count-eq0.true }

pub returns-clause-runs : goal.returns-clause-runs
returns-clause-runs t c = on_ok_weaker c.meet_runs-met.result (λ rest. record {
  addresses = c.in_ok-block.block.address ∷ rest.addresses;
  after = rest.after;
  takes = (
    c.take.new.self.taken,
    record { fits = c.in_ok-block.ensures.fits; adds = c.in_ok-block.ensures.takes },
    subst (λ (granules : ℕ). TakesAll granules c.args.bytes c.take.new.self.taken rest.addresses rest.after) c.in_ok-block.ensures.granules rest.takes,
  );
  number = (let some = c.if-count-eq0.false in let number = rest.number in omega (arith, some, number));
}) c.meet_runs-met.ensures.runs

pub returns-clause-none : goal.returns-clause-none
returns-clause-none t c = on_err_weaker c.meet_runs-met.result (λ later.
    let rest : MeetsNoRun c.args.pool.now.granules c.args.bytes (c.args.count - 1) c.take.new.self.taken =
    subst (λ (granules : ℕ). MeetsNoRun granules c.args.bytes (c.args.count - 1) c.take.new.self.taken) c.in_ok-block.ensures.granules later in record {
      addresses = c.in_ok-block.block.address ∷ rest.addresses;
      middle = rest.middle;
      before = (c.take.new.self.taken, record { fits = c.in_ok-block.ensures.fits; adds = c.in_ok-block.ensures.takes }, rest.before);
      few = (let some = c.if-count-eq0.false in let few = rest.few in omega (arith, few));
      none = rest.none;
    }) c.meet_runs-met.ensures.none

pub returns-clause-unchanged : goal.returns-clause-unchanged
returns-clause-unchanged t c =
    let same : c.meet_runs-met.new.pool ≡ c.take.new.self = c.meet_runs-met.ensures.unchanged in
    given_back c.args.pool.now c.take.new.self c.give.new.self (run_at c.in_ok-block.block.address c.in_ok-block.block.bytes) c.in_ok-block.ensures.fresh
    (subst (λ (n : ℕ). AddsRun c.args.pool.now.taken (run_at c.in_ok-block.block.address n) c.take.new.self.taken) (sym c.in_ok-block.ensures.bytes) c.in_ok-block.ensures.takes)
    (subst (λ (pool : PoolState). AddsRun c.give.new.self.taken (run_at c.in_ok-block.block.address c.in_ok-block.block.bytes) pool.taken) same c.give.ensures.gives)
    c.in_ok-block.ensures.granules
    (subst (λ (pool : PoolState). c.give.new.self.granules ≡ pool.granules) same c.give.ensures.granules)

pub give-requires : goal.give-requires
give-requires t c =
    subst (λ (pool : PoolState). Contains pool.taken (run_at c.in_ok-block.block.address c.in_ok-block.block.bytes)) (sym c.meet_runs-met.ensures.unchanged) c.in_ok-block.ensures.owned
