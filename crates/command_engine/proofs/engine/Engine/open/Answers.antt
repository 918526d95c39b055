use Rattle.std.proofs.Common.{◌≡◌, ◌∙◌, ℕ, ap, subst, sym, inr}
use Rattle.std.specs.Prelude.{Contains}
use Rattle.dma_pool.specs.declared.runs.Run.{Run}
use Rattle.dma_pool.specs.Pools.{PoolState, AddsRun, HasNoRun, granules_for}
use Rattle.dma_pool.specs.Blocks.{run_at}
use Rattle.command_engine.specs.Blocks.{corb_bytes, rirb_bytes}
use Rattle.dma_pool.proofs.Callers.{given_back}
use Rattle.command_engine.proofs.engine.Engine.open.Goals as goal

pub returns-in_default-take-clause-no_run : goal.returns-in_default-take-clause-no_run
returns-in_default-take-clause-no_run c = λ is. inr (record {
  corb = c.in-Ok.corb.address;
  middle = c.take.new.self.taken;
  corb_taken = record { fits = c.in-Ok.ensures.fits; adds = c.in-Ok.ensures.takes };
  none = subst (λ (n : ℕ). HasNoRun n c.take.new.self.taken (granules_for rirb_bytes)) c.in-Ok.ensures.granules c.in_default-take.ensures.none;
})

pub returns-in_default-take-clause-unchanged : goal.returns-in_default-take-clause-unchanged
returns-in_default-take-clause-unchanged c =
    let same = c.in_default-take.ensures.unchanged in
    given_back c.args.pool.now c.take.new.self c.give.new.self (run_at c.in-Ok.corb.address c.in-Ok.corb.bytes) c.in-Ok.ensures.fresh
    (subst (λ (n : ℕ). AddsRun c.args.pool.now.taken (run_at c.in-Ok.corb.address n) c.take.new.self.taken) (sym c.in-Ok.ensures.bytes) c.in-Ok.ensures.takes)
    (subst (λ (pool : PoolState). AddsRun c.give.new.self.taken (run_at c.in-Ok.corb.address c.in-Ok.corb.bytes) pool.taken) same c.give.ensures.gives)
    c.in-Ok.ensures.granules
    (subst (λ (pool : PoolState). c.give.new.self.granules ≡ pool.granules) same c.give.ensures.granules)

pub returns-in_default-with_capacity-clause-unchanged :
    goal.returns-in_default-with_capacity-clause-unchanged
returns-in_default-with_capacity-clause-unchanged c =
    let first = c.give-in_default-with_capacity in
    let second = c.give-in_default-with_capacity-2 in
    let same : first.new.self ≡ c.take.new.self = given_back c.take.new.self c.take-2.new.self first.new.self (run_at c.in-Ok-take.rirb.address c.in-Ok-take.rirb.bytes) c.in-Ok-take.ensures.fresh
    (subst (λ (n : ℕ). AddsRun c.take.new.self.taken (run_at c.in-Ok-take.rirb.address n) c.take-2.new.self.taken) (sym c.in-Ok-take.ensures.bytes) c.in-Ok-take.ensures.takes)
    first.ensures.gives c.in-Ok-take.ensures.granules first.ensures.granules in
    given_back c.args.pool.now c.take.new.self second.new.self (run_at c.in-Ok.corb.address c.in-Ok.corb.bytes) c.in-Ok.ensures.fresh
    (subst (λ (n : ℕ). AddsRun c.args.pool.now.taken (run_at c.in-Ok.corb.address n) c.take.new.self.taken) (sym c.in-Ok.ensures.bytes) c.in-Ok.ensures.takes)
    (subst (λ (pool : PoolState). AddsRun second.new.self.taken (run_at c.in-Ok.corb.address c.in-Ok.corb.bytes) pool.taken) same second.ensures.gives)
    c.in-Ok.ensures.granules
    (subst (λ (pool : PoolState). second.new.self.granules ≡ pool.granules) same second.ensures.granules)

-- CORB's run stays taken as RIRB's is
pub returns-clause-owns_corb : goal.returns-clause-owns_corb
returns-clause-owns_corb c =
    let run : Run = run_at c.lend.result.address corb_bytes in
    let same : run_at c.in-Ok.corb.address c.in-Ok.corb.bytes ≡ run =
    ap (λ (bytes : ℕ). run_at c.in-Ok.corb.address bytes) c.in-Ok.ensures.bytes ∙ ap (λ (address : ℕ). run_at address corb_bytes) (sym c.lend.ensures.address) in
    c.take-2.ensures.kept run (subst (Contains c.take.new.self.taken) same c.in-Ok.ensures.owned)

-- CORB's run stays taken while RIRB's is given back
pub give-requires-in_default-with_capacity-2 : goal.give-requires-in_default-with_capacity-2
give-requires-in_default-with_capacity-2 c =
    let corb : Run = run_at c.in-Ok.corb.address c.in-Ok.corb.bytes in
    c.give-in_default-with_capacity.ensures.kept corb (c.take-2.ensures.kept corb c.in-Ok.ensures.owned)
    (λ same. c.in-Ok-take.ensures.fresh (subst (Contains c.take.new.self.taken) same c.in-Ok.ensures.owned))
