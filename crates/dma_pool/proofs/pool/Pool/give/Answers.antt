use Rattle.std.proofs.Common.{◌≡◌, ◌<◌, suc, take, drop, get_or, sym, ap, length, arith}
use Rattle.dma_pool.specs.declared.runs.Run.{Run}
use Rattle.dma_pool.proofs.LaidOut.{laid_out-remove, runs_round, AddsRun-others}
use Rattle.dma_pool.specs.Blocks.{run_at}
use Rattle.dma_pool.proofs.pool.Pool.give.Goals as goal

abbrev nothing : Run
nothing = record { first = 0; count = 0 }

pub invariant_of-self : goal.invariant_of-self
invariant_of-self c = (
  c.self.invariant.0,
  rw c.remove.ensures.items (laid_out-remove c.self.inside.granules c.self.inside.taken.items c.index_of-index.result nothing (omega (arith, c.index_of-index.ensures.within, ap length c.deref.ensures.value)) c.self.invariant.1),
  omega (arith, c.remove.ensures.capacity, c.self.invariant.2),
)

pub returns-clause-gives : goal.returns-clause-gives
returns-clause-gives c =
    let run = run_at c.args.block.address c.args.block.bytes in
    let within : c.index_of-index.result < length c.self.inside.taken.items = omega (arith, c.index_of-index.ensures.within, ap length c.deref.ensures.value) in
    let round = runs_round c.self.inside.taken.items c.index_of-index.result run within in
    let here : get_or c.self.inside.taken.items c.index_of-index.result run ≡ run = rw (c.deref.ensures.value, c.div_ceil.ensures, c.end-address.ensures) at c.index_of-index.ensures.here in
    record {
      front = take c.index_of-index.result c.self.inside.taken.items;
      back = drop (suc c.index_of-index.result) c.self.inside.taken.items;
      was = c.remove.ensures.items;
      becomes = rw (← c.self.view_is) (sym (rw here at round));
    }

pub returns-clause-kept : goal.returns-clause-kept
returns-clause-kept c = λ run h differs. AddsRun-others c.remove.new.self.items _ c.args.self.now.taken (returns-clause-gives c) run h differs
