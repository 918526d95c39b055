use Rattle.std.proofs.Common.{◌≤◌, ◌∙◌, ℕ, arith, sym, subst, ap}
use Rattle.std.specs.Prelude.{All, Contains}
use Rattle.dma_pool.specs.declared.blocks.Lent.{Lent}
use Rattle.dma_pool.specs.Blocks.{run_at}
use Rattle.period_writer.specs.Rings.{period_bytes, list_bytes}
use Rattle.period_writer.specs.Blocks.{AreDistinct, AddsAll, addresses_of}
use Rattle.hda_capture.specs.Recorders.{OwnsBlocks}
use Rattle.period_writer.proofs.Callers.{apart_distinct, beside_differs, others_stay}
use Rattle.hda_capture.proofs.recorder.Recorder.close.Goals as goal

pub give_all-requires-clause-owned : goal.give_all-requires-clause-owned
give_all-requires-clause-owned c =
    let owns = subst (OwnsBlocks c.args.pool.now.taken) (sym c.self.view_is) c.requires in
    subst (λ (bytes : ℕ). All (λ (lent : Lent). Contains c.args.pool.now.taken (run_at lent.address bytes)) c.self.inside.periods.items) (sym c.period_bytes.ensures) owns.periods

pub give_all-requires-clause-distinct : goal.give_all-requires-clause-distinct
give_all-requires-clause-distinct c =
    let some : 1 ≤ period_bytes c.self.inside.geometry.period = let one = c.self.inside.geometry.some in omega (arith, one) in
    subst (λ (bytes : ℕ). AreDistinct bytes (addresses_of c.self.inside.periods.items)) (sym c.period_bytes.ensures)
    (apart_distinct (period_bytes c.self.inside.geometry.period) c.self.inside.periods.items some c.self.invariant.0.apart)

pub give-requires : goal.give-requires
give-requires c =
    let recorder = c.self.inside in
    let is = c.self.invariant.0 in
    let owns = subst (OwnsBlocks c.args.pool.now.taken) (sym c.self.view_is) c.requires in
    let some : 1 ≤ period_bytes c.self.inside.geometry.period = let one = c.self.inside.geometry.some in omega (arith, one) in
    let some_list : 1 ≤ list_bytes c.self.inside.geometry.periods = let two = c.self.inside.geometry.some_periods in omega (arith, two) in
    let gives = subst (λ (bytes : ℕ). AddsAll bytes c.give_all.new.pool.taken (addresses_of c.self.inside.periods.items) c.args.pool.now.taken) c.period_bytes.ensures c.give_all.ensures.gives in
    let stays = others_stay (period_bytes recorder.geometry.period) c.give_all.new.pool.taken (addresses_of recorder.periods.items) c.args.pool.now.taken (run_at recorder.list.address (list_bytes recorder.geometry.periods)) gives owns.list
    (beside_differs recorder.list.address (list_bytes recorder.geometry.periods) (period_bytes recorder.geometry.period) recorder.periods.items recorder.list.aligned some_list some is.beside) in
    subst (Contains c.give_all.new.pool.taken)
    (sym (ap (λ (bytes : ℕ). run_at c.back.result.address bytes) (c.back.ensures.bytes ∙ is.list_size) ∙ ap (λ (address : ℕ). run_at address (list_bytes c.self.inside.geometry.periods)) c.back.ensures.address)) stays
