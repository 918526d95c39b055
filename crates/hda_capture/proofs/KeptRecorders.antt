-- A recorder's ring that calls keep.
use Rattle.std.proofs.Common.{◌∙◌, List, sym, subst}
use Rattle.std.specs.Prelude.{All, Contains}
use Rattle.dma_pool.specs.declared.blocks.Lent.{Lent}
use Rattle.dma_pool.specs.declared.runs.Run.{Run}
use Rattle.dma_pool.specs.Blocks.{run_at}
use Rattle.period_writer.specs.declared.geometry.Geometry.{Geometry}
use Rattle.period_writer.specs.Rings.{period_bytes, list_bytes}
use Rattle.hda_capture.specs.Recorders.{RecorderState, KeepsRecorderRing, OwnsBlocks}

pub recorder_keeps_on : (one other last : RecorderState) → KeepsRecorderRing one other → KeepsRecorderRing other last → KeepsRecorderRing one last
recorder_keeps_on one other last first later = record {
  geometry = later.geometry ∙ first.geometry;
  list = later.list ∙ first.list;
  periods = later.periods ∙ first.periods;
  total = later.total ∙ first.total;
  records = later.records ∙ first.records;
}

pub recorder_owns_on : (taken : List Run) (old new : RecorderState) → KeepsRecorderRing old new → OwnsBlocks taken old → OwnsBlocks taken new
recorder_owns_on taken old new keeps owns = record {
  list = subst (λ (geometry : Geometry). Contains taken (run_at new.list.address (list_bytes geometry.periods))) (sym keeps.geometry)
      (subst (λ (list : Lent). Contains taken (run_at list.address (list_bytes old.geometry.periods))) (sym keeps.list) owns.list);
  periods = subst (λ (geometry : Geometry). All (λ (lent : Lent). Contains taken (run_at lent.address (period_bytes geometry.period))) new.periods) (sym keeps.geometry)
      (subst (λ (lents : List Lent). All (λ (lent : Lent). Contains taken (run_at lent.address (period_bytes old.geometry.period))) lents) (sym keeps.periods) owns.periods);
}
