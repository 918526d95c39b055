use Rattle.std.proofs.Common.{◌≡◌, ◌-◌, ◌+◌, ◌∙◌, sym, suc, arith, ap}
use Rattle.run_picture.proofs.MomentLemmas.{meter_left, notes_left}
use Rattle.run_picture.proofs.moments.pass_frames.Goals as goal

-- one frame more
pub loop-frame-preserved : goal.loop-frame-preserved
loop-frame-preserved g c =
    let left : c.args.frames - c.loop-frame._frame ≡ suc (c.args.frames - (c.loop-frame._frame + 1)) = omega arith in
    record {
      meter =
          rw c.passed.ensures
          (sym (meter_left c.args.format _ _ c.loop-frame.meter left) ∙ c.loop-frame.invariant.meter);
      notes =
          rw (c.note.ensures, c.passed.ensures)
          (sym (notes_left g.N.Notes.noted c.args.format _ _ c.loop-frame.notes c.loop-frame.meter left)
          ∙ c.loop-frame.invariant.notes);
    }
