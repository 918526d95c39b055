use Rattle.std.proofs.Common.{rules, ◌+◌, refl, arith}
use Rattle.sound_report.proofs.Callers.{line_more, no_sink}
use Rattle.capture_report.proofs.OverrunLemmas.{after_all, after_dropped, after_taken, up_to_longer, up_to_none}
use Rattle.capture_report.proofs.PageParts.{took_as, writes_as}
use Rattle.capture_report.proofs.overruns.write_overruns.Goals as goal
use Rattle.capture_report.proofs.overruns.write_overruns.Goals.{then-taken-number+in_ok-write_begun, else-taken-number}

pub returns-in_err-write_begun-clause-text : goal.returns-in_err-write_begun-clause-text
returns-in_err-write_begun-clause-text g c =
    no_sink c.from_residual.result _ c.loop-number.page.items _ _ _ c.from_residual.ensures.0 c.loop-number.invariant.text
    (after_taken c.args.taken.now c.loop-number.number _ c.loop-number.begun (let test = c.loop-number-test.true in omega (arith, test)) c.if-taken-number.true c.loop-number.invariant.up) refl c.in_err-write_begun.ensures.text

pub loop-number-preserved : goal.loop-number-preserved
loop-number-preserved g c = elim c.if-taken-number.branch [
  | then-taken-number+in_ok-write_begun w ↦
      rw (w.begun-is, w.page-is, w.out-is)
      (record {
        up = up_to_none (c.loop-number.number + 1);
        text =
            line_more c.loop-number.page.items _ _ _ c.loop-number.invariant.text
            (after_taken c.args.taken.now c.loop-number.number _ c.loop-number.begun (let test = c.loop-number-test.true in omega (arith, test)) w.if-taken-number.true c.loop-number.invariant.up) refl
            w.in_ok-write_begun.ensures.text;
        pieces = search rules;
        later = search rules;
      })
  | else-taken-number w ↦
      rw (w.begun-is, w.page-is, w.out-is, w.with_one_more.ensures)
      (record {
        up = up_to_longer c.loop-number.number c.loop-number.begun c.loop-number.invariant.up;
        text =
            took_as c.loop-number.page.items
            (after_dropped c.args.taken.now c.loop-number.number _ c.loop-number.begun (let test = c.loop-number-test.true in omega (arith, test)) w.if-taken-number.false c.loop-number.invariant.up)
            c.loop-number.invariant.text;
        pieces = c.loop-number.invariant.pieces;
        later = c.loop-number.invariant.later;
      })
]

pub returns-clause-text : goal.returns-clause-text
returns-clause-text g c =
    writes_as _ c.write_begun-2.result _ c.loop-number.page.items
    (after_all c.args.taken.now c.loop-number.number c.loop-number.begun (let test = c.loop-number-test.false in omega (arith, test)))
    c.loop-number.invariant.text c.write_begun-2.ensures.text
