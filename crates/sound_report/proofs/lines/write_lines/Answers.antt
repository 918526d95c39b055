use Rattle.std.proofs.Common.{rules}
use Rattle.sound_report.proofs.PageLemmas.{line_more, lines_left_at, no_memory, no_sink}
use Rattle.sound_report.proofs.lines.write_lines.Goals as goal

pub returns-in_err-push_line-clause-text : goal.returns-in_err-push_line-clause-text
returns-in_err-push_line-clause-text g c = no_memory c.from_residual.result _ c.from_residual.ensures.0 c.loop-line.invariant.text

pub returns-in_err-turn-clause-text : goal.returns-in_err-turn-clause-text
returns-in_err-turn-clause-text g c =
    no_sink c.from_residual-in_err-turn.result _ c.loop-line.page.items _ _ _ c.from_residual-in_err-turn.ensures.0 c.loop-line.invariant.text
    (lines_left_at g.L.HasLine.line c.args.lines.now c.loop-line.line-index c.line-item.result c.loop-line-test.true c.line-item.is) c.in_ok-push_line.ensures c.in_err-turn.ensures.text

pub loop-line-preserved : goal.loop-line-preserved
loop-line-preserved g c =
    record {
      text =
          line_more c.loop-line.page.items _ _ _ c.loop-line.invariant.text
          (lines_left_at g.L.HasLine.line c.args.lines.now c.loop-line.line-index c.line-item.result c.loop-line-test.true c.line-item.is) c.in_ok-push_line.ensures c.in_ok-turn.ensures.text;
      pieces = search rules;
      later = search rules;
    }
