use Rattle.std.proofs.Common.{rules}
use Rattle.sound_report.proofs.Callers.{line_more, lines_left, no_memory, no_sink}
use Rattle.capture_report.specs.CaptureLines.{record_line}
use Rattle.capture_report.proofs.runs.write_runs.Goals as goal

pub returns-in_err-push_run-clause-text : goal.returns-in_err-push_run-clause-text
returns-in_err-push_run-clause-text g c = no_memory c.from_residual.result _ c.from_residual.ensures.0 c.loop-run.invariant.text

pub returns-in_err-turn-clause-text : goal.returns-in_err-turn-clause-text
returns-in_err-turn-clause-text g c =
    no_sink c.from_residual-in_err-turn.result _ c.loop-run.page.items _ _ _ c.from_residual-in_err-turn.ensures.0 c.loop-run.invariant.text
    (lines_left record_line c.args.runs.now c.loop-run.run-index _ c.loop-run-test.true)
    c.in_ok-push_run.ensures c.in_err-turn.ensures.text

pub loop-run-preserved : goal.loop-run-preserved
loop-run-preserved g c =
    record {
      text =
          line_more c.loop-run.page.items _ _ _ c.loop-run.invariant.text
          (lines_left record_line c.args.runs.now c.loop-run.run-index _ c.loop-run-test.true)
          c.in_ok-push_run.ensures c.in_ok-turn.ensures.text;
      pieces = search rules;
      later = search rules;
    }
