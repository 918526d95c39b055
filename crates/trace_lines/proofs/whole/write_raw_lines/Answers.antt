use Rattle.std.proofs.Common.{rules}
use Rattle.sound_report.proofs.Callers.{line_more, lines_left, no_memory, no_sink}
use Rattle.trace_lines.specs.Raw.{raw_entry}
use Rattle.trace_lines.proofs.whole.write_raw_lines.Goals as goal

pub returns-in_err-push_raw_line-clause-text : goal.returns-in_err-push_raw_line-clause-text
returns-in_err-push_raw_line-clause-text g c = no_memory c.from_residual.result _ c.from_residual.ensures.0 c.loop-entry.invariant.text

pub returns-in_err-turn-clause-text : goal.returns-in_err-turn-clause-text
returns-in_err-turn-clause-text g c =
    no_sink c.from_residual-in_err-turn.result _ c.loop-entry.page.items _ _ _ c.from_residual-in_err-turn.ensures.0 c.loop-entry.invariant.text
    (lines_left (raw_entry c.args.journal.now) c.args.entries.now c.loop-entry.entry-index _ c.loop-entry-test.true)
    c.in_ok-push_raw_line.ensures c.in_err-turn.ensures.text

pub loop-entry-preserved : goal.loop-entry-preserved
loop-entry-preserved g c =
    record {
      text =
          line_more c.loop-entry.page.items _ _ _ c.loop-entry.invariant.text
          (lines_left (raw_entry c.args.journal.now) c.args.entries.now c.loop-entry.entry-index _ c.loop-entry-test.true)
          c.in_ok-push_raw_line.ensures c.in_ok-turn.ensures.text;
      pieces = search rules;
      later = search rules;
    }
