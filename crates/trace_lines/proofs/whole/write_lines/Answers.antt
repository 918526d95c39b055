use Rattle.std.proofs.Common.{rules}
use Rattle.sound_report.proofs.Callers.{line_more, no_memory, no_sink}
use Rattle.trace_lines.proofs.LineLemmas.{lines_left}
use Rattle.trace_lines.proofs.whole.write_lines.Goals as goal

-- memory was wanting for the line, or behind it
pub returns-in_err-push_line-clause-text : goal.returns-in_err-push_line-clause-text
returns-in_err-push_line-clause-text g c = no_memory c.from_residual.result _ c.from_residual.ensures.0 c.loop-entry.invariant.text

pub returns-in_err-pass-clause-text : goal.returns-in_err-pass-clause-text
returns-in_err-pass-clause-text g c = no_memory c.from_residual-in_err-pass.result _ c.from_residual-in_err-pass.ensures.0 c.loop-entry.invariant.text

-- the sink failed at the page
pub returns-in_err-turn-clause-text : goal.returns-in_err-turn-clause-text
returns-in_err-turn-clause-text g c =
    let reader = c.loop-entry.reader in
    let after = c.pass.new.self in
    no_sink c.from_residual-in_err-turn.result _ c.loop-entry.page.items _ _ _ c.from_residual-in_err-turn.ensures.0 c.loop-entry.invariant.text
    (lines_left reader.bases reader.end reader.buffers.items after.buffers.items reader.situation after.situation c.args.journal.now c.args.entries.now
    c.loop-entry.entry-index _ c.loop-entry-test.true c.in_ok-pass.ensures.buffers c.in_ok-pass.ensures.situation)
    c.in_ok-push_line.ensures c.in_err-turn.ensures.text

-- one entry more
pub loop-entry-preserved : goal.loop-entry-preserved
loop-entry-preserved g c =
    let reader = c.loop-entry.reader in
    let after = c.pass.new.self in
    record {
      text =
          rw (c.in_ok-pass.ensures.bases, c.in_ok-pass.ensures.end)
          (line_more c.loop-entry.page.items _ _ _ c.loop-entry.invariant.text
          (lines_left reader.bases reader.end reader.buffers.items after.buffers.items reader.situation after.situation c.args.journal.now c.args.entries.now
          c.loop-entry.entry-index _ c.loop-entry-test.true c.in_ok-pass.ensures.buffers c.in_ok-pass.ensures.situation)
          c.in_ok-push_line.ensures c.in_ok-turn.ensures.text);
      bases = search rules;
      end = search rules;
      pieces = search rules;
      later = search rules;
    }
