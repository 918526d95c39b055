use Rattle.std.proofs.Common.{rules, ◌∙◌}
use Rattle.sound_report.proofs.Callers.{line_more, no_memory, no_sink}
use Rattle.capture_report.proofs.FileLemmas.{lines_front}
use Rattle.capture_report.proofs.file.write_file.Goals as goal

pub returns-in_err-push_wav_line-clause-text : goal.returns-in_err-push_wav_line-clause-text
returns-in_err-push_wav_line-clause-text g c =
    no_memory c.from_residual.result _ c.from_residual.ensures.0 c.loop-line.invariant.text

pub returns-in_err-turn-clause-text : goal.returns-in_err-turn-clause-text
returns-in_err-turn-clause-text g c =
    let steps = c.in-Some.ensures.steps in
    no_sink c.from_residual-in_err-turn.result _ c.loop-line.page.items _ _ _ c.from_residual-in_err-turn.ensures.0 c.loop-line.invariant.text
    (lines_front _ _ _ _ c.loop-line.invariant.size steps.1.0 steps.1.1 steps.1.2) c.in_ok-push_wav_line.ensures c.in_err-turn.ensures.text

pub loop-line-preserved : goal.loop-line-preserved
loop-line-preserved g c =
    let steps = c.in-Some.ensures.steps in
    record {
      size = steps.0 ∙ c.loop-line.invariant.size;
      text =
          line_more c.loop-line.page.items _ _ _ c.loop-line.invariant.text
          (lines_front _ _ _ _ c.loop-line.invariant.size steps.1.0 steps.1.1 steps.1.2) c.in_ok-push_wav_line.ensures c.in_ok-turn.ensures.text;
      pieces = search rules;
      later = search rules;
    }
