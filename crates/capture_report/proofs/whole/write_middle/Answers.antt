use Rattle.std.proofs.Common.{append_assoc, ◌++◌, refl}
use Rattle.std.specs.List.{flat_map}
use Rattle.sound_report.proofs.Callers.{line_more, no_sink}
use Rattle.capture_report.specs.CaptureLines.{record_line}
use Rattle.capture_report.specs.CaptureTexts.{capture_middle}
use Rattle.capture_report.specs.Overruns.{overrun_lines}
use Rattle.capture_report.specs.WavLines.{wav_lines}
use Rattle.capture_report.proofs.PageParts.{last_part, nothing_yet}
use Rattle.capture_report.proofs.whole.write_middle.Goals as goal

pub returns-in_err-write_runs-clause-text : goal.returns-in_err-write_runs-clause-text
returns-in_err-write_runs-clause-text g c =
    let captured = c.args.captured.now in
    no_sink c.from_residual.result _ c.args.page.now.items _ _ _ c.from_residual.ensures.0
    (nothing_yet _ (c.args.page.now.items ++ capture_middle captured))
    (append_assoc (flat_map record_line captured.runs) (overrun_lines captured.taken) (wav_lines captured.file)) refl
    (rw c.as_slice.ensures at c.in_err-write_runs.ensures.text)

pub returns-in_err-write_overruns-clause-text : goal.returns-in_err-write_overruns-clause-text
returns-in_err-write_overruns-clause-text g c =
    let captured = c.args.captured.now in
    no_sink c.from_residual-in_err-write_overruns.result _ c.write_runs.new.page.items _ (overrun_lines captured.taken) (wav_lines captured.file) c.from_residual-in_err-write_overruns.ensures.0
    (line_more c.args.page.now.items _ _ _ (nothing_yet _ (c.args.page.now.items ++ capture_middle captured))
    (append_assoc (flat_map record_line captured.runs) (overrun_lines captured.taken) (wav_lines captured.file)) refl
    (rw c.as_slice.ensures at c.in_ok-write_runs.ensures.text)) refl refl
    (rw c.as_slice-2.ensures at c.in_err-write_overruns.ensures.text)

pub returns-clause-text : goal.returns-clause-text
returns-clause-text g c =
    let captured = c.args.captured.now in
    last_part _ c.write_file.result _ c.write_overruns.new.page.items (wav_lines captured.file)
    (line_more c.write_runs.new.page.items _ (overrun_lines captured.taken) (wav_lines captured.file)
    (line_more c.args.page.now.items _ _ _ (nothing_yet _ (c.args.page.now.items ++ capture_middle captured))
    (append_assoc (flat_map record_line captured.runs) (overrun_lines captured.taken) (wav_lines captured.file)) refl
    (rw c.as_slice.ensures at c.in_ok-write_runs.ensures.text)) refl refl
    (rw c.as_slice-2.ensures at c.in_ok-write_overruns.ensures.text))
    (rw c.as_slice-3.ensures at c.write_file.ensures.text)
