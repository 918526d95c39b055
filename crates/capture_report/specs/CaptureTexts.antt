-- The whole text of a capture. This project's own.
use Rattle.std.specs.Prelude.{List, ℕ, ◌++◌}
use Rattle.std.specs.List.{flat_map}
use Rattle.capture_report.specs.declared.captured.Captured.{Captured}
use Rattle.capture_report.specs.CaptureLines.{input_lines, record_line, capture_end}
use Rattle.capture_report.specs.Overruns.{overrun_lines}
use Rattle.capture_report.specs.WavLines.{wav_lines}

-- the last line
abbrev pub capture_last_line : Captured → List ℕ
capture_last_line captured = capture_end captured.total captured.fault

-- the lines between the input and the last one: runs, overruns, and the file
abbrev pub capture_middle : Captured → List ℕ
capture_middle captured =
    flat_map record_line captured.runs
    ++ overrun_lines captured.taken
    ++ wav_lines captured.file

-- the text: the input, runs, overruns, the file, and how it ended
abbrev pub capture_text : Captured → List ℕ
capture_text captured =
    input_lines captured.machine.codecs captured.plans
    ++ capture_middle captured
    ++ capture_last_line captured
