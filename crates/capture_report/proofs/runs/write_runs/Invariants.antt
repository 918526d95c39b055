use Rattle.std.proofs.Common.{◌≤◌, ◌++◌, max, drop}
use Rattle.std.specs.List.{flat_map}
use Rattle.sound_report.specs.Pages.{TookAllBut}
use Rattle.capture_report.specs.CaptureLines.{record_line}
use Rattle.capture_report.proofs.runs.write_runs.Given as goal

abbrev pub invariant-loop-run : goal.invariant-loop-run
invariant-loop-run g l =
    record {
      text : TookAllBut (g.K.Sink.taken l.fn.out) (g.K.Sink.taken l.out) (l.initial.page.items ++ flat_map record_line l.runs) (l.page.items ++ flat_map record_line (drop l.run-index l.runs));
      pieces : g.K.Sink.longest l.out ≤ max (g.K.Sink.longest l.fn.out) 4096;
      later : g.K.Sink.faults l.fn.out ≤ g.K.Sink.faults l.out;
    }
