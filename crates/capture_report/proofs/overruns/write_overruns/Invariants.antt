use Rattle.std.proofs.Common.{◌≤◌, ◌++◌, max}
use Rattle.sound_report.specs.Pages.{TookAllBut}
use Rattle.capture_report.specs.Overruns.{overrun_lines}
use Rattle.capture_report.specs.BegunOverruns.{IsUpTo}
use Rattle.capture_report.proofs.OverrunLemmas.{lines_from}
use Rattle.capture_report.proofs.overruns.write_overruns.Given as goal

abbrev pub invariant-loop-number : goal.invariant-loop-number
invariant-loop-number g l =
    record {
      up : IsUpTo l.number l.begun;
      text : TookAllBut (g.K.Sink.taken l.fn.out) (g.K.Sink.taken l.out) (l.initial.page.items ++ overrun_lines l.taken) (l.page.items ++ lines_from l.taken l.number l.begun);
      pieces : g.K.Sink.longest l.out ≤ max (g.K.Sink.longest l.fn.out) 4096;
      later : g.K.Sink.faults l.fn.out ≤ g.K.Sink.faults l.out;
    }
