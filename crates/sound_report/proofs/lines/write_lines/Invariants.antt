use Rattle.std.proofs.Common.{◌≤◌, ◌++◌, max, drop}
use Rattle.std.specs.List.{flat_map}
use Rattle.sound_report.specs.Pages.{TookAllBut}
use Rattle.sound_report.proofs.lines.write_lines.Given as goal

abbrev pub invariant-loop-line : goal.invariant-loop-line
invariant-loop-line g l =
    record {
      text : TookAllBut (g.K.Sink.taken l.fn.out) (g.K.Sink.taken l.out) (l.initial.page.items ++ flat_map g.L.HasLine.line l.lines) (l.page.items ++ flat_map g.L.HasLine.line (drop l.line-index l.lines));
      pieces : g.K.Sink.longest l.out ≤ max (g.K.Sink.longest l.fn.out) 4096;
      later : g.K.Sink.faults l.fn.out ≤ g.K.Sink.faults l.out;
    }
