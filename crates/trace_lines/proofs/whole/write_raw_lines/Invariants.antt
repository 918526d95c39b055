use Rattle.std.proofs.Common.{◌≤◌, ◌++◌, max, drop}
use Rattle.std.specs.List.{flat_map}
use Rattle.sound_report.specs.Pages.{TookAllBut}
use Rattle.trace_lines.specs.Raw.{raw_entry}
use Rattle.trace_lines.proofs.whole.write_raw_lines.Given as goal

abbrev pub invariant-loop-entry : goal.invariant-loop-entry
invariant-loop-entry g l =
    record {
      text : TookAllBut (g.K.Sink.taken l.fn.out) (g.K.Sink.taken l.out) (l.initial.page.items ++ flat_map (raw_entry l.journal) l.entries)
          (l.page.items ++ flat_map (raw_entry l.journal) (drop l.entry-index l.entries));
      pieces : g.K.Sink.longest l.out ≤ max (g.K.Sink.longest l.fn.out) 4096;
      later : g.K.Sink.faults l.fn.out ≤ g.K.Sink.faults l.out;
    }
