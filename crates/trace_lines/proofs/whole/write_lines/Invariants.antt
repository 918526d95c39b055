use Rattle.std.proofs.Common.{◌≡◌, ◌≤◌, ◌++◌, max, drop}
use Rattle.sound_report.specs.Pages.{TookAllBut}
use Rattle.trace_lines.proofs.LineLemmas.{lines_of}
use Rattle.trace_lines.proofs.whole.write_lines.Given as goal

-- the sink took the lines so far but for the page, and the reader stands where the entries so far lead
abbrev pub invariant-loop-entry : goal.invariant-loop-entry
invariant-loop-entry g l =
    record {
      text : TookAllBut (g.K.Sink.taken l.fn.out) (g.K.Sink.taken l.out)
          (l.initial.page.items ++ lines_of l.initial.reader.bases l.initial.reader.end l.initial.reader.buffers.items l.initial.reader.situation l.journal l.entries)
          (l.page.items ++ lines_of l.reader.bases l.reader.end l.reader.buffers.items l.reader.situation l.journal (drop l.entry-index l.entries));
      bases : l.reader.bases ≡ l.initial.reader.bases;
      end : l.reader.end ≡ l.initial.reader.end;
      pieces : g.K.Sink.longest l.out ≤ max (g.K.Sink.longest l.fn.out) 4096;
      later : g.K.Sink.faults l.fn.out ≤ g.K.Sink.faults l.out;
    }
