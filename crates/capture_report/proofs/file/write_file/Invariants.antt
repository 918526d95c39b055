use Rattle.std.proofs.Common.{◌≡◌, ◌≤◌, ◌++◌, max}
use Rattle.sound_report.specs.Pages.{TookAllBut}
use Rattle.capture_report.specs.WavLines.{wav_lines}
use Rattle.capture_report.proofs.file.write_file.Given as goal

abbrev pub invariant-loop-line : goal.invariant-loop-line
invariant-loop-line g l =
    record {
      size : l.line-iterator.size ≡ 48;
      text : TookAllBut (g.K.Sink.taken l.fn.out) (g.K.Sink.taken l.out) (l.initial.page.items ++ wav_lines l.file) (l.page.items ++ wav_lines l.line-iterator.rest.now);
      pieces : g.K.Sink.longest l.out ≤ max (g.K.Sink.longest l.fn.out) 4096;
      later : g.K.Sink.faults l.fn.out ≤ g.K.Sink.faults l.out;
    }
