use Rattle.std.proofs.Common.{◌≡◌, ◌≤◌, ◌++◌, max}
use Rattle.sound_report.specs.StretchTexts.{line_len, samples_lines}
use Rattle.sound_report.specs.Pages.{TookAllBut}
use Rattle.sound_report.proofs.pins.write_sound_lines.Given as goal

abbrev pub invariant-loop-line : goal.invariant-loop-line
invariant-loop-line g l =
    record {
      size : l.line-iterator.size ≡ line_len l.fn.bits;
      text : TookAllBut (g.K.Sink.taken l.fn.out) (g.K.Sink.taken l.out) (l.initial.page.items ++ samples_lines l.fn.bits l.samples) (l.page.items ++ samples_lines l.fn.bits l.line-iterator.rest.now);
      pieces : g.K.Sink.longest l.out ≤ max (g.K.Sink.longest l.fn.out) 4096;
      later : g.K.Sink.faults l.fn.out ≤ g.K.Sink.faults l.out;
    }
