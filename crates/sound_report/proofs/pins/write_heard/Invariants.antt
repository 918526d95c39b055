use Rattle.std.proofs.Common.{◌≤◌, ◌++◌, max, drop}
use Rattle.sound_report.specs.StretchTexts.{stretches_text}
use Rattle.sound_report.specs.Pages.{TookAllBut}
use Rattle.sound_report.proofs.pins.write_heard.Given as goal

abbrev pub invariant-loop-place : goal.invariant-loop-place
invariant-loop-place g l =
    record {
      text : TookAllBut (g.K.Sink.taken l.fn.out) (g.K.Sink.taken l.out) (l.initial.page.items ++ stretches_text l.bits l.stretches l.samples) (l.page.items ++ stretches_text l.bits (drop l.place l.stretches) l.rest);
      pieces : g.K.Sink.longest l.out ≤ max (g.K.Sink.longest l.fn.out) 4096;
      later : g.K.Sink.faults l.fn.out ≤ g.K.Sink.faults l.out;
    }
