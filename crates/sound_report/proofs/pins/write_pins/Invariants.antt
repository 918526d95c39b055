use Rattle.std.proofs.Common.{◌≤◌, ◌++◌, max, drop}
use Rattle.std.specs.List.{flat_map}
use Rattle.sound_report.specs.PinParts.{pin_part}
use Rattle.sound_report.specs.Pages.{TookAllBut}
use Rattle.sound_report.proofs.pins.write_pins.Given as goal

abbrev pub invariant-loop-place : goal.invariant-loop-place
invariant-loop-place g l =
    record {
      text : TookAllBut (g.K.Sink.taken l.fn.out) (g.K.Sink.taken l.out) (l.initial.page.items ++ flat_map (pin_part l.bits) l.pins) (l.page.items ++ flat_map (pin_part l.bits) (drop l.place l.pins));
      pieces : g.K.Sink.longest l.out ≤ max (g.K.Sink.longest l.fn.out) 4096;
      later : g.K.Sink.faults l.fn.out ≤ g.K.Sink.faults l.out;
    }
