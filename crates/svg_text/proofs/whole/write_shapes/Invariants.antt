use Rattle.std.proofs.Common.{◌≤◌, ◌++◌, max, drop}
use Rattle.std.specs.List.{flat_map}
use Rattle.sound_report.specs.Pages.{TookAllBut}
use Rattle.svg_text.specs.Shapes.{shape_text}
use Rattle.svg_text.proofs.whole.write_shapes.Given as goal

-- the sink took the elements so far but for the page
abbrev pub invariant-loop-shape : goal.invariant-loop-shape
invariant-loop-shape g l =
    record {
      text : TookAllBut (g.K.Sink.taken l.fn.out) (g.K.Sink.taken l.out) (l.initial.page.items ++ flat_map shape_text l.shapes)
          (l.page.items ++ flat_map shape_text (drop l.shape-index l.shapes));
      pieces : g.K.Sink.longest l.out ≤ max (g.K.Sink.longest l.fn.out) 4096;
      later : g.K.Sink.faults l.fn.out ≤ g.K.Sink.faults l.out;
    }
