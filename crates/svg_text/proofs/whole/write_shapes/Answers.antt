use Rattle.std.proofs.Common.{rules}
use Rattle.sound_report.proofs.Callers.{line_more, no_memory, no_sink}
use Rattle.svg_text.specs.Shapes.{shape_text}
use Rattle.svg_text.proofs.Pieces.{left_at}
use Rattle.svg_text.proofs.whole.write_shapes.Goals as goal

pub returns-in_err-push_shape-clause-text : goal.returns-in_err-push_shape-clause-text
returns-in_err-push_shape-clause-text g c = no_memory c.from_residual.result _ c.from_residual.ensures.0 c.loop-shape.invariant.text

pub returns-in_err-turn-clause-text : goal.returns-in_err-turn-clause-text
returns-in_err-turn-clause-text g c =
    no_sink c.from_residual-in_err-turn.result _ c.loop-shape.page.items _ _ _ c.from_residual-in_err-turn.ensures.0 c.loop-shape.invariant.text
    (left_at shape_text c.args.shapes.now c.loop-shape.shape-index c.shape-item.result c.loop-shape-test.true c.shape-item.is)
    c.in_ok-push_shape.ensures c.in_err-turn.ensures.text

pub loop-shape-preserved : goal.loop-shape-preserved
loop-shape-preserved g c =
    record {
      text =
          line_more c.loop-shape.page.items _ _ _ c.loop-shape.invariant.text
          (left_at shape_text c.args.shapes.now c.loop-shape.shape-index c.shape-item.result c.loop-shape-test.true c.shape-item.is)
          c.in_ok-push_shape.ensures c.in_ok-turn.ensures.text;
      pieces = search rules;
      later = search rules;
    }
