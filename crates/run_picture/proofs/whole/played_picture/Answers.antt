use Rattle.std.proofs.Common.{◌≡◌, ◌++◌, ◌∙◌, ap, refl, fold, List}
use Rattle.svg_text.specs.declared.shapes.Shape.{Shape}
use Rattle.run_picture.specs.Charts.{chart_empty, chart_noted}
use Rattle.run_picture.specs.Moments.{moments}
use Rattle.run_picture.specs.Panels.{limit_ticks}
use Rattle.run_picture.specs.Pictures.{drawn_in, late_ticks}
use Rattle.run_picture.proofs.whole.played_picture.Goals as goal

pub returns : goal.returns
returns c =
    record {
      width = refl;
      height_is = c.height_of.ensures;
      behind = c.keep_behind.new.shapes;
      few = c.keep_behind.ensures;
      shapes =
          c.in_ok-push_drawn.ensures
          ∙ (rw (
            c.columns-2.ensures.value,
            c.note_moments-meter.ensures.notes,
            c.in_ok-chart.ensures,
            c.late_ticks-late.ensures,
            c.entries-entries.ensures,
            c.as_slice.ensures,
            c.limit_ticks-limit.ensures,
          ) refl);
    }
