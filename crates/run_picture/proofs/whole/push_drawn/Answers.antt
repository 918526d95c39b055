use Rattle.std.proofs.Common.{◌++◌, ◌∙◌, ap}
use Rattle.run_picture.specs.Bands.{bands}
use Rattle.run_picture.specs.Panels.{ahead_panel, gap_panel, held_panel, line_panel}
use Rattle.run_picture.specs.Pictures.{drawn_in}
use Rattle.run_picture.proofs.PictureLemmas.{joined}
use Rattle.run_picture.proofs.whole.push_drawn.Goals as goal

pub returns : goal.returns
unfolding drawn_in
returns c =
    joined _ _ _ _ _ (line_panel c.args.columns.now c.args.played.now.silences) (ahead_panel c.args.columns.now)
    (held_panel c.args.played.now.machine.fifo c.args.columns.now) (gap_panel c.args.columns.now c.args.limit)
    (bands c.args.columns.now 0 c.args.played.now.heard) (c.in_ok-push_line_panel.ensures
    ∙ ap (λ silences. c.args.shapes.now ++ line_panel c.args.columns.now silences) c.as_slice.ensures)
    c.in_ok-push_ahead_panels.ensures c.in_ok-push_gap_panel.ensures c.in_ok-push_bands.ensures
