use Rattle.driver_progress.proofs.TrailRows.{trail_row}
use Rattle.driver_progress.proofs.laws.rows_are_made.Goals as goal

pub returns : goal.returns
returns c = trail_row
