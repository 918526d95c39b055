use Rattle.std.proofs.Common.{◌≡◌, ap, refl}
use Rattle.program_runs.specs.Feeding.{shelves_of}
use Rattle.program_runs.specs.Going.{stand_of}
use Rattle.program_runs.proofs.Closes.{driven_by}
use Rattle.program_runs.proofs.driving.drive.Goals as goal
use Rattle.route_setup.specs.Means.{StreamMeaning}

pub returns-in_ok-closed-in-Ok-clause-driven : goal.returns-in_ok-closed-in-Ok-clause-driven
returns-in_ok-closed-in-Ok-clause-driven g c =
    let driver = c.args.driver in
    let now = c.run_schedule.new.driver in
    let means : StreamMeaning = g.T.Setter.means driver.setter in
    let means' : StreamMeaning = g.T.Setter.means now.setter in
    let same : means' ≡ means = ap (λ setter. g.T.Setter.means setter) c.in-Ok.ensures.setter in
    let shelf = shelves_of (g.S.Shelf.told c.args.shelf.now) (g.S.Shelf.faults c.args.shelf.now) (g.S.Shelf.empties c.args.shelf.now) (g.S.Shelf.given c.args.shelf.now) in
    let shelf' = shelves_of (g.S.Shelf.told c.run_schedule.new.shelf) (g.S.Shelf.faults c.run_schedule.new.shelf) (g.S.Shelf.empties c.run_schedule.new.shelf) (g.S.Shelf.given c.run_schedule.new.shelf) in
    driven_by means means' driver.bring_up.agenda.format driver.play now.play c.args.schedule.now (stand_of driver.bring_up driver.writer driver.supply shelf c.args.cut.now c.args.rig.now)
    (stand_of now.bring_up now.writer now.supply shelf' c.run_schedule.new.cut c.run_schedule.new.rig) c.in_ok-closed-in-Ok.closed c.bytes_read-read.result c.run_last.new.rig
    same refl c.in-Ok.ensures.play c.in-Ok.ensures.geometry c.bytes_read-read.ensures c.in-Ok.ensures.ran c.in_ok-closed-in-Ok.ensures.closed
