use Rattle.std.proofs.Common.{[], length}
use Rattle.rig.specs.Rigs.{setting_of, telling_of}
use Rattle.rig.specs.Stretches.{IsStretchFrom}
use Rattle.program_runs.specs.Going.{parts_with}
use Rattle.program_runs.proofs.Goes.{Keeps}
use Rattle.program_runs.proofs.Ran.{stretched_from}
use Rattle.program_runs.proofs.Closes.{run_closes}
use Rattle.program_runs.proofs.calls.run_last.Goals as goal
use Rattle.route_setup.specs.Means.{StreamMeaning}

pub returns-clause-closed : goal.returns-clause-closed
returns-clause-closed g c sound may ends =
    let driver = c.args.driver in
    let format = driver.bring_up.agenda.format in
    let means : StreamMeaning = g.T.Setter.means driver.setter in
    let keeps : Keeps means format = λ verbs graphs task is. c.drivers_keep_to_progress.ensures driver.setter format verbs graphs task is in
    let before = telling_of c.args.rig.now in
    let after = telling_of c.end.new.self in
    let stretched : IsStretchFrom (length before.journal) [] after.journal =
    stretched_from (setting_of c.close.new.platform) (setting_of c.begin.new.self) _ after.journal c.in_ok-closed.ensures.fixed c.in-Ok.ensures.setting c.end.ensures.stretch in
    run_closes means format driver.play keeps c.runs_follow.ensures.closing c.runs_follow.ensures.accesses c.events_are_of_pins.ensures (parts_with driver.bring_up driver.writer sound) c.in_ok-closed.closed
    before (telling_of c.begin.new.self) (telling_of c.close.new.platform) after c.in-Ok.ensures.told.is (c.in_ok-closed.ensures.closes sound may ends) c.end.ensures.told.is stretched
