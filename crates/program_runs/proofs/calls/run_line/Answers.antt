use Rattle.std.proofs.Common.{◌≡◌, ap, refl}
use Rattle.program_runs.specs.Feeding.{shelves_of}
use Rattle.program_runs.specs.Going.{stand_of, parts_of}
use Rattle.period_writer.specs.Writers.{measures_of}
use Rattle.program_runs.proofs.Feeds.{held_within}
use Rattle.program_runs.proofs.Ran.{on_ok_both, fed_so, ran_filled}
use Rattle.program_runs.proofs.calls.run_line.Goals as goal
use Rattle.route_setup.specs.Means.{StreamMeaning}

pub returns-clause-ran : goal.returns-clause-ran
returns-clause-ran g c =
    let driver = c.args.driver.now in
    let fed = c.feed.new.driver in
    let next = c.run_filled.new.driver in
    let feeds = c.in_ok-feed.ensures in
    let means : StreamMeaning = g.T.Setter.means driver.setter in
    let means' : StreamMeaning = g.T.Setter.means fed.setter in
    let same : means' ≡ means = ap (λ setter. g.T.Setter.means setter) feeds.setter in
    let shelf = shelves_of (g.S.Shelf.told c.args.shelf.now) (g.S.Shelf.faults c.args.shelf.now) (g.S.Shelf.empties c.args.shelf.now) (g.S.Shelf.given c.args.shelf.now) in
    let shelf' = shelves_of (g.S.Shelf.told c.feed.new.shelf) (g.S.Shelf.faults c.feed.new.shelf) (g.S.Shelf.empties c.feed.new.shelf) (g.S.Shelf.given c.feed.new.shelf) in
    let old = stand_of driver.bring_up driver.writer driver.supply shelf c.args.cut.now c.args.rig.now in
    let rule = held_within (measures_of driver.writer) shelf' c.feed.new.cut fed.supply driver.writer.course
    (fed_so (measures_of driver.writer) (measures_of driver.writer) shelf shelf' c.args.cut.now c.feed.new.cut driver.supply fed.supply driver.writer.course driver.writer.course feeds.fed c.requires.fed) in
    on_ok_both c.run_filled.result (λ ring ran.
    ran_filled means means' driver.bring_up.agenda.format driver.play fed.play c.args.line.now old (parts_of fed.bring_up fed.writer fed.supply) shelf' c.feed.new.cut (parts_of next.bring_up next.writer next.supply) c.run_filled.new.rig
    same refl feeds.play feeds.bring_up feeds.writer feeds.fed feeds.took (λ name. feeds.told) rule ring ran)
    c.run_filled.ensures.geometry c.run_filled.ensures.ran
