use Rattle.program_runs.specs.Feeding.{shelves_of}
use Rattle.period_writer.specs.Writers.{measures_of}
use Rattle.program_runs.proofs.Feeds.{fed_noted}
use Rattle.program_runs.proofs.FedRings.{ok_any, took_filled}
use Rattle.program_runs.proofs.feeding.feed.Goals as goal

pub returns-clause-fed : goal.returns-clause-fed
returns-clause-fed g c =
    let old = c.args.driver.now in
    fed_noted c.note_cut.result (measures_of old.writer)
    (shelves_of (g.S.Shelf.told c.args.shelf.now) (g.S.Shelf.faults c.args.shelf.now) (g.S.Shelf.empties c.args.shelf.now) (g.S.Shelf.given c.args.shelf.now))
    (shelves_of (g.S.Shelf.told c.fill-filled.new.shelf) (g.S.Shelf.faults c.fill-filled.new.shelf) (g.S.Shelf.empties c.fill-filled.new.shelf) (g.S.Shelf.given c.fill-filled.new.shelf))
    c.args.cut.now c.note_cut.new.cut old.supply c.fill-filled.new.self.supply old.writer.course c.fill-filled.result
    c.note_cut.ensures.cut c.note_cut.ensures.memory c.fill-filled.ensures.fills c.fill-filled.ensures.later (λ name. c.fill-filled.ensures.told)

pub returns-clause-took : goal.returns-clause-took
returns-clause-took g c =
    let old = c.args.driver.now in
    ok_any _ _ c.note_cut.result _
    (took_filled (measures_of old.writer)
    (shelves_of (g.S.Shelf.told c.args.shelf.now) (g.S.Shelf.faults c.args.shelf.now) (g.S.Shelf.empties c.args.shelf.now) (g.S.Shelf.given c.args.shelf.now))
    (shelves_of (g.S.Shelf.told c.fill-filled.new.shelf) (g.S.Shelf.faults c.fill-filled.new.shelf) (g.S.Shelf.empties c.fill-filled.new.shelf) (g.S.Shelf.given c.fill-filled.new.shelf))
    c.args.cut.now old.supply c.fill-filled.new.self.supply old.writer.course c.fill-filled.result c.fill-filled.ensures.fills c.requires.fed)
