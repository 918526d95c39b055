use Rattle.std.proofs.Common.{[], ◌∷◌, refl, ap, sym, subst, ◌∙◌}
use Rattle.std.specs.Prelude.{OnOk}
use Rattle.schedule_reader.specs.declared.schedule.Item.{Item}
use Rattle.rig.specs.declared.setting.Setting.{Setting}
use Rattle.rig.specs.Rigs.{telling_of}
use Rattle.program_runs.specs.Going.{Ran, parts_of, stand_of, sounded}
use Rattle.program_runs.proofs.Goes.{Keeps, step_goes}
use Rattle.program_runs.specs.Feeding.{shelves_of}
use Rattle.program_runs.proofs.Ran.{on_ok, took_none}
use Rattle.program_runs.proofs.items.run_item.Goals as goal
use Rattle.route_setup.specs.Means.{StreamMeaning}

pub returns-in-Device-clause-ran : goal.returns-in-Device-clause-ran
returns-in-Device-clause-ran g c =
    let driver = c.args.driver.now in
    let format = driver.bring_up.agenda.format in
    let means : StreamMeaning = g.T.Setter.means driver.setter in
    let keeps : Keeps means format = λ verbs graphs task is. c.drivers_keep_to_progress.ensures driver.setter format verbs graphs task is in
    let step = c.in-Device.step in
    let shelf = shelves_of (g.S.Shelf.told c.args.shelf.now) (g.S.Shelf.faults c.args.shelf.now) (g.S.Shelf.empties c.args.shelf.now) (g.S.Shelf.given c.args.shelf.now) in
    let player = parts_of driver.bring_up driver.writer driver.supply in
    let stand = stand_of driver.bring_up driver.writer driver.supply shelf c.args.cut.now in
    subst (λ (item : Item). OnOk c.step.result (Ran means format driver.play (item ∷ []) (stand c.args.rig.now) (stand c.step.new.self))) (sym c.in-Device.is)
    (on_ok c.step.result (λ went. record {
      gave = [];
      took = took_none shelf driver.supply;
      goes = λ later may. step_goes means format driver.play keeps step (sounded player later) (telling_of c.args.rig.now) (telling_of c.step.new.self) (c.pieces_follow.ensures.step step) went;
      fed = λ source first fed. fed;
      told_is = λ name. refl;
      format_is = refl;
      between = ap (λ (setting : Setting). setting.in_run) c.step.ensures.setting ∙ c.requires.between;
      machine = ap (λ (setting : Setting). setting.machine) c.step.ensures.setting;
      kind = ap (λ (setting : Setting). setting.kind) c.step.ensures.setting;
    }) c.step.ensures.went)
