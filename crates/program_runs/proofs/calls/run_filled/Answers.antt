use Rattle.std.proofs.Common.{List, length, ap, sym, subst, ◌∙◌}
use Rattle.wav_reader.specs.Supplies.{sound_before}
use Rattle.schedule_reader.specs.declared.schedule.Group.{Group}
use Rattle.rig.specs.declared.setting.Setting.{Setting}
use Rattle.rig.specs.Rigs.{setting_of, telling_of}
use Rattle.rig.specs.Stretches.{IsStretchFrom}
use Rattle.program_runs.specs.Going.{parts_with}
use Rattle.program_runs.proofs.Goes.{Keeps, line_goes}
use Rattle.program_runs.proofs.Ran.{stretched_from}
use Rattle.program_runs.proofs.calls.run_filled.Goals as goal
use Rattle.route_setup.specs.Means.{StreamMeaning}

pub returns-clause-ran : goal.returns-clause-ran
returns-clause-ran g c =
    let driver = c.args.driver.now in
    let format = driver.bring_up.agenda.format in
    let means : StreamMeaning = g.T.Setter.means driver.setter in
    let keeps : Keeps means format = λ verbs graphs task is. c.drivers_keep_to_progress.ensures driver.setter format verbs graphs task is in
    let now = c.call.new.driver in
    let before = telling_of c.args.rig.now in
    let after = telling_of c.end.new.self in
    let format_on = now.bring_up.formats ∙ c.in_ok-call.ensures.kept.format ∙ sym driver.bring_up.formats in
    let begun = c.in_ok-call.ensures.fixed ∙ c.in_ok-begin.ensures.setting in
    let stretched : IsStretchFrom (length before.journal) c.args.line.now.groups after.journal =
    subst (λ (groups : List Group). IsStretchFrom (length before.journal) groups after.journal) c.as_slice.ensures
    (stretched_from (setting_of c.call.new.platform) (setting_of c.begin.new.self) _ after.journal c.in_ok-call.ensures.fixed c.in_ok-begin.ensures.setting c.end.ensures.stretch) in
    record {
      taken = c.in_ok-call.ensures.taken;
      accounts = c.in_ok-call.ensures.accounts;
      goes = λ later may. line_goes means format driver.play keeps c.runs_follow.ensures.line c.args.line.now (parts_with driver.bring_up driver.writer (sound_before driver.supply now.supply later)) (parts_with now.bring_up now.writer later) before (telling_of c.begin.new.self)
          (telling_of c.call.new.platform) after c.in_ok-begin.ensures.told.is (c.in_ok-call.ensures.leads later may) c.end.ensures.told.is stretched;
      format_is = format_on;
      between = ap (λ (setting : Setting). setting.in_run) c.end.ensures.setting;
      machine = ap (λ (setting : Setting). setting.machine) c.end.ensures.setting ∙ ap (λ (setting : Setting). setting.machine) begun;
      kind = ap (λ (setting : Setting). setting.kind) c.end.ensures.setting ∙ ap (λ (setting : Setting). setting.kind) begun;
    }
