use Rattle.std.proofs.Common.{◌≡◌, List, length, ap, sym, subst, ◌∙◌}
use Rattle.schedule_reader.specs.declared.schedule.Group.{Group}
use Rattle.hda_world.specs.Events.{Event}
use Rattle.rig.specs.declared.setting.Setting.{Setting}
use Rattle.rig.specs.Rigs.{setting_of, telling_of}
use Rattle.rig.specs.Stretches.{IsStretchFrom}
use Rattle.program_runs.proofs.Callers.{stretched_from}
use Rattle.program_captures.proofs.Turning.{line_recorded}
use Rattle.program_captures.proofs.calls.recording_line.Goals as goal

pub returns : goal.returns
returns c =
    let driver = c.args.driver.now in
    let now = c.call_recording.new.driver in
    let called = c.call_recording.ensures in
    let before = c.args.rig.now in
    let after = c.end.new.self in
    let setting = called.fixed ∙ c.in_ok-begin.ensures.setting in
    let stretched : IsStretchFrom (length (telling_of before).journal) c.args.line.now.groups (telling_of after).journal =
    subst (λ (groups : List Group). IsStretchFrom (length (telling_of before).journal) groups (telling_of after).journal) c.as_slice.ensures
    (stretched_from (setting_of c.call_recording.new.platform) (setting_of c.begin.new.self) _ (telling_of after).journal called.fixed c.in_ok-begin.ensures.setting c.end.ensures.stretch) in
    line_recorded c.args.terms c.runs_follow.ensures.line c.args.line.now driver now before after (telling_of c.begin.new.self) (telling_of c.call_recording.new.platform) c.requires.recording c.phase-phase.ensures.driver c.phase-phase.ensures.recorder
    c.in_ok-begin.ensures.told.is called.records c.end.ensures.told.is stretched called.keeps called.calls
    (ap (λ (s : Setting). s.in_run) c.end.ensures.setting) (ap (λ (s : Setting). s.machine) c.end.ensures.setting ∙ ap (λ (s : Setting). s.machine) setting)
