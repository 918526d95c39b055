use Rattle.std.proofs.Common.{◌≡◌, ◌+◌, List, length, ap, sym, subst, ◌∙◌, Some, false}
use Rattle.stream_format.specs.declared.format.Format.{Format}
use Rattle.analog_in.specs.declared.input.Input.{Input}
use Rattle.schedule_reader.specs.declared.schedule.Group.{Group}
use Rattle.audio_driver.specs.Drivers.{DriverState, KeepsTerms}
use Rattle.driver_bring_up.specs.Calls.{IsKept}
use Rattle.laws_driver.specs.Keeping.{Calls}
use Rattle.rig.specs.declared.setting.Setting.{Setting}
use Rattle.rig.specs.Rigs.{setting_of, telling_of}
use Rattle.rig.specs.Stretches.{IsStretchFrom}
use Rattle.program_runs.proofs.Callers.{stretched_from}
use Rattle.program_captures.specs.Inputs.{capture_means}
use Rattle.program_captures.specs.Capturing.{means_of, total_of, parts_with}
use Rattle.program_captures.proofs.Going.{KeepsFor}
use Rattle.program_captures.proofs.Turning.{coming_ran, coming_stays}
use Rattle.std.specs.Box.{with_value}
use Rattle.program_captures.proofs.calls.coming_line.Goals as goal

pub returns : goal.returns
returns c =
    let terms = c.args.terms in
    let boxed = c.args.driver.now in
    let driver = boxed.value in
    let now = c.call_coming.new.driver in
    let called = c.in_ok-call_coming.ensures in
    let same : c.deref_mut.result.now ≡ driver = c.deref_mut.ensures.value in
    let kept : IsKept driver.bring_up now.bring_up = subst (λ (one : DriverState Input). IsKept one.bring_up now.bring_up) same called.kept in
    let calls_is : now.calls ≡ driver.calls + 1 = called.calls ∙ ap (λ (one : DriverState Input). one.calls + 1) same in
    let keeps_terms : KeepsTerms driver now = subst (λ (one : DriverState Input). KeepsTerms one now) same called.keeps in
    let writer : now.writer ≡ driver.writer = called.writer ∙ ap (λ (one : DriverState Input). one.writer) same in
    let supply : now.supply ≡ driver.supply = called.supply ∙ ap (λ (one : DriverState Input). one.supply) same in
    let keeps : KeepsFor terms = λ verbs graphs task nid is. c.drivers_that_capture_keep_to_progress.ensures terms.input terms.geometry.format verbs graphs task (total_of terms) nid is.of_codecs is.silent is.hears in
    let before = c.args.rig.now in
    let after = c.end.new.self in
    let begun = telling_of c.begin.new.self in
    let made = telling_of c.call_coming.new.platform in
    let setting = called.fixed ∙ c.in_ok-begin.ensures.setting in
    let stretched : IsStretchFrom (length (telling_of before).journal) c.args.line.now.groups (telling_of after).journal =
    subst (λ (groups : List Group). IsStretchFrom (length (telling_of before).journal) groups (telling_of after).journal) c.as_slice.ensures
    (stretched_from (setting_of c.call_coming.new.platform) (setting_of c.begin.new.self) _ (telling_of after).journal called.fixed c.in_ok-begin.ensures.setting c.end.ensures.stretch) in
    let old = parts_with driver.bring_up driver.writer in
    let new = parts_with now.bring_up now.writer in
    let line = c.args.line.now in
    let calls : Calls (means_of terms) false line.irq line.budget old new (Some begun) (Some made) =
    subst (λ (format : Format). Calls (capture_means terms.input.codec format) false line.irq line.budget old new (Some begun) (Some made)) c.requires.coming.format
    (subst (λ (input : Input). Calls (capture_means input.codec driver.bring_up.agenda.format) false line.irq line.budget old new (Some begun) (Some made)) c.requires.coming.setter (subst (λ (one : DriverState Input). Calls (capture_means one.setter.codec one.bring_up.agenda.format) false line.irq line.budget (parts_with one.bring_up one.writer) new (Some begun) (Some made)) same called.leads)) in
    coming_ran terms keeps c.runs_follow.ensures.line line boxed (with_value boxed now) before after begun made c.in_ok-begin.ensures.told.is c.requires.early calls c.end.ensures.told.is stretched kept calls_is
    (coming_stays terms driver now c.requires.coming kept keeps_terms writer supply)
    (ap (λ (s : Setting). s.in_run) c.end.ensures.setting) (ap (λ (s : Setting). s.machine) c.end.ensures.setting ∙ ap (λ (s : Setting). s.machine) setting)
