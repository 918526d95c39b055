use Rattle.std.proofs.Common.{◌≡◌, [], length, Some, ap, subst, ◌∙◌, refl}
use Rattle.rig.specs.declared.setting.Setting.{Setting}
use Rattle.rig.specs.Rigs.{setting_of, telling_of}
use Rattle.rig.specs.Stretches.{IsStretchFrom}
use Rattle.program_runs.proofs.Callers.{stretched_from}
use Rattle.program_captures.specs.declared.closing.Driven.{Driven}
use Rattle.analog_in.specs.Means.{analog_in}
use Rattle.driver_bring_up.specs.declared.answers.TheConstants.{TAG}
use Rattle.audio_driver.specs.Closing.{Closes}
use Rattle.audio_driver.specs.Drivers.{DriverState}
use Rattle.analog_in.specs.declared.input.Input.{Input}
use Rattle.program_captures.specs.Capturing.{HasNoSound, total_of}
use Rattle.program_captures.proofs.Going.{KeepsFor}
use Rattle.program_captures.proofs.Ended.{coming_ends, may_none, ends_none}
use Rattle.program_captures.proofs.closing.close_coming.Goals as goal

pub returns : goal.returns
returns c =
    let terms = c.args.terms in
    let boxed = c.args.driver in
    let driver = boxed.value in
    let keeps : KeepsFor terms = λ verbs graphs task nid is. c.drivers_that_capture_keep_to_progress.ensures terms.input terms.geometry.format verbs graphs task (total_of terms) nid is.of_codecs is.silent is.hears in
    let before = c.args.rig.now in
    let after = c.end.new.self in
    let closed = c.in_ok-closed.ensures in
    let left = c.in_ok-closed.closed in
    let driven : Driven = record { phase = left.phase; graphs = left.graphs; sent = left.sent; runs = c.new.result; bytes = c.new-2.result } in
    let stretched : IsStretchFrom (length (telling_of before).journal) [] (telling_of after).journal =
    stretched_from (setting_of c.close.new.platform) (setting_of c.begin.new.self) _ (telling_of after).journal closed.fixed c.in-Ok.ensures.setting c.end.ensures.stretch in
    let inner = c.into_inner-2.result in
    let silent : HasNoSound inner.supply = ap (λ (one : DriverState Input). one.supply) c.into_inner-2.ensures ∙ c.requires.coming.silent in
    let closes : Closes (analog_in driver.setter.codec driver.bring_up.agenda.format TAG) driver.play driver.bring_up driver.writer [] left (Some (telling_of c.begin.new.self)) (Some (telling_of c.close.new.platform)) =
    subst (λ (one : DriverState Input). Closes (analog_in one.setter.codec one.bring_up.agenda.format TAG) one.play one.bring_up one.writer [] left (Some (telling_of c.begin.new.self)) (Some (telling_of c.close.new.platform))) c.into_inner-2.ensures
    (closed.closes [] (may_none inner.supply silent) (ends_none inner.supply silent)) in
    coming_ends terms keeps c.runs_follow.ensures.closing c.runs_follow.ensures.accesses before after (telling_of c.begin.new.self) (telling_of c.close.new.platform) driven boxed c.in_ok-closed.closed c.requires.coming c.in-Ok.ensures.told.is
    closes c.end.ensures.told.is stretched
    (ap (λ (s : Setting). s.machine) c.end.ensures.setting ∙ ap (λ (s : Setting). s.machine) closed.fixed ∙ ap (λ (s : Setting). s.machine) c.in-Ok.ensures.setting)
    (record { phase = refl; sent = refl; graphs = refl; runs = c.new.ensures.items; bytes = c.new-2.ensures.items })
