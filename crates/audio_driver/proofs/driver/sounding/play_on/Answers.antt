use Rattle.std.proofs.Common.{◌≡◌, refl, ℕ, List, true, false, ap, sym, subst, ◌∙◌}
use Rattle.wav_reader.specs.Supplies.{sound_before}
use Rattle.wav_reader.proofs.Callers.{same_before, none_now}
use Rattle.period_writer.specs.Accounts.{Accounts}
use Rattle.period_writer.proofs.Callers.{accounts_none}
use Rattle.audio_driver.specs.Sounding.{PlaysSound}
use Rattle.period_writer.specs.declared.course.Course.{Course}
use Rattle.period_writer.specs.Runs.{Tally}
use Rattle.period_writer.specs.Writers.{measures_of}
use Rattle.audio_driver.proofs.Kept.{was_not, was_so}
use Rattle.audio_driver.proofs.Sounded.{over_sounds, start_sounds, play_sounds}
use Rattle.audio_driver.proofs.driver.sounding.play_on.Goals as goal
use Rattle.driver_progress.proofs.Callers.{ready_is}

pub returns-then-not-course-clause-sounds : goal.returns-then-not-course-clause-sounds
returns-then-not-course-clause-sounds g c later may ends =
    let bring_up = c.args.bring_up.now in
    let writer = c.args.writer.now in
    let supply = c.args.supply.now in
    let fresh : writer.course.started ≡ false = sym (ap (λ (course : Course). course.started) c.course.ensures.value) ∙ was_not c.course.result.started c.if-not-course.true in
    start_sounds bring_up writer c.start.new.self (sound_before supply c.start.new.supply later) later c.args.budget (g.P.Platform.told c.args.platform.now) (g.P.Platform.told c.start.new.platform)
    (ready_is bring_up.phase c.requires.ready) fresh (c.requires.fresh fresh) (c.start.ensures.starts later may) (c.start.ensures.tells later may)
    c.start.ensures.keeps

pub returns-then-is_open-clause-sounds : goal.returns-then-is_open-clause-sounds
returns-then-is_open-clause-sounds g c later may ends =
    let bring_up = c.args.bring_up.now in
    let writer = c.args.writer.now in
    let supply = c.args.supply.now in
    let started : writer.course.started ≡ true = sym (ap (λ (course : Course). course.started) c.course.ensures.value) ∙ was_so c.course.result.started c.if-not-course.false in
    let plays_on = sym c.is_open.ensures ∙ c.if-is_open.true in
    play_sounds bring_up c.listen.new.self writer c.run-ran.new.self (sound_before supply c.run-ran.new.supply later) later c.args.budget c.run-ran.result
    (g.P.Platform.told c.args.platform.now) (g.P.Platform.told c.listen.new.platform) (g.P.Platform.told c.run-ran.new.platform) started (sym c.is_open.ensures ∙ c.if-is_open.true)
    c.listen.ensures.listens c.listen.ensures.kept (c.run-ran.ensures.plays later may (ends started plays_on)) (c.run-ran.ensures.tells later may (ends started plays_on))
    c.run-ran.ensures.keeps

pub returns-else-is_open-clause-sounds : goal.returns-else-is_open-clause-sounds
returns-else-is_open-clause-sounds g c later may ends =
    let bring_up = c.args.bring_up.now in
    let writer = c.args.writer.now in
    let supply = c.args.supply.now in
    let started : writer.course.started ≡ true = sym (ap (λ (course : Course). course.started) c.course.ensures.value) ∙ was_so c.course.result.started c.if-not-course.false in
    subst (λ (sound : List ℕ). PlaysSound false c.args.budget bring_up bring_up writer writer sound later (g.P.Platform.told c.args.platform.now) (g.P.Platform.told c.args.platform.now)) (sym (same_before supply supply later refl))
    (over_sounds bring_up writer later c.args.budget (g.P.Platform.told c.args.platform.now) started (sym c.is_open.ensures ∙ c.if-is_open.false))

pub returns-else-is_open-clause-taken : goal.returns-else-is_open-clause-taken
returns-else-is_open-clause-taken g c = none_now c.args.supply.now

pub returns-then-not-course-clause-accounts : goal.returns-then-not-course-clause-accounts
returns-then-not-course-clause-accounts g c =
    let bring_up = c.args.bring_up.now in
    let writer = c.args.writer.now in
    let supply = c.args.supply.now in
    let fresh : writer.course.started ≡ false = sym (ap (λ (course : Course). course.started) c.course.ensures.value) ∙ was_not c.course.result.started c.if-not-course.true in
    subst (λ (course : Course). Accounts (measures_of writer) supply c.start.new.supply course c.start.new.self.course) (sym (ap (λ (tally : Tally). tally.course) (c.requires.fresh fresh))) c.start.ensures.accounts

pub returns-else-is_open-clause-accounts : goal.returns-else-is_open-clause-accounts
returns-else-is_open-clause-accounts g c = accounts_none (measures_of c.args.writer.now) c.args.supply.now c.args.writer.now.course
