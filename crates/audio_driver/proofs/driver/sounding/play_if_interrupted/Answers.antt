use Rattle.std.proofs.Common.{List, ℕ, true, refl, sym, subst, ◌∙◌}
use Rattle.wav_reader.specs.Supplies.{sound_before}
use Rattle.wav_reader.proofs.Callers.{same_before, none_now}
use Rattle.period_writer.specs.Writers.{measures_of}
use Rattle.period_writer.proofs.Callers.{accounts_none}
use Rattle.audio_driver.specs.Sounding.{PlaysSound}
use Rattle.audio_driver.proofs.Kept.{over_started}
use Rattle.audio_driver.proofs.Sounded.{over_sounds_irq, quiet_sounds, irq_sounds}
use Rattle.audio_driver.proofs.driver.sounding.play_if_interrupted.Goals as goal
use Rattle.driver_progress.proofs.Callers.{ready_is}

pub returns-then-has_interrupt-clause-sounds : goal.returns-then-has_interrupt-clause-sounds
returns-then-has_interrupt-clause-sounds g c later may ends =
    let bring_up = c.args.bring_up.now in
    let writer = c.args.writer.now in
    let supply = c.args.supply.now in
    let looks = c.has_interrupt.ensures.looks in
    irq_sounds bring_up c.play_on.new.bring_up writer c.play_on.new.writer (sound_before supply c.play_on.new.supply later) later c.args.budget looks.interrupts looks.stream (g.P.Platform.told c.args.platform.now) (g.P.Platform.told c.has_interrupt.new.platform) (g.P.Platform.told c.play_on.new.platform)
    (ready_is bring_up.phase c.requires.ready) (sym c.is_open.ensures ∙ c.if-not-is_open.false) (sym looks.answer_is ∙ c.if-has_interrupt.true) looks.made (c.play_on.ensures.sounds later may ends)

pub returns-else-has_interrupt-clause-sounds : goal.returns-else-has_interrupt-clause-sounds
returns-else-has_interrupt-clause-sounds g c later may ends =
    let bring_up = c.args.bring_up.now in
    let writer = c.args.writer.now in
    let supply = c.args.supply.now in
    let looks = c.has_interrupt.ensures.looks in
    subst (λ (sound : List ℕ). PlaysSound true c.args.budget bring_up bring_up writer writer sound later (g.P.Platform.told c.args.platform.now) (g.P.Platform.told c.has_interrupt.new.platform)) (sym (same_before supply supply later refl))
    (quiet_sounds bring_up writer later c.args.budget looks.interrupts looks.stream (g.P.Platform.told c.args.platform.now) (g.P.Platform.told c.has_interrupt.new.platform)
    (ready_is bring_up.phase c.requires.ready) (sym c.is_open.ensures ∙ c.if-not-is_open.false) (sym looks.answer_is ∙ c.if-has_interrupt.false) looks.made)

pub returns-else-has_interrupt-clause-taken : goal.returns-else-has_interrupt-clause-taken
returns-else-has_interrupt-clause-taken g c = none_now c.args.supply.now

pub returns-then-not-is_open-clause-taken : goal.returns-then-not-is_open-clause-taken
returns-then-not-is_open-clause-taken g c = none_now c.args.supply.now

pub returns-then-not-is_open-clause-sounds : goal.returns-then-not-is_open-clause-sounds
returns-then-not-is_open-clause-sounds g c later may ends =
    let bring_up = c.args.bring_up.now in
    let writer = c.args.writer.now in
    let supply = c.args.supply.now in
    let over = sym c.is_open.ensures ∙ c.if-not-is_open.true in
    subst (λ (sound : List ℕ). PlaysSound true c.args.budget bring_up bring_up writer writer sound later (g.P.Platform.told c.args.platform.now) (g.P.Platform.told c.args.platform.now)) (sym (same_before supply supply later refl))
    (over_sounds_irq bring_up writer later c.args.budget (g.P.Platform.told c.args.platform.now) (over_started writer c.requires.fresh over) over)

pub returns-else-has_interrupt-clause-accounts : goal.returns-else-has_interrupt-clause-accounts
returns-else-has_interrupt-clause-accounts g c = accounts_none (measures_of c.args.writer.now) c.args.supply.now c.args.writer.now.course

pub returns-then-not-is_open-clause-accounts : goal.returns-then-not-is_open-clause-accounts
returns-then-not-is_open-clause-accounts g c = accounts_none (measures_of c.args.writer.now) c.args.supply.now c.args.writer.now.course
