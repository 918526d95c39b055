use Rattle.std.proofs.Common.{◌<◌, ◌∙◌, sym}
use Rattle.wav_reader.proofs.Callers.{none_now}
use Rattle.audio_driver.proofs.Kept.{played_on, led_on}
use Rattle.audio_driver.proofs.driver.Driver.irq.Goals as goal

pub invariant_of-self : goal.invariant_of-self
invariant_of-self g c =
    let driver = c.self.inside in
    let few : c.self.inside.calls < c.self.inside.runs = rw (← c.self.view_is) at c.requires.few in
    played_on driver.bring_up c.play_if_interrupted.new.bring_up driver.writer c.play_if_interrupted.new.writer driver.pool driver.play driver.runs driver.calls c.self.invariant few
    c.play_if_interrupted.ensures.kept c.play_if_interrupted.ensures.keeps c.play_if_interrupted.ensures.phase c.play_if_interrupted.ensures.recorded c.play_if_interrupted.ensures.fresh (sym c.plays_now.ensures ∙ c.if-plays_now.true)

pub returns-then-plays_now-clause-sounds : goal.returns-then-plays_now-clause-sounds
returns-then-plays_now-clause-sounds g c = rw (← c.self.view_is) (λ plays. c.play_if_interrupted.ensures.sounds)

pub returns-in_err-irq-clause-taken : goal.returns-in_err-irq-clause-taken
returns-in_err-irq-clause-taken g c = rw (← c.self.view_is) (none_now c.self.inside.supply)

pub invariant_of-self-2 : goal.invariant_of-self-2
invariant_of-self-2 g c =
    let driver = c.self.inside in
    let few : c.self.inside.calls < c.self.inside.runs = rw (← c.self.view_is) at c.requires.few in
    led_on driver.bring_up c.irq.new.self driver.writer driver.pool driver.play driver.runs driver.calls c.self.invariant few c.irq.ensures.kept (sym c.plays_now.ensures ∙ c.if-plays_now.false)

pub returns-clause-leads : goal.returns-clause-leads
returns-clause-leads g c = rw (← c.self.view_is) (λ silent. c.in_ok-irq.ensures.leads)

pub returns-clause-taken : goal.returns-clause-taken
returns-clause-taken g c = rw (← c.self.view_is) (none_now c.self.inside.supply)
