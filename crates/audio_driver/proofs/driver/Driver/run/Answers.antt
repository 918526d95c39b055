use Rattle.std.proofs.Common.{◌<◌, ◌∙◌, sym}
use Rattle.wav_reader.proofs.Callers.{none_now}
use Rattle.audio_driver.proofs.Kept.{played_on, led_on}
use Rattle.audio_driver.proofs.driver.Driver.run.Goals as goal

pub invariant_of-self : goal.invariant_of-self
invariant_of-self g c =
    let driver = c.self.inside in
    let few : c.self.inside.calls < c.self.inside.runs = rw (← c.self.view_is) at c.requires.few in
    played_on driver.bring_up c.play_on.new.bring_up driver.writer c.play_on.new.writer driver.pool driver.play driver.runs driver.calls c.self.invariant few
    c.play_on.ensures.kept c.play_on.ensures.keeps c.play_on.ensures.phase c.play_on.ensures.recorded c.play_on.ensures.fresh (sym c.plays_now.ensures ∙ c.if-plays_now.true)

pub returns-then-plays_now-clause-sounds : goal.returns-then-plays_now-clause-sounds
returns-then-plays_now-clause-sounds g c = rw (← c.self.view_is) (λ plays. c.play_on.ensures.sounds)

pub returns-in_err-run-clause-taken : goal.returns-in_err-run-clause-taken
returns-in_err-run-clause-taken g c = rw (← c.self.view_is) (none_now c.self.inside.supply)

pub invariant_of-self-2 : goal.invariant_of-self-2
invariant_of-self-2 g c =
    let driver = c.self.inside in
    let few : c.self.inside.calls < c.self.inside.runs = rw (← c.self.view_is) at c.requires.few in
    led_on driver.bring_up c.run.new.self driver.writer driver.pool driver.play driver.runs driver.calls c.self.invariant few c.run.ensures.kept (sym c.plays_now.ensures ∙ c.if-plays_now.false)

pub returns-clause-leads : goal.returns-clause-leads
returns-clause-leads g c = rw (← c.self.view_is) (λ silent. c.in_ok-run.ensures.leads)

pub returns-clause-taken : goal.returns-clause-taken
returns-clause-taken g c = rw (← c.self.view_is) (none_now c.self.inside.supply)
