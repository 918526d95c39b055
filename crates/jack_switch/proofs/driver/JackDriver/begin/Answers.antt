use Rattle.std.proofs.Common.{◌≡◌, ◌<◌, false, length, refl}
use Rattle.jack_switch.specs.Inside.{state_inside}
use Rattle.jack_switch.proofs.Kept.{kept_on, not_given}
use Rattle.jack_switch.proofs.driver.JackDriver.begin.Goals as goal

pub invariant_of-self : goal.invariant_of-self
invariant_of-self g c =
    let old = state_inside c.self.inside in
    let free : length old.writer.runs < old.calls = rw (← c.self.view_is) at c.requires.free in
    let fresh : old.writer.course.started ≡ false = rw (← c.self.view_is) at c.requires.fresh in
    let now = c.submit_after-self-inside.ensures in
    kept_on old _ c.self.invariant free now.started now.quiet now.corb now.rirb c.start.ensures.keeps c.start.ensures.few c.start.ensures.on now.pins (now.asked c.self.invariant.asked)
    (λ noticed is. absurd (not_given old.given_up (c.self.invariant.kept fresh) noticed is)) refl refl refl refl refl

pub returns-clause-begins : goal.returns-clause-begins
returns-clause-begins g c = rw (← c.self.view_is)
    (let fresh : c.self.inside.writer.course.started ≡ false = rw (← c.self.view_is) at c.requires.fresh in
    let now = c.submit_after-self-inside.ensures in
    record {
      fresh = fresh;
      ran = g.P.Platform.told c.start.new.platform;
      starts = c.start.ensures.starts;
      tells = c.start.ensures.tells;
      after_run = record { submits = now.submits; chosen = now.chosen; clock_is = now.clock };
      jacks = refl;
      given_up = refl;
    })
