use Rattle.std.proofs.Common.{◌≡◌, Bool, ℕ, Option, refl, ap, subst, ◌∙◌}
use Rattle.period_writer.specs.Writers.{tally_of}
use Rattle.period_writer.proofs.Callers.{owns_on}
use Rattle.jack_switch.specs.Inside.{state_inside}
use Rattle.jack_switch.specs.JackDrivers.{is_on_now, phase_if}
use Rattle.jack_switch.specs.JackSteps.{EndsNow}
use Rattle.jack_switch.proofs.Ended.{ends_switching, ended_by}
use Rattle.jack_switch.proofs.driver.JackDriver.close.Goals as goal

pub give_back-runs-requires-clause-ring : goal.give_back-runs-requires-clause-ring
give_back-runs-requires-clause-ring g c = owns_on c.self.inside.pool.taken c.self.inside.writer c.end_sound-gave.new.writer c.end_sound-gave.ensures.keeps c.self.invariant.owns_ring

pub returns-clause-closes : goal.returns-clause-closes
returns-clause-closes g c = rw (← c.self.view_is)
    (let old = state_inside c.self.inside in
    let on : c.is_on-on.result ≡ is_on_now old = rw (← c.self.view_is) at c.is_on-on.ensures in
    let engine = c.end_sound-gave.new.engine in
    let writer = c.end_sound-gave.new.writer in
    let switching = c.end_sound-gave.new.switching in
    let jacks = c.end_sound-gave.new.jacks in
    let gave = c.end_sound-gave.result in
    let before = g.P.Platform.told c.args.platform.now in
    let middle = g.P.Platform.told c.end_sound-gave.new.platform in
    record {
      ended = ended_by old engine writer switching gave;
      counters = jacks;
      ends = ends_switching old engine writer switching jacks gave before middle (g.P.Platform.told c.shut.new.platform)
          (subst (λ (on : Bool). EndsNow on old.clock old.engine engine old.writer writer old.supply old.switching switching old.jacks jacks gave before middle) on c.end_sound-gave.ensures.ends)
          c.shut.ensures.made;
      phase = c.phase_of-phase.ensures.value ∙ ap (λ (given_up : Option ℕ). phase_if writer.course.started given_up engine.rings.outstanding (tally_of writer)) c.given_after.ensures;
      sent = refl;
      graphs = refl;
      plans = refl;
      jacks = c.into_list.ensures;
      runs = c.give_back-runs.ensures.runs;
      silences = c.give_back-runs.ensures.silences;
    })
