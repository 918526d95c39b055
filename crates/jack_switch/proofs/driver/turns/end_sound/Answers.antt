use Rattle.std.proofs.Common.{Bool, false, sym, ap, subst, ◌∙◌, inl, inr}
use Rattle.period_writer.specs.declared.course.Course.{Course}
use Rattle.jack_switch.specs.JackSteps.{LooksNow}
use Rattle.jack_switch.proofs.Kept.{was_so}
use Rattle.jack_switch.proofs.Ran.{finishes_answered, last_answered}
use Rattle.jack_switch.proofs.driver.turns.end_sound.Goals as goal

pub returns-else-overdue-clause-ends : goal.returns-else-overdue-clause-ends
returns-else-overdue-clause-ends g c =
    let looked = c.look-overdue.ensures.looks in
    let writer = c.args.writer.now in
    let supply = c.args.supply.now in
    let before = g.P.Platform.told c.args.platform.now in
    let middle = g.P.Platform.told c.look-overdue.new.platform in
    let after = g.P.Platform.told c.finish-ran.new.platform in
    inr (inl (record {
      started = sym (ap (λ (course : Course). course.started) c.course.ensures.value) ∙ was_so c.course.result.started c.if-not-course.false;
      on_is = c.if-not-on.false;
      looked = middle;
      looks = record {
        reads = looked.reads;
        looks = subst (λ (overdue : Bool). LooksNow c.args.engine.now c.look-overdue.new.engine c.args.clock c.args.switching.now c.look-overdue.new.switching overdue looked.reads before middle) c.if-overdue.false looked.looks;
        counted = looked.counted;
      };
      finishes = finishes_answered writer c.finish-ran.new.self supply c.finish-ran.result middle after c.finish-ran.ensures.finishes;
      tells = last_answered writer c.finish-ran.new.self supply c.finish-ran.result middle after c.finish-ran.ensures.finishes c.finish-ran.ensures.tells;
      gave_none = c.if-overdue.false;
    }))
