use Rattle.std.proofs.Common.{◌≡◌, ◌<◌, Bool, true, false, length, refl, sym, ap, subst, ◌∙◌, inl, inr, arith}
use Rattle.wav_reader.proofs.Callers.{none_now}
use Rattle.period_writer.specs.Accounts.{Accounts}
use Rattle.period_writer.specs.Writers.{WriterState, measures_of}
use Rattle.period_writer.proofs.Callers.{accounts_none}
use Rattle.jack_switch.specs.Inside.{state_inside}
use Rattle.jack_switch.specs.JackDrivers.{is_on_now}
use Rattle.jack_switch.specs.JackSteps.{LooksNow}
use Rattle.jack_switch.proofs.Kept.{kept_on, not_given, given_by, on_parts, both_pins}
use Rattle.jack_switch.proofs.Ran.{plays_answered, tells_answered}
use Rattle.jack_switch.proofs.driver.JackDriver.go_on.Goals as goal

pub returns-then-overdue-clause-taken : goal.returns-then-overdue-clause-taken
returns-then-overdue-clause-taken g c = rw (← c.self.view_is) (none_now c.self.inside.supply)

pub returns-then-overdue-clause-accounts : goal.returns-then-overdue-clause-accounts
returns-then-overdue-clause-accounts g c = rw (← c.self.view_is)
    (let writer = c.self.inside.writer in
    let supply = c.self.inside.supply in
    subst (λ (writer' : WriterState). Accounts (measures_of writer) supply supply writer.course writer'.course) (sym c.stop.ensures.same) (accounts_none (measures_of writer) supply writer.course))

pub invariant_of-self : goal.invariant_of-self
invariant_of-self g c =
    let old = state_inside c.self.inside in
    let free : length old.writer.runs < old.calls = rw (← c.self.view_is) at c.requires.free in
    let started : old.writer.course.started ≡ true = rw (← c.self.view_is) at c.requires.started in
    let looked = c.look-overdue.ensures in
    let same = c.stop.ensures.same in
    let long = ap (λ (writer : WriterState). length writer.runs) same in
    kept_on old _ c.self.invariant free looked.started looked.quiet looked.corb looked.rirb
    (record {
      geometry = ap (λ (writer : WriterState). writer.geometry) same;
      list = ap (λ (writer : WriterState). writer.list) same;
      periods = ap (λ (writer : WriterState). writer.periods) same;
      records = ap (λ (writer : WriterState). writer.records) same;
    }) (omega (arith, long)) (ap (λ (writer : WriterState). writer.course.started) same ∙ started)
    looked.pins (looked.asked c.self.invariant.asked)
    (λ noticed is. given_by c.look-overdue.new.engine.rings.outstanding old.clock noticed is (sym looked.looks.looks.overdue_is ∙ c.if-overdue.true)) refl refl refl refl refl

pub returns-then-overdue-clause-goes : goal.returns-then-overdue-clause-goes
returns-then-overdue-clause-goes g c = rw (← c.self.view_is)
    (let old = state_inside c.self.inside in
    let started : old.writer.course.started ≡ true = rw (← c.self.view_is) at c.requires.started in
    let looked = c.look-overdue.ensures.looks in
    let before = g.P.Platform.told c.args.platform.now in
    let middle = g.P.Platform.told c.look-overdue.new.platform in
    inr (record {
      started = started;
      looked = middle;
      looks = record {
        reads = looked.reads;
        looks = subst (λ (overdue : Bool). LooksNow old.engine c.look-overdue.new.engine old.clock old.switching c.look-overdue.new.switching overdue looked.reads before middle) c.if-overdue.true looked.looks;
        counted = looked.counted;
      };
      stopped = c.stop.ensures.made;
      writer = c.stop.ensures.same;
      supply = refl;
      clock = refl;
      given_up = refl;
    }))

pub invariant_of-self-2 : goal.invariant_of-self-2
invariant_of-self-2 g c =
    let old = state_inside c.self.inside in
    let free : length old.writer.runs < old.calls = rw (← c.self.view_is) at c.requires.free in
    let on : is_on_now old ≡ true = rw (← c.self.view_is) at c.requires.on in
    let looked = c.look-overdue.ensures in
    let now = c.submit_after-self-inside.ensures in
    kept_on old _ c.self.invariant free (now.started ∙ looked.started) now.quiet (now.corb ∙ looked.corb) (now.rirb ∙ looked.rirb) c.run-ran.ensures.keeps c.run-ran.ensures.few c.run-ran.ensures.on
    (both_pins old.switching c.look-overdue.new.switching c.submit_after-self-inside.new.switching looked.pins now.pins)
    (now.asked (looked.asked c.self.invariant.asked))
    (λ noticed is. absurd (not_given old.given_up (on_parts old on).1 noticed is)) refl refl refl refl refl

pub returns-clause-goes : goal.returns-clause-goes
returns-clause-goes g c = rw (← c.self.view_is)
    (let old = state_inside c.self.inside in
    let started : old.writer.course.started ≡ true = rw (← c.self.view_is) at c.requires.started in
    let looked = c.look-overdue.ensures.looks in
    let now = c.submit_after-self-inside.ensures in
    let before = g.P.Platform.told c.args.platform.now in
    let middle = g.P.Platform.told c.look-overdue.new.platform in
    let ran = g.P.Platform.told c.run-ran.new.platform in
    inl (record {
      started = started;
      looked = middle;
      middle = c.look-overdue.new.engine;
      switching = c.look-overdue.new.switching;
      looks = record {
        reads = looked.reads;
        looks = subst (λ (overdue : Bool). LooksNow old.engine c.look-overdue.new.engine old.clock old.switching c.look-overdue.new.switching overdue looked.reads before middle) c.if-overdue.false looked.looks;
        counted = looked.counted;
      };
      ran = ran;
      plays = plays_answered c.args.budget old.writer c.run-ran.new.self old.supply c.run-ran.new.supply c.run-ran.result middle ran c.run-ran.ensures.plays;
      tells = tells_answered c.args.budget old.writer c.run-ran.new.self old.supply c.run-ran.new.supply c.run-ran.result middle ran c.run-ran.ensures.plays c.run-ran.ensures.tells;
      after_run = record { submits = now.submits; chosen = now.chosen; clock_is = now.clock };
      given_up = refl;
    }))
