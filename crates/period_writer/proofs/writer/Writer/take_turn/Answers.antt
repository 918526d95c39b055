use Rattle.std.proofs.Common.{◌≡◌, ◌≤◌, ◌+◌, ◌∙◌, ℕ, List, Bool, ap, sym, subst, refl, arith, length, if◌then◌else◌}
use Rattle.hda_world.specs.Events.{Event}
use Rattle.hda_world.specs.Tellings.{Between, Makes}
use Rattle.wav_reader.specs.Supplies.{Supplied, MayGive, EndsWith, sound_before}
use Rattle.period_writer.specs.declared.geometry.Geometry.{Geometry}
use Rattle.period_writer.specs.Playing.{TakesTurn}
use Rattle.period_writer.specs.Rings.{period_bytes, ring_bytes}
use Rattle.period_writer.specs.Runs.{Tally, measures, facts_of, run_start, run_sound, tally_after}
use Rattle.period_writer.specs.Writers.{WriterState, KeepsRing, tally_of, periods_of, measures_of}
use Rattle.period_writer.proofs.CourseLaws.{position_small, ring_small, ring_some, touched_by_run}
use Rattle.period_writer.proofs.Runnings.{turn_so}
use Rattle.period_writer.specs.Accounts.{Accounts}
use Rattle.period_writer.proofs.Accounts.{accounts_of}
use Rattle.wav_reader.proofs.Callers.{before_is, with_taken, without_none}
use Rattle.period_writer.proofs.SupplyRuns.{fits, one_more, still_on, run_over, none_taken}
use Rattle.period_writer.proofs.writer.Writer.take_turn.Goals as goal

pub write_turn-requires-clause-small : goal.write_turn-requires-clause-small
write_turn-requires-clause-small g c =
    let ring = ring_small c.args.self.now.geometry.periods c.args.self.now.geometry.period c.args.self.now.geometry.few_periods c.args.self.now.geometry.few in
    let is = c.next_turn-turn.ensures.writer.course_is in
    let at = position_small (ring_bytes c.args.self.now.geometry.periods c.args.self.now.geometry.period) (length c.args.self.now.runs) c.args.self.now.records c.args.self.now.course.at ring c.next_turn-turn.ensures.writer.few_runs c.next_turn-turn.ensures.writer.few_records is.bounded in
    let reach : c.args.self.now.course.reach ≡ c.args.self.now.course.at + ring_bytes c.args.self.now.geometry.periods c.args.self.now.geometry.period =
    is.reach ∙ ap (λ (started : Bool). if started then c.args.self.now.course.at + ring_bytes c.args.self.now.geometry.periods c.args.self.now.geometry.period else 0) c.requires.started in
    omega (arith, ring, at, reach, c.next_turn-turn.ensures.within, c.next_turn-turn.ensures.low)

pub write_turn-requires-clause-room : goal.write_turn-requires-clause-room
write_turn-requires-clause-room g c =
    let few = touched_by_run c.args.self.now.geometry.periods c.args.self.now.geometry.period c.next_turn-turn.result.start c.next_turn-turn.result.sound c.args.self.now.course.reach c.next_turn-turn.result.reach c.args.self.now.geometry.some c.next_turn-turn.ensures.low c.next_turn-turn.ensures.ascends c.next_turn-turn.ensures.within in
    omega (arith, few, c.requires.room, c.read-from.ensures.accesses, c.read-lpib.ensures.accesses)

pub read-to-requires : goal.read-to-requires
read-to-requires g c =
    let few = touched_by_run c.args.self.now.geometry.periods c.args.self.now.geometry.period c.next_turn-turn.result.start c.next_turn-turn.result.sound c.args.self.now.course.reach c.next_turn-turn.result.reach c.args.self.now.geometry.some c.next_turn-turn.ensures.low c.next_turn-turn.ensures.ascends c.next_turn-turn.ensures.within in
    record { room = omega (arith, few, c.requires.room, c.read-from.ensures.accesses, c.read-lpib.ensures.accesses, c.write_turn.ensures.accesses) }

pub returns-clause-accesses : goal.returns-clause-accesses
returns-clause-accesses g c =
    let few = touched_by_run c.args.self.now.geometry.periods c.args.self.now.geometry.period c.next_turn-turn.result.start c.next_turn-turn.result.sound c.args.self.now.course.reach c.next_turn-turn.result.reach c.args.self.now.geometry.some c.next_turn-turn.ensures.low c.next_turn-turn.ensures.ascends c.next_turn-turn.ensures.within in
    omega (arith, few, c.read-from.ensures.accesses, c.read-lpib.ensures.accesses, c.write_turn.ensures.accesses, c.read-to.ensures.accesses)

pub write_turn-requires-clause-left : goal.write_turn-requires-clause-left
write_turn-requires-clause-left g c =
    fits (measures_of c.args.self.now) (length c.args.self.now.runs) c.args.self.now.course c.args.supply.now c.args.budget c.left.result c.read-from.result c.read-lpib.result c.next_turn-turn.result.sound
    (ring_some c.args.self.now.geometry.periods c.args.self.now.geometry.period c.args.self.now.geometry.some_periods c.args.self.now.geometry.some) c.next_turn-turn.ensures.writer.course_is c.requires.enough c.left.ensures.value c.next_turn-turn.ensures.sound

pub returns-clause-taken : goal.returns-clause-taken
returns-clause-taken g c = record {
  count = c.next_turn-turn.result.sound;
  within = fits (measures_of c.args.self.now) (length c.args.self.now.runs) c.args.self.now.course c.args.supply.now c.args.budget c.left.result c.read-from.result c.read-lpib.result c.next_turn-turn.result.sound
      (ring_some c.args.self.now.geometry.periods c.args.self.now.geometry.period c.args.self.now.geometry.some_periods c.args.self.now.geometry.some) c.next_turn-turn.ensures.writer.course_is c.requires.enough c.left.ensures.value c.next_turn-turn.ensures.sound;
  is = c.write_turn.ensures.supply;
}

pub returns-clause-none : goal.returns-clause-none
returns-clause-none g c zero =
    c.write_turn.ensures.supply ∙ without_none c.args.supply.now c.next_turn-turn.result.sound
    (c.next_turn-turn.ensures.sound ∙ none_taken (measures_of c.args.self.now) c.args.self.now.course c.args.budget c.left.result c.read-from.result c.read-lpib.result zero)

pub returns-clause-turn : goal.returns-clause-turn
returns-clause-turn g c later may ends =
    let supply = c.args.supply.now in
    let count = c.next_turn-turn.result.sound in
    let tally = tally_of c.args.self.now in
    let m = measures_of c.args.self.now in
    let within = fits (measures_of c.args.self.now) (length c.args.self.now.runs) c.args.self.now.course c.args.supply.now c.args.budget c.left.result c.read-from.result c.read-lpib.result c.next_turn-turn.result.sound
    (ring_some c.args.self.now.geometry.periods c.args.self.now.geometry.period c.args.self.now.geometry.some_periods c.args.self.now.geometry.some) c.next_turn-turn.ensures.writer.course_is c.requires.enough c.left.ensures.value c.next_turn-turn.ensures.sound in
    let some = ring_some c.args.self.now.geometry.periods c.args.self.now.geometry.period c.args.self.now.geometry.some_periods c.args.self.now.geometry.some in
    let rule : length supply.held ≤ supply.left = subst (λ (left : ℕ). length supply.held ≤ left) c.left.ensures.value c.left.ensures.most in
    let whole = with_taken count supply later in
    let is : sound_before supply c.write_turn.new.supply later ≡ whole = ap (λ (supply' : Supplied). sound_before supply supply' later) c.write_turn.ensures.supply ∙ before_is supply count later within in
    let counts : count ≡ run_sound m tally.course (facts_of c.args.budget supply.left c.read-from.result c.read-lpib.result c.read-to.result) =
    c.next_turn-turn.ensures.sound ∙ ap (λ (left : ℕ). run_sound m tally.course (facts_of c.args.budget left c.read-from.result c.read-lpib.result 0)) c.left.ensures.value in
    let over = run_over m (length c.args.self.now.runs) tally supply c.args.budget c.read-from.result c.read-lpib.result c.read-to.result count later some c.next_turn-turn.ensures.writer.course_is rule c.requires.enough counts
    (subst (λ (supply' : Supplied). MayGive supply' later) c.write_turn.ensures.supply may) (λ started. subst (EndsWith supply) is ends) in
    let same = ap tally_of c.write_turn.ensures.same in
    let after : tally_of c.conclude.new.self ≡ tally_after m tally (facts_of c.args.budget (length whole) c.read-from.result c.read-lpib.result c.read-to.result) =
    subst (λ (geometry : Geometry). tally_of c.conclude.new.self ≡ tally_after (measures geometry) tally (facts_of c.args.budget c.left.result c.read-from.result c.read-lpib.result c.read-to.result)) (ap (λ (writer : WriterState). writer.geometry) c.write_turn.ensures.same)
    (subst (λ (tally : Tally). tally_of c.conclude.new.self ≡ tally_after (measures c.write_turn.new.self.geometry) tally (facts_of c.args.budget c.left.result c.read-from.result c.read-lpib.result c.read-to.result)) same c.conclude.ensures.tally)
    ∙ ap (λ (left : ℕ). tally_after m tally (facts_of c.args.budget left c.read-from.result c.read-lpib.result c.read-to.result)) c.left.ensures.value ∙ over.recorded in
    let start = c.next_turn-turn.result.start in
    let starts : start ≡ run_start m tally.course (facts_of c.args.budget (length whole) c.read-from.result c.read-lpib.result c.read-to.result) =
    c.next_turn-turn.ensures.start ∙ ap (λ (left : ℕ). run_start m tally.course (facts_of c.args.budget left c.read-from.result c.read-lpib.result 0)) c.left.ensures.value ∙ over.begins in
    let line = subst (λ (events : List Event). Between (Makes events) (g.P.Platform.told c.read-lpib.new.self) (g.P.Platform.told c.write_turn.new.platform))
    (over.written (period_bytes c.args.self.now.geometry.period) (periods_of c.args.self.now) start c.args.self.now.course.reach c.next_turn-turn.result.reach) c.write_turn.ensures.made in
    subst (λ (sound : List ℕ). TakesTurn c.args.self.now.geometry (periods_of c.args.self.now) c.args.budget sound tally c.conclude.result (tally_of c.conclude.new.self) later (g.P.Platform.told c.args.platform.now) (g.P.Platform.told c.read-to.new.self)) (sym is)
    (turn_so c.args.self.now.geometry (periods_of c.args.self.now) c.args.budget (length whole) c.read-from.result c.read-lpib.result c.read-to.result start c.next_turn-turn.result.reach count whole later
    tally (tally_of c.conclude.new.self) c.conclude.result (g.P.Platform.told c.args.platform.now) (g.P.Platform.told c.read-from.new.self) (g.P.Platform.told c.read-lpib.new.self) (g.P.Platform.told c.write_turn.new.platform) (g.P.Platform.told c.read-to.new.self)
    refl starts c.next_turn-turn.ensures.reach over.sound_is after c.conclude.ensures.answer over.rest
    c.read-from.ensures.told c.read-lpib.ensures.told line c.read-to.ensures.told)

pub returns-clause-few : goal.returns-clause-few
returns-clause-few g c =
    let same = ap tally_of c.write_turn.ensures.same in
    let more = one_more (measures_of c.write_turn.new.self) (tally_of c.write_turn.new.self) (tally_of c.conclude.new.self) (facts_of c.args.budget c.left.result c.read-from.result c.read-lpib.result c.read-to.result) c.conclude.ensures.tally in
    let runs = ap (λ (tally : Tally). length tally.runs) same in omega (arith, more, runs)

pub returns-clause-on : goal.returns-clause-on
returns-clause-on g c =
    let same = ap tally_of c.write_turn.ensures.same in
    still_on (measures_of c.write_turn.new.self) (tally_of c.write_turn.new.self) (tally_of c.conclude.new.self) (facts_of c.args.budget c.left.result c.read-from.result c.read-lpib.result c.read-to.result) c.conclude.ensures.tally
    (ap (λ (tally : Tally). tally.course.started) same ∙ c.requires.started)

pub returns-clause-accounts : goal.returns-clause-accounts
returns-clause-accounts g c =
    let old = c.args.self.now in
    let supply = c.args.supply.now in
    let after = c.conclude.new.self in
    let count = c.next_turn-turn.result.sound in
    let some = ring_some old.geometry.periods old.geometry.period old.geometry.some_periods old.geometry.some in
    let within = fits (measures_of old) (length old.runs) old.course supply c.args.budget c.left.result c.read-from.result c.read-lpib.result count some c.next_turn-turn.ensures.writer.course_is c.requires.enough c.left.ensures.value c.next_turn-turn.ensures.sound in
    let same = ap tally_of c.write_turn.ensures.same in
    let facts = facts_of c.args.budget c.left.result c.read-from.result c.read-lpib.result c.read-to.result in
    let recorded = subst (λ (geometry : Geometry). tally_of after ≡ tally_after (measures geometry) (tally_of old) facts) (ap (λ (writer : WriterState). writer.geometry) c.write_turn.ensures.same)
    (subst (λ (tally : Tally). tally_of after ≡ tally_after (measures c.write_turn.new.self.geometry) tally facts) same c.conclude.ensures.tally) in
    subst (λ (taken : Supplied). Accounts (measures_of old) supply taken old.course after.course) (sym c.write_turn.ensures.supply)
    (accounts_of (measures_of old) (length old.runs) old.course (tally_of old) (tally_of after) supply c.args.budget c.left.result c.read-from.result c.read-lpib.result c.read-to.result count some c.next_turn-turn.ensures.writer.course_is c.requires.playing refl recorded c.next_turn-turn.ensures.sound within
    (subst (λ (left : ℕ). length supply.held ≤ left) c.left.ensures.value c.left.ensures.most))

pub returns-clause-keeps : goal.returns-clause-keeps
returns-clause-keeps g c = subst (λ (writer : WriterState). KeepsRing writer c.conclude.new.self) c.write_turn.ensures.same c.conclude.ensures.keeps
