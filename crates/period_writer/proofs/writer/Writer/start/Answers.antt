use Rattle.std.proofs.Common.{◌≡◌, ◌≤◌, ◌+◌, ◌∙◌, ℕ, Bool, List, length, ap, sym, refl, subst, arith, if◌then◌else◌}
use Rattle.wav_reader.specs.Supplies.{Supplied, MayGive, sound_before}
use Rattle.hda_world.specs.Events.{Event}
use Rattle.period_writer.specs.Playing.{Starts}
use Rattle.period_writer.specs.Accounts.{Accounts}
use Rattle.period_writer.proofs.Accounts.{accounts_of, none_used}
use Rattle.wav_reader.proofs.Callers.{before_is, with_taken}
use Rattle.period_writer.proofs.SupplyRuns.{fits, one_more, now_on, run_over, false_true}
use Rattle.hda_world.specs.Tellings.{Between, Makes}
use Rattle.period_writer.specs.declared.geometry.Geometry.{Geometry}
use Rattle.period_writer.specs.Rings.{period_bytes, ring_bytes}
use Rattle.period_writer.specs.Starting.{run_accesses}
use Rattle.period_writer.specs.Runs.{Tally, course_opened, measures, facts_of, run_start, run_sound, tally_after}
use Rattle.period_writer.specs.Writers.{WriterState, KeepsRing, tally_of, periods_of, ring_of, measures_of, ring_size, touched_by, writes_of}
use Rattle.period_writer.specs.Courses.{IsCourse}
use Rattle.period_writer.proofs.FreshWriters.{has_words, is_fresh, has_ring}
use Rattle.hda_world.specs.declared.world.TheConstants.{REGION_BYTES}
use Rattle.period_writer.proofs.Started.{starts_tell}
use Rattle.period_writer.proofs.CourseLaws.{touched_at_first, none_over, ring_some}
use Rattle.period_writer.proofs.Runnings.{starts_so}
use Rattle.period_writer.proofs.writer.Writer.start.Goals as goal

pub write_turn-requires-clause-room : goal.write_turn-requires-clause-room
write_turn-requires-clause-room g c =
    let is = touched_at_first c.args.self.now.geometry.periods c.args.self.now.geometry.period (length c.args.self.now.runs) _ c.next_turn-turn.result.reach c.args.self.now.course c.args.self.now.geometry.some_periods c.args.self.now.geometry.some c.next_turn-turn.ensures.writer.course_is c.requires.fresh c.next_turn-turn.ensures.reach in
    let over = none_over c.args.self.now.geometry.period c.next_turn-turn.result.start c.next_turn-turn.result.sound (length c.args.self.now.runs) c.args.self.now.course c.next_turn-turn.ensures.writer.course_is c.requires.fresh in
    let same = ap (λ (writer : WriterState). touched_by writer c.next_turn-turn.result.start c.next_turn-turn.result.sound c.next_turn-turn.result.reach) c.write_entries.ensures.same in
    omega (arith, is, over, same, c.requires.room, c.read-from.ensures.accesses, c.reset_stream.ensures.accesses, c.write_entries.ensures.accesses)

pub set_going-requires : goal.set_going-requires
set_going-requires g c =
    let is = touched_at_first c.args.self.now.geometry.periods c.args.self.now.geometry.period (length c.args.self.now.runs) _ c.next_turn-turn.result.reach c.args.self.now.course c.args.self.now.geometry.some_periods c.args.self.now.geometry.some c.next_turn-turn.ensures.writer.course_is c.requires.fresh c.next_turn-turn.ensures.reach in
    let over = none_over c.args.self.now.geometry.period c.next_turn-turn.result.start c.next_turn-turn.result.sound (length c.args.self.now.runs) c.args.self.now.course c.next_turn-turn.ensures.writer.course_is c.requires.fresh in
    let same = ap (λ (writer : WriterState). touched_by writer c.next_turn-turn.result.start c.next_turn-turn.result.sound c.next_turn-turn.result.reach) c.write_entries.ensures.same in
    omega (arith, is, over, same, c.requires.room, c.read-from.ensures.accesses, c.reset_stream.ensures.accesses, c.write_entries.ensures.accesses, c.write_turn.ensures.accesses)

pub read-to-requires : goal.read-to-requires
read-to-requires g c =
    let is = touched_at_first c.args.self.now.geometry.periods c.args.self.now.geometry.period (length c.args.self.now.runs) _ c.next_turn-turn.result.reach c.args.self.now.course c.args.self.now.geometry.some_periods c.args.self.now.geometry.some c.next_turn-turn.ensures.writer.course_is c.requires.fresh c.next_turn-turn.ensures.reach in
    let over = none_over c.args.self.now.geometry.period c.next_turn-turn.result.start c.next_turn-turn.result.sound (length c.args.self.now.runs) c.args.self.now.course c.next_turn-turn.ensures.writer.course_is c.requires.fresh in
    let same = ap (λ (writer : WriterState). touched_by writer c.next_turn-turn.result.start c.next_turn-turn.result.sound c.next_turn-turn.result.reach) c.write_entries.ensures.same in
    record { room = omega (arith, is, over, same, c.requires.room, c.read-from.ensures.accesses, c.reset_stream.ensures.accesses, c.write_entries.ensures.accesses, c.write_turn.ensures.accesses, c.set_going.ensures.accesses) }

pub returns-clause-accesses : goal.returns-clause-accesses
returns-clause-accesses g c =
    let is = touched_at_first c.args.self.now.geometry.periods c.args.self.now.geometry.period (length c.args.self.now.runs) _ c.next_turn-turn.result.reach c.args.self.now.course c.args.self.now.geometry.some_periods c.args.self.now.geometry.some c.next_turn-turn.ensures.writer.course_is c.requires.fresh c.next_turn-turn.ensures.reach in
    let over = none_over c.args.self.now.geometry.period c.next_turn-turn.result.start c.next_turn-turn.result.sound (length c.args.self.now.runs) c.args.self.now.course c.next_turn-turn.ensures.writer.course_is c.requires.fresh in
    let same = ap (λ (writer : WriterState). touched_by writer c.next_turn-turn.result.start c.next_turn-turn.result.sound c.next_turn-turn.result.reach) c.write_entries.ensures.same in
    omega (arith, is, over, same, c.read-from.ensures.accesses, c.reset_stream.ensures.accesses, c.write_entries.ensures.accesses, c.write_turn.ensures.accesses, c.set_going.ensures.accesses, c.read-to.ensures.accesses)

pub write_turn-requires-clause-left : goal.write_turn-requires-clause-left
write_turn-requires-clause-left g c =
    fits (measures_of c.args.self.now) (length c.args.self.now.runs) c.args.self.now.course c.args.supply.now c.args.budget c.left.result c.read-from.result 0 c.next_turn-turn.result.sound
    (ring_some c.args.self.now.geometry.periods c.args.self.now.geometry.period c.args.self.now.geometry.some_periods c.args.self.now.geometry.some) c.next_turn-turn.ensures.writer.course_is c.requires.enough c.left.ensures.value c.next_turn-turn.ensures.sound

pub returns-clause-taken : goal.returns-clause-taken
returns-clause-taken g c = record {
  count = c.next_turn-turn.result.sound;
  within = fits (measures_of c.args.self.now) (length c.args.self.now.runs) c.args.self.now.course c.args.supply.now c.args.budget c.left.result c.read-from.result 0 c.next_turn-turn.result.sound
      (ring_some c.args.self.now.geometry.periods c.args.self.now.geometry.period c.args.self.now.geometry.some_periods c.args.self.now.geometry.some) c.next_turn-turn.ensures.writer.course_is c.requires.enough c.left.ensures.value c.next_turn-turn.ensures.sound;
  is = c.write_turn.ensures.supply;
}

pub returns-clause-starts : goal.returns-clause-starts
returns-clause-starts g c later may =
    let supply = c.args.supply.now in
    let count = c.next_turn-turn.result.sound in
    let tally = tally_of c.args.self.now in
    let m = measures_of c.args.self.now in
    let within = fits (measures_of c.args.self.now) (length c.args.self.now.runs) c.args.self.now.course c.args.supply.now c.args.budget c.left.result c.read-from.result 0 c.next_turn-turn.result.sound
    (ring_some c.args.self.now.geometry.periods c.args.self.now.geometry.period c.args.self.now.geometry.some_periods c.args.self.now.geometry.some) c.next_turn-turn.ensures.writer.course_is c.requires.enough c.left.ensures.value c.next_turn-turn.ensures.sound in
    let some = ring_some c.args.self.now.geometry.periods c.args.self.now.geometry.period c.args.self.now.geometry.some_periods c.args.self.now.geometry.some in
    let rule : length supply.held ≤ supply.left = subst (λ (left : ℕ). length supply.held ≤ left) c.left.ensures.value c.left.ensures.most in
    let whole = with_taken count supply later in
    let is : sound_before supply c.write_turn.new.supply later ≡ whole = ap (λ (supply' : Supplied). sound_before supply supply' later) c.write_turn.ensures.supply ∙ before_is supply count later within in
    let counts : count ≡ run_sound m tally.course (facts_of c.args.budget supply.left c.read-from.result 0 c.read-to.result) =
    c.next_turn-turn.ensures.sound ∙ ap (λ (left : ℕ). run_sound m tally.course (facts_of c.args.budget left c.read-from.result 0 0)) c.left.ensures.value in
    let over = run_over m (length c.args.self.now.runs) tally supply c.args.budget c.read-from.result 0 c.read-to.result count later some c.next_turn-turn.ensures.writer.course_is rule c.requires.enough counts
    (subst (λ (supply' : Supplied). MayGive supply' later) c.write_turn.ensures.supply may) (λ started. absurd (false_true (sym c.requires.fresh ∙ started))) in
    let reset = c.reset_stream.ensures.made in
    let none : c.args.self.now.course.reach ≡ 0 = c.next_turn-turn.ensures.writer.course_is.reach
    ∙ ap (λ (started : Bool). if started then c.args.self.now.course.at + ring_bytes c.args.self.now.geometry.periods c.args.self.now.geometry.period else 0) c.requires.fresh in
    let same = ap tally_of (c.write_turn.ensures.same ∙ c.write_entries.ensures.same) in
    let after = subst (λ (geometry : Geometry). tally_of c.conclude-ran.new.self ≡ tally_after (measures geometry) (tally_of c.args.self.now) (facts_of c.args.budget c.left.result c.read-from.result 0 c.read-to.result)) (ap (λ (writer : WriterState). writer.geometry) (c.write_turn.ensures.same ∙ c.write_entries.ensures.same))
    (subst (λ (tally : Tally). tally_of c.conclude-ran.new.self ≡ tally_after (measures c.write_turn.new.self.geometry) tally (facts_of c.args.budget c.left.result c.read-from.result 0 c.read-to.result)) same c.conclude-ran.ensures.tally) in
    let start = c.next_turn-turn.result.start in
    let starts : start ≡ run_start m tally.course (facts_of c.args.budget (length whole) c.read-from.result 0 c.read-to.result) =
    c.next_turn-turn.ensures.start ∙ ap (λ (left : ℕ). run_start m tally.course (facts_of c.args.budget left c.read-from.result 0 0)) c.left.ensures.value ∙ over.begins in
    let written = subst (λ (writer : WriterState). Between (Makes (writes_of writer start c.next_turn-turn.result.sound c.next_turn-turn.result.reach supply.held)) (g.P.Platform.told c.write_entries.new.platform) (g.P.Platform.told c.write_turn.new.platform)) c.write_entries.ensures.same c.write_turn.ensures.made in
    let run = subst (λ (writer : WriterState). Between (Makes (run_accesses writer.list.address writer.geometry)) (g.P.Platform.told c.write_turn.new.platform) (g.P.Platform.told c.set_going.new.platform)) (c.write_turn.ensures.same ∙ c.write_entries.ensures.same) c.set_going.ensures.made in
    let after' = after ∙ ap (λ (left : ℕ). tally_after m tally (facts_of c.args.budget left c.read-from.result 0 c.read-to.result)) c.left.ensures.value ∙ over.recorded in
    let line = subst (λ (events : List Event). Between (Makes events) (g.P.Platform.told c.write_entries.new.platform) (g.P.Platform.told c.write_turn.new.platform))
    (over.written (period_bytes c.args.self.now.geometry.period) (periods_of c.args.self.now) start c.args.self.now.course.reach c.next_turn-turn.result.reach) written in
    subst (λ (sound : List ℕ). Starts c.args.self.now.geometry c.args.self.now.list.address (periods_of c.args.self.now) c.args.budget sound tally (tally_of c.conclude-ran.new.self) later (g.P.Platform.told c.args.platform.now) (g.P.Platform.told c.read-to.new.self)) (sym is)
    (starts_so c.args.self.now.geometry c.args.self.now.list.address (periods_of c.args.self.now) c.args.budget (length whole) c.read-from.result reset.in_reset reset.ready c.read-to.result start c.next_turn-turn.result.reach count whole later
    tally (tally_of c.conclude-ran.new.self) (g.P.Platform.told c.args.platform.now) (g.P.Platform.told c.read-from.new.self) (g.P.Platform.told c.reset_stream.new.platform) (g.P.Platform.told c.write_entries.new.platform) (g.P.Platform.told c.write_turn.new.platform) (g.P.Platform.told c.set_going.new.platform) (g.P.Platform.told c.read-to.new.self)
    c.requires.fresh none refl c.next_turn-turn.ensures.low starts c.next_turn-turn.ensures.reach over.sound_is after' over.rest
    c.read-from.ensures.told reset.made c.write_entries.ensures.made line run c.read-to.ensures.told)

pub returns-clause-tells : goal.returns-clause-tells
returns-clause-tells g c later may =
    starts_tell (ring_of c.args.self.now) c.args.budget REGION_BYTES (sound_before c.args.supply.now c.write_turn.new.supply later) later (tally_of c.args.self.now) (tally_of c.conclude-ran.new.self) (g.P.Platform.told c.args.platform.now) (g.P.Platform.told c.read-to.new.self)
    (has_words c.args.self.now) (is_fresh c.args.self.now c.next_turn-turn.ensures.writer c.requires.fresh) (has_ring c.args.self.now c.next_turn-turn.ensures.writer) (g.met.P.Platform.whole c.args.platform.now) (returns-clause-starts g c later may)

pub returns-clause-few : goal.returns-clause-few
returns-clause-few g c =
    let same = ap tally_of (c.write_turn.ensures.same ∙ c.write_entries.ensures.same) in
    let more = one_more (measures_of c.write_turn.new.self) (tally_of c.write_turn.new.self) (tally_of c.conclude-ran.new.self) (facts_of c.args.budget c.left.result c.read-from.result 0 c.read-to.result) c.conclude-ran.ensures.tally in
    let runs = ap (λ (tally : Tally). length tally.runs) same in omega (arith, more, runs)

pub returns-clause-on : goal.returns-clause-on
returns-clause-on g c =
    let same = ap tally_of (c.write_turn.ensures.same ∙ c.write_entries.ensures.same) in
    let course = subst (λ (writer : WriterState). IsCourse (ring_size writer) (length writer.runs) writer.course) (sym (c.write_turn.ensures.same ∙ c.write_entries.ensures.same)) c.next_turn-turn.ensures.writer.course_is in
    now_on (measures_of c.write_turn.new.self) (length c.write_turn.new.self.runs) (tally_of c.write_turn.new.self) (tally_of c.conclude-ran.new.self) (facts_of c.args.budget c.left.result c.read-from.result 0 c.read-to.result) course c.conclude-ran.ensures.tally
    (ap (λ (tally : Tally). tally.course.started) same ∙ c.requires.fresh)

pub returns-clause-accounts : goal.returns-clause-accounts
returns-clause-accounts g c =
    let old = c.args.self.now in
    let supply = c.args.supply.now in
    let after = c.conclude-ran.new.self in
    let count = c.next_turn-turn.result.sound in
    let some = ring_some old.geometry.periods old.geometry.period old.geometry.some_periods old.geometry.some in
    let within = fits (measures_of old) (length old.runs) old.course supply c.args.budget c.left.result c.read-from.result 0 count some c.next_turn-turn.ensures.writer.course_is c.requires.enough c.left.ensures.value c.next_turn-turn.ensures.sound in
    let same = ap tally_of (c.write_turn.ensures.same ∙ c.write_entries.ensures.same) in
    let facts = facts_of c.args.budget c.left.result c.read-from.result 0 c.read-to.result in
    let recorded = subst (λ (geometry : Geometry). tally_of after ≡ tally_after (measures geometry) (tally_of old) facts) (ap (λ (writer : WriterState). writer.geometry) (c.write_turn.ensures.same ∙ c.write_entries.ensures.same))
    (subst (λ (tally : Tally). tally_of after ≡ tally_after (measures c.write_turn.new.self.geometry) tally facts) same c.conclude-ran.ensures.tally) in
    subst (λ (taken : Supplied). Accounts (measures_of old) supply taken course_opened after.course) (sym c.write_turn.ensures.supply)
    (accounts_of (measures_of old) (length old.runs) course_opened (tally_of old) (tally_of after) supply c.args.budget c.left.result c.read-from.result 0 c.read-to.result count some c.next_turn-turn.ensures.writer.course_is refl (none_used (measures_of old).ring (length old.runs) old.course c.next_turn-turn.ensures.writer.course_is c.requires.fresh) recorded c.next_turn-turn.ensures.sound within
    (subst (λ (left : ℕ). length supply.held ≤ left) c.left.ensures.value c.left.ensures.most))

pub returns-clause-keeps : goal.returns-clause-keeps
returns-clause-keeps g c = subst (λ (writer : WriterState). KeepsRing writer c.conclude-ran.new.self) (c.write_turn.ensures.same ∙ c.write_entries.ensures.same) c.conclude-ran.ensures.keeps
