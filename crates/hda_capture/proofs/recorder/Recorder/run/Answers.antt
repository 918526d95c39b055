use Rattle.std.proofs.Common.{◌≤◌, ◌∙◌, ℕ, length, ap, sym, subst, arith}
use Rattle.period_writer.proofs.Callers.{touched_in_ring}
use Rattle.hda_capture.specs.Recordings.{RecordTally, facts_of}
use Rattle.hda_capture.specs.Recorders.{tally_of, measures_of}
use Rattle.hda_capture.specs.Calls.{ReadsTurn}
use Rattle.hda_capture.proofs.RecordCourses.{run_grows, still_on}
use Rattle.hda_capture.proofs.RecordTurns.{run_so}
use Rattle.hda_capture.proofs.recorder.Recorder.run.Goals as goal

pub read_turn-recorded-requires-clause-room : goal.read_turn-recorded-requires-clause-room
read_turn-recorded-requires-clause-room g c =
    let few = touched_in_ring c.args.self.now.geometry.periods c.args.self.now.geometry.period c.args.self.now.course.read c.next_turn-turn.result.upto c.args.self.now.geometry.some c.next_turn-turn.ensures.ring in
    omega (arith, few, c.requires.room, c.read-from.ensures.accesses, c.read-lpib.ensures.accesses)

pub stop_if-requires : goal.stop_if-requires
stop_if-requires g c =
    let few = touched_in_ring c.args.self.now.geometry.periods c.args.self.now.geometry.period c.args.self.now.course.read c.next_turn-turn.result.upto c.args.self.now.geometry.some c.next_turn-turn.ensures.ring in
    omega (arith, few, c.requires.room, c.read-from.ensures.accesses, c.read-lpib.ensures.accesses, c.read_turn-recorded.ensures.accesses)

pub returns-clause-records : goal.returns-clause-records
returns-clause-records g c =
    let turn = subst (λ (lpib : ℕ). ReadsTurn c.args.self.now c.read-from.result lpib c.read_turn-recorded.result c.read_turn-recorded.new.self (g.P.Platform.told c.read-lpib.new.self) (g.P.Platform.told c.read_turn-recorded.new.platform)) c.next_turn-turn.ensures.lpib
    (subst (λ (from : ℕ). ReadsTurn c.args.self.now from c.next_turn-turn.result.lpib c.read_turn-recorded.result c.read_turn-recorded.new.self (g.P.Platform.told c.read-lpib.new.self) (g.P.Platform.told c.read_turn-recorded.new.platform)) c.next_turn-turn.ensures.from
    c.read_turn-recorded.ensures.reads) in
    run_so c.args.self.now c.read_turn-recorded.new.self c.read-from.result c.read-lpib.result c.read_turn-recorded.result
    (g.P.Platform.told c.args.platform.now) (g.P.Platform.told c.read-from.new.self) (g.P.Platform.told c.read-lpib.new.self) (g.P.Platform.told c.read_turn-recorded.new.platform) (g.P.Platform.told c.stop_if.new.platform)
    c.read-from.ensures.told c.read-lpib.ensures.told turn c.stop_if.ensures.made

pub returns-clause-on : goal.returns-clause-on
returns-clause-on g c =
    let reads = c.read_turn-recorded.ensures.reads in
    ap (λ (tally : RecordTally). tally.course.started) reads.tally_is
    ∙ still_on (measures_of c.args.self.now) (tally_of c.args.self.now) (facts_of c.next_turn-turn.result.from c.next_turn-turn.result.lpib reads.to) c.requires.started

pub returns-clause-grows : goal.returns-clause-grows
returns-clause-grows g c =
    let reads = c.read_turn-recorded.ensures.reads in
    subst (λ (tally : RecordTally). c.args.self.now.course.read ≤ tally.course.read) (sym reads.tally_is)
    (run_grows (measures_of c.args.self.now) (length c.args.self.now.runs) (tally_of c.args.self.now) (facts_of c.next_turn-turn.result.from c.next_turn-turn.result.lpib reads.to) c.next_turn-turn.ensures.recorder.course_is)

pub returns-clause-accesses : goal.returns-clause-accesses
returns-clause-accesses g c =
    let few = touched_in_ring c.args.self.now.geometry.periods c.args.self.now.geometry.period c.args.self.now.course.read c.next_turn-turn.result.upto c.args.self.now.geometry.some c.next_turn-turn.ensures.ring in
    omega (arith, few, c.read-from.ensures.accesses, c.read-lpib.ensures.accesses, c.read_turn-recorded.ensures.accesses, c.stop_if.ensures.accesses)
