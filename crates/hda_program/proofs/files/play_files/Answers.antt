use Rattle.std.proofs.Common.{◌≡◌, ◌+◌, ◌≤◌, inl, inr}
use Rattle.codec_graph.specs.declared.pin_kind.PinKind.TheVariants.{Analog}
use Rattle.hda_outside.specs.Counts.{Rose}
use Rattle.hda_program.specs.Meanings.{answer_meant}
use Rattle.hda_program.proofs.Complete.{files_complete, files_given}
use Rattle.hda_program.proofs.PlayEndings.{files_captureless, files_never_shrink, files_promised, files_runless, files_runs, files_shrunk, files_stopped, files_unread}
use Rattle.hda_program.proofs.Served.{files_serve, files_serve_whole}
use Rattle.hda_program.proofs.files.play_files.Goals as goal

pub returns-in-Ok-clause-promise : goal.returns-in-Ok-clause-promise
returns-in-Ok-clause-promise g c = files_promised Analog (g.S.Shelf.told c.args.shelf.now) (λ name. Rose (g.S.Shelf.faults c.args.shelf.now name) (g.S.Shelf.faults c.answer_play.new.shelf name))
    (λ name. Rose (g.S.Shelf.empties c.args.shelf.now name) (g.S.Shelf.empties c.answer_play.new.shelf name)) (λ name. g.S.Shelf.asked c.answer_play.new.shelf name ≡ g.S.Shelf.asked c.args.shelf.now name) (λ n. g.S.Shelf.given c.answer_play.new.shelf ≤ g.S.Shelf.given c.args.shelf.now + n)
    c.args.codec.now c.args.wav.now c.args.schedule.now c.args.periods c.args.period (g.K.Sink.taken c.args.out.now) (g.K.Sink.taken c.write_answer.new.out)
    (Rose (g.K.Sink.faults c.args.out.now) (g.K.Sink.faults c.write_answer.new.out)) c.write_answer.result.play c.write_answer.result.capture c.write_answer.result.status
    (inl (record { meant = answer_meant c.in-Ok.answer; is = c.in-Ok.ensures.answers; given = c.write_answer.ensures.play; given_capture = c.write_answer.ensures.capture; written = c.write_answer.ensures.written }))

pub returns-in-Ok-clause-runless : goal.returns-in-Ok-clause-runless
returns-in-Ok-clause-runless g c = files_runless Analog (g.S.Shelf.told c.args.shelf.now) (λ name. Rose (g.S.Shelf.faults c.args.shelf.now name) (g.S.Shelf.faults c.answer_play.new.shelf name))
    (λ name. Rose (g.S.Shelf.empties c.args.shelf.now name) (g.S.Shelf.empties c.answer_play.new.shelf name)) (λ name. g.S.Shelf.asked c.answer_play.new.shelf name ≡ g.S.Shelf.asked c.args.shelf.now name) (λ n. g.S.Shelf.given c.answer_play.new.shelf ≤ g.S.Shelf.given c.args.shelf.now + n)
    c.args.codec.now c.args.wav.now c.args.schedule.now c.args.periods c.args.period (g.K.Sink.taken c.args.out.now) (g.K.Sink.taken c.write_answer.new.out)
    (Rose (g.K.Sink.faults c.args.out.now) (g.K.Sink.faults c.write_answer.new.out)) c.write_answer.result.play c.write_answer.result.capture c.write_answer.result.status
    (inl (record { meant = answer_meant c.in-Ok.answer; is = c.in-Ok.ensures.answers; given = c.write_answer.ensures.play; given_capture = c.write_answer.ensures.capture; written = c.write_answer.ensures.written }))

pub returns-in-Ok-clause-runs : goal.returns-in-Ok-clause-runs
returns-in-Ok-clause-runs g c = files_runs Analog (g.S.Shelf.told c.args.shelf.now) (λ name. Rose (g.S.Shelf.faults c.args.shelf.now name) (g.S.Shelf.faults c.answer_play.new.shelf name))
    (λ name. Rose (g.S.Shelf.empties c.args.shelf.now name) (g.S.Shelf.empties c.answer_play.new.shelf name)) (λ name. g.S.Shelf.asked c.answer_play.new.shelf name ≡ g.S.Shelf.asked c.args.shelf.now name) (λ n. g.S.Shelf.given c.answer_play.new.shelf ≤ g.S.Shelf.given c.args.shelf.now + n)
    c.args.codec.now c.args.wav.now c.args.schedule.now c.args.periods c.args.period (g.K.Sink.taken c.args.out.now) (g.K.Sink.taken c.write_answer.new.out)
    (Rose (g.K.Sink.faults c.args.out.now) (g.K.Sink.faults c.write_answer.new.out)) c.write_answer.result.play c.write_answer.result.capture c.write_answer.result.status
    (inl (record { meant = answer_meant c.in-Ok.answer; is = c.in-Ok.ensures.answers; given = c.write_answer.ensures.play; given_capture = c.write_answer.ensures.capture; written = c.write_answer.ensures.written }))

pub returns-in-Ok-clause-capture : goal.returns-in-Ok-clause-capture
returns-in-Ok-clause-capture g c = files_captureless Analog (g.S.Shelf.told c.args.shelf.now) (λ name. Rose (g.S.Shelf.faults c.args.shelf.now name) (g.S.Shelf.faults c.answer_play.new.shelf name))
    (λ name. Rose (g.S.Shelf.empties c.args.shelf.now name) (g.S.Shelf.empties c.answer_play.new.shelf name)) (λ name. g.S.Shelf.asked c.answer_play.new.shelf name ≡ g.S.Shelf.asked c.args.shelf.now name) (λ n. g.S.Shelf.given c.answer_play.new.shelf ≤ g.S.Shelf.given c.args.shelf.now + n)
    c.args.codec.now c.args.wav.now c.args.schedule.now c.args.periods c.args.period (g.K.Sink.taken c.args.out.now) (g.K.Sink.taken c.write_answer.new.out)
    (Rose (g.K.Sink.faults c.args.out.now) (g.K.Sink.faults c.write_answer.new.out)) c.write_answer.result.play c.write_answer.result.capture c.write_answer.result.status
    (inl (record { meant = answer_meant c.in-Ok.answer; is = c.in-Ok.ensures.answers; given = c.write_answer.ensures.play; given_capture = c.write_answer.ensures.capture; written = c.write_answer.ensures.written }))

pub returns-in-Ok-clause-stopped_unread : goal.returns-in-Ok-clause-stopped_unread
returns-in-Ok-clause-stopped_unread g c = files_stopped Analog (g.S.Shelf.told c.args.shelf.now) (λ name. Rose (g.S.Shelf.faults c.args.shelf.now name) (g.S.Shelf.faults c.answer_play.new.shelf name))
    (λ name. Rose (g.S.Shelf.empties c.args.shelf.now name) (g.S.Shelf.empties c.answer_play.new.shelf name)) (λ name. g.S.Shelf.asked c.answer_play.new.shelf name ≡ g.S.Shelf.asked c.args.shelf.now name) (λ n. g.S.Shelf.given c.answer_play.new.shelf ≤ g.S.Shelf.given c.args.shelf.now + n)
    c.args.codec.now c.args.wav.now c.args.schedule.now c.args.periods c.args.period (g.K.Sink.taken c.args.out.now) (g.K.Sink.taken c.write_answer.new.out)
    (Rose (g.K.Sink.faults c.args.out.now) (g.K.Sink.faults c.write_answer.new.out)) c.write_answer.result.play c.write_answer.result.capture c.write_answer.result.status
    (inl (record { meant = answer_meant c.in-Ok.answer; is = c.in-Ok.ensures.answers; given = c.write_answer.ensures.play; given_capture = c.write_answer.ensures.capture; written = c.write_answer.ensures.written }))

pub returns-in-Ok-clause-unread_run : goal.returns-in-Ok-clause-unread_run
returns-in-Ok-clause-unread_run g c = files_unread Analog (g.S.Shelf.told c.args.shelf.now) (λ name. Rose (g.S.Shelf.faults c.args.shelf.now name) (g.S.Shelf.faults c.answer_play.new.shelf name))
    (λ name. Rose (g.S.Shelf.empties c.args.shelf.now name) (g.S.Shelf.empties c.answer_play.new.shelf name)) (λ name. g.S.Shelf.asked c.answer_play.new.shelf name ≡ g.S.Shelf.asked c.args.shelf.now name) (λ n. g.S.Shelf.given c.answer_play.new.shelf ≤ g.S.Shelf.given c.args.shelf.now + n)
    c.args.codec.now c.args.wav.now c.args.schedule.now c.args.periods c.args.period (g.K.Sink.taken c.args.out.now) (g.K.Sink.taken c.write_answer.new.out)
    (Rose (g.K.Sink.faults c.args.out.now) (g.K.Sink.faults c.write_answer.new.out)) c.write_answer.result.play c.write_answer.result.capture c.write_answer.result.status
    (inl (record { meant = answer_meant c.in-Ok.answer; is = c.in-Ok.ensures.answers; given = c.write_answer.ensures.play; given_capture = c.write_answer.ensures.capture; written = c.write_answer.ensures.written }))

pub returns-in-Ok-clause-shrunk_run : goal.returns-in-Ok-clause-shrunk_run
returns-in-Ok-clause-shrunk_run g c = files_shrunk Analog (g.S.Shelf.told c.args.shelf.now) (λ name. Rose (g.S.Shelf.faults c.args.shelf.now name) (g.S.Shelf.faults c.answer_play.new.shelf name))
    (λ name. Rose (g.S.Shelf.empties c.args.shelf.now name) (g.S.Shelf.empties c.answer_play.new.shelf name)) (λ name. g.S.Shelf.asked c.answer_play.new.shelf name ≡ g.S.Shelf.asked c.args.shelf.now name) (λ n. g.S.Shelf.given c.answer_play.new.shelf ≤ g.S.Shelf.given c.args.shelf.now + n)
    c.args.codec.now c.args.wav.now c.args.schedule.now c.args.periods c.args.period (g.K.Sink.taken c.args.out.now) (g.K.Sink.taken c.write_answer.new.out)
    (Rose (g.K.Sink.faults c.args.out.now) (g.K.Sink.faults c.write_answer.new.out)) c.write_answer.result.play c.write_answer.result.capture c.write_answer.result.status
    (inl (record { meant = answer_meant c.in-Ok.answer; is = c.in-Ok.ensures.answers; given = c.write_answer.ensures.play; given_capture = c.write_answer.ensures.capture; written = c.write_answer.ensures.written }))

pub returns-in-Ok-clause-never_shrinks : goal.returns-in-Ok-clause-never_shrinks
returns-in-Ok-clause-never_shrinks g c = files_never_shrink Analog (λ name. Rose (g.S.Shelf.faults c.args.shelf.now name) (g.S.Shelf.faults c.answer_play.new.shelf name))
    (λ name. Rose (g.S.Shelf.empties c.args.shelf.now name) (g.S.Shelf.empties c.answer_play.new.shelf name)) (λ name. g.S.Shelf.asked c.answer_play.new.shelf name ≡ g.S.Shelf.asked c.args.shelf.now name) (λ n. g.S.Shelf.given c.answer_play.new.shelf ≤ g.S.Shelf.given c.args.shelf.now + n)
    c.args.codec.now c.args.wav.now c.args.schedule.now c.args.periods c.args.period (g.K.Sink.taken c.args.out.now) (g.K.Sink.taken c.write_answer.new.out)
    (Rose (g.K.Sink.faults c.args.out.now) (g.K.Sink.faults c.write_answer.new.out)) c.write_answer.result.play c.write_answer.result.capture c.write_answer.result.status
    (g.S.Shelf.told c.args.shelf.now)
    (inl (record { meant = answer_meant c.in-Ok.answer; is = c.in-Ok.ensures.answers; given = c.write_answer.ensures.play; given_capture = c.write_answer.ensures.capture; written = c.write_answer.ensures.written }))

pub returns-in-Ok-clause-completes : goal.returns-in-Ok-clause-completes
returns-in-Ok-clause-completes g c = λ can sink. files_complete (g.K.Sink.taken c.args.out.now) (g.K.Sink.taken c.write_answer.new.out)
    (Rose (g.K.Sink.faults c.args.out.now) (g.K.Sink.faults c.write_answer.new.out)) c.write_answer.result.play c.write_answer.result.capture c.write_answer.result.status sink
    (g.S.Shelf.told c.args.shelf.now) (λ name. Rose (g.S.Shelf.faults c.args.shelf.now name) (g.S.Shelf.faults c.answer_play.new.shelf name))
    (λ name. Rose (g.S.Shelf.empties c.args.shelf.now name) (g.S.Shelf.empties c.answer_play.new.shelf name)) (λ name. g.S.Shelf.asked c.answer_play.new.shelf name ≡ g.S.Shelf.asked c.args.shelf.now name) (λ n. g.S.Shelf.given c.answer_play.new.shelf ≤ g.S.Shelf.given c.args.shelf.now + n)
    Analog c.args.codec.now c.args.wav.now c.args.schedule.now c.args.periods c.args.period can
    (inl (record { meant = answer_meant c.in-Ok.answer; is = c.in-Ok.ensures.answers; given = c.write_answer.ensures.play; given_capture = c.write_answer.ensures.capture; written = c.write_answer.ensures.written }))

pub returns-in-Ok-clause-given : goal.returns-in-Ok-clause-given
returns-in-Ok-clause-given g c = λ can enough. files_given (g.K.Sink.taken c.args.out.now) (g.K.Sink.taken c.write_answer.new.out)
    (Rose (g.K.Sink.faults c.args.out.now) (g.K.Sink.faults c.write_answer.new.out)) c.write_answer.result.play c.write_answer.result.capture c.write_answer.result.status enough
    (g.S.Shelf.told c.args.shelf.now) (λ name. Rose (g.S.Shelf.faults c.args.shelf.now name) (g.S.Shelf.faults c.answer_play.new.shelf name))
    (λ name. Rose (g.S.Shelf.empties c.args.shelf.now name) (g.S.Shelf.empties c.answer_play.new.shelf name)) (λ name. g.S.Shelf.asked c.answer_play.new.shelf name ≡ g.S.Shelf.asked c.args.shelf.now name) (λ n. g.S.Shelf.given c.answer_play.new.shelf ≤ g.S.Shelf.given c.args.shelf.now + n)
    Analog c.args.codec.now c.args.wav.now c.args.schedule.now c.args.periods c.args.period can
    (inl (record { meant = answer_meant c.in-Ok.answer; is = c.in-Ok.ensures.answers; given = c.write_answer.ensures.play; given_capture = c.write_answer.ensures.capture; written = c.write_answer.ensures.written }))

pub returns-in-Ok-clause-served : goal.returns-in-Ok-clause-served
returns-in-Ok-clause-served g c = λ geometry can sink shape serves. files_serve (g.K.Sink.taken c.args.out.now) (g.K.Sink.taken c.write_answer.new.out)
    (Rose (g.K.Sink.faults c.args.out.now) (g.K.Sink.faults c.write_answer.new.out)) c.write_answer.result.play c.write_answer.result.capture c.write_answer.result.status sink
    (g.S.Shelf.told c.args.shelf.now) (λ name. Rose (g.S.Shelf.faults c.args.shelf.now name) (g.S.Shelf.faults c.answer_play.new.shelf name))
    (λ name. Rose (g.S.Shelf.empties c.args.shelf.now name) (g.S.Shelf.empties c.answer_play.new.shelf name)) (λ name. g.S.Shelf.asked c.answer_play.new.shelf name ≡ g.S.Shelf.asked c.args.shelf.now name) (λ n. g.S.Shelf.given c.answer_play.new.shelf ≤ g.S.Shelf.given c.args.shelf.now + n)
    Analog (λ kind machine plans wav geometry schedule played sound read. c.plays_end_so.ensures kind machine plans wav geometry schedule played sound (c.read_machines_are_whole.ensures machine sound read))
    (λ kind machine plans wav geometry schedule played frames sound read. c.plays_all_so.ensures kind machine plans wav geometry schedule played frames sound (c.read_machines_are_whole.ensures machine sound read)) c.args.codec.now c.args.wav.now c.args.schedule.now c.args.periods c.args.period geometry can shape serves
    (inl (record { meant = answer_meant c.in-Ok.answer; is = c.in-Ok.ensures.answers; given = c.write_answer.ensures.play; given_capture = c.write_answer.ensures.capture; written = c.write_answer.ensures.written }))

pub returns-in-Ok-clause-served_whole : goal.returns-in-Ok-clause-served_whole
returns-in-Ok-clause-served_whole g c = λ geometry can sink shape serves. files_serve_whole (g.K.Sink.taken c.args.out.now) (g.K.Sink.taken c.write_answer.new.out)
    (Rose (g.K.Sink.faults c.args.out.now) (g.K.Sink.faults c.write_answer.new.out)) c.write_answer.result.play c.write_answer.result.capture c.write_answer.result.status sink
    (g.S.Shelf.told c.args.shelf.now) (λ name. Rose (g.S.Shelf.faults c.args.shelf.now name) (g.S.Shelf.faults c.answer_play.new.shelf name))
    (λ name. Rose (g.S.Shelf.empties c.args.shelf.now name) (g.S.Shelf.empties c.answer_play.new.shelf name)) (λ name. g.S.Shelf.asked c.answer_play.new.shelf name ≡ g.S.Shelf.asked c.args.shelf.now name) (λ n. g.S.Shelf.given c.answer_play.new.shelf ≤ g.S.Shelf.given c.args.shelf.now + n)
    Analog (λ kind machine plans wav geometry schedule played sound read. c.plays_end_so.ensures kind machine plans wav geometry schedule played sound (c.read_machines_are_whole.ensures machine sound read))
    (λ kind machine plans wav geometry schedule played frames sound read. c.plays_all_so.ensures kind machine plans wav geometry schedule played frames sound (c.read_machines_are_whole.ensures machine sound read)) c.args.codec.now c.args.wav.now c.args.schedule.now c.args.periods c.args.period geometry can shape serves
    (inl (record { meant = answer_meant c.in-Ok.answer; is = c.in-Ok.ensures.answers; given = c.write_answer.ensures.play; given_capture = c.write_answer.ensures.capture; written = c.write_answer.ensures.written }))

pub returns-in-Err-clause-served : goal.returns-in-Err-clause-served
returns-in-Err-clause-served g c = λ geometry can sink shape serves. record { run = tt; status_is = inr c.number.ensures }

pub returns-in-Err-clause-served_whole : goal.returns-in-Err-clause-served_whole
returns-in-Err-clause-served_whole g c = λ geometry can sink shape serves. record { run = tt; status_is = inr c.number.ensures }

pub returns-in-Err-clause-given : goal.returns-in-Err-clause-given
returns-in-Err-clause-given g c = λ can enough. absurd (enough c.number.ensures)
