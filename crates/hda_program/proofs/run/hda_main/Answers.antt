use Rattle.std.proofs.Common.{◌≡◌, ◌+◌, ◌≤◌, map, string_bytes, inl, inr}
use Rattle.codec_graph.specs.declared.pin_kind.PinKind.TheVariants.{Analog, Digital}
use Rattle.hda_outside.specs.Counts.{Rose}
use Rattle.hda_program.specs.Meanings.{answer_meant}
use Rattle.hda_program.proofs.CaptureComplete.{capture_complete, capture_given}
use Rattle.hda_program.proofs.CaptureEndings.{capture_plays_nothing, capture_promised, capture_runs, capture_unread, captureless}
use Rattle.hda_program.proofs.Complete.{route_complete, sound_complete, sound_given, walk_complete, walk_given}
use Rattle.hda_program.proofs.Endings.{never_shrinks, refused_words, shrunk_run, sink_faulted, stopped_unread, run_promised, runless, unread_run, route_runless, walk_runs, sound_runs, shelf_failed, refused_codec, refused_wav, refused_schedule, refused_geometry, was_routed, was_unrouted}
use Rattle.hda_program.proofs.MadeLemmas.{make_complete, make_runs}
use Rattle.hda_program.proofs.Served.{sound_serves, sound_serves_whole, walk_serves}
use Rattle.hda_program.proofs.run.hda_main.Goals as goal

pub returns-in-Ok-clause-promise : goal.returns-in-Ok-clause-promise
returns-in-Ok-clause-promise g c = run_promised (g.S.Shelf.told c.args.shelf.now) (λ name. Rose (g.S.Shelf.faults c.args.shelf.now name) (g.S.Shelf.faults c.answer_words.new.shelf name))
    (λ name. Rose (g.S.Shelf.empties c.args.shelf.now name) (g.S.Shelf.empties c.answer_words.new.shelf name)) (λ name. g.S.Shelf.asked c.answer_words.new.shelf name ≡ g.S.Shelf.asked c.args.shelf.now name) (λ n. g.S.Shelf.given c.answer_words.new.shelf ≤ g.S.Shelf.given c.args.shelf.now + n)
    (map string_bytes c.args.words.now) (g.K.Sink.taken c.args.out.now) (g.K.Sink.taken c.write_answer.new.out) (Rose (g.K.Sink.faults c.args.out.now) (g.K.Sink.faults c.write_answer.new.out))
    c.write_answer.result.play c.write_answer.result.capture c.write_answer.result.status
    (inl (record { meant = answer_meant c.in-Ok.answer; is = c.in-Ok.ensures.meant; given = c.write_answer.ensures.play; given_capture = c.write_answer.ensures.capture; written = c.write_answer.ensures.written }))

pub returns-in-Ok-clause-runless : goal.returns-in-Ok-clause-runless
returns-in-Ok-clause-runless g c = runless (g.S.Shelf.told c.args.shelf.now) (λ name. Rose (g.S.Shelf.faults c.args.shelf.now name) (g.S.Shelf.faults c.answer_words.new.shelf name))
    (λ name. Rose (g.S.Shelf.empties c.args.shelf.now name) (g.S.Shelf.empties c.answer_words.new.shelf name)) (λ name. g.S.Shelf.asked c.answer_words.new.shelf name ≡ g.S.Shelf.asked c.args.shelf.now name) (λ n. g.S.Shelf.given c.answer_words.new.shelf ≤ g.S.Shelf.given c.args.shelf.now + n)
    (map string_bytes c.args.words.now) (g.K.Sink.taken c.args.out.now) (g.K.Sink.taken c.write_answer.new.out) (Rose (g.K.Sink.faults c.args.out.now) (g.K.Sink.faults c.write_answer.new.out))
    c.write_answer.result.play c.write_answer.result.capture c.write_answer.result.status
    (inl (record { meant = answer_meant c.in-Ok.answer; is = c.in-Ok.ensures.meant; given = c.write_answer.ensures.play; given_capture = c.write_answer.ensures.capture; written = c.write_answer.ensures.written }))

pub returns-in-Ok-clause-route_runless : goal.returns-in-Ok-clause-route_runless
returns-in-Ok-clause-route_runless g c = route_runless (g.S.Shelf.told c.args.shelf.now) (λ name. Rose (g.S.Shelf.faults c.args.shelf.now name) (g.S.Shelf.faults c.answer_words.new.shelf name))
    (λ name. Rose (g.S.Shelf.empties c.args.shelf.now name) (g.S.Shelf.empties c.answer_words.new.shelf name)) (λ name. g.S.Shelf.asked c.answer_words.new.shelf name ≡ g.S.Shelf.asked c.args.shelf.now name) (λ n. g.S.Shelf.given c.answer_words.new.shelf ≤ g.S.Shelf.given c.args.shelf.now + n)
    (map string_bytes c.args.words.now) (g.K.Sink.taken c.args.out.now) (g.K.Sink.taken c.write_answer.new.out) (Rose (g.K.Sink.faults c.args.out.now) (g.K.Sink.faults c.write_answer.new.out))
    c.write_answer.result.play c.write_answer.result.capture c.write_answer.result.status
    (inl (record { meant = answer_meant c.in-Ok.answer; is = c.in-Ok.ensures.meant; given = c.write_answer.ensures.play; given_capture = c.write_answer.ensures.capture; written = c.write_answer.ensures.written }))

pub returns-in-Ok-clause-walk_runs : goal.returns-in-Ok-clause-walk_runs
returns-in-Ok-clause-walk_runs g c = walk_runs (g.S.Shelf.told c.args.shelf.now) (λ name. Rose (g.S.Shelf.faults c.args.shelf.now name) (g.S.Shelf.faults c.answer_words.new.shelf name))
    (λ name. Rose (g.S.Shelf.empties c.args.shelf.now name) (g.S.Shelf.empties c.answer_words.new.shelf name)) (λ name. g.S.Shelf.asked c.answer_words.new.shelf name ≡ g.S.Shelf.asked c.args.shelf.now name) (λ n. g.S.Shelf.given c.answer_words.new.shelf ≤ g.S.Shelf.given c.args.shelf.now + n)
    (map string_bytes c.args.words.now) (g.K.Sink.taken c.args.out.now) (g.K.Sink.taken c.write_answer.new.out) (Rose (g.K.Sink.faults c.args.out.now) (g.K.Sink.faults c.write_answer.new.out))
    c.write_answer.result.play c.write_answer.result.capture c.write_answer.result.status
    (inl (record { meant = answer_meant c.in-Ok.answer; is = c.in-Ok.ensures.meant; given = c.write_answer.ensures.play; given_capture = c.write_answer.ensures.capture; written = c.write_answer.ensures.written }))

pub returns-in-Ok-clause-play_runs : goal.returns-in-Ok-clause-play_runs
returns-in-Ok-clause-play_runs g c = sound_runs (g.S.Shelf.told c.args.shelf.now) (λ name. Rose (g.S.Shelf.faults c.args.shelf.now name) (g.S.Shelf.faults c.answer_words.new.shelf name))
    (λ name. Rose (g.S.Shelf.empties c.args.shelf.now name) (g.S.Shelf.empties c.answer_words.new.shelf name)) (λ name. g.S.Shelf.asked c.answer_words.new.shelf name ≡ g.S.Shelf.asked c.args.shelf.now name) (λ n. g.S.Shelf.given c.answer_words.new.shelf ≤ g.S.Shelf.given c.args.shelf.now + n)
    (map string_bytes c.args.words.now) (g.K.Sink.taken c.args.out.now) (g.K.Sink.taken c.write_answer.new.out) (Rose (g.K.Sink.faults c.args.out.now) (g.K.Sink.faults c.write_answer.new.out))
    c.write_answer.result.play c.write_answer.result.capture c.write_answer.result.status
    (inl (record { meant = answer_meant c.in-Ok.answer; is = c.in-Ok.ensures.meant; given = c.write_answer.ensures.play; given_capture = c.write_answer.ensures.capture; written = c.write_answer.ensures.written })) Analog

pub returns-in-Ok-clause-spdif_runs : goal.returns-in-Ok-clause-spdif_runs
returns-in-Ok-clause-spdif_runs g c = sound_runs (g.S.Shelf.told c.args.shelf.now) (λ name. Rose (g.S.Shelf.faults c.args.shelf.now name) (g.S.Shelf.faults c.answer_words.new.shelf name))
    (λ name. Rose (g.S.Shelf.empties c.args.shelf.now name) (g.S.Shelf.empties c.answer_words.new.shelf name)) (λ name. g.S.Shelf.asked c.answer_words.new.shelf name ≡ g.S.Shelf.asked c.args.shelf.now name) (λ n. g.S.Shelf.given c.answer_words.new.shelf ≤ g.S.Shelf.given c.args.shelf.now + n)
    (map string_bytes c.args.words.now) (g.K.Sink.taken c.args.out.now) (g.K.Sink.taken c.write_answer.new.out) (Rose (g.K.Sink.faults c.args.out.now) (g.K.Sink.faults c.write_answer.new.out))
    c.write_answer.result.play c.write_answer.result.capture c.write_answer.result.status
    (inl (record { meant = answer_meant c.in-Ok.answer; is = c.in-Ok.ensures.meant; given = c.write_answer.ensures.play; given_capture = c.write_answer.ensures.capture; written = c.write_answer.ensures.written })) Digital

pub returns-in-Ok-clause-stopped_unread : goal.returns-in-Ok-clause-stopped_unread
returns-in-Ok-clause-stopped_unread g c = stopped_unread (g.S.Shelf.told c.args.shelf.now) (λ name. Rose (g.S.Shelf.faults c.args.shelf.now name) (g.S.Shelf.faults c.answer_words.new.shelf name))
    (λ name. Rose (g.S.Shelf.empties c.args.shelf.now name) (g.S.Shelf.empties c.answer_words.new.shelf name)) (λ name. g.S.Shelf.asked c.answer_words.new.shelf name ≡ g.S.Shelf.asked c.args.shelf.now name) (λ n. g.S.Shelf.given c.answer_words.new.shelf ≤ g.S.Shelf.given c.args.shelf.now + n)
    (map string_bytes c.args.words.now) (g.K.Sink.taken c.args.out.now) (g.K.Sink.taken c.write_answer.new.out) (Rose (g.K.Sink.faults c.args.out.now) (g.K.Sink.faults c.write_answer.new.out))
    c.write_answer.result.play c.write_answer.result.capture c.write_answer.result.status
    (inl (record { meant = answer_meant c.in-Ok.answer; is = c.in-Ok.ensures.meant; given = c.write_answer.ensures.play; given_capture = c.write_answer.ensures.capture; written = c.write_answer.ensures.written }))

pub returns-in-Ok-clause-unread_run : goal.returns-in-Ok-clause-unread_run
returns-in-Ok-clause-unread_run g c = unread_run (g.S.Shelf.told c.args.shelf.now) (λ name. Rose (g.S.Shelf.faults c.args.shelf.now name) (g.S.Shelf.faults c.answer_words.new.shelf name))
    (λ name. Rose (g.S.Shelf.empties c.args.shelf.now name) (g.S.Shelf.empties c.answer_words.new.shelf name)) (λ name. g.S.Shelf.asked c.answer_words.new.shelf name ≡ g.S.Shelf.asked c.args.shelf.now name) (λ n. g.S.Shelf.given c.answer_words.new.shelf ≤ g.S.Shelf.given c.args.shelf.now + n)
    (map string_bytes c.args.words.now) (g.K.Sink.taken c.args.out.now) (g.K.Sink.taken c.write_answer.new.out) (Rose (g.K.Sink.faults c.args.out.now) (g.K.Sink.faults c.write_answer.new.out))
    c.write_answer.result.play c.write_answer.result.capture c.write_answer.result.status
    (inl (record { meant = answer_meant c.in-Ok.answer; is = c.in-Ok.ensures.meant; given = c.write_answer.ensures.play; given_capture = c.write_answer.ensures.capture; written = c.write_answer.ensures.written }))

pub returns-in-Ok-clause-shrunk_run : goal.returns-in-Ok-clause-shrunk_run
returns-in-Ok-clause-shrunk_run g c = shrunk_run (g.S.Shelf.told c.args.shelf.now) (λ name. Rose (g.S.Shelf.faults c.args.shelf.now name) (g.S.Shelf.faults c.answer_words.new.shelf name))
    (λ name. Rose (g.S.Shelf.empties c.args.shelf.now name) (g.S.Shelf.empties c.answer_words.new.shelf name)) (λ name. g.S.Shelf.asked c.answer_words.new.shelf name ≡ g.S.Shelf.asked c.args.shelf.now name) (λ n. g.S.Shelf.given c.answer_words.new.shelf ≤ g.S.Shelf.given c.args.shelf.now + n)
    (map string_bytes c.args.words.now) (g.K.Sink.taken c.args.out.now) (g.K.Sink.taken c.write_answer.new.out) (Rose (g.K.Sink.faults c.args.out.now) (g.K.Sink.faults c.write_answer.new.out))
    c.write_answer.result.play c.write_answer.result.capture c.write_answer.result.status
    (inl (record { meant = answer_meant c.in-Ok.answer; is = c.in-Ok.ensures.meant; given = c.write_answer.ensures.play; given_capture = c.write_answer.ensures.capture; written = c.write_answer.ensures.written }))

pub returns-in-Ok-clause-never_shrinks : goal.returns-in-Ok-clause-never_shrinks
returns-in-Ok-clause-never_shrinks g c = never_shrinks (λ name. Rose (g.S.Shelf.faults c.args.shelf.now name) (g.S.Shelf.faults c.answer_words.new.shelf name))
    (λ name. Rose (g.S.Shelf.empties c.args.shelf.now name) (g.S.Shelf.empties c.answer_words.new.shelf name)) (λ name. g.S.Shelf.asked c.answer_words.new.shelf name ≡ g.S.Shelf.asked c.args.shelf.now name) (λ n. g.S.Shelf.given c.answer_words.new.shelf ≤ g.S.Shelf.given c.args.shelf.now + n)
    (map string_bytes c.args.words.now) (g.K.Sink.taken c.args.out.now) (g.K.Sink.taken c.write_answer.new.out) (Rose (g.K.Sink.faults c.args.out.now) (g.K.Sink.faults c.write_answer.new.out))
    c.write_answer.result.play c.write_answer.result.capture c.write_answer.result.status
    (g.S.Shelf.told c.args.shelf.now)
    (inl (record { meant = answer_meant c.in-Ok.answer; is = c.in-Ok.ensures.meant; given = c.write_answer.ensures.play; given_capture = c.write_answer.ensures.capture; written = c.write_answer.ensures.written }))

pub returns-in-Ok-clause-unread : goal.returns-in-Ok-clause-unread
returns-in-Ok-clause-unread g c = shelf_failed (g.S.Shelf.told c.args.shelf.now) (λ name. Rose (g.S.Shelf.faults c.args.shelf.now name) (g.S.Shelf.faults c.answer_words.new.shelf name))
    (λ name. Rose (g.S.Shelf.empties c.args.shelf.now name) (g.S.Shelf.empties c.answer_words.new.shelf name)) (λ name. g.S.Shelf.asked c.answer_words.new.shelf name ≡ g.S.Shelf.asked c.args.shelf.now name) (λ n. g.S.Shelf.given c.answer_words.new.shelf ≤ g.S.Shelf.given c.args.shelf.now + n)
    (map string_bytes c.args.words.now) (g.K.Sink.taken c.args.out.now) (g.K.Sink.taken c.write_answer.new.out) (Rose (g.K.Sink.faults c.args.out.now) (g.K.Sink.faults c.write_answer.new.out))
    c.write_answer.result.play c.write_answer.result.capture c.write_answer.result.status
    (inl (record { meant = answer_meant c.in-Ok.answer; is = c.in-Ok.ensures.meant; given = c.write_answer.ensures.play; given_capture = c.write_answer.ensures.capture; written = c.write_answer.ensures.written }))

pub returns-in-Ok-clause-refused_codec : goal.returns-in-Ok-clause-refused_codec
returns-in-Ok-clause-refused_codec g c = refused_codec (g.S.Shelf.told c.args.shelf.now) (λ name. Rose (g.S.Shelf.faults c.args.shelf.now name) (g.S.Shelf.faults c.answer_words.new.shelf name))
    (λ name. Rose (g.S.Shelf.empties c.args.shelf.now name) (g.S.Shelf.empties c.answer_words.new.shelf name)) (λ name. g.S.Shelf.asked c.answer_words.new.shelf name ≡ g.S.Shelf.asked c.args.shelf.now name) (λ n. g.S.Shelf.given c.answer_words.new.shelf ≤ g.S.Shelf.given c.args.shelf.now + n)
    (map string_bytes c.args.words.now) (g.K.Sink.taken c.args.out.now) (g.K.Sink.taken c.write_answer.new.out) (Rose (g.K.Sink.faults c.args.out.now) (g.K.Sink.faults c.write_answer.new.out))
    c.write_answer.result.play c.write_answer.result.capture c.write_answer.result.status
    (inl (record { meant = answer_meant c.in-Ok.answer; is = c.in-Ok.ensures.meant; given = c.write_answer.ensures.play; given_capture = c.write_answer.ensures.capture; written = c.write_answer.ensures.written }))

pub returns-in-Ok-clause-refused_wav : goal.returns-in-Ok-clause-refused_wav
returns-in-Ok-clause-refused_wav g c = refused_wav (g.S.Shelf.told c.args.shelf.now) (λ name. Rose (g.S.Shelf.faults c.args.shelf.now name) (g.S.Shelf.faults c.answer_words.new.shelf name))
    (λ name. Rose (g.S.Shelf.empties c.args.shelf.now name) (g.S.Shelf.empties c.answer_words.new.shelf name)) (λ name. g.S.Shelf.asked c.answer_words.new.shelf name ≡ g.S.Shelf.asked c.args.shelf.now name) (λ n. g.S.Shelf.given c.answer_words.new.shelf ≤ g.S.Shelf.given c.args.shelf.now + n)
    (map string_bytes c.args.words.now) (g.K.Sink.taken c.args.out.now) (g.K.Sink.taken c.write_answer.new.out) (Rose (g.K.Sink.faults c.args.out.now) (g.K.Sink.faults c.write_answer.new.out))
    c.write_answer.result.play c.write_answer.result.capture c.write_answer.result.status
    (inl (record { meant = answer_meant c.in-Ok.answer; is = c.in-Ok.ensures.meant; given = c.write_answer.ensures.play; given_capture = c.write_answer.ensures.capture; written = c.write_answer.ensures.written }))

pub returns-in-Ok-clause-refused_schedule : goal.returns-in-Ok-clause-refused_schedule
returns-in-Ok-clause-refused_schedule g c = refused_schedule (g.S.Shelf.told c.args.shelf.now) (λ name. Rose (g.S.Shelf.faults c.args.shelf.now name) (g.S.Shelf.faults c.answer_words.new.shelf name))
    (λ name. Rose (g.S.Shelf.empties c.args.shelf.now name) (g.S.Shelf.empties c.answer_words.new.shelf name)) (λ name. g.S.Shelf.asked c.answer_words.new.shelf name ≡ g.S.Shelf.asked c.args.shelf.now name) (λ n. g.S.Shelf.given c.answer_words.new.shelf ≤ g.S.Shelf.given c.args.shelf.now + n)
    (map string_bytes c.args.words.now) (g.K.Sink.taken c.args.out.now) (g.K.Sink.taken c.write_answer.new.out) (Rose (g.K.Sink.faults c.args.out.now) (g.K.Sink.faults c.write_answer.new.out))
    c.write_answer.result.play c.write_answer.result.capture c.write_answer.result.status
    (inl (record { meant = answer_meant c.in-Ok.answer; is = c.in-Ok.ensures.meant; given = c.write_answer.ensures.play; given_capture = c.write_answer.ensures.capture; written = c.write_answer.ensures.written }))

pub returns-in-Ok-clause-refused_geometry : goal.returns-in-Ok-clause-refused_geometry
returns-in-Ok-clause-refused_geometry g c = refused_geometry (g.S.Shelf.told c.args.shelf.now) (λ name. Rose (g.S.Shelf.faults c.args.shelf.now name) (g.S.Shelf.faults c.answer_words.new.shelf name))
    (λ name. Rose (g.S.Shelf.empties c.args.shelf.now name) (g.S.Shelf.empties c.answer_words.new.shelf name)) (λ name. g.S.Shelf.asked c.answer_words.new.shelf name ≡ g.S.Shelf.asked c.args.shelf.now name) (λ n. g.S.Shelf.given c.answer_words.new.shelf ≤ g.S.Shelf.given c.args.shelf.now + n)
    (map string_bytes c.args.words.now) (g.K.Sink.taken c.args.out.now) (g.K.Sink.taken c.write_answer.new.out) (Rose (g.K.Sink.faults c.args.out.now) (g.K.Sink.faults c.write_answer.new.out))
    c.write_answer.result.play c.write_answer.result.capture c.write_answer.result.status
    (inl (record { meant = answer_meant c.in-Ok.answer; is = c.in-Ok.ensures.meant; given = c.write_answer.ensures.play; given_capture = c.write_answer.ensures.capture; written = c.write_answer.ensures.written }))

pub returns-in-Ok-clause-routed : goal.returns-in-Ok-clause-routed
returns-in-Ok-clause-routed g c = was_routed (g.S.Shelf.told c.args.shelf.now) (λ name. Rose (g.S.Shelf.faults c.args.shelf.now name) (g.S.Shelf.faults c.answer_words.new.shelf name))
    (λ name. Rose (g.S.Shelf.empties c.args.shelf.now name) (g.S.Shelf.empties c.answer_words.new.shelf name)) (λ name. g.S.Shelf.asked c.answer_words.new.shelf name ≡ g.S.Shelf.asked c.args.shelf.now name) (λ n. g.S.Shelf.given c.answer_words.new.shelf ≤ g.S.Shelf.given c.args.shelf.now + n)
    (map string_bytes c.args.words.now) (g.K.Sink.taken c.args.out.now) (g.K.Sink.taken c.write_answer.new.out) (Rose (g.K.Sink.faults c.args.out.now) (g.K.Sink.faults c.write_answer.new.out))
    c.write_answer.result.play c.write_answer.result.capture c.write_answer.result.status
    (inl (record { meant = answer_meant c.in-Ok.answer; is = c.in-Ok.ensures.meant; given = c.write_answer.ensures.play; given_capture = c.write_answer.ensures.capture; written = c.write_answer.ensures.written }))

pub returns-in-Ok-clause-nothing_routed : goal.returns-in-Ok-clause-nothing_routed
returns-in-Ok-clause-nothing_routed g c = was_unrouted (g.S.Shelf.told c.args.shelf.now) (λ name. Rose (g.S.Shelf.faults c.args.shelf.now name) (g.S.Shelf.faults c.answer_words.new.shelf name))
    (λ name. Rose (g.S.Shelf.empties c.args.shelf.now name) (g.S.Shelf.empties c.answer_words.new.shelf name)) (λ name. g.S.Shelf.asked c.answer_words.new.shelf name ≡ g.S.Shelf.asked c.args.shelf.now name) (λ n. g.S.Shelf.given c.answer_words.new.shelf ≤ g.S.Shelf.given c.args.shelf.now + n)
    (map string_bytes c.args.words.now) (g.K.Sink.taken c.args.out.now) (g.K.Sink.taken c.write_answer.new.out) (Rose (g.K.Sink.faults c.args.out.now) (g.K.Sink.faults c.write_answer.new.out))
    c.write_answer.result.play c.write_answer.result.capture c.write_answer.result.status
    (inl (record { meant = answer_meant c.in-Ok.answer; is = c.in-Ok.ensures.meant; given = c.write_answer.ensures.play; given_capture = c.write_answer.ensures.capture; written = c.write_answer.ensures.written }))

pub returns-in-Ok-clause-refused_words : goal.returns-in-Ok-clause-refused_words
returns-in-Ok-clause-refused_words g c = refused_words (g.S.Shelf.told c.args.shelf.now) (λ name. Rose (g.S.Shelf.faults c.args.shelf.now name) (g.S.Shelf.faults c.answer_words.new.shelf name))
    (λ name. Rose (g.S.Shelf.empties c.args.shelf.now name) (g.S.Shelf.empties c.answer_words.new.shelf name)) (λ name. g.S.Shelf.asked c.answer_words.new.shelf name ≡ g.S.Shelf.asked c.args.shelf.now name) (λ n. g.S.Shelf.given c.answer_words.new.shelf ≤ g.S.Shelf.given c.args.shelf.now + n)
    (map string_bytes c.args.words.now) (g.K.Sink.taken c.args.out.now) (g.K.Sink.taken c.write_answer.new.out) (Rose (g.K.Sink.faults c.args.out.now) (g.K.Sink.faults c.write_answer.new.out))
    c.write_answer.result.play c.write_answer.result.capture c.write_answer.result.status
    (inl (record { meant = answer_meant c.in-Ok.answer; is = c.in-Ok.ensures.meant; given = c.write_answer.ensures.play; given_capture = c.write_answer.ensures.capture; written = c.write_answer.ensures.written }))

pub returns-in-Ok-clause-unwritten : goal.returns-in-Ok-clause-unwritten
returns-in-Ok-clause-unwritten g c = sink_faulted (g.S.Shelf.told c.args.shelf.now) (λ name. Rose (g.S.Shelf.faults c.args.shelf.now name) (g.S.Shelf.faults c.answer_words.new.shelf name))
    (λ name. Rose (g.S.Shelf.empties c.args.shelf.now name) (g.S.Shelf.empties c.answer_words.new.shelf name)) (λ name. g.S.Shelf.asked c.answer_words.new.shelf name ≡ g.S.Shelf.asked c.args.shelf.now name) (λ n. g.S.Shelf.given c.answer_words.new.shelf ≤ g.S.Shelf.given c.args.shelf.now + n)
    (map string_bytes c.args.words.now) (g.K.Sink.taken c.args.out.now) (g.K.Sink.taken c.write_answer.new.out) (Rose (g.K.Sink.faults c.args.out.now) (g.K.Sink.faults c.write_answer.new.out))
    c.write_answer.result.play c.write_answer.result.capture c.write_answer.result.status
    (inl (record { meant = answer_meant c.in-Ok.answer; is = c.in-Ok.ensures.meant; given = c.write_answer.ensures.play; given_capture = c.write_answer.ensures.capture; written = c.write_answer.ensures.written }))

pub returns-in-Ok-clause-route_completes : goal.returns-in-Ok-clause-route_completes
returns-in-Ok-clause-route_completes g c = λ name format routes can sink. route_complete (g.K.Sink.taken c.args.out.now) (g.K.Sink.taken c.write_answer.new.out)
    (Rose (g.K.Sink.faults c.args.out.now) (g.K.Sink.faults c.write_answer.new.out)) c.write_answer.result.play c.write_answer.result.capture c.write_answer.result.status sink
    (g.S.Shelf.told c.args.shelf.now) (λ name. Rose (g.S.Shelf.faults c.args.shelf.now name) (g.S.Shelf.faults c.answer_words.new.shelf name))
    (λ name. Rose (g.S.Shelf.empties c.args.shelf.now name) (g.S.Shelf.empties c.answer_words.new.shelf name)) (λ name. g.S.Shelf.asked c.answer_words.new.shelf name ≡ g.S.Shelf.asked c.args.shelf.now name) (λ n. g.S.Shelf.given c.answer_words.new.shelf ≤ g.S.Shelf.given c.args.shelf.now + n)
    (map string_bytes c.args.words.now) name format routes can
    (inl (record { meant = answer_meant c.in-Ok.answer; is = c.in-Ok.ensures.meant; given = c.write_answer.ensures.play; given_capture = c.write_answer.ensures.capture; written = c.write_answer.ensures.written }))

pub returns-in-Ok-clause-walk_completes : goal.returns-in-Ok-clause-walk_completes
returns-in-Ok-clause-walk_completes g c = λ codec name walks can sink. walk_complete (g.K.Sink.taken c.args.out.now) (g.K.Sink.taken c.write_answer.new.out)
    (Rose (g.K.Sink.faults c.args.out.now) (g.K.Sink.faults c.write_answer.new.out)) c.write_answer.result.play c.write_answer.result.capture c.write_answer.result.status sink
    (g.S.Shelf.told c.args.shelf.now) (λ name. Rose (g.S.Shelf.faults c.args.shelf.now name) (g.S.Shelf.faults c.answer_words.new.shelf name))
    (λ name. Rose (g.S.Shelf.empties c.args.shelf.now name) (g.S.Shelf.empties c.answer_words.new.shelf name)) (λ name. g.S.Shelf.asked c.answer_words.new.shelf name ≡ g.S.Shelf.asked c.args.shelf.now name) (λ n. g.S.Shelf.given c.answer_words.new.shelf ≤ g.S.Shelf.given c.args.shelf.now + n)
    (map string_bytes c.args.words.now) codec name walks can
    (inl (record { meant = answer_meant c.in-Ok.answer; is = c.in-Ok.ensures.meant; given = c.write_answer.ensures.play; given_capture = c.write_answer.ensures.capture; written = c.write_answer.ensures.written }))

pub returns-in-Ok-clause-play_completes : goal.returns-in-Ok-clause-play_completes
returns-in-Ok-clause-play_completes g c = λ codec wav name periods period plays can sink. sound_complete (g.K.Sink.taken c.args.out.now) (g.K.Sink.taken c.write_answer.new.out)
    (Rose (g.K.Sink.faults c.args.out.now) (g.K.Sink.faults c.write_answer.new.out)) c.write_answer.result.play c.write_answer.result.capture c.write_answer.result.status sink
    (g.S.Shelf.told c.args.shelf.now) (λ name. Rose (g.S.Shelf.faults c.args.shelf.now name) (g.S.Shelf.faults c.answer_words.new.shelf name))
    (λ name. Rose (g.S.Shelf.empties c.args.shelf.now name) (g.S.Shelf.empties c.answer_words.new.shelf name)) (λ name. g.S.Shelf.asked c.answer_words.new.shelf name ≡ g.S.Shelf.asked c.args.shelf.now name) (λ n. g.S.Shelf.given c.answer_words.new.shelf ≤ g.S.Shelf.given c.args.shelf.now + n)
    (map string_bytes c.args.words.now) Analog codec wav name periods period plays can
    (inl (record { meant = answer_meant c.in-Ok.answer; is = c.in-Ok.ensures.meant; given = c.write_answer.ensures.play; given_capture = c.write_answer.ensures.capture; written = c.write_answer.ensures.written }))

pub returns-in-Ok-clause-spdif_completes : goal.returns-in-Ok-clause-spdif_completes
returns-in-Ok-clause-spdif_completes g c = λ codec wav name periods period plays can sink. sound_complete (g.K.Sink.taken c.args.out.now) (g.K.Sink.taken c.write_answer.new.out)
    (Rose (g.K.Sink.faults c.args.out.now) (g.K.Sink.faults c.write_answer.new.out)) c.write_answer.result.play c.write_answer.result.capture c.write_answer.result.status sink
    (g.S.Shelf.told c.args.shelf.now) (λ name. Rose (g.S.Shelf.faults c.args.shelf.now name) (g.S.Shelf.faults c.answer_words.new.shelf name))
    (λ name. Rose (g.S.Shelf.empties c.args.shelf.now name) (g.S.Shelf.empties c.answer_words.new.shelf name)) (λ name. g.S.Shelf.asked c.answer_words.new.shelf name ≡ g.S.Shelf.asked c.args.shelf.now name) (λ n. g.S.Shelf.given c.answer_words.new.shelf ≤ g.S.Shelf.given c.args.shelf.now + n)
    (map string_bytes c.args.words.now) Digital codec wav name periods period plays can
    (inl (record { meant = answer_meant c.in-Ok.answer; is = c.in-Ok.ensures.meant; given = c.write_answer.ensures.play; given_capture = c.write_answer.ensures.capture; written = c.write_answer.ensures.written }))

pub returns-in-Ok-clause-walk_given : goal.returns-in-Ok-clause-walk_given
returns-in-Ok-clause-walk_given g c = λ codec name walks can enough. walk_given (g.K.Sink.taken c.args.out.now) (g.K.Sink.taken c.write_answer.new.out)
    (Rose (g.K.Sink.faults c.args.out.now) (g.K.Sink.faults c.write_answer.new.out)) c.write_answer.result.play c.write_answer.result.capture c.write_answer.result.status enough
    (g.S.Shelf.told c.args.shelf.now) (λ name. Rose (g.S.Shelf.faults c.args.shelf.now name) (g.S.Shelf.faults c.answer_words.new.shelf name))
    (λ name. Rose (g.S.Shelf.empties c.args.shelf.now name) (g.S.Shelf.empties c.answer_words.new.shelf name)) (λ name. g.S.Shelf.asked c.answer_words.new.shelf name ≡ g.S.Shelf.asked c.args.shelf.now name) (λ n. g.S.Shelf.given c.answer_words.new.shelf ≤ g.S.Shelf.given c.args.shelf.now + n)
    (map string_bytes c.args.words.now) codec name walks can
    (inl (record { meant = answer_meant c.in-Ok.answer; is = c.in-Ok.ensures.meant; given = c.write_answer.ensures.play; given_capture = c.write_answer.ensures.capture; written = c.write_answer.ensures.written }))

pub returns-in-Ok-clause-play_given : goal.returns-in-Ok-clause-play_given
returns-in-Ok-clause-play_given g c = λ codec wav name periods period plays can enough. sound_given (g.K.Sink.taken c.args.out.now) (g.K.Sink.taken c.write_answer.new.out)
    (Rose (g.K.Sink.faults c.args.out.now) (g.K.Sink.faults c.write_answer.new.out)) c.write_answer.result.play c.write_answer.result.capture c.write_answer.result.status enough
    (g.S.Shelf.told c.args.shelf.now) (λ name. Rose (g.S.Shelf.faults c.args.shelf.now name) (g.S.Shelf.faults c.answer_words.new.shelf name))
    (λ name. Rose (g.S.Shelf.empties c.args.shelf.now name) (g.S.Shelf.empties c.answer_words.new.shelf name)) (λ name. g.S.Shelf.asked c.answer_words.new.shelf name ≡ g.S.Shelf.asked c.args.shelf.now name) (λ n. g.S.Shelf.given c.answer_words.new.shelf ≤ g.S.Shelf.given c.args.shelf.now + n)
    (map string_bytes c.args.words.now) Analog codec wav name periods period plays can
    (inl (record { meant = answer_meant c.in-Ok.answer; is = c.in-Ok.ensures.meant; given = c.write_answer.ensures.play; given_capture = c.write_answer.ensures.capture; written = c.write_answer.ensures.written }))

pub returns-in-Ok-clause-spdif_given : goal.returns-in-Ok-clause-spdif_given
returns-in-Ok-clause-spdif_given g c = λ codec wav name periods period plays can enough. sound_given (g.K.Sink.taken c.args.out.now) (g.K.Sink.taken c.write_answer.new.out)
    (Rose (g.K.Sink.faults c.args.out.now) (g.K.Sink.faults c.write_answer.new.out)) c.write_answer.result.play c.write_answer.result.capture c.write_answer.result.status enough
    (g.S.Shelf.told c.args.shelf.now) (λ name. Rose (g.S.Shelf.faults c.args.shelf.now name) (g.S.Shelf.faults c.answer_words.new.shelf name))
    (λ name. Rose (g.S.Shelf.empties c.args.shelf.now name) (g.S.Shelf.empties c.answer_words.new.shelf name)) (λ name. g.S.Shelf.asked c.answer_words.new.shelf name ≡ g.S.Shelf.asked c.args.shelf.now name) (λ n. g.S.Shelf.given c.answer_words.new.shelf ≤ g.S.Shelf.given c.args.shelf.now + n)
    (map string_bytes c.args.words.now) Digital codec wav name periods period plays can
    (inl (record { meant = answer_meant c.in-Ok.answer; is = c.in-Ok.ensures.meant; given = c.write_answer.ensures.play; given_capture = c.write_answer.ensures.capture; written = c.write_answer.ensures.written }))

pub returns-in-Ok-clause-walk_served : goal.returns-in-Ok-clause-walk_served
returns-in-Ok-clause-walk_served g c = λ codec name walks can sink serves. walk_serves (g.K.Sink.taken c.args.out.now) (g.K.Sink.taken c.write_answer.new.out)
    (Rose (g.K.Sink.faults c.args.out.now) (g.K.Sink.faults c.write_answer.new.out)) c.write_answer.result.play c.write_answer.result.capture c.write_answer.result.status sink
    (g.S.Shelf.told c.args.shelf.now) (λ name. Rose (g.S.Shelf.faults c.args.shelf.now name) (g.S.Shelf.faults c.answer_words.new.shelf name))
    (λ name. Rose (g.S.Shelf.empties c.args.shelf.now name) (g.S.Shelf.empties c.answer_words.new.shelf name)) (λ name. g.S.Shelf.asked c.answer_words.new.shelf name ≡ g.S.Shelf.asked c.args.shelf.now name) (λ n. g.S.Shelf.given c.answer_words.new.shelf ≤ g.S.Shelf.given c.args.shelf.now + n)
    (λ machine plans schedule played sound read. c.walks_end_so.ensures machine plans schedule played sound (c.read_machines_are_whole.ensures machine sound read)) (map string_bytes c.args.words.now) codec name walks can
    (inl (record { meant = answer_meant c.in-Ok.answer; is = c.in-Ok.ensures.meant; given = c.write_answer.ensures.play; given_capture = c.write_answer.ensures.capture; written = c.write_answer.ensures.written })) serves

pub returns-in-Ok-clause-play_served : goal.returns-in-Ok-clause-play_served
returns-in-Ok-clause-play_served g c = λ codec wav name periods period geometry plays can sink shape serves. sound_serves (g.K.Sink.taken c.args.out.now) (g.K.Sink.taken c.write_answer.new.out)
    (Rose (g.K.Sink.faults c.args.out.now) (g.K.Sink.faults c.write_answer.new.out)) c.write_answer.result.play c.write_answer.result.capture c.write_answer.result.status sink
    (g.S.Shelf.told c.args.shelf.now) (λ name. Rose (g.S.Shelf.faults c.args.shelf.now name) (g.S.Shelf.faults c.answer_words.new.shelf name))
    (λ name. Rose (g.S.Shelf.empties c.args.shelf.now name) (g.S.Shelf.empties c.answer_words.new.shelf name)) (λ name. g.S.Shelf.asked c.answer_words.new.shelf name ≡ g.S.Shelf.asked c.args.shelf.now name) (λ n. g.S.Shelf.given c.answer_words.new.shelf ≤ g.S.Shelf.given c.args.shelf.now + n)
    Analog (λ kind machine plans wav geometry schedule played sound read. c.plays_end_so.ensures kind machine plans wav geometry schedule played sound (c.read_machines_are_whole.ensures machine sound read))
    (λ kind machine plans wav geometry schedule played frames sound read. c.plays_all_so.ensures kind machine plans wav geometry schedule played frames sound (c.read_machines_are_whole.ensures machine sound read)) codec wav name periods period geometry can shape serves (map string_bytes c.args.words.now) plays
    (inl (record { meant = answer_meant c.in-Ok.answer; is = c.in-Ok.ensures.meant; given = c.write_answer.ensures.play; given_capture = c.write_answer.ensures.capture; written = c.write_answer.ensures.written }))

pub returns-in-Ok-clause-spdif_served : goal.returns-in-Ok-clause-spdif_served
returns-in-Ok-clause-spdif_served g c = λ codec wav name periods period geometry plays can sink shape serves. sound_serves (g.K.Sink.taken c.args.out.now) (g.K.Sink.taken c.write_answer.new.out)
    (Rose (g.K.Sink.faults c.args.out.now) (g.K.Sink.faults c.write_answer.new.out)) c.write_answer.result.play c.write_answer.result.capture c.write_answer.result.status sink
    (g.S.Shelf.told c.args.shelf.now) (λ name. Rose (g.S.Shelf.faults c.args.shelf.now name) (g.S.Shelf.faults c.answer_words.new.shelf name))
    (λ name. Rose (g.S.Shelf.empties c.args.shelf.now name) (g.S.Shelf.empties c.answer_words.new.shelf name)) (λ name. g.S.Shelf.asked c.answer_words.new.shelf name ≡ g.S.Shelf.asked c.args.shelf.now name) (λ n. g.S.Shelf.given c.answer_words.new.shelf ≤ g.S.Shelf.given c.args.shelf.now + n)
    Digital (λ kind machine plans wav geometry schedule played sound read. c.plays_end_so.ensures kind machine plans wav geometry schedule played sound (c.read_machines_are_whole.ensures machine sound read))
    (λ kind machine plans wav geometry schedule played frames sound read. c.plays_all_so.ensures kind machine plans wav geometry schedule played frames sound (c.read_machines_are_whole.ensures machine sound read)) codec wav name periods period geometry can shape serves (map string_bytes c.args.words.now) plays
    (inl (record { meant = answer_meant c.in-Ok.answer; is = c.in-Ok.ensures.meant; given = c.write_answer.ensures.play; given_capture = c.write_answer.ensures.capture; written = c.write_answer.ensures.written }))

pub returns-in-Ok-clause-play_served_whole : goal.returns-in-Ok-clause-play_served_whole
returns-in-Ok-clause-play_served_whole g c = λ codec wav name periods period geometry plays can sink shape serves. sound_serves_whole (g.K.Sink.taken c.args.out.now) (g.K.Sink.taken c.write_answer.new.out)
    (Rose (g.K.Sink.faults c.args.out.now) (g.K.Sink.faults c.write_answer.new.out)) c.write_answer.result.play c.write_answer.result.capture c.write_answer.result.status sink
    (g.S.Shelf.told c.args.shelf.now) (λ name. Rose (g.S.Shelf.faults c.args.shelf.now name) (g.S.Shelf.faults c.answer_words.new.shelf name))
    (λ name. Rose (g.S.Shelf.empties c.args.shelf.now name) (g.S.Shelf.empties c.answer_words.new.shelf name)) (λ name. g.S.Shelf.asked c.answer_words.new.shelf name ≡ g.S.Shelf.asked c.args.shelf.now name) (λ n. g.S.Shelf.given c.answer_words.new.shelf ≤ g.S.Shelf.given c.args.shelf.now + n)
    Analog (λ kind machine plans wav geometry schedule played sound read. c.plays_end_so.ensures kind machine plans wav geometry schedule played sound (c.read_machines_are_whole.ensures machine sound read))
    (λ kind machine plans wav geometry schedule played frames sound read. c.plays_all_so.ensures kind machine plans wav geometry schedule played frames sound (c.read_machines_are_whole.ensures machine sound read)) codec wav name periods period geometry can shape serves (map string_bytes c.args.words.now) plays
    (inl (record { meant = answer_meant c.in-Ok.answer; is = c.in-Ok.ensures.meant; given = c.write_answer.ensures.play; given_capture = c.write_answer.ensures.capture; written = c.write_answer.ensures.written }))

pub returns-in-Ok-clause-spdif_served_whole : goal.returns-in-Ok-clause-spdif_served_whole
returns-in-Ok-clause-spdif_served_whole g c = λ codec wav name periods period geometry plays can sink shape serves. sound_serves_whole (g.K.Sink.taken c.args.out.now) (g.K.Sink.taken c.write_answer.new.out)
    (Rose (g.K.Sink.faults c.args.out.now) (g.K.Sink.faults c.write_answer.new.out)) c.write_answer.result.play c.write_answer.result.capture c.write_answer.result.status sink
    (g.S.Shelf.told c.args.shelf.now) (λ name. Rose (g.S.Shelf.faults c.args.shelf.now name) (g.S.Shelf.faults c.answer_words.new.shelf name))
    (λ name. Rose (g.S.Shelf.empties c.args.shelf.now name) (g.S.Shelf.empties c.answer_words.new.shelf name)) (λ name. g.S.Shelf.asked c.answer_words.new.shelf name ≡ g.S.Shelf.asked c.args.shelf.now name) (λ n. g.S.Shelf.given c.answer_words.new.shelf ≤ g.S.Shelf.given c.args.shelf.now + n)
    Digital (λ kind machine plans wav geometry schedule played sound read. c.plays_end_so.ensures kind machine plans wav geometry schedule played sound (c.read_machines_are_whole.ensures machine sound read))
    (λ kind machine plans wav geometry schedule played frames sound read. c.plays_all_so.ensures kind machine plans wav geometry schedule played frames sound (c.read_machines_are_whole.ensures machine sound read)) codec wav name periods period geometry can shape serves (map string_bytes c.args.words.now) plays
    (inl (record { meant = answer_meant c.in-Ok.answer; is = c.in-Ok.ensures.meant; given = c.write_answer.ensures.play; given_capture = c.write_answer.ensures.capture; written = c.write_answer.ensures.written }))

pub returns-in-Err-clause-walk_served : goal.returns-in-Err-clause-walk_served
returns-in-Err-clause-walk_served g c = λ codec name walks can sink serves. record { run = tt; status_is = inr c.number.ensures }

pub returns-in-Err-clause-play_served : goal.returns-in-Err-clause-play_served
returns-in-Err-clause-play_served g c = λ codec wav name periods period geometry plays can sink shape serves. record { run = tt; status_is = inr c.number.ensures }

pub returns-in-Err-clause-spdif_served : goal.returns-in-Err-clause-spdif_served
returns-in-Err-clause-spdif_served g c = λ codec wav name periods period geometry plays can sink shape serves. record { run = tt; status_is = inr c.number.ensures }

pub returns-in-Err-clause-play_served_whole : goal.returns-in-Err-clause-play_served_whole
returns-in-Err-clause-play_served_whole g c = λ codec wav name periods period geometry plays can sink shape serves. record { run = tt; status_is = inr c.number.ensures }

pub returns-in-Err-clause-spdif_served_whole : goal.returns-in-Err-clause-spdif_served_whole
returns-in-Err-clause-spdif_served_whole g c = λ codec wav name periods period geometry plays can sink shape serves. record { run = tt; status_is = inr c.number.ensures }

pub returns-in-Ok-clause-make_runs : goal.returns-in-Ok-clause-make_runs
returns-in-Ok-clause-make_runs g c = λ number makes. make_runs (g.K.Sink.taken c.args.out.now) (g.K.Sink.taken c.write_answer.new.out)
    (Rose (g.K.Sink.faults c.args.out.now) (g.K.Sink.faults c.write_answer.new.out)) c.write_answer.result.play c.write_answer.result.capture c.write_answer.result.status
    (g.S.Shelf.told c.args.shelf.now) (λ name. Rose (g.S.Shelf.faults c.args.shelf.now name) (g.S.Shelf.faults c.answer_words.new.shelf name))
    (λ name. Rose (g.S.Shelf.empties c.args.shelf.now name) (g.S.Shelf.empties c.answer_words.new.shelf name)) (λ name. g.S.Shelf.asked c.answer_words.new.shelf name ≡ g.S.Shelf.asked c.args.shelf.now name) (λ n. g.S.Shelf.given c.answer_words.new.shelf ≤ g.S.Shelf.given c.args.shelf.now + n)
    (map string_bytes c.args.words.now) number makes
    (inl (record { meant = answer_meant c.in-Ok.answer; is = c.in-Ok.ensures.meant; given = c.write_answer.ensures.play; given_capture = c.write_answer.ensures.capture; written = c.write_answer.ensures.written }))

pub returns-in-Ok-clause-make_ends : goal.returns-in-Ok-clause-make_ends
returns-in-Ok-clause-make_ends g c = λ number makes. make_complete (g.K.Sink.taken c.args.out.now) (g.K.Sink.taken c.write_answer.new.out)
    (Rose (g.K.Sink.faults c.args.out.now) (g.K.Sink.faults c.write_answer.new.out)) c.write_answer.result.play c.write_answer.result.capture c.write_answer.result.status
    (g.S.Shelf.told c.args.shelf.now) (λ name. Rose (g.S.Shelf.faults c.args.shelf.now name) (g.S.Shelf.faults c.answer_words.new.shelf name))
    (λ name. Rose (g.S.Shelf.empties c.args.shelf.now name) (g.S.Shelf.empties c.answer_words.new.shelf name)) (λ name. g.S.Shelf.asked c.answer_words.new.shelf name ≡ g.S.Shelf.asked c.args.shelf.now name) (λ n. g.S.Shelf.given c.answer_words.new.shelf ≤ g.S.Shelf.given c.args.shelf.now + n)
    (map string_bytes c.args.words.now) number makes
    (inl (record { meant = answer_meant c.in-Ok.answer; is = c.in-Ok.ensures.meant; given = c.write_answer.ensures.play; given_capture = c.write_answer.ensures.capture; written = c.write_answer.ensures.written }))

pub returns-in-Err-clause-make_runs : goal.returns-in-Err-clause-make_runs
returns-in-Err-clause-make_runs g c = λ number makes enough. absurd (enough c.number.ensures)

pub returns-in-Err-clause-make_ends : goal.returns-in-Err-clause-make_ends
returns-in-Err-clause-make_ends g c = λ number makes. inr (inr c.number.ensures)

pub returns-in-Err-clause-walk_given : goal.returns-in-Err-clause-walk_given
returns-in-Err-clause-walk_given g c = λ codec name walks can enough. absurd (enough c.number.ensures)

pub returns-in-Err-clause-play_given : goal.returns-in-Err-clause-play_given
returns-in-Err-clause-play_given g c = λ codec wav name periods period plays can enough. absurd (enough c.number.ensures)

pub returns-in-Err-clause-spdif_given : goal.returns-in-Err-clause-spdif_given
returns-in-Err-clause-spdif_given g c = λ codec wav name periods period plays can enough. absurd (enough c.number.ensures)

pub returns-in-Ok-clause-capture_promise : goal.returns-in-Ok-clause-capture_promise
returns-in-Ok-clause-capture_promise g c = capture_promised (g.S.Shelf.told c.args.shelf.now) (λ name. Rose (g.S.Shelf.faults c.args.shelf.now name) (g.S.Shelf.faults c.answer_words.new.shelf name))
    (λ name. Rose (g.S.Shelf.empties c.args.shelf.now name) (g.S.Shelf.empties c.answer_words.new.shelf name)) (λ name. g.S.Shelf.asked c.answer_words.new.shelf name ≡ g.S.Shelf.asked c.args.shelf.now name) (λ n. g.S.Shelf.given c.answer_words.new.shelf ≤ g.S.Shelf.given c.args.shelf.now + n)
    (map string_bytes c.args.words.now) (g.K.Sink.taken c.args.out.now) (g.K.Sink.taken c.write_answer.new.out) (Rose (g.K.Sink.faults c.args.out.now) (g.K.Sink.faults c.write_answer.new.out))
    c.write_answer.result.play c.write_answer.result.capture c.write_answer.result.status
    (inl (record { meant = answer_meant c.in-Ok.answer; is = c.in-Ok.ensures.meant; given = c.write_answer.ensures.play; given_capture = c.write_answer.ensures.capture; written = c.write_answer.ensures.written }))

pub returns-in-Ok-clause-capture_runless : goal.returns-in-Ok-clause-capture_runless
returns-in-Ok-clause-capture_runless g c = captureless (g.S.Shelf.told c.args.shelf.now) (λ name. Rose (g.S.Shelf.faults c.args.shelf.now name) (g.S.Shelf.faults c.answer_words.new.shelf name))
    (λ name. Rose (g.S.Shelf.empties c.args.shelf.now name) (g.S.Shelf.empties c.answer_words.new.shelf name)) (λ name. g.S.Shelf.asked c.answer_words.new.shelf name ≡ g.S.Shelf.asked c.args.shelf.now name) (λ n. g.S.Shelf.given c.answer_words.new.shelf ≤ g.S.Shelf.given c.args.shelf.now + n)
    (map string_bytes c.args.words.now) (g.K.Sink.taken c.args.out.now) (g.K.Sink.taken c.write_answer.new.out) (Rose (g.K.Sink.faults c.args.out.now) (g.K.Sink.faults c.write_answer.new.out))
    c.write_answer.result.play c.write_answer.result.capture c.write_answer.result.status
    (inl (record { meant = answer_meant c.in-Ok.answer; is = c.in-Ok.ensures.meant; given = c.write_answer.ensures.play; given_capture = c.write_answer.ensures.capture; written = c.write_answer.ensures.written }))

pub returns-in-Ok-clause-capture_unread : goal.returns-in-Ok-clause-capture_unread
returns-in-Ok-clause-capture_unread g c = capture_unread (g.S.Shelf.told c.args.shelf.now) (λ name. Rose (g.S.Shelf.faults c.args.shelf.now name) (g.S.Shelf.faults c.answer_words.new.shelf name))
    (λ name. Rose (g.S.Shelf.empties c.args.shelf.now name) (g.S.Shelf.empties c.answer_words.new.shelf name)) (λ name. g.S.Shelf.asked c.answer_words.new.shelf name ≡ g.S.Shelf.asked c.args.shelf.now name) (λ n. g.S.Shelf.given c.answer_words.new.shelf ≤ g.S.Shelf.given c.args.shelf.now + n)
    (map string_bytes c.args.words.now) (g.K.Sink.taken c.args.out.now) (g.K.Sink.taken c.write_answer.new.out) (Rose (g.K.Sink.faults c.args.out.now) (g.K.Sink.faults c.write_answer.new.out))
    c.write_answer.result.play c.write_answer.result.capture c.write_answer.result.status
    (inl (record { meant = answer_meant c.in-Ok.answer; is = c.in-Ok.ensures.meant; given = c.write_answer.ensures.play; given_capture = c.write_answer.ensures.capture; written = c.write_answer.ensures.written }))

pub returns-in-Ok-clause-capture_runs : goal.returns-in-Ok-clause-capture_runs
returns-in-Ok-clause-capture_runs g c = λ codec wav name periods period captures. capture_runs (g.S.Shelf.told c.args.shelf.now) (λ name. Rose (g.S.Shelf.faults c.args.shelf.now name) (g.S.Shelf.faults c.answer_words.new.shelf name))
    (λ name. Rose (g.S.Shelf.empties c.args.shelf.now name) (g.S.Shelf.empties c.answer_words.new.shelf name)) (λ name. g.S.Shelf.asked c.answer_words.new.shelf name ≡ g.S.Shelf.asked c.args.shelf.now name) (λ n. g.S.Shelf.given c.answer_words.new.shelf ≤ g.S.Shelf.given c.args.shelf.now + n)
    (map string_bytes c.args.words.now) (g.K.Sink.taken c.args.out.now) (g.K.Sink.taken c.write_answer.new.out) (Rose (g.K.Sink.faults c.args.out.now) (g.K.Sink.faults c.write_answer.new.out))
    c.write_answer.result.play c.write_answer.result.capture c.write_answer.result.status
    codec wav name periods period captures
    (inl (record { meant = answer_meant c.in-Ok.answer; is = c.in-Ok.ensures.meant; given = c.write_answer.ensures.play; given_capture = c.write_answer.ensures.capture; written = c.write_answer.ensures.written }))

pub returns-in-Ok-clause-capture_plays_nothing : goal.returns-in-Ok-clause-capture_plays_nothing
returns-in-Ok-clause-capture_plays_nothing g c = λ codec wav name periods period captures. capture_plays_nothing (g.S.Shelf.told c.args.shelf.now) (λ name. Rose (g.S.Shelf.faults c.args.shelf.now name) (g.S.Shelf.faults c.answer_words.new.shelf name))
    (λ name. Rose (g.S.Shelf.empties c.args.shelf.now name) (g.S.Shelf.empties c.answer_words.new.shelf name)) (λ name. g.S.Shelf.asked c.answer_words.new.shelf name ≡ g.S.Shelf.asked c.args.shelf.now name) (λ n. g.S.Shelf.given c.answer_words.new.shelf ≤ g.S.Shelf.given c.args.shelf.now + n)
    (map string_bytes c.args.words.now) (g.K.Sink.taken c.args.out.now) (g.K.Sink.taken c.write_answer.new.out) (Rose (g.K.Sink.faults c.args.out.now) (g.K.Sink.faults c.write_answer.new.out))
    c.write_answer.result.play c.write_answer.result.capture c.write_answer.result.status
    codec wav name periods period captures
    (inl (record { meant = answer_meant c.in-Ok.answer; is = c.in-Ok.ensures.meant; given = c.write_answer.ensures.play; given_capture = c.write_answer.ensures.capture; written = c.write_answer.ensures.written }))

pub returns-in-Ok-clause-capture_completes : goal.returns-in-Ok-clause-capture_completes
returns-in-Ok-clause-capture_completes g c = λ codec wav name periods period captures can sink. capture_complete (g.S.Shelf.told c.args.shelf.now) (λ name. Rose (g.S.Shelf.faults c.args.shelf.now name) (g.S.Shelf.faults c.answer_words.new.shelf name))
    (λ name. Rose (g.S.Shelf.empties c.args.shelf.now name) (g.S.Shelf.empties c.answer_words.new.shelf name)) (λ name. g.S.Shelf.asked c.answer_words.new.shelf name ≡ g.S.Shelf.asked c.args.shelf.now name) (λ n. g.S.Shelf.given c.answer_words.new.shelf ≤ g.S.Shelf.given c.args.shelf.now + n)
    (map string_bytes c.args.words.now) codec wav name periods period captures can
    (g.K.Sink.taken c.args.out.now) (g.K.Sink.taken c.write_answer.new.out) (Rose (g.K.Sink.faults c.args.out.now) (g.K.Sink.faults c.write_answer.new.out))
    c.write_answer.result.play c.write_answer.result.capture c.write_answer.result.status sink
    (inl (record { meant = answer_meant c.in-Ok.answer; is = c.in-Ok.ensures.meant; given = c.write_answer.ensures.play; given_capture = c.write_answer.ensures.capture; written = c.write_answer.ensures.written }))

pub returns-in-Ok-clause-capture_given : goal.returns-in-Ok-clause-capture_given
returns-in-Ok-clause-capture_given g c = λ codec wav name periods period captures can enough. capture_given (g.S.Shelf.told c.args.shelf.now) (λ name. Rose (g.S.Shelf.faults c.args.shelf.now name) (g.S.Shelf.faults c.answer_words.new.shelf name))
    (λ name. Rose (g.S.Shelf.empties c.args.shelf.now name) (g.S.Shelf.empties c.answer_words.new.shelf name)) (λ name. g.S.Shelf.asked c.answer_words.new.shelf name ≡ g.S.Shelf.asked c.args.shelf.now name) (λ n. g.S.Shelf.given c.answer_words.new.shelf ≤ g.S.Shelf.given c.args.shelf.now + n)
    (map string_bytes c.args.words.now) codec wav name periods period captures can
    (g.K.Sink.taken c.args.out.now) (g.K.Sink.taken c.write_answer.new.out) (Rose (g.K.Sink.faults c.args.out.now) (g.K.Sink.faults c.write_answer.new.out))
    c.write_answer.result.play c.write_answer.result.capture c.write_answer.result.status enough
    (inl (record { meant = answer_meant c.in-Ok.answer; is = c.in-Ok.ensures.meant; given = c.write_answer.ensures.play; given_capture = c.write_answer.ensures.capture; written = c.write_answer.ensures.written }))

pub returns-in-Err-clause-capture_given : goal.returns-in-Err-clause-capture_given
returns-in-Err-clause-capture_given g c = λ codec wav name periods period captures can enough. absurd (enough c.number.ensures)
