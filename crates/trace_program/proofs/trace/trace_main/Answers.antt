use Rattle.std.proofs.Common.{◌≡◌, ◌∙◌, ◌+◌, ◌≤◌, drop, map, string_bytes, inl, inr, refl}
use Rattle.hda_outside.specs.Counts.{Rose}
use Rattle.hda_program.specs.Meanings.{answer_meant}
use Rattle.trace_program.specs.Traced.{traced}
use Rattle.trace_program.specs.Words.{form_of}
use Rattle.trace_program.proofs.TraceLemmas.{ended_so, promise_kept, traced_play}
use Rattle.trace_program.proofs.trace.trace_main.Goals as goal

pub returns-in-Ok-clause-ended : goal.returns-in-Ok-clause-ended
returns-in-Ok-clause-ended g c =
    (inl (record {
      meant = traced (form_of (drop 1 (map string_bytes c.args.words.now))) (answer_meant c.in-Ok.answer);
      is = record { answer = answer_meant c.in-Ok.answer; answered = c.in-Ok.ensures.meant; is = refl };
      given = c.write_answer.ensures.play ∙ traced_play _ (answer_meant c.in-Ok.answer);
      given_capture = rw c.form_of-form.ensures at c.write_answer.ensures.capture;
      written = rw c.form_of-form.ensures at c.write_answer.ensures.written;
    }))

pub returns-in-Ok-clause-promise : goal.returns-in-Ok-clause-promise
returns-in-Ok-clause-promise g c = promise_kept (g.S.Shelf.told c.args.shelf.now) (λ name. Rose (g.S.Shelf.faults c.args.shelf.now name) (g.S.Shelf.faults c.answer_run.new.shelf name))
    (λ name. Rose (g.S.Shelf.empties c.args.shelf.now name) (g.S.Shelf.empties c.answer_run.new.shelf name)) (λ name. g.S.Shelf.asked c.answer_run.new.shelf name ≡ g.S.Shelf.asked c.args.shelf.now name) (λ n. g.S.Shelf.given c.answer_run.new.shelf ≤ g.S.Shelf.given c.args.shelf.now + n)
    (drop 1 (map string_bytes c.args.words.now)) (g.K.Sink.taken c.args.out.now) (g.K.Sink.taken c.write_answer.new.out) (Rose (g.K.Sink.faults c.args.out.now) (g.K.Sink.faults c.write_answer.new.out))
    c.write_answer.result.play c.write_answer.result.capture c.write_answer.result.status
    (inl (record {
      meant = traced (form_of (drop 1 (map string_bytes c.args.words.now))) (answer_meant c.in-Ok.answer);
      is = record { answer = answer_meant c.in-Ok.answer; answered = c.in-Ok.ensures.meant; is = refl };
      given = c.write_answer.ensures.play ∙ traced_play _ (answer_meant c.in-Ok.answer);
      given_capture = rw c.form_of-form.ensures at c.write_answer.ensures.capture;
      written = rw c.form_of-form.ensures at c.write_answer.ensures.written;
    }))

pub returns-in-Ok-clause-ends_so : goal.returns-in-Ok-clause-ends_so
returns-in-Ok-clause-ends_so g c = ended_so (g.S.Shelf.told c.args.shelf.now) (λ name. Rose (g.S.Shelf.faults c.args.shelf.now name) (g.S.Shelf.faults c.answer_run.new.shelf name))
    (λ name. Rose (g.S.Shelf.empties c.args.shelf.now name) (g.S.Shelf.empties c.answer_run.new.shelf name)) (λ name. g.S.Shelf.asked c.answer_run.new.shelf name ≡ g.S.Shelf.asked c.args.shelf.now name) (λ n. g.S.Shelf.given c.answer_run.new.shelf ≤ g.S.Shelf.given c.args.shelf.now + n)
    (drop 1 (map string_bytes c.args.words.now)) (g.K.Sink.taken c.args.out.now) (g.K.Sink.taken c.write_answer.new.out) (Rose (g.K.Sink.faults c.args.out.now) (g.K.Sink.faults c.write_answer.new.out))
    c.write_answer.result.play c.write_answer.result.capture c.write_answer.result.status
    (inl (record {
      meant = traced (form_of (drop 1 (map string_bytes c.args.words.now))) (answer_meant c.in-Ok.answer);
      is = record { answer = answer_meant c.in-Ok.answer; answered = c.in-Ok.ensures.meant; is = refl };
      given = c.write_answer.ensures.play ∙ traced_play _ (answer_meant c.in-Ok.answer);
      given_capture = rw c.form_of-form.ensures at c.write_answer.ensures.capture;
      written = rw c.form_of-form.ensures at c.write_answer.ensures.written;
    }))

pub returns-in-Err-clause-ends_so : goal.returns-in-Err-clause-ends_so
returns-in-Err-clause-ends_so g c = inr (inr (c.number.ensures, refl, refl, refl))
