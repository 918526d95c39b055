use Rattle.std.proofs.Common.{◌≡◌, ◌+◌, ◌≤◌, ℕ, List, drop, map, string_bytes, inl}
use Rattle.hda_outside.specs.Counts.{Rose}
use Rattle.draw_program.specs.Drawn.{drawing_meant}
use Rattle.draw_program.proofs.DrawLemmas.{ended_so, promise_kept}
use Rattle.draw_program.proofs.draw.draw_main.Goals as goal

pub returns-in-Ok-clause-promise : goal.returns-in-Ok-clause-promise
returns-in-Ok-clause-promise g c =
    let told = g.S.Shelf.told c.args.shelf.now in
    let failed : List ℕ → Type 0 = λ name. Rose (g.S.Shelf.faults c.args.shelf.now name) (g.S.Shelf.faults c.answer_drawing.new.shelf name) in
    let emptied : List ℕ → Type 0 = λ name. Rose (g.S.Shelf.empties c.args.shelf.now name) (g.S.Shelf.empties c.answer_drawing.new.shelf name) in
    let unasked : List ℕ → Type 0 = λ name. g.S.Shelf.asked c.answer_drawing.new.shelf name ≡ g.S.Shelf.asked c.args.shelf.now name in
    let gave : ℕ → Type 0 = λ n. g.S.Shelf.given c.answer_drawing.new.shelf ≤ g.S.Shelf.given c.args.shelf.now + n in
    let words = drop 1 (map string_bytes c.args.words.now) in
    promise_kept told failed emptied unasked gave words (g.K.Sink.taken c.args.out.now) (g.K.Sink.taken c.write_drawing.new.out) (Rose (g.K.Sink.faults c.args.out.now) (g.K.Sink.faults c.write_drawing.new.out))
    c.write_drawing.result.play c.write_drawing.result.capture c.write_drawing.result.status
    (inl (record { meant = drawing_meant c.in-Ok.drawing; is = c.in-Ok.ensures.meant; given = c.write_drawing.ensures.play; given_capture = c.write_drawing.ensures.capture; written = c.write_drawing.ensures.written }))

pub returns-in-Ok-clause-ends_so : goal.returns-in-Ok-clause-ends_so
returns-in-Ok-clause-ends_so g c =
    let told = g.S.Shelf.told c.args.shelf.now in
    let failed : List ℕ → Type 0 = λ name. Rose (g.S.Shelf.faults c.args.shelf.now name) (g.S.Shelf.faults c.answer_drawing.new.shelf name) in
    let emptied : List ℕ → Type 0 = λ name. Rose (g.S.Shelf.empties c.args.shelf.now name) (g.S.Shelf.empties c.answer_drawing.new.shelf name) in
    let unasked : List ℕ → Type 0 = λ name. g.S.Shelf.asked c.answer_drawing.new.shelf name ≡ g.S.Shelf.asked c.args.shelf.now name in
    let gave : ℕ → Type 0 = λ n. g.S.Shelf.given c.answer_drawing.new.shelf ≤ g.S.Shelf.given c.args.shelf.now + n in
    let words = drop 1 (map string_bytes c.args.words.now) in
    ended_so told failed emptied unasked gave words (g.K.Sink.taken c.args.out.now) (g.K.Sink.taken c.write_drawing.new.out) (Rose (g.K.Sink.faults c.args.out.now) (g.K.Sink.faults c.write_drawing.new.out))
    c.write_drawing.result.play c.write_drawing.result.capture c.write_drawing.result.status
    (inl (record { meant = drawing_meant c.in-Ok.drawing; is = c.in-Ok.ensures.meant; given = c.write_drawing.ensures.play; given_capture = c.write_drawing.ensures.capture; written = c.write_drawing.ensures.written }))
