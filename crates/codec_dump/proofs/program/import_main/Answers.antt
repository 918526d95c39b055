use Rattle.std.proofs.Common.{List, ℕ, Err, ap, subst, ◌∙◌}
use Rattle.hda_outside.specs.Sink.{taken_with, TookFront}
use Rattle.codec_dump.specs.Programs.{told_by, Told, Whole, AtFault, AtMemory}
use Rattle.codec_dump.proofs.program.import_main.Goals as goal

pub returns-in-Ok-write_all-clause-ended : goal.returns-in-Ok-write_all-clause-ended
returns-in-Ok-write_all-clause-ended g c =
    Told (told_by c.in-Ok.message) c.in-Ok.ensures.told (Whole (c.in-Ok-write_all.ensures.all ∙ ap (taken_with (g.K.Sink.taken c.args.out.now)) c.as_bytes.ensures.value) c.number.ensures)

pub returns-in-Err-Failed-clause-ended : goal.returns-in-Err-Failed-clause-ended
returns-in-Err-Failed-clause-ended g c =
    let front = subst (λ (b : List ℕ). TookFront (g.K.Sink.taken c.args.out.now) (g.K.Sink.taken c.write_all.new.out) b) c.as_bytes.ensures.value c.in-Err-Failed.ensures.front in
    Told (told_by c.in-Ok.message) c.in-Ok.ensures.told (AtFault front (c.in-Err-Failed.ensures.failed (ap Err c.in-Err-Failed.field-0-is)) c.number-in-Err-Failed.ensures)

pub returns-in-Ok-clause-ended : goal.returns-in-Ok-clause-ended
returns-in-Ok-clause-ended g c =
    let front = subst (λ (b : List ℕ). TookFront (g.K.Sink.taken c.args.out.now) (g.K.Sink.taken c.write_all.new.out) b) c.as_bytes.ensures.value c.in-Err-OutOfMemory.ensures.front in
    Told (told_by c.in-Ok.message) c.in-Ok.ensures.told (AtMemory front c.number-in-Err-OutOfMemory.ensures)
