use Rattle.std.proofs.Common.{◌<◌, ◌≤◌, List, ℕ, length, Err, ap, ◌∙◌, arith}
use Rattle.hda_outside.specs.Counts.{Rose}
use Rattle.hda_outside.proofs.Callers.{Rose-longer}
use Rattle.codec_dump.specs.declared.program.ImportStatus.TheVariants.{SinkFailed}
use Rattle.codec_dump.specs.Programs.{Telling, telling, told_by, unwritable_line}
use Rattle.codec_dump.proofs.OutletLemmas.{further_at}
use Rattle.codec_dump.proofs.ProgramLemmas.{unwritten_file, first_files, first_written}
use Rattle.codec_dump.proofs.program.write_further.Goals as goal

pub returns-in-Err-Failed-clause-told : goal.returns-in-Err-Failed-clause-told
returns-in-Err-Failed-clause-told g c =
    let before = g.O.Outlet.written c.args.outlet.now in
    let now = g.O.Outlet.written c.write_new.new.self in
    let first = g.O.Outlet.faults c.args.outlet.now in
    let last = g.O.Outlet.faults c.write_new.new.self in
    let place = c.loop-place.place in
    let inside : place < length c.args.texts.now = omega arith in
    let rose : Rose first last = Rose-longer first (g.O.Outlet.faults c.loop-place.outlet) last last c.loop-place.invariant.later (c.in-Err-Failed.ensures.failed (ap Err c.in-Err-Failed.field-0-is)) (omega arith) in
    let line : List ℕ → Telling = λ n. telling SinkFailed (unwritable_line n) in
    unwritten_file c.args.name.now c.args.texts.now place c.index-texts-place.result before now (Rose first last) (told_by c.in_ok-message-in-Err-Failed.message) inside c.index-texts-place.is (c.in-Err-Failed.ensures.not_done ∙ c.loop-place.invariant.files) rose (c.in_ok-message-in-Err-Failed.ensures ∙ ap line (c.as_str-in-Err-Failed.ensures.value ∙ c.in_ok-further.ensures))

pub loop-place-preserved : goal.loop-place-preserved
loop-place-preserved g c =
    let before = g.O.Outlet.written c.args.outlet.now in
    let old = g.O.Outlet.written c.loop-place.outlet in
    let now = g.O.Outlet.written c.write_new.new.self in
    let first = g.O.Outlet.faults c.args.outlet.now in
    let middle = g.O.Outlet.faults c.loop-place.outlet in
    let last = g.O.Outlet.faults c.write_new.new.self in
    let place = c.loop-place.place in
    let inside : place < length c.args.texts.now = omega arith in
    let up : first ≤ middle = c.loop-place.invariant.later in
    let on : middle ≤ last = c.in-Ok.ensures.later in
    record {
      files =
          further_at c.args.texts.now place c.index-texts-place.result before old now c.args.name.now c.as_str.result.now c.as_bytes.result.now inside c.index-texts-place.is c.loop-place.invariant.files (c.as_str.ensures.value ∙ c.in_ok-further.ensures) c.as_bytes.ensures.value c.in-Ok.ensures.done;
      later = omega arith;
    }

pub returns-in_err-further-clause-wanting : goal.returns-in_err-further-clause-wanting
returns-in_err-further-clause-wanting g c =
    first_files c.args.name.now c.args.texts.now c.loop-place.place (g.O.Outlet.written c.args.outlet.now) (g.O.Outlet.written c.loop-place.outlet) c.from_residual.result c.loop-place.invariant.files

pub returns-in_err-message-in-Err-Failed-clause-wanting : goal.returns-in_err-message-in-Err-Failed-clause-wanting
returns-in_err-message-in-Err-Failed-clause-wanting g c =
    first_files c.args.name.now c.args.texts.now c.loop-place.place (g.O.Outlet.written c.args.outlet.now) (g.O.Outlet.written c.write_new.new.self) c.from_residual-in_err-message-in-Err-Failed.result (c.in-Err-Failed.ensures.not_done ∙ c.loop-place.invariant.files)

pub returns-in-Err-OutOfMemory-clause-wanting : goal.returns-in-Err-OutOfMemory-clause-wanting
returns-in-Err-OutOfMemory-clause-wanting g c =
    first_written c.args.name.now c.args.texts.now c.loop-place.place (g.O.Outlet.written c.args.outlet.now) (g.O.Outlet.written c.write_new.new.self) (c.in-Err-OutOfMemory.ensures.not_done ∙ c.loop-place.invariant.files)
