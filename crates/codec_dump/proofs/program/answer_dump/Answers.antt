use Rattle.std.proofs.Common.{arith}
use Rattle.hda_outside.specs.Counts.{Rose}
use Rattle.codec_dump.specs.Programs.{FailedUnder}
use Rattle.codec_dump.specs.Seen.{asked_seen}
use Rattle.codec_dump.proofs.ProgramLemmas.{comes_read}
use Rattle.codec_dump.proofs.program.answer_dump.Goals as goal

pub returns-in-Ok-clause-told : goal.returns-in-Ok-clause-told
returns-in-Ok-clause-told g c =
    comes_read (g.S.Shelf.told c.args.shelf.now) (FailedUnder (g.S.Shelf.faults c.args.shelf.now) (g.S.Shelf.faults c.read_all.new.shelf)) (asked_seen c.args.asked) (g.O.Outlet.written c.args.outlet.now) (g.O.Outlet.written c.answer_bytes.new.outlet) (Rose (g.O.Outlet.faults c.args.outlet.now) (g.O.Outlet.faults c.answer_bytes.new.outlet))
    c.as_slice.result.now c.in-Ok.bytes.items c.answer_bytes.result c.as_slice.ensures.value (omega (arith, c.in-Ok.ensures.within)) c.in-Ok.ensures.bytes c.answer_bytes.ensures.told
