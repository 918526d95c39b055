use Rattle.std.proofs.Common.{arith}
use Rattle.capture_report.proofs.overruns.with_one_more.Goals as goal

pub overflow_add-result : goal.overflow_add-result
overflow_add-result c =
    let up = rw c.in-Some.is at c.requires.up in
    let room = c.requires.room in
    omega (arith, up, room)
