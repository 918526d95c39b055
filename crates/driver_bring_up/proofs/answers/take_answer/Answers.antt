use Rattle.std.proofs.Common.{Err, ap}
use Rattle.driver_bring_up.proofs.answers.take_answer.Goals as goal

-- src/answers.rt:30:1
pub returns-in-Err-Malformed-clause-ends : goal.returns-in-Err-Malformed-clause-ends
returns-in-Err-Malformed-clause-ends g c =
    let is = ap Err c.in-Err-Malformed.field-0-is in
    let told = c.in-Err-Malformed.ensures.malformed c.in-Err-Malformed.codec c.in-Err-Malformed.fault is in
    let kept = c.in-Err-Malformed.ensures.kept c.in-Err-Malformed.codec c.in-Err-Malformed.fault is in
    (told.0, told.1, kept.0, kept.1)
