use Rattle.codec_picture.proofs.marks.push_mark.Goals as goal

pub returns-in-Blocked : goal.returns-in-Blocked
returns-in-Blocked c = rw c.in-Blocked.is (rw c.corner_of-corner.ensures.value at c.push_unrouted.ensures)

pub returns-in-NoPath : goal.returns-in-NoPath
returns-in-NoPath c = rw c.in-NoPath.is (rw c.corner_of-corner.ensures.value at c.push_unrouted-in-NoPath.ensures)
