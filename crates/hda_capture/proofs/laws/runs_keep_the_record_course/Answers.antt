use Rattle.std.proofs.Common.{arith}
use Rattle.hda_capture.proofs.RecordCourses.{course_opens, course_keeps, reads_within}
use Rattle.hda_capture.proofs.laws.runs_keep_the_record_course.Goals as goal

pub returns-clause-opened : goal.returns-clause-opened
returns-clause-opened c = course_opens

pub returns-clause-kept : goal.returns-clause-kept
returns-clause-kept c = course_keeps

pub returns-clause-within : goal.returns-clause-within
returns-clause-within c m tally lpib some is = let few = reads_within m _ tally.course lpib some is in omega (arith, few)
