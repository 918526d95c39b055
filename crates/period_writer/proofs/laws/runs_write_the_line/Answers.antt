use Rattle.std.proofs.Common.{refl}
use Rattle.period_writer.proofs.CourseRuns.{course_opens, course_stays}
use Rattle.period_writer.proofs.LineWritten.{written_first, written_next}
use Rattle.period_writer.specs.Runs.{tally_opened}
use Rattle.period_writer.proofs.laws.runs_write_the_line.Goals as goal

pub returns-clause-opened : goal.returns-clause-opened
returns-clause-opened c = λ pcm. written_first 1 0 tally_opened pcm (course_opens 1) refl refl

pub returns-clause-kept : goal.returns-clause-kept
returns-clause-kept c = λ m runs tally facts pcm is written enough. written_next m runs tally facts pcm is written enough

pub returns-clause-late : goal.returns-clause-late
returns-clause-late c = λ m runs tally facts pcm is written. record {
  line = record { maximal = written.line.maximal; used = written.line.used; ended = written.line.ended; inside = written.line.inside };
  whole = written.whole;
  quiet = written.quiet;
  sure = (course_stays m runs tally facts is).sure;
}
