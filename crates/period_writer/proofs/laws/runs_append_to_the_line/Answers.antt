use Rattle.std.proofs.Common.{refl, arith}
use Rattle.period_writer.proofs.LineRuns.{line_kept, line_grows}
use Rattle.period_writer.proofs.LineWritten.{by_letter, cut_and_on}
use Rattle.period_writer.proofs.laws.runs_append_to_the_line.Goals as goal

pub returns-clause-opened : goal.returns-clause-opened
returns-clause-opened c = record { maximal = omega arith; used = refl; ended = omega arith; inside = omega arith }

pub returns-clause-kept : goal.returns-clause-kept
returns-clause-kept c = λ m runs tally facts is line. line_kept m runs tally facts is line

pub returns-clause-grows : goal.returns-clause-grows
returns-clause-grows c = λ m runs tally facts pcm is line none. line_grows m runs tally facts is line pcm none

pub returns-clause-cut : goal.returns-clause-cut
returns-clause-cut c = λ m runs tally facts pcm is written. cut_and_on m runs tally facts pcm is written

pub returns-clause-letter : goal.returns-clause-letter
returns-clause-letter c = λ m runs tally facts pcm is written enough. by_letter m runs tally facts pcm is written enough
