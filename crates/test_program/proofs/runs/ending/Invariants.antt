use denote.Text.{Utf8}
use denote.Shadow.{shadow}
use Rattle.test_program.proofs.runs.ending.Given as goal

-- the last line is text
abbrev pub invariant-loop-line : goal.invariant-loop-line
invariant-loop-line l = shadow (Utf8 l.last)
