use Rattle.std.proofs.Common.{◌∙◌}
use Rattle.program_words.proofs.ClapAnswer.{finds, refuses}
use Rattle.program_words.proofs.arguments.find_parts.Goals as goal

pub returns-in-Ok-clause-ok : goal.returns-in-Ok-clause-ok
returns-in-Ok-clause-ok c = finds _ _ _ _ c.in-Ok.matches c.requires.apart c.requires.no_single c.in_ok-command.ensures c.in-Ok.ensures.kinds c.in-Ok.ensures.matches

pub returns : goal.returns
returns c = record {
  ok = tt;
  err = λ _. refuses _ _ _ _ c.in-Err.error c.requires.apart c.requires.no_single c.in_ok-command.ensures c.in-Err.ensures.kinds
      (λ memory. c.in_default.not-OutOfMemory (c.kind.ensures ∙ memory));
}
