use Rattle.laws_serving.proofs.Prompt.{serve_sound, count_lines}
use Rattle.laws_serving.proofs.turns.turns_serve.Goals as goal

pub returns-clause-sound : goal.returns-clause-sound
returns-clause-sound c = λ commands ring block fifo limit slack lengths rounds turns few. serve_sound commands ring block fifo limit slack lengths rounds turns few

pub returns-clause-lines : goal.returns-clause-lines
returns-clause-lines c = λ commands ring block fifo lengths rounds turns. count_lines commands ring block fifo lengths rounds turns
