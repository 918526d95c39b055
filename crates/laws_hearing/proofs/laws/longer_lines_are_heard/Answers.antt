use Rattle.laws_hearing.proofs.Playing.{plays_longer}
use Rattle.laws_hearing.proofs.laws.longer_lines_are_heard.Goals as goal

pub returns : goal.returns
returns c = plays_longer
