use Rattle.std.proofs.Common.{arith}
use Rattle.std.proofs.lemmas.Bool.Decides.{nat_tests}
use Rattle.std.proofs.lemmas.List.Sums.{length-filter}
use Rattle.codec_walk.specs.Words.{applies, node_words}
use Rattle.program_runs.proofs.commands.word_count.Goals as goal

pub returns-clause-value : goal.returns-clause-value
returns-clause-value c = (let all = length-filter (applies c.args.node.now) node_words in grind (arith, nat_tests, all))
