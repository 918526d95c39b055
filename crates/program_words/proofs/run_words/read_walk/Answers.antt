use Rattle.std.proofs.Common.{drop, map, refl, rules, string_bytes}
use Rattle.program_words.specs.Asked.{asked_by}
use Rattle.program_words.specs.Seen.{line_seen}
use Rattle.program_words.proofs.LineLemmas.{walk_line}
use Rattle.program_words.proofs.RunLemmas.{walk_asks, walk_none}
use Rattle.program_words.proofs.run_words.read_walk.Goals as goal

pub read_line-requires : goal.read_line-requires
read_line-requires c = record { apart = refl; named = c.requires.named }

pub walk_of-requires : goal.walk_of-requires
walk_of-requires c = walk_line (drop 1 (map string_bytes c.args.words.now)) (line_seen c.in_ok-line.line) c.in_ok-line.ensures.ok

pub returns-clause-asked : goal.returns-clause-asked
returns-clause-asked c =
    walk_asks (drop 1 (map string_bytes c.args.words.now)) (line_seen c.in_ok-line.line) (asked_by c.walk_of.result) c.in_ok-line.ensures.ok c.walk_of.ensures

pub returns-in_err-line-clause-no_walk : goal.returns-in_err-line-clause-no_walk
returns-in_err-line-clause-no_walk c = λ e. walk_none (drop 1 (map string_bytes c.args.words.now)) (c.in_err-line.ensures.err (search rules))
