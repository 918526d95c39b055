use Rattle.std.proofs.Common.{drop, map, refl, string_bytes}
use Rattle.std.proofs.lemmas.Result.{IfOk-weaker}
use Rattle.program_words.specs.Asked.{asked_by}
use Rattle.program_words.specs.Seen.{line_seen}
use Rattle.program_words.proofs.LineLemmas.{play_line}
use Rattle.program_words.proofs.RunLemmas.{run_none, run_plays, run_walks}
use Rattle.program_words.proofs.run_words.read_run.Goals as goal

pub read_line-requires : goal.read_line-requires
read_line-requires c = record { apart = refl; named = c.requires.named }

-- the line is one of `play`
pub play_of-requires : goal.play_of-requires
play_of-requires c = play_line (drop 1 (map string_bytes c.args.words.now)) (line_seen c.in-Ok.line) c.in-Ok.ensures.ok

pub returns-in-Ok-clause-asked : goal.returns-in-Ok-clause-asked
returns-in-Ok-clause-asked c =
    run_plays (drop 1 (map string_bytes c.args.words.now)) (line_seen c.in-Ok.line) (asked_by c.play_of.result) c.in-Ok.ensures.ok c.play_of.ensures.asked

-- or one of `walk`
pub returns-in-Err-NoCommand-clause-asked : goal.returns-in-Err-NoCommand-clause-asked
returns-in-Err-NoCommand-clause-asked c =
    IfOk-weaker c.read_walk.result _ _ (λ request asks. run_walks (drop 1 (map string_bytes c.args.words.now)) (asked_by request) (c.in-Err-NoCommand.ensures.err (rw c.in-Err-NoCommand.field-0-is)) asks) c.read_walk.ensures.asked

pub returns-in-Err-NoCommand-clause-no_run : goal.returns-in-Err-NoCommand-clause-no_run
returns-in-Err-NoCommand-clause-no_run c = λ e.
    run_none (drop 1 (map string_bytes c.args.words.now)) (c.in-Err-NoCommand.ensures.err (rw c.in-Err-NoCommand.field-0-is)) (c.read_walk.ensures.no_walk e)
