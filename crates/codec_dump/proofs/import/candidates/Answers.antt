use Rattle.std.proofs.Common.{◌∙◌, rules, tests, arith}
use Rattle.std.specs.List.{range_with_len}
use Rattle.std.proofs.lemmas.Iterator.{YieldsList-from_range}
use Rattle.std.proofs.lemmas.Iterator.Consumers.{YieldsList-from_filter, count_from_yields_List}
use Rattle.std.proofs.lemmas.List.Sums.{length-filter}
use Rattle.codec_graph.specs.Candidates.{is_candidate}
use Rattle.hda_files.specs.Machines.{candidates_below}
use Rattle.codec_dump.proofs.import.candidates.Goals as goal

pub returns : goal.returns
unfolding candidates_below
returns c =
    let end = c.args.end in
    count_from_yields_List c.filter.result c.count.result c.count.ensures.ran (YieldsList-from_filter _ (is_candidate c.args.graph.now) (YieldsList-from_range 0 end end c.filter.ensures.source (omega arith)) c.filter.ensures.closure (λ x b q k. search (rules, tests)))
    ∙ length-filter (is_candidate c.args.graph.now) (range_with_len 0 end)
