use Rattle.std.proofs.Common.{List, [], ap, ◌∙◌, arith}
use Rattle.std.proofs.lemmas.List.Sums.{sum_by-cons}
use Rattle.hda_files.specs.declared.machine.CodecFile.{CodecFile}
use Rattle.program_runs.specs.WalkTotals.{walk_size, walk_total}
use Rattle.program_captures.proofs.Lengths.{few_walk}
use Rattle.program_captures.proofs.commands.walk_count.Goals as goal

pub overflow_cast-result : goal.overflow_cast-result
overflow_cast-result c =
    let few = few_walk c.args.codec.now.graph c.raw-raw.ensures.well_formed (c.counts_the_commands.ensures c.args.codec.now.graph) in
    let total = c.walk_total.ensures ∙ ap (λ (files : List CodecFile). walk_total files) c.from_ref.ensures.value ∙ sum_by-cons walk_size c.args.codec.now [] in
    omega (arith, few, total)

pub returns-clause-few : goal.returns-clause-few
returns-clause-few c =
    let few = few_walk c.args.codec.now.graph c.raw-raw.ensures.well_formed (c.counts_the_commands.ensures c.args.codec.now.graph) in
    let total = c.walk_total.ensures ∙ ap (λ (files : List CodecFile). walk_total files) c.from_ref.ensures.value ∙ sum_by-cons walk_size c.args.codec.now [] in
    omega (arith, few, total)
