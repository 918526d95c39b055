use Rattle.std.proofs.Common.{length, ap, arith}
use Rattle.program_captures.proofs.Lengths.{few_input}
use Rattle.program_captures.proofs.commands.verb_count.Goals as goal

pub overflow_cast-result : goal.overflow_cast-result
overflow_cast-result c =
    let few = few_input c.args.graph.now c.args.plan.now c.args.format 1 c.raw-raw.ensures.well_formed in
    let all = ap length c.in_ok-verbs.ensures in
    omega (arith, few, all, c.len.ensures)

pub returns-clause-few : goal.returns-clause-few
returns-clause-few c =
    let few = few_input c.args.graph.now c.args.plan.now c.args.format 1 c.raw-raw.ensures.well_formed in
    let all = ap length c.in_ok-verbs.ensures in
    omega (arith, few, all, c.len.ensures)
