use Rattle.std.proofs.Common.{arith}
use Rattle.std.proofs.lemmas.Result.{IfOk-weaker}
use Rattle.program_words.proofs.RowLemmas.{command_done, command_more}
use Rattle.program_words.proofs.arguments.command_of.Goals as goal

pub loop-option-preserved : goal.loop-option-preserved
loop-option-preserved c =
    command_more c.args.row.now.name.now c.args.row.now.options.now c.loop-option.option-index _ _ _ _ (omega arith)
    c.loop-option.invariant (c.in_ok-command.ensures.shape c.option_argument.ensures.local) c.option_argument.ensures.rule

pub returns : goal.returns
returns c = IfOk-weaker c.arg-2.result _ _ (λ command adds.
    command_done c.args.row.now.name.now c.args.row.now.options.now c.loop-option.option-index _ _ _ (omega arith)
    c.loop-option.invariant (adds.shape c.operand_argument.ensures.local) c.operand_argument.ensures.rule) c.arg-2.ensures
