use Rattle.trace_lines.specs.Registers.{global_registers}
use Rattle.trace_lines.proofs.NameLemmas.{row_in}
use Rattle.trace_lines.proofs.names.global_register.Goals as goal

-- the rows are the definition's, one by one
pub returns : goal.returns
unfolding global_registers
returns c = row_in c.args.at c.as_slice.result.now c.row_at.result c.as_slice.ensures c.row_at.ensures
