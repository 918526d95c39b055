use Rattle.trace_lines.specs.Registers.{global_bits}
use Rattle.trace_lines.proofs.bits.push_global_bits.Goals as goal

-- the rows are the definition's, one by one
pub returns : goal.returns
unfolding global_bits
returns c = rw c.as_slice.ensures at c.push_set.ensures
