use Rattle.made_inputs.proofs.Graphs.{no_fault}
use Rattle.made_inputs.proofs.machine.made_graph.Goals as goal

pub unreachable-requires : goal.unreachable-requires
unreachable-requires c = no_fault c.in_ok-raw.raw c.in-Err.field-0 c.in_ok-raw.ensures c.in-Err.ensures.fault
