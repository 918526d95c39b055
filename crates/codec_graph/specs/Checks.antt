-- Checks that give the first fault.
use Rattle.std.specs.Prelude.{Option, Some, None, Result, Ok, Err}
use Rattle.codec_graph.specs.declared.fault.GraphFault.{GraphFault}

-- the fault of a check that was refused
abbrev pub fault_of : Result (Unit {0}) GraphFault → Option GraphFault
fault_of (Ok _) = None
fault_of (Err fault) = Some fault
