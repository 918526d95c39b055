use Rattle.std.proofs.Common.{◌≡◌, drop}
use Rattle.dump_reader.specs.Operands.{nids_of}
use Rattle.dump_reader.proofs.RowLemmas.{with_front}
use Rattle.dump_reader.proofs.operands.nids_of.Given as goal

-- the numbers that are left, behind the connections so far, are read as all are
abbrev pub invariant-loop-number : goal.invariant-loop-number
invariant-loop-number l = with_front l.nids.items (nids_of (drop l.number-index l.fields)) ≡ nids_of l.fields
