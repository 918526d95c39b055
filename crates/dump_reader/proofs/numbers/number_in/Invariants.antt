use Rattle.std.proofs.Common.{◌≡◌, drop}
use Rattle.dump_reader.specs.Numbers.{number_from}
use Rattle.dump_reader.proofs.numbers.number_in.Given as goal

-- the digits that are left, behind the number so far, write what all write
abbrev pub invariant-loop-b : goal.invariant-loop-b
invariant-loop-b l = number_from l.radix l.number (drop l.b-index l.digits) ≡ number_from l.radix 0 l.digits
