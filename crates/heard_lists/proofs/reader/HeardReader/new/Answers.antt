use Rattle.std.proofs.Common.{refl, arith}
use Rattle.heard_lists.proofs.reader.HeardReader.new.Goals as goal

pub invariant_of-result : goal.invariant_of-result
invariant_of-result c = record {
  among = c.requires.among;
  whole = c.requires.whole;
  few = c.requires.few;
  starts = record { within = omega arith; item = refl; byte = refl };
  before = omega arith;
}
