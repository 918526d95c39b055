use Rattle.std.proofs.Common.{◌∷◌, [], length-append, arith}
use Rattle.driver_bring_up.proofs.Counting.{counted_there}
use Rattle.driver_bring_up.proofs.jacks.Jacks.note.Goals as goal

pub returns-then-self-lt4294967295-clause-counts : goal.returns-then-self-lt4294967295-clause-counts
returns-then-self-lt4294967295-clause-counts c = λ few events counts. record {
  times = counted_there c.args.self.now.times events c.args.event c.from.result c.from-then-self-lt4294967295.result c.from.ensures c.from-then-self-lt4294967295.ensures c.requires c.args.self.now.codecs c.args.self.now.tags counts.times;
  taken = omega (arith, counts.taken, length-append events (c.args.event ∷ []));
}
