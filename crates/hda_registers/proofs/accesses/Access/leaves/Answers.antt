use Rattle.std.proofs.Common.{◌≡◌, ◌<◌, ◌-◌, ◌^◌, arith}
use Rattle.std.specs.Prelude.{bit_and}
use Rattle.std.proofs.lemmas.Nat.{and_le_r}
use Rattle.hda_registers.proofs.Bits.{and-complement}
use Rattle.hda_registers.proofs.accesses.Access.leaves.Goals as goal

pub returns : goal.returns
returns c =
    let covered = bit_and c.args.self.covered c.args.kept in
    let ones = bit_and c.args.self.written c.args.cleared in
    let covered-lt : covered < 2 ^ 32 = omega (arith, and_le_r c.args.self.covered c.args.kept, c.ranges.kept.fits) in
    let ones-lt : ones < 2 ^ 32 = omega (arith, and_le_r c.args.self.written c.args.cleared, c.ranges.cleared.fits) in
    let old-lt : c.args.old < 2 ^ 32 = omega (arith, c.ranges.old.fits) in
    let stays : bit_and c.args.old (4294967295 - covered) ≡ c.args.old - bit_and c.args.old covered = and-complement c.args.old covered old-lt covered-lt in
    let rest-lt : c.args.old - bit_and c.args.old covered < 2 ^ 32 = omega arith in
    rw (stays, and-complement (c.args.old - bit_and c.args.old covered) ones rest-lt ones-lt)
