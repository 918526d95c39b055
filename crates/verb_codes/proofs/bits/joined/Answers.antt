use Rattle.std.proofs.Common.{◌≡◌, ◌*◌, ◌%◌, ◌^◌, arith}
use Rattle.std.proofs.lemmas.Nat.{or_shifted}
use Rattle.verb_codes.proofs.bits.joined.Goals as goal

pub returns : goal.returns
returns c =
    let high = c.args.high * 2 ^ c.args.width in
    let whole : high % 2 ^ 32 ≡ high = omega arith in
    rw whole (or_shifted c.args.high c.args.width c.args.low c.requires.narrow)
