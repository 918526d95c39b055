use Rattle.std.proofs.Common.{◌≡◌, ◌-◌, get_or, arith}
use Rattle.std.proofs.lemmas.Grind.{pow_more}
use Rattle.schedule_reader.proofs.DigitLemmas.{digit_at, value_more}
use Rattle.schedule_reader.proofs.numbers.value_of.Goals as goal

pub loop-digit-preserved : goal.loop-digit-preserved
loop-digit-preserved c =
    let digits = c.args.digits.now in
    let i = c.loop-digit.digit-index in
    let digit = digit_at digits i c.requires.digits c.loop-digit-test.true in
    let from : c.from.result ≡ get_or digits i 0 - 48 = c.from.ensures in
    record {
      value = omega (arith, value_more digits i c.requires.digits c.loop-digit-test.true, c.loop-digit.invariant.value, from);
      small = omega (arith, pow_more 10 i, c.loop-digit.invariant.small, from, digit.0, digit.1);
    }
