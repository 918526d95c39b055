use Rattle.std.proofs.Common.{◌≡◌, true, rules}
use Rattle.program_words.specs.Numbers.{is_numeral}
use Rattle.program_words.proofs.NumberLemmas.{written}
use Rattle.program_words.proofs.numbers.number_of.Goals as goal

pub returns-then-is_number : goal.returns-then-is_number
returns-then-is_number c =
    let numeral : is_numeral c.args.text.now ≡ true = search rules in
    written c.args.text.now c.parse.result c.ok.result c.ok.ensures.value c.parse.ensures.value.0 numeral
