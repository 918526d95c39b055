use Rattle.std.proofs.Common.{◌≡◌, true, false, rules, arith}
use Rattle.std.specs.List.{list_all}
use Rattle.hda_files.specs.Values.{is_integer, is_up_to}
use Rattle.hda_files.specs.Arrays.{values_in}
use Rattle.hda_files.proofs.NumberLemmas.{numbers_of-good, numbers_of-many, numbers_of-large}
use Rattle.hda_files.proofs.numbers.numbers_of.Goals as goal
use Rattle.hda_files.proofs.numbers.numbers_of.Goals.{then-len-count-via-then-len-count, then-len-count-via-else-len-count+then-not-all_up_to}

pub returns-then-len-count-clause-value : goal.returns-then-len-count-clause-value
returns-then-len-count-clause-value c =
    let array = c.in_ok-array.array.now in
    let all : list_all is_integer (values_in array) ≡ true = search rules in
    elim c.then-len-count.branch [
      | then-len-count-via-then-len-count w ↦ numbers_of-many _ _ _ _ _ array c.in_ok-array.ensures all (omega arith)
      | then-len-count-via-else-len-count+then-not-all_up_to w ↦
          let some : list_all (is_up_to c.args.most) (values_in array) ≡ false = search rules in
          numbers_of-large _ _ _ _ _ array c.in_ok-array.ensures all some
    ]

pub returns-clause-value : goal.returns-clause-value
returns-clause-value c =
    let array = c.in_ok-array.array.now in
    let all : list_all is_integer (values_in array) ≡ true = search rules in
    let every : list_all (is_up_to c.args.most) (values_in array) ≡ true = search rules in
    numbers_of-good _ _ _ _ _ array c.in_ok-array.ensures all (omega arith) every
