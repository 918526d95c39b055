use Rattle.std.proofs.Common.{◌≡◌, true, rules, arith}
use Rattle.std.specs.List.{list_all}
use Rattle.hda_files.specs.Values.{is_table}
use Rattle.hda_files.specs.Arrays.{values_in}
use Rattle.hda_files.proofs.ArrayLemmas.{tables_of-good, tables_of-empty, tables_of-long}
use Rattle.hda_files.proofs.values.tables_of.Goals as goal
use Rattle.hda_files.proofs.values.tables_of.Goals.{then-count-lt1-via-then-count-lt1, then-count-lt1-via-else-count-lt1+then-count-most}

pub returns-then-count-lt1-clause-value : goal.returns-then-count-lt1-clause-value
returns-then-count-lt1-clause-value c =
    let array = c.in_ok-array.array.now in
    let all : list_all is_table (values_in array) ≡ true = search rules in
    elim c.then-count-lt1.branch [
      | then-count-lt1-via-then-count-lt1 w ↦ tables_of-empty _ _ _ _ array c.in_ok-array.ensures all (omega arith)
      | then-count-lt1-via-else-count-lt1+then-count-most w ↦ tables_of-long _ _ _ _ array c.in_ok-array.ensures all (omega arith)
    ]

pub returns-clause-value : goal.returns-clause-value
returns-clause-value c =
    let array = c.in_ok-array.array.now in
    let all : list_all is_table (values_in array) ≡ true = search rules in
    tables_of-good _ _ _ _ array c.in_ok-array.ensures all (omega arith) (omega arith)
