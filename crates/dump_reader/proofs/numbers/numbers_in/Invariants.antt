use Rattle.std.proofs.Common.{◌≡◌, ◌++◌}
use Rattle.std.specs.List.{filter_map}
use Rattle.dump_reader.specs.Cuts.{words}
use Rattle.dump_reader.specs.Numbers.{number_of}
use Rattle.dump_reader.specs.Left.{pieces_left}
use Rattle.dump_reader.proofs.numbers.numbers_in.Given as goal

-- the numbers so far and those of the words that are left are all
abbrev pub invariant-loop-word : goal.invariant-loop-word
invariant-loop-word l = record {
  can : (goal.iterator-loop-word).can_next l.word-iterator;
  finite : (goal.iterator-loop-word).is_finite l.word-iterator;
  rest : l.found.items ++ filter_map number_of (pieces_left l.word-iterator) ≡ filter_map number_of (words l.fn.text);
}
