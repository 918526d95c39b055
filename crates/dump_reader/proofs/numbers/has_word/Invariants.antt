use Rattle.std.proofs.Common.{◌≡◌}
use Rattle.std.specs.Prelude.{bytes_eq}
use Rattle.std.specs.List.{list_any}
use Rattle.dump_reader.specs.Cuts.{words}
use Rattle.dump_reader.specs.Left.{pieces_left}
use Rattle.dump_reader.proofs.numbers.has_word.Given as goal

-- the word stands among the words that are left where it stands among all
abbrev pub invariant-loop-other : goal.invariant-loop-other
invariant-loop-other l = record {
  can : (goal.iterator-loop-other).can_next l.other-iterator;
  finite : (goal.iterator-loop-other).is_finite l.other-iterator;
  rest : list_any (λ other. bytes_eq other l.word) (pieces_left l.other-iterator) ≡ list_any (λ other. bytes_eq other l.word) (words l.fn.text);
}
