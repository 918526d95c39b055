use Rattle.std.proofs.Common.{◌≡◌, filter}
use Rattle.std.specs.Prelude.{slice_get}
use Rattle.dump_reader.specs.Cuts.{words}
use Rattle.dump_reader.specs.Operands.{is_filled}
use Rattle.dump_reader.specs.Left.{pieces_left}
use Rattle.dump_reader.proofs.operands.word_at.Given as goal

-- the word so many behind, among those that are left, is the one that is asked for
abbrev pub invariant-loop-word : goal.invariant-loop-word
invariant-loop-word l = record {
  can : (goal.iterator-loop-word).can_next l.word-iterator;
  finite : (goal.iterator-loop-word).is_finite l.word-iterator;
  rest : slice_get (filter is_filled (pieces_left l.word-iterator)) l.left ≡ slice_get (filter is_filled (words l.fn.text)) l.fn.place;
}
