use Rattle.std.proofs.Common.{◌≡◌, filter}
use Rattle.dump_reader.specs.declared.cuts.Mark.TheVariants.{Bracket}
use Rattle.dump_reader.specs.Cuts.{pieces}
use Rattle.dump_reader.specs.Operands.{gains_of, has_numbers}
use Rattle.dump_reader.specs.Left.{pieces_left}
use Rattle.dump_reader.proofs.RowLemmas.{with_front}
use Rattle.dump_reader.proofs.operands.gains_in.Given as goal

-- the pieces that are left, behind the gains so far, are read as all are
abbrev pub invariant-loop-piece : goal.invariant-loop-piece
invariant-loop-piece l = record {
  can : (goal.iterator-loop-piece).can_next l.piece-iterator;
  finite : (goal.iterator-loop-piece).is_finite l.piece-iterator;
  rest : with_front l.gains.items (gains_of (filter has_numbers (pieces_left l.piece-iterator))) ≡ gains_of (filter has_numbers (pieces Bracket l.fn.text));
}
