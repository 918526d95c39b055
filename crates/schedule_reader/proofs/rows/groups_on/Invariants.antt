use Rattle.std.proofs.Common.{◌≡◌}
use Rattle.schedule_reader.specs.Left.{pieces_left}
use Rattle.schedule_reader.specs.Rows.{all_of, group_in}
use Rattle.schedule_reader.proofs.RowLemmas.{with_front}
use Rattle.schedule_reader.proofs.rows.groups_on.Given as goal

-- what is left, behind the groups so far, is read as the whole is
abbrev pub invariant-loop-piece : goal.invariant-loop-piece
invariant-loop-piece l = record {
  can : (goal.iterator-loop-piece).can_next l.piece-iterator;
  finite : (goal.iterator-loop-piece).is_finite l.piece-iterator;
  rest : with_front l.groups.items (all_of group_in (pieces_left l.piece-iterator)) ≡ all_of group_in (pieces_left l.fn.pieces);
}
