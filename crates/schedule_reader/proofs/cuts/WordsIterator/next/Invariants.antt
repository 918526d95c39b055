use Rattle.std.proofs.Common.{◌≡◌, length}
use Rattle.schedule_reader.specs.Left.{pieces_left, words_left}
use Rattle.schedule_reader.proofs.cuts.WordsIterator.next.Given as goal

-- the pieces that were passed are empty
abbrev pub invariant-loop-piece : goal.invariant-loop-piece
invariant-loop-piece l = words_left l.self ≡ words_left l.initial.self

abbrev pub decreases-loop-piece : goal.decreases-loop-piece
decreases-loop-piece l = length (pieces_left l.self.pieces)
