use Rattle.std.proofs.Common.{◌≡◌, take, drop, ◌++◌}
use Rattle.hda_model.specs.Copies.{mark_of}
use Rattle.hda_model.proofs.Copying.{parts_from}
use Rattle.hda_model.proofs.marks.copy_marks.Given as goal

-- the first so many are copied, and the others are left
abbrev pub invariant-loop-number : goal.invariant-loop-number
invariant-loop-number l = l.into ≡ take l.number (parts_from mark_of l.from l.marks) ++ drop l.number l.initial.into
