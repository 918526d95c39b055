use Rattle.std.proofs.Common.{◌≡◌, ◌≤◌, ◌+◌, ◌++◌, replicate, vec_len, vec_capacity}
use Rattle.hda_controller.proofs.marks.push_times.Given as goal

-- so many were put last
abbrev pub invariant-loop-pushed : goal.invariant-loop-pushed
invariant-loop-pushed l = record {
  items : l.marks.items ≡ l.initial.marks.items ++ replicate l._pushed l.mark;
  long : vec_len l.marks ≡ vec_len l.initial.marks + l._pushed;
  capacity : vec_capacity l.initial.marks ≤ vec_capacity l.marks;
}
