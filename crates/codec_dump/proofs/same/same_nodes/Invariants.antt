use Rattle.std.proofs.Common.{◌≡◌, take}
use Rattle.codec_dump.proofs.same.same_nodes.Given as goal

-- the widgets so far are the same
abbrev pub invariant-loop-place : goal.invariant-loop-place
invariant-loop-place l = take l.place l.one ≡ take l.place l.other
