use Rattle.std.proofs.Common.{◌≡◌, ◌++◌, drop}
use Rattle.codec_dump.specs.Mending.{kept_gains}
use Rattle.codec_dump.proofs.mend.kept_gains.Given as goal

-- the gains so far and those that stay of the ones that are left are all
abbrev pub invariant-loop-place : goal.invariant-loop-place
invariant-loop-place l = l.kept.items ++ kept_gains l.group (drop l.place l.list) (drop l.place l.gains) ≡ kept_gains l.group l.list l.gains
