use Rattle.std.proofs.Common.{◌≡◌, drop}
use Rattle.codec_sound.specs.Signals as spec
use Rattle.codec_sound.specs.Depths.{in_table}
use Rattle.codec_sound.proofs.widgets.mixed.Given as goal

-- the sum so far with that of what is left is the sum of all
abbrev pub invariant-loop-place : goal.invariant-loop-place
invariant-loop-place l =
    spec.sum_of l.sum (spec.mixed l.codec l.settings (in_table l.table) l.nid l.node l.place (drop l.place l.node.list))
    ≡ spec.mixed l.codec l.settings (in_table l.table) l.nid l.node 0 l.node.list
