use Rattle.std.proofs.Common.{◌≡◌, ◌++◌, take, drop}
use Rattle.codec_sound.specs.Signals.{hears_at}
use Rattle.codec_sound.specs.Depths.{in_table}
use Rattle.codec_sound.specs.Keeping.{renewed}
use Rattle.codec_sound.proofs.kept.hear_all.Given as goal

abbrev pub invariant-loop-kept : goal.invariant-loop-kept
invariant-loop-kept l =
    l.pins ≡ renewed (hears_at l.kind l.codec l.settings (in_table l.table)) (take l.kept-index l.initial.pins) ++ drop l.kept-index l.initial.pins
