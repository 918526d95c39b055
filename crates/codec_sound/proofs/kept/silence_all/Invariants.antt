use Rattle.std.proofs.Common.{◌≡◌, ◌++◌, take, drop}
use Rattle.codec_sound.specs.declared.signals.Signal.TheVariants.{Silence}
use Rattle.codec_sound.specs.Keeping.{renewed}
use Rattle.codec_sound.proofs.kept.silence_all.Given as goal

abbrev pub invariant-loop-kept : goal.invariant-loop-kept
invariant-loop-kept l = l.pins ≡ renewed (λ _. Silence) (take l.kept-index l.initial.pins) ++ drop l.kept-index l.initial.pins
