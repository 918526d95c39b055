use Rattle.std.proofs.Common.{ℕ, get_or, arith}
use Rattle.std.proofs.lemmas.List.{get_or_default}
use Rattle.std.proofs.lemmas.List.Edits.{map_over_more}
use Rattle.codec_sound.specs.declared.signals.Signal.{Signal}
use Rattle.codec_sound.specs.declared.signals.Signal.TheVariants.{Silence}
use Rattle.codec_sound.proofs.kept.silence_all.Goals as goal

pub loop-kept-preserved : goal.loop-kept-preserved
loop-kept-preserved c =
    map_over_more (λ (kept : ℕ × Signal). (kept.0, Silence)) c.args.pins.now c.loop-kept.pins c.loop-kept.kept-index
    (get_or c.loop-kept.pins c.loop-kept.kept-index (0, Silence)) (omega arith) c.loop-kept.invariant (get_or_default c.loop-kept.pins c.loop-kept.kept-index _ _ (omega arith))
