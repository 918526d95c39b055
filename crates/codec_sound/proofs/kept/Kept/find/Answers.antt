use Rattle.std.proofs.Common.{below_more, ℕ, sym, ◌∙◌, arith}
use Rattle.std.proofs.lemmas.List.{get_or-map}
use Rattle.codec_sound.specs.declared.signals.Signal.{Signal}
use Rattle.codec_sound.specs.declared.signals.Signal.TheVariants.{Silence}
use Rattle.codec_sound.proofs.kept.Kept.find.Goals as goal

pub loop-kept-preserved : goal.loop-kept-preserved
loop-kept-preserved c =
    below_more _ _ c.loop-kept.invariant
    (λ is. let e = get_or-map (λ (kept : ℕ × Signal). kept.0) c.deref-kept-items.result.now c.loop-kept.kept-index (0, Silence) c.args.pin (omega arith) in c.if-kept-pin.false (sym e ∙ is))
