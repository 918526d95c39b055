use Rattle.std.proofs.Common.{ℕ, get_or, arith}
use Rattle.std.proofs.lemmas.List.{get_or_default}
use Rattle.std.proofs.lemmas.List.Edits.{map_over_more}
use Rattle.codec_sound.specs.declared.signals.Signal.{Signal}
use Rattle.codec_sound.specs.declared.signals.Signal.TheVariants.{Silence}
use Rattle.codec_sound.specs.Signals.{hears_at}
use Rattle.codec_sound.specs.Depths.{in_table}
use Rattle.codec_sound.proofs.kept.hear_all.Goals as goal

pub loop-kept-preserved : goal.loop-kept-preserved
loop-kept-preserved c =
    let hears : ℕ → Signal = hears_at c.args.kind c.args.codec.now c.args.settings.now (in_table c.args.table.now) in
    rw c.hears-kept.ensures
    (map_over_more (λ (kept : ℕ × Signal). (kept.0, hears kept.0)) c.args.pins.now c.loop-kept.pins c.loop-kept.kept-index
    (get_or c.loop-kept.pins c.loop-kept.kept-index (0, Silence)) (omega arith) c.loop-kept.invariant (get_or_default c.loop-kept.pins c.loop-kept.kept-index _ _ (omega arith)))
