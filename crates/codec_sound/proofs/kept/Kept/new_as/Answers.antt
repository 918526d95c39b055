use Rattle.std.proofs.Common.{refl}
use Rattle.codec_sound.specs.declared.signals.Signal.TheVariants.{Silence}
use Rattle.codec_sound.specs.Keeping.{signal_by_as}
use Rattle.codec_sound.proofs.Renewing.{renewed-with_signals, kept_pins-with_signals}
use Rattle.codec_sound.proofs.kept.Kept.new_as.Goals as goal

pub returns-clause-value : goal.returns-clause-value
returns-clause-value c = let pins = c.in_ok-silent_pins.ensures in rw (c.work_out.ensures, pins, c.as_slice.ensures.value, renewed-with_signals (signal_by_as c.args.kind c.args.graph.now c.args.settings.now c.args.tag c.args.format) (λ _. Silence) c.args.pins.items) refl

pub returns-clause-pins : goal.returns-clause-pins
returns-clause-pins c =
    rw (returns-clause-value c) (kept_pins-with_signals (signal_by_as c.args.kind c.args.graph.now c.args.settings.now c.args.tag c.args.format) c.args.pins.items)
