use Rattle.std.proofs.Common.{◌≡◌, sym, subst}
use Rattle.std.proofs.lemmas.Result.{IfOk-weaker}
use Rattle.codec_sound.specs.Keeping.{KeptSignals, signal_by_as, with_signals}
use Rattle.hda_controller.specs.Openings.{codec_in, IsFresh}
use Rattle.hda_controller.proofs.Fresh.{fresh_is}
use Rattle.hda_controller.proofs.opening.signals_of.Goals as goal

pub returns : goal.returns
returns c =
    let file = c.args.file.now in
    let fresh : KeptSignals = record { pins = with_signals (signal_by_as c.args.kind file.graph file.settings 0 c.from_word.result) c.in_ok-pins.pins.items; renewals = 0 } in
    IfOk-weaker c.new_as.result (λ kept. kept ≡ fresh) (IsFresh c.args.kind (codec_in file))
    (λ kept same. subst (IsFresh c.args.kind (codec_in file)) (sym same)
    (fresh_is c.args.kind (codec_in file) c.in_ok-pins.pins.items c.from_word.result c.in_ok-pins.ensures c.from_word.ensures.reading c.from_word.ensures.inverse))
    c.new_as.ensures.value
