use Rattle.std.proofs.Common.{set, sym, ap, ◌∙◌, arith}
use Rattle.codec_sound.specs.Keeping.{KeptSignals}
use Rattle.hda_controller.specs.Renewing.{renewed_for}
use Rattle.hda_controller.proofs.Renewed.{set_one}
use Rattle.hda_controller.proofs.renewing.renew_one.Goals as goal

pub returns : goal.returns
returns c =
    ap (λ (one : KeptSignals). set c.args.kept.now c.args.place one) (c.renew.ensures ∙ ap (renewed_for c.args.kind c.args.tag c.args.word c.index-codecs-place.result) (sym c.index-kept-place.is))
    ∙ set_one c.args.kind c.args.tag c.args.word c.args.codecs.now c.args.kept.now c.args.place c.index-codecs-place.result c.index-kept-place.result c.requires.place
    (omega (arith, c.requires.place, c.requires.count)) c.index-codecs-place.is c.index-kept-place.is
