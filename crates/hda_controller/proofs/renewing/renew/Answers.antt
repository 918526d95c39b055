use Rattle.std.proofs.Common.{refl, ◌∙◌}
use Rattle.hda_controller.proofs.Renewed.{renewed_by_word}
use Rattle.hda_controller.proofs.renewing.renew.Goals as goal

pub returns : goal.returns
returns c =
    c.renew_as.ensures.value ∙ (rw (c.graph.ensures.value, c.settings.ensures.value) refl
    ∙ renewed_by_word c.args.kind c.args.codec.now c.args.tag c.args.word c.from_word.result c.args.kept.now c.from_word.ensures.reading c.from_word.ensures.inverse)
