use Rattle.std.proofs.Common.{◌≡◌, ◌+◌, ℕ, suc, List, set, get_or, take, sym, ap, ◌∙◌, arith}
use Rattle.codec_sound.specs.Keeping.{KeptSignals}
use Rattle.hda_controller.specs.Renewing.{renewed_for, all_renewed}
use Rattle.hda_controller.proofs.Renewed.{all_more}
use Rattle.hda_controller.proofs.renewing.renew_all.Goals as goal

pub loop-place-preserved : goal.loop-place-preserved
loop-place-preserved c =
    let place : ℕ = c.loop-place.place in
    let next : suc place ≡ place + 1 = omega arith in
    ap (λ (one : KeptSignals). set c.loop-place.kept place one) (c.renew.ensures ∙ ap (renewed_for c.args.kind c.args.tag c.args.word c.index-codecs-place.result) (sym c.index-kept-place.is))
    ∙ (ap (λ (kept : List KeptSignals). set kept place (renewed_for c.args.kind c.args.tag c.args.word c.index-codecs-place.result c.index-kept-place.result)) c.loop-place.invariant
    ∙ (all_more c.args.kind c.args.tag c.args.word c.args.codecs.now c.args.kept.now place c.index-codecs-place.result c.index-kept-place.result c.loop-place-test.true
    (omega (arith, c.loop-place-test.true, c.requires)) c.index-codecs-place.is (c.index-kept-place.is ∙ ap (λ (kept : List KeptSignals). get_or kept place c.index-kept-place.result) c.loop-place.invariant)
    ∙ ap (λ (n : ℕ). all_renewed c.args.kind c.args.tag c.args.word (take n c.args.codecs.now) c.args.kept.now) next))
