use Rattle.std.proofs.Common.{◌≤◌, ◌<◌, ◌==◌, ℕ, take, sym, ap, subst, ◌∙◌, arith}
use Rattle.std.proofs.lemmas.List.{get_or-map, length-map}
use Rattle.std.proofs.lemmas.List.Elements.{All-get_or}
use Rattle.codec_graph.specs.CodecStates.{CodecState}
use Rattle.hda_registers.specs.Fields.{Fields}
use Rattle.device_core.specs.Codecs.{addresses_of}
use Rattle.device_core.proofs.Discovery.{discovered_leaves}
use Rattle.device_core.proofs.codecs.discover.Goals as goal

pub raise-requires-clause-out : goal.raise-requires-clause-out
raise-requires-clause-out c =
    let left = c.loop-codec.invariant ∙ discovered_leaves (take c.loop-codec.codec-index c.args.codecs.now) c.args.regs.now in
    ap (λ (f : Fields). f.global.controller_reset == 1) left ∙ c.requires.out

pub raise-requires-clause-event : goal.raise-requires-clause-event
raise-requires-clause-event c =
    let within = c.loop-codec-test.true in
    let i = c.loop-codec.codec-index in
    let codecs = c.args.codecs.now in
    let all = All-get_or (λ (a : ℕ). a ≤ 14) (addresses_of codecs) i 0 (subst (λ (n : ℕ). i < n) (sym (length-map codecs (λ codec. codec.graph.address))) within) c.requires.few in
    let one = get_or-map (λ (codec : CodecState). codec.graph.address) codecs i c.codec-item.result 0 within in
    let here = ap (λ (codec : CodecState). codec.graph.address) c.codec-item.is in
    omega (arith, all, one, here, c.address.ensures)
