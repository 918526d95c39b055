use Rattle.std.proofs.Common.{◌≡◌, sym, ap, ◌∙◌, arith}
use Rattle.codec_graph.specs.Widget.{node_identifiers, node_at}
use Rattle.codec_graph.specs.declared.raw.RawCodec.{RawCodec}
use Rattle.codec_graph.specs.Settings.{Entries}
use Rattle.codec_sound.specs.Inward.{in_signal_of, is_taking}
use Rattle.device_core.specs.Captures.{with_taker}
use Rattle.device_core.specs.declared.listening.Takers.{Takers}
use Rattle.device_core.proofs.Takers.{takers-none, takers-taken, takers-passed, takers-all}
use Rattle.device_core.proofs.listening.and_of_codec.Goals as goal
use Rattle.device_core.proofs.listening.and_of_codec.Goals.{then-is_taking, else-is_taking}

pub loop-nid-init : goal.loop-nid-init
loop-nid-init c before is = is ∙ takers-none before c.args.tag c.args.word c.args.codec.now

pub loop-nid-preserved : goal.loop-nid-preserved
loop-nid-preserved c before is =
    let codec = c.args.codec.now in
    let nid = c.loop-nid.nid in
    let asked = ap (λ (graph : RawCodec). is_taking c.settings.result.now c.args.tag c.args.word nid (node_at graph nid)) c.graph.ensures.value
    ∙ ap (λ (settings : Entries). is_taking settings c.args.tag c.args.word nid (node_at codec.graph nid)) c.settings.ensures.value in
    elim c.if-is_taking.branch [
      | then-is_taking w ↦ (
          let taken = sym asked ∙ (sym c.is_taking.ensures ∙ w.if-is_taking.true) in
          w.takers-is ∙ (w.and_converter-takers.ensures
          ∙ (ap (λ (takers : Takers). with_taker takers (in_signal_of codec.graph codec.settings nid)) (c.loop-nid.invariant before is) ∙ sym (takers-taken before c.args.tag c.args.word codec nid taken))))
      | else-is_taking w ↦ (
          let passed = sym asked ∙ (sym c.is_taking.ensures ∙ w.if-is_taking.false) in
          w.takers-is ∙ (c.loop-nid.invariant before is ∙ sym (takers-passed before c.args.tag c.args.word codec nid passed)))
    ]

pub returns : goal.returns
returns c before is =
    let all : c.loop-nid.nid ≡ node_identifiers = omega arith in
    c.loop-nid.invariant before is ∙ takers-all before c.args.tag c.args.word c.args.codec.now c.loop-nid.nid all
