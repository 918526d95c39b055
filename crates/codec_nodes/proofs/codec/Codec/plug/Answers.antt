use Rattle.std.proofs.Common.{sym, ap, ◌∙◌}
use Rattle.std.specs.Option.{option_copied}
use Rattle.codec_graph.specs.declared.raw.RawCodec.{RawCodec}
use Rattle.codec_graph.specs.Widget.{node_at}
use Rattle.codec_graph.proofs.Callers.{node_below}
use Rattle.codec_nodes.proofs.codec.Codec.plug.Goals as goal

pub has-requires : goal.has-requires
has-requires c =
    node_below c.self.inside.graph c.args.nid _ c.self.invariant.well_formed (ap (λ (codec : RawCodec). node_at codec c.args.nid) (sym c.raw.ensures.value) ∙ sym c.node.ensures ∙ ap option_copied c.in-Some.is)

pub set-requires : goal.set-requires
set-requires c =
    node_below c.self.inside.graph c.args.nid _ c.self.invariant.well_formed (ap (λ (codec : RawCodec). node_at codec c.args.nid) (sym c.raw.ensures.value) ∙ sym c.node.ensures ∙ ap option_copied c.in-Some.is)
