use Rattle.std.proofs.Common.{sym, ap, ◌∙◌}
use Rattle.std.specs.Option.{option_copied}
use Rattle.codec_graph.proofs.Nodes.{node_below}
use Rattle.codec_graph.proofs.answers.sense.Goals as goal

pub has-requires : goal.has-requires
has-requires c =
    node_below c.args.codec.now c.args.nid _ c.requires (sym c.node.ensures ∙ ap option_copied c.in-Some.is)
