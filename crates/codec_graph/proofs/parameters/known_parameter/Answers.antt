use Rattle.std.proofs.Common.{sym, ap, ◌∙◌}
use Rattle.std.specs.Option.{option_copied}
use Rattle.codec_graph.proofs.Narrow.{readable_at}
use Rattle.codec_graph.proofs.parameters.known_parameter.Goals as goal

pub widget_parameter-requires : goal.widget_parameter-requires
widget_parameter-requires c =
    (readable_at c.args.codec.now c.args.nid _ c.requires (sym c.node.ensures ∙ ap option_copied c.in-Some.is)).few
