use Rattle.std.proofs.Common.{not, ap, rules, tests}
use Rattle.std.proofs.lemmas.Iterator.{YieldsList-from_slice}
use Rattle.std.proofs.lemmas.Iterator.Search.{all_from_yields_List}
use Rattle.codec_graph.specs.Widget.{is_widget}
use Rattle.codec_graph.proofs.graph.lists_outside.Goals as goal

pub returns : goal.returns
returns c =
    ap not (all_from_yields_List (is_widget c.args.codec.now) _ _ c.all.result c.all.ensures.ran (YieldsList-from_slice c.args.node.now.list cc) (λ x b q k. search (rules, tests)))
