use Rattle.codec_graph.proofs.OneOrder.{same_order}
use Rattle.codec_graph.proofs.pin_laws.one_order_of_each_kind.Goals as goal

pub returns : goal.returns
returns c = same_order
