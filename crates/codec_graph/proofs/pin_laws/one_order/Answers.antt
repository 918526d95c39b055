use Rattle.codec_graph.specs.declared.pin_kind.PinKind.TheVariants.{Analog}
use Rattle.codec_graph.proofs.OneOrder.{same_order}
use Rattle.codec_graph.proofs.pin_laws.one_order.Goals as goal

pub returns : goal.returns
returns c = same_order Analog
