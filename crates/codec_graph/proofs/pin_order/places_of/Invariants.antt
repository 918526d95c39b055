use Rattle.codec_graph.proofs.PlaceLemmas.{ArePlacesBelow}
use Rattle.codec_graph.proofs.pin_order.places_of.Given as goal

abbrev pub invariant-loop-nid : goal.invariant-loop-nid
invariant-loop-nid l = ArePlacesBelow l.kind l.codec l.places.items l.nid
