use Rattle.codec_graph.proofs.PlaceLemmas.{ArePlacesBelow-yes, ArePlacesBelow-no, ArePlaces-all}
use Rattle.codec_graph.proofs.pin_order.places_of.Goals as goal
use Rattle.codec_graph.proofs.pin_order.places_of.Goals.{in-Some+in_ok-push, in_default}

pub loop-nid-preserved : goal.loop-nid-preserved
loop-nid-preserved c =
    elim c.match-place_of.branch [
      | in-Some+in_ok-push w ↦ rw (w.places-is, w.in_ok-push.ensures.items) (ArePlacesBelow-yes c.args.kind c.args.codec.now c.loop-nid.places.items c.loop-nid.nid w.in-Some.place c.loop-nid.invariant w.in-Some.ensures)
      | in_default w ↦ rw (w.places-is) (ArePlacesBelow-no c.args.kind c.args.codec.now c.loop-nid.places.items c.loop-nid.nid c.loop-nid.invariant w.in_default.ensures)
    ]

pub returns : goal.returns
returns c = ArePlaces-all c.args.kind c.args.codec.now c.loop-nid.places.items c.loop-nid.nid c.requires (search) c.loop-nid.invariant
