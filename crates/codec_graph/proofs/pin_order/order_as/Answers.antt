use Rattle.std.proofs.Common.{◌≡◌, subst, sym}
use Rattle.codec_graph.specs.declared.raw.RawCodec.{RawCodec}
use Rattle.codec_graph.specs.Cycles.{IsWellFormed}
use Rattle.std.proofs.lemmas.Result.{IfOk-weaker}
use Rattle.codec_graph.specs.Order.{IsOrderAs}
use Rattle.codec_graph.specs.Places.{nids, ArePlaces}
use Rattle.codec_graph.proofs.SortedPins.{IsOrder-sorted}
use Rattle.codec_graph.proofs.pin_order.order_as.Goals as goal

pub places_of-requires : goal.places_of-requires
places_of-requires c = subst (λ (codec : RawCodec). IsWellFormed codec) (sym c.raw.ensures.value) c.raw.ensures.well_formed

pub returns : goal.returns
returns c =
    let are : ArePlaces c.args.kind c.args.graph.now c.in_ok-places.places.items = subst (λ (codec : RawCodec). ArePlaces c.args.kind codec c.in_ok-places.places.items) c.raw.ensures.value c.in_ok-places.ensures in
    let right = IsOrder-sorted c.args.kind c.args.graph.now c.in_ok-places.places.items c.sort.new.self.items are c.in_ok-sort.ensures.permutation c.in_ok-sort.ensures.sorted in
    IfOk-weaker c.nids_of.result (λ pins. pins.items ≡ nids c.as_slice.result.now) (λ pins. IsOrderAs c.args.kind c.args.graph.now pins.items) (λ pins e. rw (e, c.as_slice.ensures.value) right) c.nids_of.ensures
