use Rattle.std.proofs.Common.{◌≡◌, ◌∷◌, ◌++◌, ◌+◌, ◌<◌, [], ℕ, List, length, get_or, take, map, sym, ap, subst, ◌∙◌, arith}
use Rattle.std.proofs.lemmas.List.{take_more, map-append}
use Rattle.std.proofs.lemmas.List.Elements.{All-append}
use Rattle.codec_graph.specs.declared.raw.RawCodec.{RawCodec}
use Rattle.hda_files.specs.declared.machine.CodecFile.{CodecFile}
use Rattle.heard_lists.specs.Listings.{Listing, AreListsAs, AreEmpty, empty_lists, graphs_in}
use Rattle.heard_lists.specs.Pieces.{PinSignals, listing_of, empty_pins, IsSignalled}
use Rattle.heard_lists.proofs.Growing.{AreListsAs-push, AreEmpty-empty}
use Rattle.heard_lists.proofs.Reserved.{none-heard, none-signalled}
use Rattle.heard_lists.proofs.item_lists.ItemLists.of_kind.Goals as goal

pub loop-codec-preserved : goal.loop-codec-preserved
loop-codec-preserved c =
    let items : List CodecFile = c.as_slice-codec-items.result.now in
    let before : List CodecFile = take c.loop-codec.codec-index items in
    let codec : CodecFile = c.codec-item.result in
    let more : graphs_in (take (c.loop-codec.codec-index + 1) items) ≡ graphs_in before ++ codec.graph ∷ [] =
    ap graphs_in (take_more items c.loop-codec.codec-index codec (omega arith)) ∙ (map-append (λ (file : CodecFile). file.graph) before (_ ∷ [])
    ∙ ap (λ (file : CodecFile). graphs_in before ++ file.graph ∷ []) (sym c.codec-item.is)) in
    let pins : List ℕ = c.in_ok-pins.pins.items in
    let old : List PinSignals = c.loop-codec.lists.items in
    let pushed : c.add_lists.new.lists.items ≡ old ++ empty_pins codec.graph.address pins =
    c.in_ok-add_lists.ensures
    ∙ (ap (λ (graph : RawCodec). old ++ empty_pins graph.address c.as_slice.result.now) c.raw.ensures.value
    ∙ ap (λ (pins : List ℕ). old ++ empty_pins codec.graph.address pins) c.as_slice.ensures.value) in
    let added : map (listing_of [] [] 0 0) c.add_lists.new.lists.items ≡ map (listing_of [] [] 0 0) old ++ empty_lists codec.graph.address pins =
    ap (map (listing_of [] [] 0 0)) pushed
    ∙ (map-append (listing_of [] [] 0 0) old (empty_pins codec.graph.address pins)
    ∙ ap (λ (l : List Listing). map (listing_of [] [] 0 0) old ++ l) (none-heard codec.graph.address pins)) in (
      subst (λ (graphs : List RawCodec). AreListsAs c.args.kind graphs (map (listing_of [] [] 0 0) c.add_lists.new.lists.items)) (sym more)
          (subst (AreListsAs c.args.kind (graphs_in before ++ codec.graph ∷ [])) (sym added)
          (AreListsAs-push c.args.kind (graphs_in before) (map (listing_of [] [] 0 0) old) codec.graph pins c.loop-codec.invariant.0 c.in_ok-pins.ensures)),
      subst AreEmpty (sym added)
          (All-append (λ (l : Listing). l.list ≡ []) (map (listing_of [] [] 0 0) old) (empty_lists codec.graph.address pins) c.loop-codec.invariant.1
          (AreEmpty-empty codec.graph.address pins)),
      subst (λ (p : List PinSignals). (k : ℕ) (d : PinSignals) → k < length p → IsSignalled [] 0 (get_or p k d)) (sym pushed)
          (All-append (IsSignalled [] 0) old (empty_pins codec.graph.address pins) c.loop-codec.invariant.2 (none-signalled codec.graph.address pins)),
    )
