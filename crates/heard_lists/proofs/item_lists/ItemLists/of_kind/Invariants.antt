use Rattle.std.proofs.Common.{[], map, take}
use Rattle.std.specs.Prelude.{All}
use Rattle.heard_lists.specs.Listings.{AreListsAs, AreEmpty, graphs_in}
use Rattle.heard_lists.specs.Pieces.{listing_of, IsSignalled}
use Rattle.heard_lists.proofs.item_lists.ItemLists.of_kind.Given as goal

abbrev pub invariant-loop-codec : goal.invariant-loop-codec
invariant-loop-codec l =
    AreListsAs l.kind (graphs_in (take l.codec-index l.codec-items)) (map (listing_of [] [] 0 0) l.lists.items) × AreEmpty (map (listing_of [] [] 0 0) l.lists.items)
    × All (IsSignalled [] 0) l.lists.items
