use Rattle.std.proofs.Common.{◌≡◌, ◌+◌, take, drop, ◌++◌, get_or}
use Rattle.heard_lists.specs.Listings.{Listing}
use Rattle.hda_model.proofs.Copying.{items_from}
use Rattle.hda_model.proofs.heard_items.copy_items.Given as goal

-- the first so many are copied, and the others are left
abbrev pub invariant-loop-number : goal.invariant-loop-number
invariant-loop-number l = record {
  copied : (listing : Listing)
      → l.into ≡ take l.number (items_from l.from (get_or l.lists l.place listing).list) ++ drop l.number l.initial.into;
  left : (listing : Listing) → l.items ≡ drop (l.from + l.number) (get_or l.lists l.place listing).list;
}
