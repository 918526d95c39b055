use Rattle.std.proofs.Common.{◌≡◌, ◌<◌, ℕ, false, get_or}
use Rattle.heard_lists.specs.Listings.{Listing, is_of}
use Rattle.hda_model.proofs.places.place_of.Given as goal

-- no list before the place is the pin's
abbrev pub invariant-loop-place : goal.invariant-loop-place
invariant-loop-place l = (k : ℕ) → k < l.place → (d : Listing) → is_of l.fn.codec l.fn.nid (get_or l.lists k d) ≡ false
