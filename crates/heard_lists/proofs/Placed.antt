-- Lists at their places.
use Rattle.std.proofs.Common.{◌≡◌, ◌<◌, ℕ, List, [], length, get_or, map, sym, ap, subst, ◌∙◌}
use Rattle.std.proofs.lemmas.List.{get_or-map, length-map}
use Rattle.heard_lists.specs.declared.pin_list.PinHeard.{PinHeard}
use Rattle.heard_lists.specs.Listings.{Listing, handed_out}

-- some list
abbrev pub any_list : Listing
any_list = record { codec = 0; pin = 0; list = []; room = 0; marks = []; mark_room = 0 }

-- the list at a place as it is handed out
pub handed_at : (lists : List Listing) (pins : List PinHeard) (place : ℕ) (pin : PinHeard) → map handed_out lists ≡ pins → place < length pins
    → get_or pins place pin ≡ handed_out (get_or lists place any_list)
handed_at lists pins place pin are within =
    let inside : place < length lists = subst (λ (n : ℕ). place < n) (ap length (sym are) ∙ length-map lists handed_out) within in
    ap (λ (all : List PinHeard). get_or all place pin) (sym are) ∙ get_or-map handed_out lists place any_list pin inside
