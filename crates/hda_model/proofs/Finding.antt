-- Looking for a pin by its names.
use Rattle.std.proofs.Common.{◌≡◌, ◌≤◌, ◌<◌, ℕ, Bool, true, false, List, [], ◌∷◌, length, map, get_or, Option, Some, None, if◌then◌else◌, refl, ap, ◌∙◌, arith, lt_irrefl}
use Rattle.std.specs.Prelude.{slice_get}
use Rattle.std.specs.List.{find}
use Rattle.std.specs.Option.{option_map}
use Rattle.std.proofs.lemmas.List.{length-map, get_or-map}
use Rattle.std.proofs.lemmas.List.Folds.{find_at}
use Rattle.std.proofs.lemmas.List.Sums.{position_or_len_is}
use Rattle.std.proofs.lemmas.Option.{slice_get_past, slice_get-get_or}
use Rattle.heard_lists.specs.declared.pin_list.PinHeard.{PinHeard}
use Rattle.heard_lists.specs.Listings.{Listing, is_of, handed_out}
use Rattle.hda_model.specs.Models.{name_of}
use Rattle.hda_model.specs.Copies.{is_named, items_in, list_of, count_of}

-- the first that passes
pub find_first : {A : Type 0} (p : A → Bool) (xs : List A) (i : ℕ) (d : A) → i < length xs → ((k : ℕ) → k < i → p (get_or xs k d) ≡ false) → p (get_or xs i d) ≡ true
    → find p xs ≡ Some (get_or xs i d)
find_first p xs i d within before hit =
    find_at p xs ∙ (ap (slice_get xs) (position_or_len_is p xs i d (omega (arith, within)) before (λ inside. hit)) ∙ slice_get-get_or xs i d within)

-- none passes
pub find_none : {A : Type 0} (p : A → Bool) (xs : List A) (i : ℕ) → length xs ≤ i → ((k : ℕ) (d : A) → k < i → p (get_or xs k d) ≡ false) → find p xs ≡ None
find_none p [] i end before = refl
find_none {A} p (x ∷ xs) i end before =
    let all : List A = x ∷ xs in
    let past = position_or_len_is p all (length all) x (omega arith) (λ k below. before k x (omega (arith, end, below))) (λ inside. absurd (lt_irrefl (length all) inside)) in
    find_at p all ∙ (ap (slice_get all) past ∙ slice_get_past all (length all) (omega arith))

-- ---- the lists as they are handed out

-- a list where one is asked for and none is there
abbrev pub nowhere : Listing
nowhere = record { codec = 0; pin = 0; list = []; room = 0; marks = []; mark_room = 0 }

pub handed_size : (lists : List Listing) → length (map handed_out lists) ≡ length lists
handed_size lists = length-map lists handed_out

pub handed_name : (lists : List Listing) (place : ℕ) (pin : PinHeard) → place < length lists
    → name_of (get_or (map handed_out lists) place pin) ≡ name_of (handed_out (get_or lists place nowhere))
handed_name lists place pin within = ap name_of (get_or-map handed_out lists place nowhere pin within)

found_by : (found : Bool) (listing : Listing) (rest : Option PinHeard) (others : Option Listing) → rest ≡ option_map handed_out others
    → (if found then Some (handed_out listing) else rest) ≡ option_map handed_out (if found then Some listing else others)
found_by true listing rest others same = refl
found_by false listing rest others same = same

pub find_handed : (codec nid : ℕ) (lists : List Listing) → find (is_named codec nid) (map handed_out lists) ≡ option_map handed_out (find (is_of codec nid) lists)
find_handed codec nid [] = refl
find_handed codec nid (listing ∷ lists) =
    found_by (is_of codec nid listing) listing (find (is_named codec nid) (map handed_out lists)) (find (is_of codec nid) lists) (find_handed codec nid lists)

module _ (codec nid : ℕ) (lists : List Listing) where
  abbrev there : Option Listing → Option PinHeard
  there found = option_map handed_out found

  abbrev counted : Option PinHeard → Option ℕ
  counted found = option_map (λ (pin : PinHeard). length pin.list) found

  pub count_there : (listing : Listing) → find (is_of codec nid) lists ≡ Some listing → count_of codec nid (map handed_out lists) ≡ Some (length listing.list)
  count_there listing is = ap counted (find_handed codec nid lists ∙ ap there is)

  pub count_none : find (is_of codec nid) lists ≡ None → count_of codec nid (map handed_out lists) ≡ None
  count_none is = ap counted (find_handed codec nid lists ∙ ap there is)

  pub list_there : (listing : Listing) → find (is_of codec nid) lists ≡ Some listing → list_of codec nid (map handed_out lists) ≡ listing.list
  list_there listing is = ap items_in (find_handed codec nid lists ∙ ap there is)

  pub list_none : find (is_of codec nid) lists ≡ None → list_of codec nid (map handed_out lists) ≡ []
  list_none is = ap items_in (find_handed codec nid lists ∙ ap there is)
