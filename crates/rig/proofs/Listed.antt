-- The list of a candidate pin is among those of its machine, and has what the pin heard.
use Rattle.std.proofs.Common.{◌≡◌, ◌==◌, ◌&&◌, ◌||◌, ℕ, zero, suc, Bool, true, false, List, [], ◌∷◌, Some, if◌then◌else◌, refl, sym, ap, subst, ◌∙◌, arith, eq-eqb, rules, tests}
use Rattle.std.specs.Prelude.{All, Contains}
use Rattle.std.specs.List.{find, AllZip, AllByRecursion}
use Rattle.std.specs.Coded.{Coded-set, coded_bool}
use Rattle.std.proofs.Math.Logic.{∥∥₁_elim}
use Rattle.std.proofs.lemmas.List.Elements.{Contains-append_left, Contains-append_right, recursion_from_All}
use Rattle.std.proofs.lemmas.Bool.{or_right}
use Rattle.heard_frames.specs.HeardLists.{heard_as}
use Rattle.heard_frames.specs.Marks.{marks_of_as}
use Rattle.codec_graph.specs.Order.{IsOrderAs}
use Rattle.codec_graph.specs.declared.pin_kind.PinKind.{PinKind}
use Rattle.hda_world.specs.Worlds.{TakenCommand, CarriedFrame, codec_at}
use Rattle.hda_files.specs.declared.machine.CodecFile.{CodecFile}
use Rattle.heard_lists.specs.Listings.{Listing, AreListsAs, graphs_in, places_of, places_in, pins_of, is_of, items_in, list_of, marks_in, marks_listed}
use Rattle.hda_controller.specs.Controllers.{is_candidate_in, is_candidate_of_kind}
use Rattle.hda_controller.specs.Openings.{codec_in, codecs_in}

-- ---- places

abbrev is_at : ℕ → ℕ → (ℕ × ℕ) → Bool
is_at codec pin place = place.0 == codec && place.1 == pin

is_among : ℕ → ℕ → List (ℕ × ℕ) → Bool
is_among codec pin [] = false
is_among codec pin (place ∷ places) = is_at codec pin place || is_among codec pin places

at_here : (codec pin : ℕ) (place : ℕ × ℕ) → is_at codec pin place ≡ true → place ≡ (codec, pin)
at_here codec pin place is =
    let first : place.0 ≡ codec = search (rules, tests) in
    let second : place.1 ≡ pin = search (rules, tests) in
    ap (λ (a : ℕ). (a, place.1)) first ∙ ap (λ (b : ℕ). (codec, b)) second

here_at : (codec pin : ℕ) (place : ℕ × ℕ) → place ≡ (codec, pin) → is_at codec pin place ≡ true
here_at codec pin place is =
    let first : (place.0 == codec) ≡ true = eq-eqb place.0 codec (ap (λ (both : ℕ × ℕ). both.0) is) in
    let second : (place.1 == pin) ≡ true = eq-eqb place.1 pin (ap (λ (both : ℕ × ℕ). both.1) is) in
    ap (λ (one : Bool). one && (place.1 == pin)) first ∙ second

among : (codec pin : ℕ) (places : List (ℕ × ℕ)) → Contains places (codec, pin) → is_among codec pin places ≡ true
unfolding is_among
among codec pin [] there = (let less = there.1 in absurd (omega (arith, less)))
among codec pin (place ∷ places) (zero, less, is) = ap (λ (one : Bool). one || is_among codec pin places) (here_at codec pin place is)
among codec pin (place ∷ places) (suc k, less, is) =
    or_right (is_at codec pin place) (is_among codec pin places) (among codec pin places (k, omega (arith, less), is))

is_there : (codec pin : ℕ) (place : ℕ × ℕ) (places : List (ℕ × ℕ)) (here : Bool) → is_at codec pin place ≡ here
    → (is_among codec pin places ≡ true → Contains places (codec, pin)) → (here || is_among codec pin places) ≡ true → Contains (place ∷ places) (codec, pin)
is_there codec pin place places true is rest found = (0, omega arith, at_here codec pin place is)
is_there codec pin place places false is rest found = (let there = rest found in (suc there.0, omega (arith, there.1), there.2))

there_among : (codec pin : ℕ) (places : List (ℕ × ℕ)) → is_among codec pin places ≡ true → Contains places (codec, pin)
unfolding is_among
there_among codec pin [] is = (let never : false ≡ true = is in cc)
there_among codec pin (place ∷ places) is = is_there codec pin place places (is_at codec pin place) refl (there_among codec pin places) is

-- ---- candidates

placed : (address pin : ℕ) (pins : List ℕ) → Contains pins pin → Contains (places_of address pins) (address, pin)
placed address pin [] there = (let less = there.1 in absurd (omega (arith, less)))
placed address pin (first ∷ pins) (zero, less, is) = (0, omega arith, ap (λ (p : ℕ). (address, p)) is)
placed address pin (first ∷ pins) (suc k, less, is) = (let there = placed address pin pins (k, omega (arith, less), is) in (suc there.0, omega (arith, there.1), there.2))

candidate_by : (kind : PinKind) (file : CodecFile) (files : List CodecFile) (address pin : ℕ) (named : Bool) → (file.graph.address == address) ≡ named
    → (orders : List (List ℕ)) → AllZip (IsOrderAs kind) (graphs_in (file ∷ files)) orders
    → ((orders : List (List ℕ)) → AllZip (IsOrderAs kind) (graphs_in files) orders → is_candidate_of_kind kind (codecs_in files) address pin ≡ true → Contains (places_in (graphs_in files) orders) (address, pin))
    → is_candidate_in kind (if named then Some (codec_in file) else codec_at address (codecs_in files)) pin ≡ true
    → Contains (places_in (graphs_in (file ∷ files)) orders) (address, pin)
candidate_by kind file files address pin named is [] ordered rest candidate = absurd ordered
candidate_by kind file files address pin true is (pins ∷ orders) ordered rest candidate =
    let same : file.graph.address ≡ address = search (rules, tests) in
    Contains-append_left (places_of file.graph.address pins) (places_in (graphs_in files) orders) (address, pin)
    (subst (λ (a : ℕ). Contains (places_of a pins) (address, pin)) (sym same) (placed address pin pins ((ordered.0.exactly pin).1 candidate)))
candidate_by kind file files address pin false is (pins ∷ orders) ordered rest candidate =
    Contains-append_right (places_of file.graph.address pins) (places_in (graphs_in files) orders) (address, pin) (rest orders ordered.1 candidate)

candidate_placed : (kind : PinKind) (files : List CodecFile) (address pin : ℕ) (orders : List (List ℕ)) → AllZip (IsOrderAs kind) (graphs_in files) orders
    → is_candidate_of_kind kind (codecs_in files) address pin ≡ true → Contains (places_in (graphs_in files) orders) (address, pin)
candidate_placed kind [] address pin orders ordered candidate = (let never : false ≡ true = candidate in absurd (no never))
  where
    no : false ≡ true → ⊥
    no is = (let never : false ≡ true = is in cc)
candidate_placed kind (file ∷ files) address pin orders ordered candidate =
    candidate_by kind file files address pin (file.graph.address == address) refl orders ordered
    (λ orders ordered found. candidate_placed kind files address pin orders ordered found) candidate

-- its list is there
pub candidate_listed : (kind : PinKind) (files : List CodecFile) (address pin : ℕ) (lists : List Listing) → ∥ AreListsAs kind (graphs_in files) lists ∥₁
    → is_candidate_of_kind kind (codecs_in files) address pin ≡ true → Contains (pins_of lists) (address, pin)
candidate_listed kind files address pin lists are candidate =
    there_among address pin (pins_of lists)
    (∥∥₁_elim are (Coded-set coded_bool _ _) (λ one. among address pin (pins_of lists)
    (subst (λ (places : List (ℕ × ℕ)). Contains places (address, pin)) (sym one.pins) (candidate_placed kind files address pin one.orders one.ordered candidate))))

-- ---- what it heard

found_by : (kind : PinKind) (codec pin : ℕ) (frames : List CarriedFrame) (listing : Listing) (lists : List Listing) (here : Bool) → is_of codec pin listing ≡ here
    → listing.list ≡ heard_as kind listing.codec listing.pin frames
    → (is_among codec pin (pins_of lists) ≡ true → list_of codec pin lists ≡ heard_as kind codec pin frames)
    → (here || is_among codec pin (pins_of lists)) ≡ true
    → items_in (if here then Some listing else find (is_of codec pin) lists) ≡ heard_as kind codec pin frames
found_by kind codec pin frames listing lists true is heard_is rest found =
    let first : listing.codec ≡ codec = search (rules, tests) in
    let second : listing.pin ≡ pin = search (rules, tests) in
    heard_is ∙ (ap (λ (a : ℕ). heard_as kind a listing.pin frames) first ∙ ap (λ (b : ℕ). heard_as kind codec b frames) second)
found_by kind codec pin frames listing lists false is heard_is rest found = rest found

found_all : (kind : PinKind) (codec pin : ℕ) (frames : List CarriedFrame) (lists : List Listing) → AllByRecursion (λ listing. listing.list ≡ heard_as kind listing.codec listing.pin frames) lists
    → is_among codec pin (pins_of lists) ≡ true → list_of codec pin lists ≡ heard_as kind codec pin frames
unfolding is_among
found_all kind codec pin frames [] are is = (let never : false ≡ true = is in cc)
found_all kind codec pin frames (listing ∷ lists) are is =
    found_by kind codec pin frames listing lists (is_of codec pin listing) refl are.0 (found_all kind codec pin frames lists are.1) is

pub list_heard : (kind : PinKind) (codec pin : ℕ) (frames : List CarriedFrame) (lists : List Listing) → All (λ listing. listing.list ≡ heard_as kind listing.codec listing.pin frames) lists
    → Contains (pins_of lists) (codec, pin) → list_of codec pin lists ≡ heard_as kind codec pin frames
list_heard kind codec pin frames lists are there =
    found_all kind codec pin frames lists (recursion_from_All _ lists are) (among codec pin (pins_of lists) there)

-- ---- its marks

marked_by : (kind : PinKind) (codec pin : ℕ) (commands : List TakenCommand) (frames : List CarriedFrame) (listing : Listing) (lists : List Listing) (here : Bool) → is_of codec pin listing ≡ here
    → listing.marks ≡ marks_of_as kind listing.codec listing.pin commands frames
    → (is_among codec pin (pins_of lists) ≡ true → marks_listed codec pin lists ≡ marks_of_as kind codec pin commands frames)
    → (here || is_among codec pin (pins_of lists)) ≡ true
    → marks_in (if here then Some listing else find (is_of codec pin) lists) ≡ marks_of_as kind codec pin commands frames
marked_by kind codec pin commands frames listing lists true is marked_is rest found =
    let first : listing.codec ≡ codec = search (rules, tests) in
    let second : listing.pin ≡ pin = search (rules, tests) in
    marked_is ∙ (ap (λ (a : ℕ). marks_of_as kind a listing.pin commands frames) first ∙ ap (λ (b : ℕ). marks_of_as kind codec b commands frames) second)
marked_by kind codec pin commands frames listing lists false is marked_is rest found = rest found

marked_all : (kind : PinKind) (codec pin : ℕ) (commands : List TakenCommand) (frames : List CarriedFrame) (lists : List Listing)
    → AllByRecursion (λ listing. listing.marks ≡ marks_of_as kind listing.codec listing.pin commands frames) lists
    → is_among codec pin (pins_of lists) ≡ true → marks_listed codec pin lists ≡ marks_of_as kind codec pin commands frames
unfolding is_among
marked_all kind codec pin commands frames [] are is = (let never : false ≡ true = is in cc)
marked_all kind codec pin commands frames (listing ∷ lists) are is =
    marked_by kind codec pin commands frames listing lists (is_of codec pin listing) refl are.0 (marked_all kind codec pin commands frames lists are.1) is

pub list_marked : (kind : PinKind) (codec pin : ℕ) (commands : List TakenCommand) (frames : List CarriedFrame) (lists : List Listing)
    → All (λ listing. listing.marks ≡ marks_of_as kind listing.codec listing.pin commands frames) lists
    → Contains (pins_of lists) (codec, pin) → marks_listed codec pin lists ≡ marks_of_as kind codec pin commands frames
list_marked kind codec pin commands frames lists are there =
    marked_all kind codec pin commands frames lists (recursion_from_All _ lists are) (among codec pin (pins_of lists) there)
