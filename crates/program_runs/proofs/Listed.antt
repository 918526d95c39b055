-- The lists that pins heard are those of the plans' pins, in their order.
use Rattle.std.proofs.Common.{◌≡◌, ℕ, List, [], ◌∷◌, ◌++◌, map, refl, ap, ◌∙◌}
use Rattle.std.specs.List.{flat_map, zip, AllZip}
use Rattle.std.specs.Coded.{Coded-set, coded_ℕ, coded_list, coded×}
use Rattle.std.proofs.Math.Logic.{∥∥₁_elim}
use Rattle.std.proofs.lemmas.List.{map-append}
use Rattle.std.proofs.lemmas.List.Elements.{All-head, All-tail}
use Rattle.stream_format.specs.declared.format.Format.{Format}
use Rattle.codec_graph.specs.declared.raw.RawCodec.{RawCodec}
use Rattle.heard_frames.specs.HeardLists.{heard_as}
use Rattle.codec_graph.specs.declared.pin_kind.PinKind.{PinKind}
use Rattle.route_planner.specs.declared.routes.PinPlan.{PinPlan}
use Rattle.route_planner.specs.declared.routes.Plan.{Plan}
use Rattle.codec_graph.specs.Order.{IsOrderAs}
use Rattle.route_planner.specs.Plans.{IsPlanAs}
use Rattle.hda_files.specs.declared.machine.CodecFile.{CodecFile}
use Rattle.hda_world.specs.Worlds.{CarriedFrame, World}
use Rattle.heard_lists.specs.declared.pin_list.PinHeard.{PinHeard}
use Rattle.heard_lists.specs.Listings.{Listing, AreListsAs, graphs_in, handed_out, pins_of, places_in, places_of}
use Rattle.rig.specs.Replays.{AreHeardInAs}
use Rattle.program_runs.specs.Hearing.{heard_of, heard_by, lists_heard}

abbrev pin_in : PinPlan → ℕ
pin_in entry = entry.pin

-- the pins of plans, with their codecs' addresses
abbrev places_planned : CodecFile × Plan → List (ℕ × ℕ)
places_planned codec = places_of codec.0.graph.address (map pin_in codec.1.pins)

abbrev places_by : List CodecFile → List Plan → List (ℕ × ℕ)
places_by files plans = flat_map places_planned (zip files plans)

-- what the planner's law says of the order of pins
abbrev pub HaveOneOrder : Type 0
HaveOneOrder = (kind : PinKind) (codec : RawCodec) (first second : List ℕ) → IsOrderAs kind codec first → IsOrderAs kind codec second → first ≡ second

-- they are those of the lists
same_places : HaveOneOrder → (kind : PinKind) (format : Format) (files : List CodecFile) (plans : List Plan) (orders : List (List ℕ)) → AllZip (IsOrderAs kind) (graphs_in files) orders → AllZip (λ (file : CodecFile) (plan : Plan). IsPlanAs kind file.graph format plan) files plans
    → places_in (graphs_in files) orders ≡ places_by files plans
same_places one_order kind format [] [] [] ordered planned = refl
same_places one_order kind format [] [] (pins ∷ orders) ordered planned = absurd ordered
same_places one_order kind format [] (plan ∷ plans) orders ordered planned = absurd planned
same_places one_order kind format (file ∷ files) [] orders ordered planned = absurd planned
same_places one_order kind format (file ∷ files) (plan ∷ plans) [] ordered planned = absurd ordered
same_places one_order kind format (file ∷ files) (plan ∷ plans) (pins ∷ orders) ordered planned =
    let same = one_order kind file.graph pins (map pin_in plan.pins) ordered.0 planned.0.pins.in_order in
    ap (λ (pins : List ℕ). places_of file.graph.address pins ++ places_in (graphs_in files) orders) same
    ∙ ap (λ (places : List (ℕ × ℕ)). places_of file.graph.address (map pin_in plan.pins) ++ places) (same_places one_order kind format files plans orders ordered.1 planned.1)

pins_planned : HaveOneOrder → (kind : PinKind) (format : Format) (files : List CodecFile) (plans : List Plan) (lists : List Listing) → ∥ AreListsAs kind (graphs_in files) lists ∥₁ → AllZip (λ (file : CodecFile) (plan : Plan). IsPlanAs kind file.graph format plan) files plans
    → pins_of lists ≡ places_by files plans
pins_planned one_order kind format files plans lists are planned =
    ∥∥₁_elim are (Coded-set (coded_list (coded× coded_ℕ coded_ℕ)) _ _) (λ of. of.pins ∙ same_places one_order kind format files plans of.orders of.ordered planned)

-- ---- what each of them heard

abbrev heard_at : PinKind → List CarriedFrame → ℕ × ℕ → PinHeard
heard_at kind carried place = record { codec = place.0; pin = place.1; list = heard_as kind place.0 place.1 carried }

by_place : (kind : PinKind) (world : World) (lists : List Listing) → AreHeardInAs kind world lists → map handed_out lists ≡ map (heard_at kind world.carried) (pins_of lists)
by_place kind world [] are = refl
by_place kind world (listing ∷ lists) are =
    let first = All-head (λ (listing : Listing). listing.list ≡ heard_as kind listing.codec listing.pin world.carried) listing lists are in
    ap (λ items. record { codec = listing.codec; pin = listing.pin; list = items } ∷ map handed_out lists) first
    ∙ ap (λ (rest : List PinHeard). heard_at kind world.carried (listing.codec, listing.pin) ∷ rest) (by_place kind world lists (All-tail (λ (listing : Listing). listing.list ≡ heard_as kind listing.codec listing.pin world.carried) listing lists are))

of_codec : (kind : PinKind) (carried : List CarriedFrame) (file : CodecFile) (entries : List PinPlan) → map (heard_at kind carried) (places_of file.graph.address (map pin_in entries)) ≡ map (heard_of kind carried file) entries
of_codec kind carried file [] = refl
of_codec kind carried file (entry ∷ entries) = ap (λ (rest : List PinHeard). heard_of kind carried file entry ∷ rest) (of_codec kind carried file entries)

of_codecs : (kind : PinKind) (carried : List CarriedFrame) (codecs : List (CodecFile × Plan)) → map (heard_at kind carried) (flat_map places_planned codecs) ≡ flat_map (heard_by kind carried) codecs
of_codecs kind carried [] = refl
of_codecs kind carried (codec ∷ codecs) =
    map-append (heard_at kind carried) (places_planned codec) (flat_map places_planned codecs)
    ∙ ap (λ (front : List PinHeard). front ++ map (heard_at kind carried) (flat_map places_planned codecs)) (of_codec kind carried codec.0 codec.1.pins)
    ∙ ap (λ (rest : List PinHeard). heard_by kind carried codec ++ rest) (of_codecs kind carried codecs)

-- so the lists that are handed out are those of the plans' pins
pub lists_are : HaveOneOrder → (kind : PinKind) (format : Format) (files : List CodecFile) (plans : List Plan) (world : World) (lists : List Listing) → AreHeardInAs kind world lists → ∥ AreListsAs kind (graphs_in files) lists ∥₁
    → AllZip (λ (file : CodecFile) (plan : Plan). IsPlanAs kind file.graph format plan) files plans → map handed_out lists ≡ lists_heard kind world.carried files plans
lists_are one_order kind format files plans world lists heard are planned =
    by_place kind world lists heard ∙ ap (map (heard_at kind world.carried)) (pins_planned one_order kind format files plans lists are planned) ∙ of_codecs kind world.carried (zip files plans)
