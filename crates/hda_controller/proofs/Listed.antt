-- Lists of candidate pins.
use Rattle.codec_graph.specs.declared.pin_kind.PinKind.{PinKind}
use Rattle.std.proofs.Common.{◌≡◌, ◌<◌, ◌==◌, ℕ, suc, Bool, true, false, List, [], ◌∷◌, length, map, get_or, Some, if◌then◌else◌, refl, sym, ap, subst, ◌∙◌, arith, eq-eqb}
use Rattle.std.specs.Prelude.{All, AllPairs, Contains}
use Rattle.std.specs.List.{AllZip}
use Rattle.std.specs.List.Sorted.{IsStrictlyIncreasing}
use Rattle.std.proofs.lemmas.Bool.Decides.{nat_tests}
use Rattle.std.proofs.lemmas.List.{length-map, get_or-map, get_or_default}
use Rattle.std.proofs.lemmas.List.Kept.{AllPairs-from_increasing}
use Rattle.std.proofs.lemmas.List.Elements.{All-map, All-append, All-nil}
use Rattle.codec_graph.specs.declared.raw.RawCodec.{RawCodec}
use Rattle.codec_graph.specs.Kinds.{is_candidate_as}
use Rattle.codec_graph.specs.CodecStates.{CodecState}
use Rattle.codec_graph.specs.Order.{IsOrderAs}
use Rattle.world_steps.specs.declared.Step.{Step}
use Rattle.hda_files.specs.declared.machine.CodecFile.{CodecFile}
use Rattle.hda_files.specs.declared.machine.Machine.{Machine}
use Rattle.hda_files.specs.Machines.{IsSound}
use Rattle.heard_lists.specs.Listings.{marked, with_marks, Listing, AreListsAs, graphs_in, places_of, places_in, pins_of, grown_as, with_items, handed_out}
use Rattle.heard_lists.specs.declared.pin_list.PinHeard.{PinHeard}
use Rattle.heard_frames.specs.HeardLists.{heard_as}
use Rattle.hda_world.specs.Worlds.{TakenCommand, World, CarriedFrame, codec_at}
use Rattle.hda_world.specs.Steps.{after_step}
use Rattle.hda_world.proofs.Callers.{steps_leave}
use Rattle.device_core.specs.Codecs.{addresses_of, graphs_of_all}
use Rattle.device_core.specs.Devices.{DeviceState, IsWorld}
use Rattle.hda_controller.specs.Controllers.{ControllerState, StandsFor, is_candidate_in, is_candidate_of_kind}
use Rattle.hda_controller.specs.Openings.{codecs_in}
use Rattle.hda_controller.specs.Hearing.{AreHeardAs, FramesHeardAs, GrewAs}

abbrev graph_addresses : List RawCodec → List ℕ
graph_addresses graphs = map (λ graph. graph.address) graphs

-- ---- candidates by the graphs alone

candidate_among : (kind : PinKind) → List RawCodec → ℕ → ℕ → Bool
candidate_among kind [] address pin = false
candidate_among kind (graph ∷ graphs) address pin = if graph.address == address then is_candidate_as kind graph pin else candidate_among kind graphs address pin

by_graphs-cons : (kind : PinKind) (codec : CodecState) (codecs : List CodecState) (address pin : ℕ) (named : Bool) → is_candidate_of_kind kind codecs address pin ≡ candidate_among kind (graphs_of_all codecs) address pin
    → is_candidate_in kind (if named then Some codec else codec_at address codecs) pin ≡ (if named then is_candidate_as kind codec.graph pin else candidate_among kind (graphs_of_all codecs) address pin)
by_graphs-cons kind codec codecs address pin true rest = refl
by_graphs-cons kind codec codecs address pin false rest = rest

by_graphs : (kind : PinKind) (codecs : List CodecState) (address pin : ℕ) → is_candidate_of_kind kind codecs address pin ≡ candidate_among kind (graphs_of_all codecs) address pin
unfolding candidate_among
by_graphs kind [] address pin = refl
by_graphs kind (codec ∷ codecs) address pin = by_graphs-cons kind codec codecs address pin (codec.graph.address == address) (by_graphs kind codecs address pin)

pub candidates_stay : (kind : PinKind) (old new : List CodecState) → graphs_of_all new ≡ graphs_of_all old → (address pin : ℕ) → is_candidate_of_kind kind new address pin ≡ is_candidate_of_kind kind old address pin
candidates_stay kind old new graphs address pin =
    by_graphs kind new address pin ∙ (ap (λ (list : List RawCodec). candidate_among kind list address pin) graphs ∙ sym (by_graphs kind old address pin))

-- ---- lists whose codecs and pins stay

pub heard_by : (kind : PinKind) (old new : List CodecState) (lists : List Listing) → graphs_of_all new ≡ graphs_of_all old → AreHeardAs kind old lists → AreHeardAs kind new lists
heard_by kind old new lists graphs are k d within =
    candidates_stay kind old new graphs (get_or lists k d).codec (get_or lists k d).pin ∙ are k d within

pub heard_grown : (kind : PinKind) (codecs : List CodecState) (frames : List CarriedFrame) (lists : List Listing) → AreHeardAs kind codecs lists → AreHeardAs kind codecs (grown_as kind frames lists)
heard_grown kind codecs frames lists are =
    All-map (λ (listing : Listing). is_candidate_of_kind kind codecs listing.codec listing.pin ≡ true) (λ (listing : Listing). with_items (heard_as kind listing.codec listing.pin frames) listing) lists (λ k d within. are k d within)

heard_marked : (kind : PinKind) (codecs : List CodecState) (commands : List TakenCommand) (lists : List Listing) → AreHeardAs kind codecs lists → AreHeardAs kind codecs (marked commands lists)
heard_marked kind codecs commands lists are =
    All-map (λ (listing : Listing). is_candidate_of_kind kind codecs listing.codec listing.pin ≡ true) (with_marks commands) lists (λ k d within. are k d within)

-- over a step of the world
pub heard_stepped : (kind : PinKind) (step : Step) (world : World) (old new : List Listing) → GrewAs kind world (after_step step world) old new → AreHeardAs kind world.codecs old → AreHeardAs kind (after_step step world).codecs new
heard_stepped kind step world old new grew are =
    heard_by kind world.codecs (after_step step world).codecs new (steps_leave (step ∷ []) world).graphs
    (subst (AreHeardAs kind world.codecs) (sym grew.lists) (heard_grown kind world.codecs grew.added (marked grew.taken old) (heard_marked kind world.codecs grew.taken old are)))

-- and of a controller, which stood for some world
pub heard_after : (kind : PinKind) (memory after : List ℕ) (device : DeviceState) (old new : ControllerState) (step : Step) (before lists : List Listing) → device ≡ old.device
    → ((memory : List ℕ) → (world : World) × IsWorld memory device world) → ((world : World) → StandsFor memory old world → StandsFor after new (after_step step world))
    → ((world : World) → StandsFor memory old world → GrewAs kind world (after_step step world) before lists) → AreHeardAs kind old.device.codecs before → AreHeardAs kind new.device.codecs lists
heard_after kind memory after device old new step before lists view some stands heard are =
    let world : World = (some memory).0 in
    let is : StandsFor memory old world = subst (λ (d : DeviceState). IsWorld memory d world) view (some memory).1 in
    subst (λ (codecs : List CodecState). AreHeardAs kind codecs lists) (stands world is).codecs_are
    (heard_stepped kind step world before lists (heard world is) (subst (λ (codecs : List CodecState). AreHeardAs kind codecs before) (sym is.codecs_are) are))

-- ---- the codecs' addresses

addresses-graphs : (codecs : List CodecState) → addresses_of codecs ≡ graph_addresses (graphs_of_all codecs)
addresses-graphs [] = refl
addresses-graphs (codec ∷ codecs) = ap (λ (rest : List ℕ). codec.graph.address ∷ rest) (addresses-graphs codecs)

-- stay where their graphs do
pub addresses_by : (old new : List CodecState) → graphs_of_all new ≡ graphs_of_all old → addresses_of new ≡ addresses_of old
addresses_by old new graphs = addresses-graphs new ∙ (ap graph_addresses graphs ∙ sym (addresses-graphs old))

-- and over a step
pub addresses_after : (memory after : List ℕ) (device : DeviceState) (old new : ControllerState) (step : Step) → device ≡ old.device
    → ((memory : List ℕ) → (world : World) × IsWorld memory device world) → ((world : World) → StandsFor memory old world → StandsFor after new (after_step step world))
    → addresses_of new.device.codecs ≡ addresses_of old.device.codecs
addresses_after memory after device old new step view some stands =
    let world : World = (some memory).0 in
    let is : StandsFor memory old world = subst (λ (d : DeviceState). IsWorld memory d world) view (some memory).1 in
    ap addresses_of (sym (stands world is).codecs_are)
    ∙ (addresses_by world.codecs (after_step step world).codecs (steps_leave (step ∷ []) world).graphs ∙ ap addresses_of is.codecs_are)

-- over a move that keeps the codecs
pub heard_moved : (kind : PinKind) (old new : List CodecState) (world after : World) (before lists : List Listing) → new ≡ old → FramesHeardAs kind world after before lists → AreHeardAs kind old before → AreHeardAs kind new lists
heard_moved kind old new world after before lists same grew are =
    subst (λ (codecs : List CodecState). AreHeardAs kind codecs lists) (sym same) (subst (AreHeardAs kind old) (sym grew.lists) (heard_grown kind old grew.added before are))

-- ---- lists of a machine

-- a pin of a codec of the address is a candidate
abbrev IsPlace : PinKind → List RawCodec → (ℕ × ℕ) → Type 0
IsPlace kind graphs place = candidate_among kind graphs place.0 place.1 ≡ true

candidate_here : (kind : PinKind) (graph : RawCodec) (graphs : List RawCodec) (pin : ℕ) → is_candidate_as kind graph pin ≡ true → candidate_among kind (graph ∷ graphs) graph.address pin ≡ true
unfolding candidate_among
candidate_here kind graph graphs pin is =
    ap (λ (named : Bool). if named then is_candidate_as kind graph pin else candidate_among kind graphs graph.address pin) (eq-eqb graph.address graph.address refl) ∙ is

-- a graph with another address in front changes nothing
candidate_on : (kind : PinKind) (graph : RawCodec) (graphs : List RawCodec) (address pin : ℕ) (named : Bool) → (graph.address == address) ≡ named → (graph.address ≡ address → candidate_among kind graphs address pin ≡ true → candidate_among kind (graph ∷ graphs) address pin ≡ true)
    → candidate_among kind graphs address pin ≡ true → candidate_among kind (graph ∷ graphs) address pin ≡ true
unfolding candidate_among
candidate_on kind graph graphs address pin true is other there = other (grind (arith, nat_tests)) there
candidate_on kind graph graphs address pin false is other there = ap (λ (named : Bool). if named then is_candidate_as kind graph pin else candidate_among kind graphs address pin) is ∙ there

-- where a candidate is there, so is its codec's address
address_by : (kind : PinKind) (graph : RawCodec) (graphs : List RawCodec) (address pin : ℕ) (named : Bool) → (graph.address == address) ≡ named → (candidate_among kind graphs address pin ≡ true → Contains (graph_addresses graphs) address)
    → (if named then is_candidate_as kind graph pin else candidate_among kind graphs address pin) ≡ true → Contains (graph_addresses (graph ∷ graphs)) address
address_by kind graph graphs address pin true is rest there = (0, omega arith, grind (arith, nat_tests))
address_by kind graph graphs address pin false is rest there = (let found = rest there in (suc found.0, omega (arith, found.1), found.2))

address_there : (kind : PinKind) (graphs : List RawCodec) (address pin : ℕ) → candidate_among kind graphs address pin ≡ true → Contains (graph_addresses graphs) address
unfolding candidate_among
address_there kind [] address pin there = (let never : false ≡ true = there in cc)
address_there kind (graph ∷ graphs) address pin there = address_by kind graph graphs address pin (graph.address == address) refl (address_there kind graphs address pin) there

-- the pins of codecs whose addresses ascend
places_candidate : (kind : PinKind) (graphs : List RawCodec) (orders : List (List ℕ)) → AllZip (IsOrderAs kind) graphs orders → AllPairs (λ x y. x < y) (graph_addresses graphs) → All (IsPlace kind graphs) (places_in graphs orders)
places_candidate kind [] orders ordered ascend = All-nil (IsPlace kind [])
places_candidate kind (graph ∷ graphs) [] ordered ascend = absurd ordered
places_candidate kind (graph ∷ graphs) (pins ∷ orders) ordered ascend =
    All-append (IsPlace kind (graph ∷ graphs)) (places_of graph.address pins) (places_in graphs orders)
    (All-map (IsPlace kind (graph ∷ graphs)) (λ (pin : ℕ). (graph.address, pin)) pins (λ k d within.
    candidate_here kind graph graphs (get_or pins k d) ((ordered.0.exactly (get_or pins k d)).0 (k, within, get_or_default pins k (get_or pins k d) d within))))
    (λ k d within. (
    let place : ℕ × ℕ = get_or (places_in graphs orders) k d in
    let there : candidate_among kind graphs place.0 place.1 ≡ true = places_candidate kind graphs orders ordered.1 later k d within in
    candidate_on kind graph graphs place.0 place.1 (graph.address == place.0) refl (λ same again. absurd (apart place.0 same (address_there kind graphs place.0 place.1 there))) there))
  where
    later : AllPairs (λ x y. x < y) (graph_addresses graphs)
    later i j d less within = ascend (suc i) (suc j) d (omega (arith, less)) (omega (arith, within))

    apart : (address : ℕ) → graph.address ≡ address → Contains (graph_addresses graphs) address → ⊥
    apart address same there =
        let above : graph.address < get_or (graph_addresses graphs) there.0 address = ascend 0 (suc there.0) address (omega arith) (omega (arith, there.1)) in
        let here : get_or (graph_addresses graphs) there.0 address ≡ address = there.2 in
        absurd (omega (arith, above, here, same))

graphs-in : (files : List CodecFile) → graphs_of_all (codecs_in files) ≡ graphs_in files
graphs-in [] = refl
graphs-in (file ∷ files) = ap (λ (rest : List RawCodec). file.graph ∷ rest) (graphs-in files)

-- those of a machine's codecs
pub addresses_opened : (files : List CodecFile) → addresses_of (codecs_in files) ≡ map (λ file. file.graph.address) files
addresses_opened [] = refl
addresses_opened (file ∷ files) = ap (λ (rest : List ℕ). file.graph.address ∷ rest) (addresses_opened files)

addresses-in : (files : List CodecFile) → map (λ file. file.graph.address) files ≡ graph_addresses (graphs_in files)
addresses-in [] = refl
addresses-in (file ∷ files) = ap (λ (rest : List ℕ). file.graph.address ∷ rest) (addresses-in files)

-- the lists of a sound machine are those of candidate pins of its codecs
pub heard_listed : (kind : PinKind) (machine : Machine) (lists : List Listing) → IsSound machine → AreListsAs kind (graphs_in machine.codecs) lists → AreHeardAs kind (codecs_in machine.codecs) lists
heard_listed kind machine lists sound listed k d within =
    let graphs : List RawCodec = graphs_in machine.codecs in
    let places : All (IsPlace kind graphs) (pins_of lists) =
    subst (All (IsPlace kind graphs)) (sym listed.pins)
    (places_candidate kind graphs listed.orders listed.ordered (AllPairs-from_increasing (graph_addresses graphs) (subst IsStrictlyIncreasing (addresses-in machine.codecs) sound.ascending))) in
    let listing : Listing = get_or lists k d in
    let inside : k < length (pins_of lists) = subst (λ (n : ℕ). k < n) (sym (length-map lists (λ (l : Listing). (l.codec, l.pin)))) within in
    let there : IsPlace kind graphs (get_or (pins_of lists) k (d.codec, d.pin)) = places k (d.codec, d.pin) inside in
    by_graphs kind (codecs_in machine.codecs) listing.codec listing.pin
    ∙ (ap (λ (list : List RawCodec). candidate_among kind list listing.codec listing.pin) (graphs-in machine.codecs)
    ∙ subst (IsPlace kind graphs) (get_or-map (λ (l : Listing). (l.codec, l.pin)) lists k d (d.codec, d.pin) within) there)

-- lists with other room
pub heard_reserved : (kind : PinKind) (codecs : List CodecState) (old new : List Listing) → map handed_out new ≡ map handed_out old → AreHeardAs kind codecs old → AreHeardAs kind codecs new
heard_reserved kind codecs old new same are k d within =
    let size : length new ≡ length old = sym (length-map new handed_out) ∙ (ap length same ∙ length-map old handed_out) in
    let inside : k < length old = subst (λ (n : ℕ). k < n) size within in
    let one : handed_out (get_or new k d) ≡ handed_out (get_or old k d) =
    sym (get_or-map handed_out new k d (handed_out d) within) ∙ (ap (λ (xs : List PinHeard). get_or xs k (handed_out d)) same ∙ get_or-map handed_out old k d (handed_out d) inside) in
    ap (λ (l : PinHeard). is_candidate_of_kind kind codecs l.codec l.pin) one ∙ are k d inside
