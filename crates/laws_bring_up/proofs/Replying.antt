-- An answer that came to a walk's command is one that the codec's graph can give.
use Rattle.std.proofs.Common.{◌≡◌, ◌≤◌, ◌<◌, ◌+◌, ◌^◌, ◌==◌, ℕ, zero, suc, Bool, true, false, List, [], ◌∷◌, ◌++◌, map, length, if◌then◌else◌, Option, Some, refl, sym, ap, subst, ◌∙◌, arith, rules, tests}
use Rattle.std.specs.Prelude.{All, Contains, take, drop, get_or, slice_get}
use Rattle.std.specs.List.{flat_map}
use Rattle.std.specs.Option.{option_map}
use Rattle.std.proofs.Math.Nat.{mod-eq_of_lt}
use Rattle.std.proofs.lemmas.List.{length-map, map-append, take-append-le, drop-drop}
use Rattle.std.proofs.lemmas.List.Elements.{All-nil, All-append, All-head, All-tail, All-take, All-contains, All-from_get_or, All-get_or}
use Rattle.std.proofs.lemmas.Option.{slice_get-map, slice_get_within, slice_get-get_or, same_Some}
use Rattle.verb_codes.specs.declared.verbs.Command.{Command}
use Rattle.verb_codes.specs.Verbs.{IsInRange, word_of, reading_of}
use Rattle.codec_graph.specs.declared.raw.RawCodec.{RawCodec}
use Rattle.codec_graph.specs.Cycles.{IsWellFormed}
use Rattle.codec_graph.specs.CodecStates.{CodecState}
use Rattle.codec_graph.proofs.Callers.{answer_of-narrow}
use Rattle.codec_walk.specs.Commands.{walk_commands}
use Rattle.codec_walk.specs.Replies.{CanAnswer}
use Rattle.hda_world.specs.Worlds.{World}
use Rattle.command_engine.specs.declared.answers.Outstanding.{Outstanding}
use Rattle.command_engine.specs.Belonging.{IsAnswered}
use Rattle.command_engine.specs.Fetchings.{AscendFrom, graphs_in, graph_at}
use Rattle.driver_agenda.specs.Following.{commands_of, CanReply}
use Rattle.laws_settings.specs.Histories.{Remembers, words_of}
use Rattle.laws_settings.specs.Readings.{IsReading, KeepsDefaults}
use Rattle.laws_settings.proofs.Callers.{reading_of-complete, reply_after, walk_in_range, walks_read}
use Rattle.driver_progress.specs.Tasks.{Order, order_of}
use Rattle.laws_bring_up.proofs.Grows.{part_last}

-- ---- codecs by address

abbrev IsLow : RawCodec → Type 0
IsLow graph = graph.address ≤ 14

pub all_low : (from : ℕ) (graphs : List RawCodec) → AscendFrom from graphs → All (λ (graph : RawCodec). graph.address ≤ 14) graphs
all_low from [] ascend = All-nil IsLow
all_low from (graph ∷ graphs) ascend = All-append IsLow (graph ∷ []) graphs (All-from_get_or IsLow (graph ∷ []) graph (λ i less. one i less)) (all_low (graph.address + 1) graphs ascend.2)
  where
    one : (i : ℕ) → i < 1 → IsLow (get_or (graph ∷ []) i graph)
    one zero less = ascend.1
    one (suc i) less = absurd (omega (arith, less))

pub same_address : (a : ℕ) → (a == a) ≡ true
same_address a = search (rules, tests)

pub other_address : (a b : ℕ) → a < b → (a == b) ≡ false
other_address a b less = search (rules, tests)

-- the graph at a place is the one that is found at its address
pub at_place : (from : ℕ) (graphs : List RawCodec) (k : ℕ) (d : RawCodec) → AscendFrom from graphs → k < length graphs
    → (from ≤ (get_or graphs k d).address) × (graph_at (get_or graphs k d).address graphs ≡ Some (get_or graphs k d))
at_place from [] k d ascend less = absurd (omega (arith, less))
at_place from (graph ∷ graphs) zero d ascend less =
    (ascend.0, ap (λ (is : Bool). if is then Some graph else graph_at graph.address graphs) (same_address graph.address))
at_place from (graph ∷ graphs) (suc k) d ascend less =
    let later = at_place (graph.address + 1) graphs k d ascend.2 (omega (arith, less)) in
    let low = ascend.0 in
    let above = later.0 in
    let found = get_or graphs k d in
    (omega (arith, low, above), ap (λ (is : Bool). if is then Some graph else graph_at found.address graphs) (other_address graph.address found.address (omega (arith, above))) ∙ later.1)

pub found_there : (graphs : List RawCodec) (graph : RawCodec) → AscendFrom 0 graphs → Contains graphs graph → graph_at graph.address graphs ≡ Some graph
found_there graphs graph ascend contains =
    subst (λ (graph : RawCodec). graph_at graph.address graphs ≡ Some graph) contains.2 (at_place 0 graphs contains.0 graph ascend contains.1).1

-- ---- the commands of walks

all_in_range : (graphs : List RawCodec) → All IsWellFormed graphs → All IsLow graphs → All IsInRange (flat_map walk_commands graphs)
all_in_range [] well low = All-nil IsInRange
all_in_range (graph ∷ graphs) well low =
    All-append IsInRange (walk_commands graph) (flat_map walk_commands graphs) (walk_in_range graph (All-head IsWellFormed graph graphs well) (All-head IsLow graph graphs low))
    (all_in_range graphs (All-tail IsWellFormed graph graphs well) (All-tail IsLow graph graphs low))

-- an element of the front
front_get : {A : Type 0} (front back : List A) (n : ℕ) (d : A) → n < length front → slice_get (front ++ back) n ≡ slice_get front n
front_get {A} [] back n d less = absurd (omega (arith, less))
front_get {A} (first ∷ front) back zero d less = refl
front_get {A} (first ∷ front) back (suc n) d less = front_get front back n d (omega (arith, less))

element : {A : Type 0} (P : A → Type 0) (items : List A) (n : ℕ) (item : A) → All P items → slice_get items n ≡ Some item → P item
element {A} P items n item all is =
    let within = slice_get_within items n item is in
    subst P (same_Some (get_or items n item) item (sym (slice_get-get_or items n item within) ∙ is)) (All-get_or P items n item within all)

pub words_mapped : (commands : List Command) → map (λ (order : Order). order.word) (map order_of commands) ≡ map word_of commands
words_mapped [] = refl
words_mapped (command ∷ commands) = ap (λ (words : List ℕ). word_of command ∷ words) (words_mapped commands)

take_mapped : {A B : Type 0} (f : A → B) (n : ℕ) (items : List A) → map f (take n items) ≡ take n (map f items)
take_mapped {A} {B} f zero items = refl
take_mapped {A} {B} f (suc n) [] = refl
take_mapped {A} {B} f (suc n) (item ∷ items) = ap (λ (rest : List B). f item ∷ rest) (take_mapped f n items)

-- the words of the first commands, while these are the walks'
walk_words : (verbs : RawCodec → List Command) (graphs : List RawCodec) (answers : ℕ) → answers ≤ length (flat_map walk_commands graphs)
    → map (λ (order : Order). order.word) (take answers (map order_of (commands_of verbs graphs))) ≡ take answers (map word_of (flat_map walk_commands graphs))
walk_words verbs graphs answers few =
    let walks = flat_map walk_commands graphs in
    let long = length-map walks word_of in
    take_mapped (λ (order : Order). order.word) answers (map order_of (commands_of verbs graphs))
    ∙ ap (λ (words : List ℕ). take answers words) (words_mapped (commands_of verbs graphs) ∙ map-append word_of walks (flat_map verbs graphs))
    ∙ take-append-le answers (map word_of walks) (map word_of (flat_map verbs graphs)) (omega (arith, few, long))

-- ---- the answer

-- what is known of the codecs and of what they took
pub record AreKnown (verbs : RawCodec → List Command) (graphs : List RawCodec) (orders : List Order) (answers begun : ℕ) (start : List CodecState) (world : World) : Type 0 where
  pub well_formed : All IsWellFormed graphs
  pub ascend : AscendFrom 0 graphs
  pub graphs_are : graphs_in world.codecs ≡ graphs
  pub orders_are : orders ≡ map order_of (commands_of verbs graphs)
  pub defaults : All KeepsDefaults start
  pub remembers : Remembers start begun world
  pub words : words_of (take answers (drop begun world.commands)) ≡ map (λ (order : Order). order.word) (take answers orders)

asked_is : (verbs : RawCodec → List Command) (graphs : List RawCodec) (orders : List Order) (answers : ℕ) (order : Order) (asked : Command) → orders ≡ map order_of (commands_of verbs graphs) → slice_get orders answers ≡ Some order
    → slice_get (commands_of verbs graphs) answers ≡ Some asked → order ≡ order_of asked
asked_is verbs graphs orders answers order asked are there is =
    same_Some order (order_of asked) (sym there ∙ ap (λ (orders : List Order). slice_get orders answers) are ∙ slice_get-map order_of (commands_of verbs graphs) answers
    ∙ ap (λ (command : Option Command). option_map order_of command) is)

pub can_reply : (verbs : RawCodec → List Command) (graphs : List RawCodec) (orders : List Order) (answers begun : ℕ) (start : List CodecState) (world : World) (command : Outstanding) (value : ℕ)
    → AreKnown verbs graphs orders answers begun start world → slice_get orders answers ≡ Some (record { codec = command.codec; word = command.word })
    → IsAnswered (begun + answers) command world.codecs world.commands value
    → answers < length (flat_map walk_commands graphs) → (asked : Command) → slice_get (commands_of verbs graphs) answers ≡ Some asked → CanReply graphs asked value
can_reply verbs graphs orders answers begun start world command value known there is few asked asked_there graph contains at =
    let taken = is.taken in
    let walks = flat_map walk_commands graphs in
    let low = all_low 0 graphs known.ascend in
    let order = asked_is verbs graphs orders answers (record { codec = command.codec; word = command.word }) asked known.orders_are there asked_there in
    let last = part_last answers (drop begun world.commands) taken (drop-drop answers begun world.commands ∙ is.only) in
    let words = known.words ∙ ap (λ (orders : List Order). map (λ (order : Order). order.word) (take answers orders)) known.orders_are ∙ walk_words verbs graphs answers (omega (arith, few)) in
    let readings = subst (All IsReading) (sym words) (All-take IsReading answers (map word_of walks) (walks_read graphs known.well_formed low)) in
    let in_range = element IsInRange walks answers asked (all_in_range graphs known.well_formed low) (sym (front_get walks (flat_map verbs graphs) answers asked few) ∙ asked_there) in
    let reads = ap reading_of (is.word ∙ ap (λ (order : Order). order.word) order) ∙ reading_of-complete asked in_range in
    let can = reply_after start begun world answers taken asked known.remembers known.defaults last.0 readings reads in
    let codec = ap (λ (order : Order). order.codec) order ∙ sym at in
    let same = same_Some taken.codec.graph graph (sym is.graph ∙ ap (λ (graphs : List RawCodec). graph_at command.codec graphs) known.graphs_are
    ∙ ap (λ (address : ℕ). graph_at address graphs) codec ∙ found_there graphs graph known.ascend contains) in
    let well = subst IsWellFormed (sym same) (All-contains IsWellFormed graphs graph known.well_formed contains) in
    let narrow = subst (λ (value : ℕ). value < 2 ^ 32) (sym can.is_answer) (answer_of-narrow taken.codec.graph can.settings can.present asked well can.are_settings) in
    let whole = is.answer ∙ mod-eq_of_lt narrow in
    subst (λ (graph : RawCodec). CanAnswer graph asked value) same (subst (λ (value : ℕ). CanAnswer taken.codec.graph asked value) (sym whole) can)
