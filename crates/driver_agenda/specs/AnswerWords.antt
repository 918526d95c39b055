-- What the words that codecs answer come to, whatever they are: the codecs are walked one after the other, and once all
-- of them told a well-formed graph each is set up. This project's own.
use Rattle.std.specs.Prelude.{◌≡◌, ◌<◌, ◌≤◌, ◌⊎◌, ℕ, ◌+◌, true, false, List, [], ◌∷◌, ◌++◌, length, slice_index}
use Rattle.std.specs.Prelude.{Option, Some, None}
use Rattle.std.specs.List.{flat_map}
use Rattle.codec_graph.specs.declared.raw.RawCodec.{RawCodec}
use Rattle.route_planner.specs.declared.routes.Plan.{Plan}
use Rattle.route_setup.specs.Means.{Means}
use Rattle.codec_walk.specs.declared.walk.Walk.{Walk}
use Rattle.codec_walk.specs.declared.fault.WalkFault.{WalkFault}
use Rattle.codec_walk.specs.Dialogues.{Dialogue, asked, answered, after}
use Rattle.codec_walk.specs.Walks.{walk}
use Rattle.codec_walk.specs.Remaining.{remaining}
use Rattle.driver_agenda.specs.declared.agenda.Agenda.{Agenda}
use Rattle.driver_agenda.specs.Planned.{ArePlansBy, have_route}
use Rattle.driver_agenda.specs.Agendas.{GivesFault, GivesGraph}

-- ---- the walks

-- each of the words answers a command that the walk over the codec with this address asks
abbrev pub AreAsked : (address : ℕ) → (words : List ℕ) → Type 0
AreAsked address words = length (asked (walk address) words) ≡ length words

-- the words of the whole walk over a codec tell this graph, which is well-formed
pub record TellsGraph (address : ℕ) (words : List ℕ) (graph : RawCodec) : Type 0 where
  pub asked_for : AreAsked address words
  pub gives : GivesGraph (after (walk address) words) graph

-- the codecs from a place on were walked one after the other, and each one's words tell its graph
abbrev pub TellGraphs : (addresses : List ℕ) → (place : ℕ) → (walks : List (List ℕ)) → (graphs : List RawCodec) → Type 0
TellGraphs addresses place [] [] = Unit {0}
TellGraphs addresses place [] (graph ∷ graphs) = ⊥
TellGraphs addresses place (words ∷ walks) [] = ⊥
TellGraphs addresses place (words ∷ walks) (graph ∷ graphs) =
    TellsGraph (slice_index addresses place) words graph × TellGraphs addresses (place + 1) walks graphs

abbrev pub all_words : (walks : List (List ℕ)) → List ℕ
all_words walks = flat_map (λ (words : List ℕ). words) walks

-- the words are those of the walks over the codecs with these graphs, and of the walk over the next codec, of which
-- this is still to come
pub record WalkAfter (addresses words : List ℕ) (graphs : List RawCodec) (dialogue : Dialogue) : Type 0 where
  pub walks : List (List ℕ)
  pub rest : List ℕ
  pub split : words ≡ all_words walks ++ rest
  pub walked : TellGraphs addresses 0 walks graphs
  pub there : length graphs < length addresses
  pub asked_for : AreAsked (slice_index addresses (length graphs)) rest
  pub at : dialogue ≡ after (walk (slice_index addresses (length graphs))) rest

-- the words are those of the walks over all codecs
pub record AllWalked (addresses words : List ℕ) (graphs : List RawCodec) : Type 0 where
  pub walks : List (List ℕ)
  pub split : words ≡ all_words walks
  pub walked : TellGraphs addresses 0 walks graphs
  pub all : length graphs ≡ length addresses

-- ---- what the words come to

-- behind the walks over the codecs with these graphs they tell a codec with a fault: of a connection list, the one of
-- the least node identifier first, or else of the graph, its first one
pub record AreFaulty (addresses words : List ℕ) (graphs : List RawCodec) (codec : ℕ) (fault : WalkFault) : Type 0 where
  pub dialogue : Dialogue
  pub walk_after : WalkAfter addresses words graphs dialogue
  pub codec_is : codec ≡ slice_index addresses (length graphs)
  pub gives : GivesFault dialogue fault

-- all codecs told well-formed graphs, of which there is at least one, and no pin of their plans has a route
pub record AreUnrouted (means : Means) (addresses words : List ℕ) (graphs : List RawCodec) (plans : List Plan) : Type 0
  where
    pub some : 0 < length addresses
    pub walked : AllWalked addresses words graphs
    pub plans_are : ArePlansBy means.IsPlanBy graphs plans
    pub none : have_route plans ≡ false

-- all codecs told well-formed graphs, some pin of their plans has a route, and so many verbs were answered
pub record AreRouted (means : Means) (addresses words : List ℕ) (graphs : List RawCodec) (plans : List Plan) (verbs : ℕ)
    : Type 0 where
  pub before : List ℕ
  pub rest : List ℕ
  pub split : words ≡ before ++ rest
  pub walked : AllWalked addresses before graphs
  pub plans_are : ArePlansBy means.IsPlanBy graphs plans
  pub routed : have_route plans ≡ true
  pub count : length rest ≡ verbs

-- ---- an agenda

abbrev pub WasAnsweredBy : Means → (words : List ℕ) → Agenda → Option Walk → Type 0
WasAnsweredBy means words agenda (Some under_way) =
    WalkAfter agenda.addresses.items words agenda.graphs.items (remaining under_way)
WasAnsweredBy means words agenda None =
    AreRouted means agenda.addresses.items words agenda.graphs.items agenda.plans.items agenda.answered

-- these words led an agenda to where it stands
pub record WasAnswered (means : Means) (words : List ℕ) (agenda : Agenda) : Type 0 where
  pub is : WasAnsweredBy means words agenda agenda.walk

-- ---- an answer that leaves no pin a route

-- a dialogue told the last codec's graph, and these are plans of all graphs, of which none has a route
pub record GivesNoRoute (means : Means) (dialogue : Dialogue) (addresses : List ℕ) (graphs : List RawCodec)
    (plans : List Plan) : Type 0 where
  pub graph : RawCodec
  pub gives : GivesGraph dialogue graph
  pub last : length addresses ≤ length (graphs ++ graph ∷ [])
  pub plans_are : ArePlansBy means.IsPlanBy (graphs ++ graph ∷ []) plans
  pub none : have_route plans ≡ false

-- the walk that is under way did, by this answer
abbrev pub AnswersNoRoute : Means → Option Walk → (answer : ℕ) → (addresses : List ℕ) → (graphs : List RawCodec)
    → (plans : List Plan) → Type 0
AnswersNoRoute means None answer addresses graphs plans = ⊥
AnswersNoRoute means (Some under_way) answer addresses graphs plans =
    GivesNoRoute means (answered (remaining under_way) answer) addresses graphs plans

-- ---- where memory was wanting to take an answer

-- there are no plans, or those of the graphs
abbrev pub HasPlansOrNone : Means → Agenda → Type 0
HasPlansOrNone means agenda = (agenda.plans.items ≡ [])
    ⊎ ArePlansBy means.IsPlanBy agenda.graphs.items agenda.plans.items

-- there are none while a codec is left to be walked
abbrev pub HasPlansLast : Means → Agenda → Type 0
HasPlansLast means agenda = HasPlansOrNone means agenda
    × (length agenda.graphs.items < length agenda.addresses.items → agenda.plans.items ≡ [])

-- what is left: the graph that the answer told was kept or not, and the plans were made or not
pub record WasLeftBy (means : Means) (dialogue : Dialogue) (old new : Agenda) : Type 0 where
  pub graphs : (new.graphs.items ≡ old.graphs.items)
      ⊎ ((graph : RawCodec) × GivesGraph dialogue graph × (new.graphs.items ≡ old.graphs.items ++ graph ∷ []))
  pub plans : HasPlansLast means new

abbrev pub WasLeft : Means → Option Walk → (answer : ℕ) → (old new : Agenda) → Type 0
WasLeft means None answer old new = ⊥
WasLeft means (Some under_way) answer old new = WasLeftBy means (answered (remaining under_way) answer) old new

-- so the words are those of the walks over the codecs with the graphs that are left, and of the walk over the next
-- codec as far as it came
abbrev pub AreLeft : Means → (words : List ℕ) → Agenda → Type 0
AreLeft means words agenda =
    (((dialogue : Dialogue) × WalkAfter agenda.addresses.items words agenda.graphs.items dialogue)
    × (agenda.plans.items ≡ []))
    ⊎ (AllWalked agenda.addresses.items words agenda.graphs.items × HasPlansOrNone means agenda)
