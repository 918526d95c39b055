-- Where an agenda stands, and where an answer leads it. This project's own.
use Rattle.std.specs.Prelude.{◌≡◌, ◌<◌, ◌≤◌, ℕ, ◌+◌, true, false, List, [], ◌∷◌, ◌++◌, length, slice_get, slice_index}
use Rattle.std.specs.Prelude.{Option, Some, None}
use Rattle.verb_codes.specs.declared.verbs.Command.{Command}
use Rattle.codec_graph.specs.declared.raw.RawCodec.{RawCodec}
use Rattle.route_setup.specs.Means.{Means}
use Rattle.codec_walk.specs.declared.walk.Walk.{Walk}
use Rattle.codec_walk.specs.declared.fault.WalkFault.{WalkFault}
use Rattle.codec_walk.specs.Dialogues.{Dialogue, Ask, Told, question, answered}
use Rattle.codec_walk.specs.Walks.{walk}
use Rattle.codec_walk.specs.Outcomes.{IsGood, IsFaultOf}
use Rattle.codec_walk.specs.Remaining.{remaining}
use Rattle.driver_agenda.specs.declared.agenda.Agenda.{Agenda}
use Rattle.driver_agenda.specs.Planned.{ArePlansBy, verbs_for, have_route}

-- the command that comes next: the question of the walk that is under way, or the verb after those that were answered
abbrev pub next_of : Option Walk → (verbs : List Command) → (answered : ℕ) → Option Command
next_of (Some walk) verbs answered = question (remaining walk)
next_of None verbs answered = slice_get verbs answered

-- the walk over the codec of this place is at its beginning
pub record BeginsWalk (addresses : List ℕ) (graphs : List RawCodec) (agenda : Agenda) : Type 0 where
  pub under_way : Walk
  pub is : agenda.walk ≡ Some under_way
  pub begins : remaining under_way ≡ walk (slice_index addresses (length graphs))
  pub graphs_are : agenda.graphs.items ≡ graphs

-- all codecs were walked, some pin of their plans has a route, and their verbs come
pub record BeginsVerbs (means : Means) (graphs : List RawCodec) (agenda : Agenda) : Type 0 where
  pub no_walk : agenda.walk ≡ None
  pub graphs_are : agenda.graphs.items ≡ graphs
  pub plans : ArePlansBy means.IsPlanBy graphs agenda.plans.items
  pub routed : have_route agenda.plans.items ≡ true
  pub verbs : agenda.verbs.items ≡ verbs_for means.verbs_by graphs agenda.plans.items
  pub none : agenda.answered ≡ 0

-- no pin of any plan has a route
pub record RoutesNothing (means : Means) (graphs : List RawCodec) (agenda : Agenda) : Type 0 where
  pub graphs_are : agenda.graphs.items ≡ graphs
  pub plans : ArePlansBy means.IsPlanBy graphs agenda.plans.items
  pub none : have_route agenda.plans.items ≡ false

-- what comes once these codecs were walked: the walk over the next codec, or where none is left the verbs
abbrev pub GoesOn : Means → (addresses : List ℕ) → List RawCodec → Agenda → Type 0
GoesOn means addresses graphs agenda =
    (length graphs < length addresses → BeginsWalk addresses graphs agenda)
    × (length addresses ≤ length graphs → BeginsVerbs means graphs agenda)

-- a walk goes on after an answer
pub record WalksOn (dialogue : Dialogue) (graphs : List RawCodec) (new : Agenda) : Type 0 where
  pub under_way : Walk
  pub is : new.walk ≡ Some under_way
  pub goes_on : remaining under_way ≡ dialogue
  pub graphs_are : new.graphs.items ≡ graphs

-- it told these words, which are those of a well-formed graph, and what comes after it goes on
pub record WalkEnds (means : Means) (codec : RawCodec) (addresses : List ℕ) (graphs : List RawCodec) (new : Agenda)
    : Type 0 where
  pub graph : RawCodec
  pub good : IsGood codec graph
  pub goes_on : GoesOn means addresses (graphs ++ graph ∷ []) new

-- where an answer leads, by what the walk is after it
abbrev pub LedByDialogue : Means → Dialogue → (addresses : List ℕ) → (graphs : List RawCodec) → (new : Agenda) → Type 0
LedByDialogue means (Ask command rest) addresses graphs new = WalksOn (Ask command rest) graphs new
LedByDialogue means (Told codec) addresses graphs new = WalkEnds means codec addresses graphs new

-- one verb more was answered
pub record VerbAnswered (old new : Agenda) : Type 0 where
  pub no_walk : new.walk ≡ None
  pub graphs : new.graphs.items ≡ old.graphs.items
  pub plans : new.plans.items ≡ old.plans.items
  pub verbs : new.verbs.items ≡ old.verbs.items
  pub one_more : new.answered ≡ old.answered + 1

abbrev pub LedBy : Means → Option Walk → (answer : ℕ) → (old new : Agenda) → Type 0
LedBy means (Some under_way) answer old new =
    LedByDialogue means (answered (remaining under_way) answer) old.addresses.items old.graphs.items new
LedBy means None answer old new = VerbAnswered old new

-- ---- why it ends

-- a dialogue told words that have this fault
abbrev pub GivesFault : Dialogue → WalkFault → Type 0
GivesFault dialogue fault = (codec : RawCodec) × (dialogue ≡ Told codec) × IsFaultOf codec fault

-- the walk that is under way did, by this answer
abbrev pub TellsFault : Option Walk → (answer : ℕ) → WalkFault → Type 0
TellsFault None answer fault = ⊥
TellsFault (Some under_way) answer fault = GivesFault (answered (remaining under_way) answer) fault

-- a dialogue told words that are those of this well-formed graph
abbrev pub GivesGraph : Dialogue → RawCodec → Type 0
GivesGraph dialogue graph = (codec : RawCodec) × (dialogue ≡ Told codec) × IsGood codec graph

-- a dialogue told the last codec's words, and no plan has a route
pub record EndsLast (means : Means) (dialogue : Dialogue) (addresses : List ℕ) (graphs : List RawCodec) (new : Agenda)
    : Type 0 where
  pub graph : RawCodec
  pub gives : GivesGraph dialogue graph
  pub last : length addresses ≤ length (graphs ++ graph ∷ [])
  pub nothing : RoutesNothing means (graphs ++ graph ∷ []) new

-- the walk that is under way did, by this answer
abbrev pub TellsNoRoute : Means → Option Walk → (answer : ℕ) → (addresses : List ℕ) → (graphs : List RawCodec)
    → (new : Agenda) → Type 0
TellsNoRoute means None answer addresses graphs new = ⊥
TellsNoRoute means (Some under_way) answer addresses graphs new =
    EndsLast means (answered (remaining under_way) answer) addresses graphs new
