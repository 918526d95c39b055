-- The words that codecs answered to a bring-up until now, and what they came to: on every platform, also where what is
-- answered is a lie. This project's own.
use Rattle.std.specs.Prelude.{◌≡◌, ◌⊎◌, ℕ, List, [], ◌∷◌, ◌++◌, Option, Some, None}
use Rattle.codec_graph.specs.declared.raw.RawCodec.{RawCodec}
use Rattle.route_planner.specs.declared.routes.Plan.{Plan}
use Rattle.codec_walk.specs.declared.fault.WalkFault.{WalkFault}
use Rattle.route_setup.specs.Means.{Means}
use Rattle.driver_agenda.specs.declared.agenda.Agenda.{Agenda}
use Rattle.driver_agenda.specs.AnswerWords.{WasAnswered, AreFaulty, AreUnrouted, AreLeft}
use Rattle.driver_progress.specs.declared.phase.Phase.{Phase}
use Rattle.driver_progress.specs.declared.phase.Phase.TheVariants.{Reset, Settling, Walking, SettingUp, Ready, Playing}
use Rattle.driver_progress.specs.declared.phase.Phase.TheVariants.{Drained, NothingRouted, Unanswered, Late, Malformed}
use Rattle.driver_progress.specs.declared.phase.Phase.TheVariants.{Failed}
use Rattle.driver_bring_up.specs.declared.bringing.BringUp.{BringUp}

-- with one more, if one was answered
abbrev pub with_answer : (words : List ℕ) → Option ℕ → List ℕ
with_answer words None = words
with_answer words (Some word) = words ++ word ∷ []

-- nothing was answered, and no codec walked
pub record IsUnasked (words : List ℕ) (agenda : Agenda) : Type 0 where
  pub words_are : words ≡ []
  pub graphs : agenda.graphs.items ≡ []
  pub plans : agenda.plans.items ≡ []

-- The words led to this phase, with the graphs and plans of this agenda. From `Walking` to `Ready`, while sound plays
-- and once it is over, and also where a command had no answer, they led the agenda to where it stands. `Malformed`:
-- those of this codec have this fault, and those of the codecs before it told the graphs; there are no plans.
-- `NothingRouted`: those of all codecs told the graphs, and no plan of them has a route. `Failed`: the first of them
-- told the graphs, and there are no plans, or all codecs told theirs and the plans are those of the graphs.
abbrev pub WereAnsweredIn : Means → (words : List ℕ) → Agenda → Phase → Type 0
WereAnsweredIn means words agenda Reset = IsUnasked words agenda
WereAnsweredIn means words agenda Settling = IsUnasked words agenda
WereAnsweredIn means words agenda Walking = WasAnswered means words agenda
WereAnsweredIn means words agenda SettingUp = WasAnswered means words agenda
WereAnsweredIn means words agenda Ready = WasAnswered means words agenda
WereAnsweredIn means words agenda Playing = WasAnswered means words agenda
WereAnsweredIn means words agenda Drained = WasAnswered means words agenda
WereAnsweredIn means words agenda (Late from to limit) = WasAnswered means words agenda
WereAnsweredIn means words agenda (Unanswered codec command issued noticed) = WasAnswered means words agenda
WereAnsweredIn means words agenda NothingRouted =
    AreUnrouted means agenda.addresses.items words agenda.graphs.items agenda.plans.items
WereAnsweredIn means words agenda (Malformed codec fault) =
    AreFaulty agenda.addresses.items words agenda.graphs.items codec fault × (agenda.plans.items ≡ [])
WereAnsweredIn means words agenda Failed = IsUnasked words agenda ⊎ AreLeft means words agenda

-- the words that were answered to a bring-up until now are these
pub record WereAnswered (means : Means) (words : List ℕ) (bring_up : BringUp) : Type 0 where
  pub is : WereAnsweredIn means words bring_up.agenda bring_up.phase

-- ---- where words lead that end what is to be done

-- words that tell this fault of this codec, behind these graphs, lead just there, or memory was wanting
abbrev pub EndsFaulty : (codec : ℕ) → WalkFault → (graphs : List RawCodec) → Agenda → Phase → Type 0
EndsFaulty codec fault graphs agenda phase =
    ((phase ≡ Malformed codec fault) × (agenda.graphs.items ≡ graphs)) ⊎ (phase ≡ Failed)

-- and so do words that tell these graphs of all codecs, where no pin of these plans has a route
abbrev pub EndsUnrouted : (graphs : List RawCodec) → (plans : List Plan) → Agenda → Phase → Type 0
EndsUnrouted graphs plans agenda phase =
    ((phase ≡ NothingRouted) × (agenda.graphs.items ≡ graphs) × (agenda.plans.items ≡ plans)) ⊎ (phase ≡ Failed)
