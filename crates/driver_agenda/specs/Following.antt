-- How an agenda follows the commands of some codecs: their walks, one after the other, and then the verbs that set each
-- of them up. This project's own.
use Rattle.std.specs.Prelude.{◌≡◌, ◌<◌, ℕ, ◌+◌, true, List, ◌∷◌, ◌++◌, length, map, All, Contains, Option, Some, None}
use Rattle.std.specs.List.{flat_map}
use Rattle.verb_codes.specs.declared.verbs.Command.{Command}
use Rattle.codec_graph.specs.declared.raw.RawCodec.{RawCodec}
use Rattle.codec_graph.specs.Cycles.{IsWellFormed}
use Rattle.route_planner.specs.declared.routes.Plan.{Plan}
use Rattle.route_setup.specs.Means.{Means}
use Rattle.codec_walk.specs.declared.walk.Walk.{Walk}
use Rattle.codec_walk.specs.Dialogues.{after}
use Rattle.codec_walk.specs.Walks.{walk}
use Rattle.codec_walk.specs.Commands.{walk_commands}
use Rattle.codec_walk.specs.Replies.{CanAnswer, AreReplies}
use Rattle.codec_walk.specs.Remaining.{remaining}
use Rattle.driver_agenda.specs.declared.agenda.Agenda.{Agenda}
use Rattle.driver_agenda.specs.Planned.{ArePlansBy, have_route}

-- the commands of codecs with these graphs, where a graph's verbs are these
abbrev pub commands_of : (verbs : RawCodec → List Command) → List RawCodec → List Command
commands_of verbs graphs = flat_map walk_commands graphs ++ flat_map verbs graphs

-- the graphs are well-formed, each has these verbs by its plan, and some pin of some plan has a route
pub record AreRight (means : Means) (verbs : RawCodec → List Command) (graphs : List RawCodec) : Type 0 where
  pub well_formed : All IsWellFormed graphs
  pub verbs_are : All (λ (graph : RawCodec). (plan : Plan) → means.IsPlanBy graph plan
      → verbs graph ≡ means.verbs_by graph plan) graphs
  pub routed : (plans : List Plan) → ArePlansBy means.IsPlanBy graphs plans → have_route plans ≡ true

-- so many commands were answered, the last of them in the walk over a codec, which is not at its end
pub record FollowsWalk (graphs : List RawCodec) (count : ℕ) (agenda : Agenda) (under_way : Walk) : Type 0 where
  -- the codecs before it, it, and those after it; and its answers
  pub done : List RawCodec
  pub current : RawCodec
  pub rest : List RawCodec
  pub words : List ℕ
  pub split : graphs ≡ done ++ current ∷ rest
  pub graphs_are : agenda.graphs.items ≡ done
  pub at : remaining under_way ≡ after (walk current.address) words
  pub replies : AreReplies (CanAnswer current) (walk_commands current) words
  pub few : length words < length (walk_commands current)
  pub count_is : count ≡ length (flat_map walk_commands done) + length words

-- or all walks and some verbs
pub record FollowsVerbs (means : Means) (verbs : RawCodec → List Command) (graphs : List RawCodec) (count : ℕ)
    (agenda : Agenda) : Type 0 where
  pub graphs_are : agenda.graphs.items ≡ graphs
  pub plans : ArePlansBy means.IsPlanBy graphs agenda.plans.items
  pub verbs_are : agenda.verbs.items ≡ flat_map verbs graphs
  pub count_is : count ≡ length (flat_map walk_commands graphs) + agenda.answered

abbrev pub FollowsBy : Means → (RawCodec → List Command) → List RawCodec → ℕ → Agenda → Option Walk → Type 0
FollowsBy means verbs graphs count agenda (Some under_way) = FollowsWalk graphs count agenda under_way
FollowsBy means verbs graphs count agenda None = FollowsVerbs means verbs graphs count agenda

-- an agenda for codecs with these graphs, of whose commands so many were answered
pub record Follows (means : Means) (verbs : RawCodec → List Command) (graphs : List RawCodec) (count : ℕ)
    (agenda : Agenda) : Type 0 where
  pub addresses : agenda.addresses.items ≡ map (λ (graph : RawCodec). graph.address) graphs
  pub stands : FollowsBy means verbs graphs count agenda agenda.walk

-- the codec that is asked can give this answer
abbrev pub CanReply : List RawCodec → Command → ℕ → Type 0
CanReply graphs command answer = (graph : RawCodec) → Contains graphs graph → graph.address ≡ command.codec
    → CanAnswer graph command answer
