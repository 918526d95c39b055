-- Where an answer leads an agenda.
use Rattle.std.proofs.Common.{◌≡◌, ℕ, List, [], ◌∷◌, ◌++◌, Option, None, ap, ◌∙◌, Bool, true, false, if◌then◌else◌, sym, subst}
use Rattle.std.specs.Prelude.{IsSome, All, slice_get}
use Rattle.std.proofs.lemmas.List.Elements.{All-append, All-cons, All-nil}
use Rattle.codec_graph.specs.declared.raw.RawCodec.{RawCodec}
use Rattle.route_setup.specs.Means.{Means}
use Rattle.verb_codes.specs.declared.verbs.Command.{Command}
use Rattle.codec_walk.specs.declared.walk.Walk.{Walk}
use Rattle.codec_walk.specs.Dialogues.{Dialogue, Ask, Told, question}
use Rattle.codec_walk.specs.Walks.{unknown}
use Rattle.driver_agenda.specs.declared.agenda.Agenda.{Agenda}
use Rattle.driver_agenda.specs.Agendas.{next_of, GoesOn, WalksOn, LedByDialogue, GivesGraph}

pub walk_ends : (means : Means) (dialogue : Dialogue) (graph : RawCodec) (addresses : List ℕ) (graphs : List RawCodec) (new : Agenda)
    → GivesGraph dialogue graph → GoesOn means addresses (graphs ++ graph ∷ []) new → LedByDialogue means dialogue addresses graphs new
walk_ends means dialogue graph addresses graphs new (codec, told, good) goes =
    subst (λ (dialogue : Dialogue). LedByDialogue means dialogue addresses graphs new) (sym told) (record { graph = graph; good = good; goes_on = goes })

no_question : IsSome (question (Told (unknown 0))) → ⊥
no_question asks = cc

pub walks_on : (means : Means) (dialogue : Dialogue) (addresses : List ℕ) (graphs : List RawCodec) (new : Agenda)
    → IsSome (question dialogue) → WalksOn dialogue graphs new → LedByDialogue means dialogue addresses graphs new
walks_on means (Ask command rest) addresses graphs new asks on = on
walks_on means (Told codec) addresses graphs new asks on = absurd (no_question asks)

pub all_if : (P : RawCodec → Type 0) (pushed : Bool) (graphs : List RawCodec) (graph : RawCodec) → All P graphs → P graph → All P (if pushed then graphs ++ graph ∷ [] else graphs)
all_if P true graphs graph all one = All-append P graphs (graph ∷ []) all (All-cons P graph [] one (All-nil P))
all_if P false graphs graph all one = all

-- without a walk and without verbs nothing comes next
pub nothing_next : (walk : Option Walk) (verbs : List Command) (answered : ℕ) → walk ≡ None → verbs ≡ [] → next_of walk verbs answered ≡ None
nothing_next walk verbs answered no_walk no_verbs =
    ap (λ (walk : Option Walk). next_of walk verbs answered) no_walk ∙ ap (λ (verbs : List Command). slice_get verbs answered) no_verbs
