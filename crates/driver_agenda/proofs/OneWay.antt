-- Words that codecs answered are cut into walks in one way, and so come to one thing at most.
use Rattle.std.proofs.Common.{◌≡◌, ◌<◌, ◌⊎◌, ◌+◌, ℕ, suc, List, [], ◌∷◌, ◌++◌, length, Option, Some, None, inl, inr, refl, sym, ap, subst, ◌∙◌, append_assoc, append-nil, arith}
use Rattle.std.specs.Prelude.{slice_index, IsSome}
use Rattle.std.proofs.lemmas.List.{length-append}
use Rattle.verb_codes.specs.declared.verbs.Command.{Command}
use Rattle.codec_graph.specs.declared.raw.RawCodec.{RawCodec}
use Rattle.route_planner.specs.declared.routes.Plan.{Plan}
use Rattle.route_setup.specs.Means.{Means}
use Rattle.codec_walk.specs.declared.fault.WalkFault.{WalkFault}
use Rattle.codec_walk.specs.Dialogues.{Dialogue, Ask, Told, question, asked, after}
use Rattle.codec_walk.specs.Walks.{walk}
use Rattle.codec_walk.specs.declared.walk.Walk.{Walk}
use Rattle.codec_walk.specs.Remaining.{remaining}
use Rattle.driver_agenda.specs.Agendas.{GivesFault, GivesGraph}
use Rattle.driver_agenda.specs.Planned.{ArePlansBy, have_route}
use Rattle.driver_agenda.specs.declared.agenda.Agenda.{Agenda}
use Rattle.driver_agenda.specs.AnswerWords.{AreAsked, TellsGraph, TellGraphs, all_words, WalkAfter, AllWalked, AreFaulty, AreUnrouted, AreRouted, WasAnsweredBy, WasAnswered}
use Rattle.driver_agenda.proofs.Following.{AreOne}
use Rattle.driver_agenda.proofs.Answering.{one_fault, good_or_faulty, one_graph, HasOnePlan, plans_alike, routes_or_not}
use Rattle.driver_agenda.proofs.Telling.{asks_first}

-- ---- once a codec was told nothing is asked

asked_told : (codec : RawCodec) (words : List ℕ) → length (asked (Told codec) words) ≡ 0
asked_told codec [] = refl
asked_told codec (word ∷ words) = asked_told codec words

never_told : (command : Command) (rest : ℕ → Dialogue) (codec : RawCodec) → Ask command rest ≡ Told codec → ⊥
never_told command rest codec is = cc

asked_no_more : (dialogue : Dialogue) (words more : List ℕ) (codec : RawCodec) → after dialogue words ≡ Told codec → length (asked dialogue (words ++ more)) ≡ length (asked dialogue words)
asked_no_more (Told other) [] more codec told = asked_told other more
asked_no_more (Ask command rest) [] more codec told = absurd (never_told command rest codec told)
asked_no_more (Told other) (word ∷ words) more codec told = asked_no_more (Told other) words more codec told
asked_no_more (Ask command rest) (word ∷ words) more codec told = ap suc (asked_no_more (rest word) words more codec told)

none_long : (more : List ℕ) → length more ≡ 0 → more ≡ []
none_long [] is = refl
none_long (word ∷ more) is = absurd (omega (arith, is))

-- words of which each is asked for, of which the first tell a codec, are these first ones
front : (address : ℕ) (words more : List ℕ) (graph : RawCodec) → TellsGraph address words graph → AreAsked address (words ++ more) → more ≡ []
front address words more graph tells asked_for =
    let (codec, told, good) = tells.gives in
    let none = asked_no_more (walk address) words more codec told in
    let long = length-append words more in
    let all = tells.asked_for in
    none_long more (omega (arith, none, long, asked_for, all))

-- ---- two ways to put words together

prefix : (xs ys xs' ys' : List ℕ) → xs ++ ys ≡ xs' ++ ys' → ((more : List ℕ) × (xs' ≡ xs ++ more) × (ys ≡ more ++ ys')) ⊎ ((more : List ℕ) × (xs ≡ xs' ++ more) × (ys' ≡ more ++ ys))
prefix [] ys xs' ys' is = inl (xs', refl, is)
prefix (x ∷ xs) ys [] ys' is = inr (x ∷ xs, refl, sym is)
prefix (x ∷ xs) ys (x' ∷ xs') ys' is = by (prefix xs ys xs' ys' rest)
  where
    same : x ≡ x'
    same = cc

    rest : xs ++ ys ≡ xs' ++ ys'
    rest = cc

    by : ((more : List ℕ) × (xs' ≡ xs ++ more) × (ys ≡ more ++ ys')) ⊎ ((more : List ℕ) × (xs ≡ xs' ++ more) × (ys' ≡ more ++ ys))
        → ((more : List ℕ) × (x' ∷ xs' ≡ (x ∷ xs) ++ more) × (ys ≡ more ++ ys')) ⊎ ((more : List ℕ) × (x ∷ xs ≡ (x' ∷ xs') ++ more) × (ys' ≡ more ++ ys))
    by (inl (more, first, second)) = inl (more, ap (λ (all : List ℕ). x' ∷ all) first ∙ ap (λ (word : ℕ). word ∷ (xs ++ more)) (sym same), second)
    by (inr (more, first, second)) = inr (more, ap (λ (all : List ℕ). x ∷ all) first ∙ ap (λ (word : ℕ). word ∷ (xs' ++ more)) same, second)

-- the first walks of both are the same, and so is what follows
first_same : (address : ℕ) (words words' rest rest' : List ℕ) (graph graph' : RawCodec) → TellsGraph address words graph → TellsGraph address words' graph' → words ++ rest ≡ words' ++ rest'
    → (words ≡ words') × (rest ≡ rest')
first_same address words words' rest rest' graph graph' tells tells' is = by (prefix words rest words' rest' is)
  where
    by : ((more : List ℕ) × (words' ≡ words ++ more) × (rest ≡ more ++ rest')) ⊎ ((more : List ℕ) × (words ≡ words' ++ more) × (rest' ≡ more ++ rest)) → (words ≡ words') × (rest ≡ rest')
    by (inl (more, first, second)) =
        let none = front address words more graph tells (subst (AreAsked address) first tells'.asked_for) in
        (sym (first ∙ ap (λ (more : List ℕ). words ++ more) none ∙ append-nil words), second ∙ ap (λ (more : List ℕ). more ++ rest') none)
    by (inr (more, first, second)) =
        let none = front address words' more graph' tells' (subst (AreAsked address) first tells.asked_for) in
        (first ∙ ap (λ (more : List ℕ). words' ++ more) none ∙ append-nil words', sym (second ∙ ap (λ (more : List ℕ). more ++ rest) none))

-- ---- the walks

-- a dialogue that does not tell a well-formed graph: it asks on, or tells a fault
abbrev pub NeverGives : Dialogue → Type 0
NeverGives dialogue = (graph : RawCodec) → GivesGraph dialogue graph → ⊥

-- words that begin with those of a whole walk are not those of a walk that is under way, or that told a fault
not_whole : (address : ℕ) (words rest more : List ℕ) (graph : RawCodec) → TellsGraph address words graph → AreAsked address rest → rest ≡ words ++ more → NeverGives (after (walk address) rest) → ⊥
not_whole address words rest more graph tells asked_for is never =
    let none = front address words more graph tells (subst (AreAsked address) is asked_for) in
    let same : rest ≡ words = is ∙ ap (λ (more : List ℕ). words ++ more) none ∙ append-nil words in
    never graph (subst (λ (words : List ℕ). GivesGraph (after (walk address) words) graph) (sym same) tells.gives)

at_nothing : (addresses : List ℕ) (place : ℕ) (P : ℕ → Type 0) → P (slice_index addresses (place + 0)) → P (slice_index addresses place)
at_nothing addresses place P is = subst (λ (at : ℕ). P (slice_index addresses at)) (let same : place + 0 ≡ place = omega arith in same) is

at_next : (addresses : List ℕ) (place long : ℕ) (P : ℕ → Type 0) → P (slice_index addresses (place + suc long)) → P (slice_index addresses (place + 1 + long))
at_next addresses place long P is = subst (λ (at : ℕ). P (slice_index addresses at)) (let same : place + suc long ≡ place + 1 + long = omega arith in same) is

pub one_way : (addresses : List ℕ) (place : ℕ) (walks walks' : List (List ℕ)) (graphs graphs' : List RawCodec) (rest rest' : List ℕ) → TellGraphs addresses place walks graphs → TellGraphs addresses place walks' graphs'
    → AreAsked (slice_index addresses (place + length graphs)) rest → AreAsked (slice_index addresses (place + length graphs')) rest'
    → NeverGives (after (walk (slice_index addresses (place + length graphs))) rest) → NeverGives (after (walk (slice_index addresses (place + length graphs'))) rest')
    → all_words walks ++ rest ≡ all_words walks' ++ rest' → (graphs ≡ graphs') × (rest ≡ rest')
one_way addresses place [] [] [] [] rest rest' walked walked' asked_for asked_for' never never' is = (refl, is)
one_way addresses place [] walks' (graph ∷ graphs) graphs' rest rest' walked walked' asked_for asked_for' never never' is = absurd walked
one_way addresses place (words ∷ walks) walks' [] graphs' rest rest' walked walked' asked_for asked_for' never never' is = absurd walked
one_way addresses place [] [] [] (graph' ∷ graphs') rest rest' walked walked' asked_for asked_for' never never' is = absurd walked'
one_way addresses place [] (words' ∷ walks') [] [] rest rest' walked walked' asked_for asked_for' never never' is = absurd walked'
one_way addresses place [] (words' ∷ walks') [] (graph' ∷ graphs') rest rest' walked walked' asked_for asked_for' never never' is =
    absurd (not_whole (slice_index addresses place) words' rest (all_words walks' ++ rest') graph' walked'.0 (at_nothing addresses place (λ (address : ℕ). AreAsked address rest) asked_for)
    (is ∙ append_assoc words' (all_words walks') rest') (at_nothing addresses place (λ (address : ℕ). NeverGives (after (walk address) rest)) never))
one_way addresses place (words ∷ walks) [] (graph ∷ graphs) (graph' ∷ graphs') rest rest' walked walked' asked_for asked_for' never never' is = absurd walked'
one_way addresses place (words ∷ walks) (words' ∷ walks') (graph ∷ graphs) [] rest rest' walked walked' asked_for asked_for' never never' is = absurd walked'
one_way addresses place (words ∷ walks) [] (graph ∷ graphs) [] rest rest' walked walked' asked_for asked_for' never never' is =
    absurd (not_whole (slice_index addresses place) words rest' (all_words walks ++ rest) graph walked.0 (at_nothing addresses place (λ (address : ℕ). AreAsked address rest') asked_for')
    (sym is ∙ append_assoc words (all_words walks) rest) (at_nothing addresses place (λ (address : ℕ). NeverGives (after (walk address) rest')) never'))
one_way addresses place (words ∷ walks) (words' ∷ walks') (graph ∷ graphs) (graph' ∷ graphs') rest rest' walked walked' asked_for asked_for' never never' is =
    let address = slice_index addresses place in
    let (first, later) = first_same address words words' (all_words walks ++ rest) (all_words walks' ++ rest') graph graph' walked.0 walked'.0
    (sym (append_assoc words (all_words walks) rest) ∙ is ∙ append_assoc words' (all_words walks') rest') in
    let same : graph ≡ graph' = one_graph (after (walk address) words) graph graph' walked.0.gives
    (subst (λ (words : List ℕ). GivesGraph (after (walk address) words) graph') (sym first) walked'.0.gives) in
    let (graphs_same, rest_same) = one_way addresses (place + 1) walks walks' graphs graphs' rest rest' walked.1 walked'.1
    (at_next addresses place (length graphs) (λ (address : ℕ). AreAsked address rest) asked_for)
    (at_next addresses place (length graphs') (λ (address : ℕ). AreAsked address rest') asked_for')
    (at_next addresses place (length graphs) (λ (address : ℕ). NeverGives (after (walk address) rest)) never)
    (at_next addresses place (length graphs') (λ (address : ℕ). NeverGives (after (walk address) rest')) never') later in
    (ap (λ (graph : RawCodec). graph ∷ graphs) same ∙ ap (λ (graphs : List RawCodec). graph' ∷ graphs) graphs_same, rest_same)

-- from the first codec on
from_first : (addresses : List ℕ) (long : ℕ) (P : ℕ → Type 0) → P (slice_index addresses long) → P (slice_index addresses (0 + long))
from_first addresses long P is = subst (λ (at : ℕ). P (slice_index addresses at)) (let same : long ≡ 0 + long = omega arith in same) is

one_way_first : (addresses : List ℕ) (walks walks' : List (List ℕ)) (graphs graphs' : List RawCodec) (rest rest' : List ℕ) → TellGraphs addresses 0 walks graphs → TellGraphs addresses 0 walks' graphs'
    → AreAsked (slice_index addresses (length graphs)) rest → AreAsked (slice_index addresses (length graphs')) rest'
    → NeverGives (after (walk (slice_index addresses (length graphs))) rest) → NeverGives (after (walk (slice_index addresses (length graphs'))) rest')
    → all_words walks ++ rest ≡ all_words walks' ++ rest' → (graphs ≡ graphs') × (rest ≡ rest')
one_way_first addresses walks walks' graphs graphs' rest rest' walked walked' asked_for asked_for' never never' is =
    one_way addresses 0 walks walks' graphs graphs' rest rest' walked walked'
    (from_first addresses (length graphs) (λ (address : ℕ). AreAsked address rest) asked_for)
    (from_first addresses (length graphs') (λ (address : ℕ). AreAsked address rest') asked_for')
    (from_first addresses (length graphs) (λ (address : ℕ). NeverGives (after (walk address) rest)) never)
    (from_first addresses (length graphs') (λ (address : ℕ). NeverGives (after (walk address) rest')) never') is

-- as many walks of both: they are the same, and so is what follows
same_walks : (addresses : List ℕ) (place : ℕ) (walks walks' : List (List ℕ)) (graphs graphs' : List RawCodec) (rest rest' : List ℕ) → TellGraphs addresses place walks graphs → TellGraphs addresses place walks' graphs'
    → length graphs ≡ length graphs' → all_words walks ++ rest ≡ all_words walks' ++ rest' → (graphs ≡ graphs') × (walks ≡ walks')
same_walks addresses place [] [] [] [] rest rest' walked walked' long is = (refl, refl)
same_walks addresses place [] walks' (graph ∷ graphs) graphs' rest rest' walked walked' long is = absurd walked
same_walks addresses place (words ∷ walks) walks' [] graphs' rest rest' walked walked' long is = absurd walked
same_walks addresses place [] [] [] (graph' ∷ graphs') rest rest' walked walked' long is = absurd walked'
same_walks addresses place [] (words' ∷ walks') [] [] rest rest' walked walked' long is = absurd walked'
same_walks addresses place [] (words' ∷ walks') [] (graph' ∷ graphs') rest rest' walked walked' long is = absurd (omega (arith, long))
same_walks addresses place (words ∷ walks) [] (graph ∷ graphs) (graph' ∷ graphs') rest rest' walked walked' long is = absurd walked'
same_walks addresses place (words ∷ walks) (words' ∷ walks') (graph ∷ graphs) [] rest rest' walked walked' long is = absurd walked'
same_walks addresses place (words ∷ walks) [] (graph ∷ graphs) [] rest rest' walked walked' long is = absurd (omega (arith, long))
same_walks addresses place (words ∷ walks) (words' ∷ walks') (graph ∷ graphs) (graph' ∷ graphs') rest rest' walked walked' long is =
    let address = slice_index addresses place in
    let (first, later) = first_same address words words' (all_words walks ++ rest) (all_words walks' ++ rest') graph graph' walked.0 walked'.0
    (sym (append_assoc words (all_words walks) rest) ∙ is ∙ append_assoc words' (all_words walks') rest') in
    let same : graph ≡ graph' = one_graph (after (walk address) words) graph graph' walked.0.gives
    (subst (λ (words : List ℕ). GivesGraph (after (walk address) words) graph') (sym first) walked'.0.gives) in
    let count : length graphs ≡ length graphs' = omega (arith, long) in
    let (graphs_same, walks_same) = same_walks addresses (place + 1) walks walks' graphs graphs' rest rest' walked.1 walked'.1 count later in (
      ap (λ (graph : RawCodec). graph ∷ graphs) same ∙ ap (λ (graphs : List RawCodec). graph' ∷ graphs) graphs_same,
      ap (λ (words : List ℕ). words ∷ walks) first ∙ ap (λ (walks : List (List ℕ)). words' ∷ walks) walks_same,
    )

-- words that begin with those of more walks are not those of fewer, and of one that told no well-formed graph
outlasts : (addresses : List ℕ) (place : ℕ) (walks walks' : List (List ℕ)) (graphs graphs' : List RawCodec) (rest rest' : List ℕ) → TellGraphs addresses place walks graphs → TellGraphs addresses place walks' graphs'
    → length graphs' < length graphs → AreAsked (slice_index addresses (place + length graphs')) rest' → NeverGives (after (walk (slice_index addresses (place + length graphs'))) rest')
    → all_words walks ++ rest ≡ all_words walks' ++ rest' → ⊥
outlasts addresses place walks walks' [] graphs' rest rest' walked walked' more asked_for' never' is = absurd (omega (arith, more))
outlasts addresses place [] walks' (graph ∷ graphs) graphs' rest rest' walked walked' more asked_for' never' is = walked
outlasts addresses place (words ∷ walks) [] (graph ∷ graphs) [] rest rest' walked walked' more asked_for' never' is =
    not_whole (slice_index addresses place) words rest' (all_words walks ++ rest) graph walked.0 (at_nothing addresses place (λ (address : ℕ). AreAsked address rest') asked_for')
    (sym is ∙ append_assoc words (all_words walks) rest) (at_nothing addresses place (λ (address : ℕ). NeverGives (after (walk address) rest')) never')
outlasts addresses place (words ∷ walks) [] (graph ∷ graphs) (graph' ∷ graphs') rest rest' walked walked' more asked_for' never' is = walked'
outlasts addresses place (words ∷ walks) (words' ∷ walks') (graph ∷ graphs) [] rest rest' walked walked' more asked_for' never' is = walked'
outlasts addresses place (words ∷ walks) (words' ∷ walks') (graph ∷ graphs) (graph' ∷ graphs') rest rest' walked walked' more asked_for' never' is =
    let (first, later) = first_same (slice_index addresses place) words words' (all_words walks ++ rest) (all_words walks' ++ rest') graph graph' walked.0 walked'.0
    (sym (append_assoc words (all_words walks) rest) ∙ is ∙ append_assoc words' (all_words walks') rest') in
    let fewer : length graphs' < length graphs = omega (arith, more) in
    outlasts addresses (place + 1) walks walks' graphs graphs' rest rest' walked.1 walked'.1 fewer
    (at_next addresses place (length graphs') (λ (address : ℕ). AreAsked address rest') asked_for')
    (at_next addresses place (length graphs') (λ (address : ℕ). NeverGives (after (walk address) rest')) never') later

-- ---- what the words come to

no_question : (codec : RawCodec) → IsSome (question (Told codec)) → ⊥
no_question codec asks = cc

asks_never : (dialogue : Dialogue) → IsSome (question dialogue) → NeverGives dialogue
asks_never dialogue asks graph (codec, told, good) = no_question codec (subst (λ (dialogue : Dialogue). IsSome (question dialogue)) told asks)

-- a walk that told no well-formed graph, and walks over all codecs
not_all_walked : (addresses words before rest : List ℕ) (graphs graphs' : List RawCodec) (dialogue : Dialogue) (is : WalkAfter addresses words graphs dialogue) → NeverGives dialogue → words ≡ before ++ rest
    → AllWalked addresses before graphs' → ⊥
not_all_walked addresses words before rest graphs graphs' dialogue is never split all =
    let there = is.there in
    let whole = all.all in
    outlasts addresses 0 all.walks is.walks graphs' graphs rest is.rest all.walked is.walked (omega (arith, there, whole))
    (from_first addresses (length graphs) (λ (address : ℕ). AreAsked address is.rest) is.asked_for)
    (from_first addresses (length graphs) (λ (address : ℕ). NeverGives (after (walk address) is.rest)) (subst NeverGives is.at never))
    (ap (λ (before : List ℕ). before ++ rest) (sym all.split) ∙ sym split ∙ is.split)

module _ (law : AreOne) (addresses words : List ℕ) (graphs : List RawCodec) (codec : ℕ) (fault : WalkFault) (faulty : AreFaulty addresses words graphs codec fault) where
  told_fault : GivesFault (after (walk (slice_index addresses (length graphs))) faulty.walk_after.rest) fault
  told_fault = subst (λ (dialogue : Dialogue). GivesFault dialogue fault) faulty.walk_after.at faulty.gives

  never_good : NeverGives (after (walk (slice_index addresses (length graphs))) faulty.walk_after.rest)
  never_good graph gives = good_or_faulty law _ graph fault gives told_fault

  -- one fault, of one codec, behind the same graphs
  pub one_faulty : (graphs' : List RawCodec) (codec' : ℕ) (fault' : WalkFault) (faulty' : AreFaulty addresses words graphs' codec' fault')
      → NeverGives (after (walk (slice_index addresses (length graphs'))) faulty'.walk_after.rest)
      → GivesFault (after (walk (slice_index addresses (length graphs'))) faulty'.walk_after.rest) fault' → (graphs ≡ graphs') × (codec ≡ codec') × (fault ≡ fault')
  one_faulty graphs' codec' fault' faulty' never' told' =
      let (same, rest_same) = one_way_first addresses faulty.walk_after.walks faulty'.walk_after.walks graphs graphs' faulty.walk_after.rest faulty'.walk_after.rest
      faulty.walk_after.walked faulty'.walk_after.walked faulty.walk_after.asked_for faulty'.walk_after.asked_for never_good never' (sym faulty.walk_after.split ∙ faulty'.walk_after.split) in
      let at : slice_index addresses (length graphs) ≡ slice_index addresses (length graphs') = ap (λ (graphs : List RawCodec). slice_index addresses (length graphs)) same in
      let moved : GivesFault (after (walk (slice_index addresses (length graphs))) faulty.walk_after.rest) fault' =
      subst (λ (address : ℕ). GivesFault (after (walk address) faulty.walk_after.rest) fault') (sym at)
      (subst (λ (words : List ℕ). GivesFault (after (walk (slice_index addresses (length graphs'))) words) fault') (sym rest_same) told') in
      (same, faulty.codec_is ∙ at ∙ sym faulty'.codec_is, one_fault law _ fault fault' told_fault moved)

pub one_faulty_way : AreOne → (addresses words : List ℕ) (one other : List RawCodec) (codec codec' : ℕ) (fault fault' : WalkFault) → AreFaulty addresses words one codec fault
    → AreFaulty addresses words other codec' fault' → (one ≡ other) × (codec ≡ codec') × (fault ≡ fault')
one_faulty_way law addresses words one other codec codec' fault fault' first second =
    one_faulty law addresses words one codec fault first other codec' fault' second (never_good law addresses words other codec' fault' second) (told_fault law addresses words other codec' fault' second)

module _ (law : AreOne) (addresses words : List ℕ) (graphs : List RawCodec) (codec : ℕ) (fault : WalkFault) (faulty : AreFaulty addresses words graphs codec fault) where
  -- then not all codecs were walked
  pub faulty_or_whole : (before rest : List ℕ) (graphs' : List RawCodec) → words ≡ before ++ rest → AllWalked addresses before graphs' → ⊥
  faulty_or_whole before rest graphs' split all =
      not_all_walked addresses words before rest graphs graphs' faulty.dialogue faulty.walk_after (λ graph gives. good_or_faulty law faulty.dialogue graph fault gives faulty.gives) split all

  -- and no walk goes on
  pub faulty_or_under_way : (graphs' : List RawCodec) (dialogue : Dialogue) → WalkAfter addresses words graphs' dialogue → IsSome (question dialogue) → ⊥
  faulty_or_under_way graphs' dialogue is asks =
      let asks_on = subst (λ (dialogue : Dialogue). IsSome (question dialogue)) is.at asks in
      let (same, rest_same) = one_way_first addresses faulty.walk_after.walks is.walks graphs graphs' faulty.walk_after.rest is.rest
      faulty.walk_after.walked is.walked faulty.walk_after.asked_for is.asked_for
      (never_good law addresses words graphs codec fault faulty) (asks_never (after (walk (slice_index addresses (length graphs'))) is.rest) asks_on)
      (sym faulty.walk_after.split ∙ is.split) in
      let (codec, told, bad) = told_fault law addresses words graphs codec fault faulty in
      let there : after (walk (slice_index addresses (length graphs))) faulty.walk_after.rest ≡ after (walk (slice_index addresses (length graphs'))) is.rest =
      ap (λ (graphs : List RawCodec). after (walk (slice_index addresses (length graphs))) faulty.walk_after.rest) same
      ∙ ap (λ (rest : List ℕ). after (walk (slice_index addresses (length graphs'))) rest) rest_same in
      no_question codec (subst (λ (dialogue : Dialogue). IsSome (question dialogue)) (sym there ∙ told) asks_on)

-- a walk goes on, or all codecs were walked
pub under_way_or_whole : (addresses words before rest : List ℕ) (graphs graphs' : List RawCodec) (dialogue : Dialogue) → WalkAfter addresses words graphs dialogue → IsSome (question dialogue)
    → words ≡ before ++ rest → AllWalked addresses before graphs' → ⊥
under_way_or_whole addresses words before rest graphs graphs' dialogue is asks split all =
    not_all_walked addresses words before rest graphs graphs' dialogue is (asks_never dialogue asks) split all

-- all codecs tell one list of graphs
pub one_whole : (addresses before before' rest rest' : List ℕ) (graphs graphs' : List RawCodec) → AllWalked addresses before graphs → AllWalked addresses before' graphs' → before ++ rest ≡ before' ++ rest'
    → (graphs ≡ graphs') × (before ≡ before')
one_whole addresses before before' rest rest' graphs graphs' all all' is =
    let (same, walks_same) = same_walks addresses 0 all.walks all'.walks graphs graphs' rest rest' all.walked all'.walked (all.all ∙ sym all'.all)
    (ap (λ (before : List ℕ). before ++ rest) (sym all.split) ∙ is ∙ ap (λ (before : List ℕ). before ++ rest') all'.split) in
    (same, all.split ∙ ap all_words walks_same ∙ sym all'.split)

-- of which the plans are one list, so that some pin has a route or none has
pub routed_or_unrouted : (means : Means) → HasOnePlan means → (addresses words : List ℕ) (graphs graphs' : List RawCodec) (plans plans' : List Plan) (verbs : ℕ) → AreUnrouted means addresses words graphs plans
    → AreRouted means addresses words graphs' plans' verbs → ⊥
routed_or_unrouted means law addresses words graphs graphs' plans plans' verbs unrouted routed =
    let (same, words_same) = one_whole addresses words routed.before [] routed.rest graphs graphs' unrouted.walked routed.walked (append-nil words ∙ routed.split) in
    let alike : plans ≡ plans' = plans_alike means law graphs' plans plans' (subst (λ (graphs : List RawCodec). ArePlansBy means.IsPlanBy graphs plans) same unrouted.plans_are) routed.plans_are in
    routes_or_not plans' routed.routed (ap have_route (sym alike) ∙ unrouted.none)

pub one_unrouted : (means : Means) → HasOnePlan means → (addresses words : List ℕ) (graphs graphs' : List RawCodec) (plans plans' : List Plan) → AreUnrouted means addresses words graphs plans
    → AreUnrouted means addresses words graphs' plans' → (graphs ≡ graphs') × (plans ≡ plans')
one_unrouted means law addresses words graphs graphs' plans plans' first second =
    let (same, words_same) = one_whole addresses words words [] [] graphs graphs' first.walked second.walked refl in
    (same, plans_alike means law graphs' plans plans' (subst (λ (graphs : List RawCodec). ArePlansBy means.IsPlanBy graphs plans) same first.plans_are) second.plans_are)

pub one_routed : (means : Means) → HasOnePlan means → (addresses words : List ℕ) (graphs graphs' : List RawCodec) (plans plans' : List Plan) (verbs verbs' : ℕ) → AreRouted means addresses words graphs plans verbs
    → AreRouted means addresses words graphs' plans' verbs' → (graphs ≡ graphs') × (plans ≡ plans') × (verbs ≡ verbs')
one_routed means law addresses words graphs graphs' plans plans' verbs verbs' first second =
    let (same, before_same) = one_whole addresses first.before second.before first.rest second.rest graphs graphs' first.walked second.walked (sym first.split ∙ second.split) in
    let long : length first.before + length first.rest ≡ length second.before + length second.rest =
    sym (length-append first.before first.rest) ∙ ap length (sym first.split ∙ second.split) ∙ length-append second.before second.rest in
    let firsts : length first.before ≡ length second.before = ap length before_same in
    let count = first.count in
    let count' = second.count in
    let alike : verbs ≡ verbs' = omega (arith, long, firsts, count, count') in
    (same, plans_alike means law graphs' plans plans' (subst (λ (graphs : List RawCodec). ArePlansBy means.IsPlanBy graphs plans) same first.plans_are) second.plans_are, alike)

-- walks that go on are behind the same graphs, and have the same still to come
pub one_under_way : (addresses words : List ℕ) (graphs graphs' : List RawCodec) (dialogue dialogue' : Dialogue) → WalkAfter addresses words graphs dialogue → IsSome (question dialogue)
    → WalkAfter addresses words graphs' dialogue' → IsSome (question dialogue') → (graphs ≡ graphs') × (dialogue ≡ dialogue')
one_under_way addresses words graphs graphs' dialogue dialogue' is asks is' asks' =
    let on = subst (λ (dialogue : Dialogue). IsSome (question dialogue)) is.at asks in
    let on' = subst (λ (dialogue : Dialogue). IsSome (question dialogue)) is'.at asks' in
    let (same, rest_same) = one_way_first addresses is.walks is'.walks graphs graphs' is.rest is'.rest is.walked is'.walked is.asked_for is'.asked_for
    (asks_never (after (walk (slice_index addresses (length graphs))) is.rest) on) (asks_never (after (walk (slice_index addresses (length graphs'))) is'.rest) on')
    (sym is.split ∙ is'.split) in (
      same,
      is.at ∙ ap (λ (graphs : List RawCodec). after (walk (slice_index addresses (length graphs))) is.rest) same
          ∙ ap (λ (rest : List ℕ). after (walk (slice_index addresses (length graphs'))) rest) rest_same ∙ sym is'.at,
    )

-- ---- where nothing was answered

none_front : (words more : List ℕ) → [] ≡ words ++ more → words ≡ []
none_front [] more is = refl
none_front (word ∷ words) more is = cc

none_back : (words more : List ℕ) → [] ≡ words ++ more → more ≡ []
none_back [] more is = sym is
none_back (word ∷ words) more is = cc

-- a walk tells nothing before its first answer
tells_first : (address : ℕ) (words : List ℕ) (codec : RawCodec) → words ≡ [] → after (walk address) words ≡ Told codec → ⊥
tells_first address words codec none told =
    let at : walk address ≡ Told codec = sym (ap (λ (words : List ℕ). after (walk address) words) none) ∙ told in
    no_question codec (subst (λ (dialogue : Dialogue). IsSome (question dialogue)) at (asks_first address))

walks_none : (addresses : List ℕ) (place : ℕ) (walks : List (List ℕ)) (graphs : List RawCodec) → 0 < length graphs → [] ≡ all_words walks → TellGraphs addresses place walks graphs → ⊥
walks_none addresses place [] [] some none walked = absurd (omega (arith, some))
walks_none addresses place [] (graph ∷ graphs) some none walked = walked
walks_none addresses place (words ∷ walks) [] some none walked = walked
walks_none addresses place (words ∷ walks) (graph ∷ graphs) some none walked =
    let (codec, told, good) = walked.0.gives in
    tells_first (slice_index addresses place) words codec (none_front words (all_words walks) none) told

-- no codec has a fault then
pub none_faulty : (addresses : List ℕ) (graphs : List RawCodec) (codec : ℕ) (fault : WalkFault) → AreFaulty addresses [] graphs codec fault → ⊥
none_faulty addresses graphs codec fault faulty =
    let is = faulty.walk_after in
    let (raw, told, bad) = faulty.gives in
    tells_first (slice_index addresses (length graphs)) is.rest raw (none_back (all_words is.walks) is.rest is.split) (sym is.at ∙ told)

-- and not all of them told their graphs
pub none_unrouted : (means : Means) (addresses : List ℕ) (graphs : List RawCodec) (plans : List Plan) → AreUnrouted means addresses [] graphs plans → ⊥
none_unrouted means addresses graphs plans unrouted =
    let all = unrouted.walked in
    let some = unrouted.some in
    let long = all.all in
    walks_none addresses 0 all.walks graphs (omega (arith, some, long)) all.split all.walked

-- ---- what words came to that led an agenda on

led_faulty_by : AreOne → (means : Means) (words : List ℕ) (agenda : Agenda) (graphs : List RawCodec) (codec : ℕ) (fault : WalkFault) (walks : Option Walk) → agenda.walk ≡ walks
    → WasAnsweredBy means words agenda walks → AreFaulty agenda.addresses.items words graphs codec fault → ⊥
led_faulty_by law means words agenda graphs codec fault (Some under_way) is stands faulty =
    faulty_or_under_way law agenda.addresses.items words graphs codec fault faulty agenda.graphs.items (remaining under_way) stands (agenda.under_way under_way is).asks
led_faulty_by law means words agenda graphs codec fault None is stands faulty =
    faulty_or_whole law agenda.addresses.items words graphs codec fault faulty stands.before stands.rest agenda.graphs.items stands.split stands.walked

-- they tell no fault
pub led_faulty : AreOne → (means : Means) (words : List ℕ) (agenda : Agenda) (graphs : List RawCodec) (codec : ℕ) (fault : WalkFault) → WasAnswered means words agenda
    → AreFaulty agenda.addresses.items words graphs codec fault → ⊥
led_faulty law means words agenda graphs codec fault stands faulty = led_faulty_by law means words agenda graphs codec fault agenda.walk refl stands.is faulty

led_unrouted_by : (means : Means) → HasOnePlan means → (words : List ℕ) (agenda : Agenda) (graphs : List RawCodec) (plans : List Plan) (walks : Option Walk) → agenda.walk ≡ walks
    → WasAnsweredBy means words agenda walks → AreUnrouted means agenda.addresses.items words graphs plans → ⊥
led_unrouted_by means law words agenda graphs plans (Some under_way) is stands unrouted =
    under_way_or_whole agenda.addresses.items words words [] agenda.graphs.items graphs (remaining under_way) stands (agenda.under_way under_way is).asks (sym (append-nil words)) unrouted.walked
led_unrouted_by means law words agenda graphs plans None is stands unrouted =
    routed_or_unrouted means law agenda.addresses.items words graphs agenda.graphs.items plans agenda.plans.items agenda.answered unrouted stands

-- and leave some pin a route, once all codecs told their graphs
pub led_unrouted : (means : Means) → HasOnePlan means → (words : List ℕ) (agenda : Agenda) (graphs : List RawCodec) (plans : List Plan) → WasAnswered means words agenda
    → AreUnrouted means agenda.addresses.items words graphs plans → ⊥
led_unrouted means law words agenda graphs plans stands unrouted = led_unrouted_by means law words agenda graphs plans agenda.walk refl stands.is unrouted
