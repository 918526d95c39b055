-- Whatever codecs answer: where their words lead an agenda, and that an answer comes to one thing at most.
use Rattle.std.proofs.Common.{◌≡◌, ◌<◌, ◌≤◌, ◌⊎◌, ◌+◌, ℕ, suc, List, [], ◌∷◌, ◌++◌, length, Option, Some, None, Result, Ok, Err, true, false, inl, inr, refl, sym, ap, subst, ◌∙◌, append_assoc, append-nil, arith}
use Rattle.std.specs.Prelude.{slice_index, IsSome}
use Rattle.std.proofs.lemmas.Grind.{flat_map-append}
use Rattle.std.proofs.lemmas.Bool.{cases_lt}
use Rattle.std.proofs.lemmas.List.{length-append}
use Rattle.verb_codes.specs.declared.verbs.Command.{Command}
use Rattle.codec_graph.specs.declared.raw.RawCodec.{RawCodec}
use Rattle.route_planner.specs.declared.routes.Plan.{Plan}
use Rattle.route_setup.specs.Means.{Means}
use Rattle.codec_walk.specs.declared.walk.Walk.{Walk}
use Rattle.codec_walk.specs.declared.fault.WalkError.{WalkError}
use Rattle.codec_walk.specs.declared.fault.WalkError.TheVariants.{Malformed, OutOfMemory}
use Rattle.codec_walk.specs.declared.fault.WalkFault.{WalkFault}
use Rattle.codec_walk.specs.Dialogues.{Dialogue, Ask, Told, question, answered, asked, after}
use Rattle.codec_walk.specs.Walks.{walk}
use Rattle.codec_walk.specs.Outcomes.{IsGood, IsFaultOf}
use Rattle.codec_walk.specs.Remaining.{remaining}
use Rattle.codec_walk.proofs.Callers.{after-push}
use Rattle.driver_agenda.specs.declared.agenda.Agenda.{Agenda}
use Rattle.driver_agenda.specs.Planned.{ArePlansBy, have_route}
use Rattle.driver_agenda.specs.Agendas.{BeginsWalk, BeginsVerbs, GoesOn, WalksOn, WalkEnds, LedByDialogue, LedBy, VerbAnswered, GivesFault, GivesGraph, TellsFault, TellsNoRoute}
use Rattle.driver_agenda.specs.AnswerWords.{AreAsked, TellsGraph, TellGraphs, all_words, WalkAfter, AllWalked, AreFaulty, AreUnrouted, AreRouted, WasAnsweredBy, WasAnswered, AnswersNoRoute, WasLeft, AreLeft}
use Rattle.driver_agenda.proofs.Following.{AreOne}

-- ---- one word more of a walk

no_question : (codec : RawCodec) → IsSome (question (Told codec)) → ⊥
no_question codec asks = cc

-- what was asked, where the dialogue asks before the last answer
pub asked-push : (dialogue : Dialogue) (answers : List ℕ) (answer : ℕ) → IsSome (question (after dialogue answers))
    → length (asked dialogue (answers ++ answer ∷ [])) ≡ length (asked dialogue answers) + 1
asked-push (Ask command rest) [] answer asks = refl
asked-push (Told codec) [] answer asks = absurd (no_question codec asks)
asked-push (Ask command rest) (first ∷ answers) answer asks =
    let more = asked-push (rest first) answers answer asks in
    omega (arith, more)
asked-push (Told codec) (first ∷ answers) answer asks = asked-push (Told codec) answers answer asks

pub asked_more : (address : ℕ) (words : List ℕ) (word : ℕ) → AreAsked address words → IsSome (question (after (walk address) words)) → AreAsked address (words ++ word ∷ [])
asked_more address words word asked_for asks =
    let one = asked-push (walk address) words word asks in
    let long = length-append words (word ∷ []) in
    omega (arith, one, long, asked_for)

-- ---- one codec more

pub walked-push : (addresses : List ℕ) (place : ℕ) (walks : List (List ℕ)) (graphs : List RawCodec) (words : List ℕ) (graph : RawCodec) → TellGraphs addresses place walks graphs
    → TellsGraph (slice_index addresses (place + length graphs)) words graph → TellGraphs addresses place (walks ++ words ∷ []) (graphs ++ graph ∷ [])
walked-push addresses place [] [] words graph walked tells =
    (subst (λ (at : ℕ). TellsGraph (slice_index addresses at) words graph) (let same : place + 0 ≡ place = omega arith in same) tells, tt)
walked-push addresses place [] (other ∷ graphs) words graph walked tells = absurd walked
walked-push addresses place (some ∷ walks) [] words graph walked tells = absurd walked
walked-push addresses place (some ∷ walks) (other ∷ graphs) words graph walked tells = (
  walked.0,
  walked-push addresses (place + 1) walks graphs words graph walked.1
      (subst (λ (at : ℕ). TellsGraph (slice_index addresses at) words graph) (let same : place + suc (length graphs) ≡ place + 1 + length graphs = omega arith in same) tells),
)

pub words-push : (words rest : List ℕ) (walks : List (List ℕ)) (word : ℕ) → words ≡ all_words walks ++ rest → words ++ word ∷ [] ≡ all_words (walks ++ (rest ++ word ∷ []) ∷ [])
words-push words rest walks word split =
    ap (λ (all : List ℕ). all ++ word ∷ []) split
    ∙ append_assoc (all_words walks) rest (word ∷ [])
    ∙ ap (λ (last : List ℕ). all_words walks ++ last) (sym (append-nil (rest ++ word ∷ [])))
    ∙ sym (flat_map-append (λ (words : List ℕ). words) walks ((rest ++ word ∷ []) ∷ []))

-- ---- where an answer leads a walk

pub walk_moved : (addresses addresses' words : List ℕ) (graphs graphs' : List RawCodec) (dialogue dialogue' : Dialogue) → addresses' ≡ addresses → graphs' ≡ graphs → dialogue' ≡ dialogue
    → WalkAfter addresses words graphs dialogue → WalkAfter addresses' words graphs' dialogue'
walk_moved addresses addresses' words graphs graphs' dialogue dialogue' a g d is =
    subst (λ (all : List ℕ). WalkAfter all words graphs' dialogue') (sym a)
    (subst (λ (all : List RawCodec). WalkAfter addresses words all dialogue') (sym g)
    (subst (λ (at : Dialogue). WalkAfter addresses words graphs at) (sym d) is))

-- by one word more
pub walk_more : (addresses words : List ℕ) (graphs : List RawCodec) (dialogue : Dialogue) (word : ℕ) → IsSome (question dialogue) → WalkAfter addresses words graphs dialogue
    → WalkAfter addresses (words ++ word ∷ []) graphs (answered dialogue word)
walk_more addresses words graphs dialogue word asks is =
    let address = slice_index addresses (length graphs) in
    record {
      walks = is.walks;
      rest = is.rest ++ word ∷ [];
      split = ap (λ (all : List ℕ). all ++ word ∷ []) is.split ∙ append_assoc (all_words is.walks) is.rest (word ∷ []);
      walked = is.walked;
      there = is.there;
      asked_for = asked_more address is.rest word is.asked_for (subst (λ (at : Dialogue). IsSome (question at)) is.at asks);
      at = ap (λ (at : Dialogue). answered at word) is.at ∙ sym (after-push (walk address) is.rest word);
    }

-- where it told a well-formed graph, one codec more was walked
pub codec_more : (addresses words : List ℕ) (graphs : List RawCodec) (dialogue : Dialogue) (graph : RawCodec) → WalkAfter addresses words graphs dialogue → GivesGraph dialogue graph
    → (walks : List (List ℕ)) × (words ≡ all_words walks) × TellGraphs addresses 0 walks (graphs ++ graph ∷ [])
codec_more addresses words graphs dialogue graph is gives = (
  is.walks ++ is.rest ∷ [],
  is.split ∙ ap (λ (last : List ℕ). all_words is.walks ++ last) (sym (append-nil is.rest)) ∙ sym (flat_map-append (λ (words : List ℕ). words) is.walks (is.rest ∷ [])),
  walked-push addresses 0 is.walks graphs is.rest graph is.walked
      (subst (λ (at : ℕ). TellsGraph (slice_index addresses at) is.rest graph) (let same : length graphs ≡ 0 + length graphs = omega arith in same) (record {
        asked_for = is.asked_for;
        gives = subst (λ (at : Dialogue). GivesGraph at graph) is.at gives;
      })),
)

one_more_within : (graphs : List RawCodec) (graph : RawCodec) (many : ℕ) → length graphs < many → length (graphs ++ graph ∷ []) ≤ many
one_more_within graphs graph many there =
    let long = length-append graphs (graph ∷ []) in
    omega (arith, long, there)

-- the words of the walks over all codecs
all_walked : (addresses words : List ℕ) (graphs : List RawCodec) (dialogue : Dialogue) (graph : RawCodec) → WalkAfter addresses words graphs dialogue → GivesGraph dialogue graph
    → length addresses ≤ length (graphs ++ graph ∷ []) → AllWalked addresses words (graphs ++ graph ∷ [])
all_walked addresses words graphs dialogue graph is gives last =
    let (walks, split, walked) = codec_more addresses words graphs dialogue graph is gives in
    let few = one_more_within graphs graph (length addresses) is.there in
    record { walks = walks; split = split; walked = walked; all = omega (arith, few, last) }

-- ---- an agenda

-- at its beginning
pub begins_answered : (means : Means) (agenda : Agenda) → BeginsWalk agenda.addresses.items [] agenda → WasAnswered means [] agenda
begins_answered means agenda begins = record {
  is = subst (WasAnsweredBy means [] agenda) (sym begins.is) (record {
    walks = [];
    rest = [];
    split = refl;
    walked = subst (TellGraphs agenda.addresses.items 0 []) (sym begins.graphs_are) tt;
    there = (agenda.under_way begins.under_way begins.is).there;
    asked_for = refl;
    at = begins.begins ∙ ap (λ (graphs : List RawCodec). walk (slice_index agenda.addresses.items (length graphs))) (sym begins.graphs_are);
  });
}

-- what comes after the walk over a codec
goes_on_answered : (means : Means) (addresses words : List ℕ) (graphs : List RawCodec) (new : Agenda) → new.addresses.items ≡ addresses → length graphs ≤ length addresses
    → (walks : List (List ℕ)) × (words ≡ all_words walks) × TellGraphs addresses 0 walks graphs → GoesOn means addresses graphs new → WasAnsweredBy means words new new.walk
goes_on_answered means addresses words graphs new same few (walks, split, walked) goes = by (cases_lt (length graphs) (length addresses))
  where
    by : (length graphs < length addresses) ⊎ (length addresses ≤ length graphs) → WasAnsweredBy means words new new.walk
    by (inl left) =
        let begins : BeginsWalk addresses graphs new = goes.0 left in
        subst (WasAnsweredBy means words new) (sym begins.is)
        (walk_moved addresses new.addresses.items words graphs new.graphs.items (walk (slice_index addresses (length graphs))) (remaining begins.under_way) same begins.graphs_are begins.begins
        (record {
          walks = walks;
          rest = [];
          split = split ∙ sym (append-nil (all_words walks));
          walked = walked;
          there = left;
          asked_for = refl;
          at = refl;
        }))
    by (inr all) =
        let begins : BeginsVerbs means graphs new = goes.1 all in
        subst (WasAnsweredBy means words new) (sym begins.no_walk)
        (subst (λ (addresses : List ℕ). AreRouted means addresses words new.graphs.items new.plans.items new.answered) (sym same)
        (subst (λ (graphs : List RawCodec). AreRouted means addresses words graphs new.plans.items new.answered) (sym begins.graphs_are)
        (record {
          before = words;
          rest = [];
          split = sym (append-nil words);
          walked = record { walks = walks; split = split; walked = walked; all = omega (arith, all, few) };
          plans_are = begins.plans;
          routed = begins.routed;
          count = sym begins.none;
        })))

-- where an answer led: a walk goes on, or is at its end
led_cases : (means : Means) (dialogue : Dialogue) (addresses : List ℕ) (graphs : List RawCodec) (new : Agenda) → LedByDialogue means dialogue addresses graphs new
    → WalksOn dialogue graphs new ⊎ ((codec : RawCodec) × (dialogue ≡ Told codec) × WalkEnds means codec addresses graphs new)
led_cases means (Ask command rest) addresses graphs new led = inl led
led_cases means (Told codec) addresses graphs new led = inr (codec, refl, led)

led_walk : (means : Means) (words : List ℕ) (answer : ℕ) (old new : Agenda) (under_way : Walk) → IsSome (question (remaining under_way)) → new.addresses ≡ old.addresses
    → WalkAfter old.addresses.items words old.graphs.items (remaining under_way) → LedByDialogue means (answered (remaining under_way) answer) old.addresses.items old.graphs.items new
    → WasAnsweredBy means (words ++ answer ∷ []) new new.walk
led_walk means words answer old new under_way asks same stands led =
    let after_it = walk_more old.addresses.items words old.graphs.items (remaining under_way) answer asks stands in
    let addresses : new.addresses.items ≡ old.addresses.items = ap (λ all. all.items) same in
    by addresses after_it (led_cases means (answered (remaining under_way) answer) old.addresses.items old.graphs.items new led)
  where
    by : new.addresses.items ≡ old.addresses.items → WalkAfter old.addresses.items (words ++ answer ∷ []) old.graphs.items (answered (remaining under_way) answer)
        → WalksOn (answered (remaining under_way) answer) old.graphs.items new ⊎ ((codec : RawCodec) × (answered (remaining under_way) answer ≡ Told codec) × WalkEnds means codec old.addresses.items old.graphs.items new)
        → WasAnsweredBy means (words ++ answer ∷ []) new new.walk
    by addresses after_it (inl on) =
        subst (WasAnsweredBy means (words ++ answer ∷ []) new) (sym on.is)
        (walk_moved old.addresses.items new.addresses.items (words ++ answer ∷ []) old.graphs.items new.graphs.items (answered (remaining under_way) answer) (remaining on.under_way) addresses on.graphs_are on.goes_on after_it)
    by addresses after_it (inr (codec, told, ends)) =
        goes_on_answered means old.addresses.items (words ++ answer ∷ []) (old.graphs.items ++ ends.graph ∷ []) new addresses (one_more_within old.graphs.items ends.graph (length old.addresses.items) after_it.there)
        (codec_more old.addresses.items (words ++ answer ∷ []) old.graphs.items (answered (remaining under_way) answer) ends.graph after_it (codec, told, ends.good)) ends.goes_on

led_verb : (means : Means) (words : List ℕ) (answer : ℕ) (old new : Agenda) → new.addresses ≡ old.addresses
    → AreRouted means old.addresses.items words old.graphs.items old.plans.items old.answered → VerbAnswered old new → WasAnsweredBy means (words ++ answer ∷ []) new new.walk
led_verb means words answer old new same stands led =
    subst (WasAnsweredBy means (words ++ answer ∷ []) new) (sym led.no_walk)
    (subst (λ (addresses : List ℕ). AreRouted means addresses (words ++ answer ∷ []) new.graphs.items new.plans.items new.answered) (sym (ap (λ all. all.items) same))
    (subst (λ (graphs : List RawCodec). AreRouted means old.addresses.items (words ++ answer ∷ []) graphs new.plans.items new.answered) (sym led.graphs)
    (subst (λ (plans : List Plan). AreRouted means old.addresses.items (words ++ answer ∷ []) old.graphs.items plans new.answered) (sym led.plans)
    (record {
      before = stands.before;
      rest = stands.rest ++ answer ∷ [];
      split = ap (λ (all : List ℕ). all ++ answer ∷ []) stands.split ∙ append_assoc stands.before stands.rest (answer ∷ []);
      walked = stands.walked;
      plans_are = stands.plans_are;
      routed = stands.routed;
      count = (let long = length-append stands.rest (answer ∷ []) in let count = stands.count in let more = led.one_more in omega (arith, long, count, more));
    }))))

-- an agenda asks while a walk is under way
asks_by : (agenda : Agenda) (under_way : Walk) → agenda.walk ≡ Some under_way → IsSome (question (remaining under_way))
asks_by agenda under_way is = (agenda.under_way under_way is).asks

led_answered_by : (means : Means) (words : List ℕ) (answer : ℕ) (old new : Agenda) (walks : Option Walk) → old.walk ≡ walks → new.addresses ≡ old.addresses
    → WasAnsweredBy means words old walks → LedBy means walks answer old new → WasAnsweredBy means (words ++ answer ∷ []) new new.walk
led_answered_by means words answer old new (Some under_way) is same stands led =
    led_walk means words answer old new under_way (asks_by old under_way is) same stands led
led_answered_by means words answer old new None is same stands led = led_verb means words answer old new same stands led

-- one word more leads on
pub led_answered : (means : Means) (words : List ℕ) (answer : ℕ) (old new : Agenda) → WasAnswered means words old → LedBy means old.walk answer old new → new.addresses ≡ old.addresses
    → WasAnswered means (words ++ answer ∷ []) new
led_answered means words answer old new stands led same = record { is = led_answered_by means words answer old new old.walk refl same stands.is led }

-- or tells a fault
faulty_by : (means : Means) (words : List ℕ) (answer : ℕ) (old : Agenda) (fault : WalkFault) (walks : Option Walk) → old.walk ≡ walks → WasAnsweredBy means words old walks → TellsFault walks answer fault
    → AreFaulty old.addresses.items (words ++ answer ∷ []) old.graphs.items (slice_index old.addresses.items (length old.graphs.items)) fault
faulty_by means words answer old fault (Some under_way) is stands tells = record {
  dialogue = answered (remaining under_way) answer;
  walk_after = walk_more old.addresses.items words old.graphs.items (remaining under_way) answer (asks_by old under_way is) stands;
  codec_is = refl;
  gives = tells;
}
faulty_by means words answer old fault None is stands tells = absurd tells

pub faulty_answered : (means : Means) (words : List ℕ) (answer : ℕ) (old : Agenda) (fault : WalkFault) → WasAnswered means words old → TellsFault old.walk answer fault
    → AreFaulty old.addresses.items (words ++ answer ∷ []) old.graphs.items (slice_index old.addresses.items (length old.graphs.items)) fault
faulty_answered means words answer old fault stands tells = faulty_by means words answer old fault old.walk refl stands.is tells

-- or the last codec's graph, where no plan has a route
unrouted_by : (means : Means) (words : List ℕ) (answer : ℕ) (old new : Agenda) (walks : Option Walk) → old.walk ≡ walks → WasAnsweredBy means words old walks
    → TellsNoRoute means walks answer old.addresses.items old.graphs.items new → AreUnrouted means old.addresses.items (words ++ answer ∷ []) new.graphs.items new.plans.items
unrouted_by means words answer old new (Some under_way) is stands ends =
    let after_it = walk_more old.addresses.items words old.graphs.items (remaining under_way) answer (asks_by old under_way is) stands in
    subst (λ (graphs : List RawCodec). AreUnrouted means old.addresses.items (words ++ answer ∷ []) graphs new.plans.items) (sym ends.nothing.graphs_are)
    (record {
      some = (let there = after_it.there in omega (arith, there));
      walked = all_walked old.addresses.items (words ++ answer ∷ []) old.graphs.items (answered (remaining under_way) answer) ends.graph after_it ends.gives ends.last;
      plans_are = ends.nothing.plans;
      none = ends.nothing.none;
    })
unrouted_by means words answer old new None is stands ends = absurd ends

pub unrouted_answered : (means : Means) (words : List ℕ) (answer : ℕ) (old new : Agenda) → WasAnswered means words old
    → TellsNoRoute means old.walk answer old.addresses.items old.graphs.items new → AreUnrouted means old.addresses.items (words ++ answer ∷ []) new.graphs.items new.plans.items
unrouted_answered means words answer old new stands ends = unrouted_by means words answer old new old.walk refl stands.is ends

-- or memory was wanting to take it
left_by : (means : Means) (words : List ℕ) (answer : ℕ) (old new : Agenda) (walks : Option Walk) → old.walk ≡ walks → new.addresses.items ≡ old.addresses.items → WasAnsweredBy means words old walks
    → WasLeft means walks answer old new → AreLeft means (words ++ answer ∷ []) new
left_by means words answer old new None is same stands left = absurd left
left_by means words answer old new (Some under_way) is same stands left = by left.graphs
  where
    after_it : WalkAfter old.addresses.items (words ++ answer ∷ []) old.graphs.items (answered (remaining under_way) answer)
    after_it = walk_more old.addresses.items words old.graphs.items (remaining under_way) answer (asks_by old under_way is) stands

    early : (graphs : List RawCodec) → new.graphs.items ≡ graphs → length graphs < length old.addresses.items → new.plans.items ≡ []
    early graphs are there =
        let long : length new.addresses.items ≡ length old.addresses.items = ap length same in
        let count : length new.graphs.items ≡ length graphs = ap length are in
        left.plans.1 (omega (arith, long, count, there))

    -- a codec is left to be walked
    stopped : (graphs : List RawCodec) (dialogue : Dialogue) → new.graphs.items ≡ graphs → WalkAfter old.addresses.items (words ++ answer ∷ []) graphs dialogue → AreLeft means (words ++ answer ∷ []) new
    stopped graphs dialogue are there =
        inl ((dialogue, walk_moved old.addresses.items new.addresses.items (words ++ answer ∷ []) graphs new.graphs.items dialogue dialogue same are refl there), early graphs are there.there)

    whole : (graphs : List RawCodec) → new.graphs.items ≡ graphs → AllWalked old.addresses.items (words ++ answer ∷ []) graphs → AreLeft means (words ++ answer ∷ []) new
    whole graphs are all =
        inr (
          subst (λ (addresses : List ℕ). AllWalked addresses (words ++ answer ∷ []) new.graphs.items) (sym same)
              (subst (λ (graphs : List RawCodec). AllWalked old.addresses.items (words ++ answer ∷ []) graphs) (sym are) all),
          left.plans.0,
        )

    one_more : (graph : RawCodec) → GivesGraph (answered (remaining under_way) answer) graph → new.graphs.items ≡ old.graphs.items ++ graph ∷ []
        → (length (old.graphs.items ++ graph ∷ []) < length old.addresses.items) ⊎ (length old.addresses.items ≤ length (old.graphs.items ++ graph ∷ [])) → AreLeft means (words ++ answer ∷ []) new
    one_more graph gives are (inl there) =
        let (walks, split, walked) = codec_more old.addresses.items (words ++ answer ∷ []) old.graphs.items (answered (remaining under_way) answer) graph after_it gives in
        stopped (old.graphs.items ++ graph ∷ []) (walk (slice_index old.addresses.items (length (old.graphs.items ++ graph ∷ [])))) are (record {
          walks = walks;
          rest = [];
          split = split ∙ sym (append-nil (all_words walks));
          walked = walked;
          there = there;
          asked_for = refl;
          at = refl;
        })
    one_more graph gives are (inr last) =
        whole (old.graphs.items ++ graph ∷ []) are
        (all_walked old.addresses.items (words ++ answer ∷ []) old.graphs.items (answered (remaining under_way) answer) graph after_it gives last)

    by : (new.graphs.items ≡ old.graphs.items)
        ⊎ ((graph : RawCodec) × GivesGraph (answered (remaining under_way) answer) graph × (new.graphs.items ≡ old.graphs.items ++ graph ∷ [])) → AreLeft means (words ++ answer ∷ []) new
    by (inl are) = stopped old.graphs.items (answered (remaining under_way) answer) are after_it
    by (inr (graph, gives, are)) = one_more graph gives are (cases_lt (length (old.graphs.items ++ graph ∷ [])) (length old.addresses.items))

pub left_answered : (means : Means) (words : List ℕ) (answer : ℕ) (old new : Agenda) → new.addresses ≡ old.addresses → WasAnswered means words old → WasLeft means old.walk answer old new
    → AreLeft means (words ++ answer ∷ []) new
left_answered means words answer old new same stands left = left_by means words answer old new old.walk refl (ap (λ all. all.items) same) stands.is left

-- there are no plans while a walk is under way
unplanned_by : (answer : ℕ) (old : Agenda) (fault : WalkFault) (walks : Option Walk) → old.walk ≡ walks → TellsFault walks answer fault → old.plans.items ≡ []
unplanned_by answer old fault None is tells = absurd tells
unplanned_by answer old fault (Some under_way) is tells = old.unplanned under_way is

pub faulty_unplanned : (answer : ℕ) (old : Agenda) (fault : WalkFault) → TellsFault old.walk answer fault → old.plans.items ≡ []
faulty_unplanned answer old fault tells = unplanned_by answer old fault old.walk refl tells

-- an answer that ended it without a route left plans that have none
no_route_by : (means : Means) (answer : ℕ) (addresses : List ℕ) (graphs : List RawCodec) (new : Agenda) (walks : Option Walk) → TellsNoRoute means walks answer addresses graphs new
    → AnswersNoRoute means walks answer addresses graphs new.plans.items
no_route_by means answer addresses graphs new None ends = absurd ends
no_route_by means answer addresses graphs new (Some under_way) ends = record {
  graph = ends.graph;
  gives = ends.gives;
  last = ends.last;
  plans_are = ends.nothing.plans;
  none = ends.nothing.none;
}

pub no_route_answered : (means : Means) (answer : ℕ) (old new : Agenda) → TellsNoRoute means old.walk answer old.addresses.items old.graphs.items new
    → AnswersNoRoute means old.walk answer old.addresses.items old.graphs.items new.plans.items
no_route_answered means answer old new ends = no_route_by means answer old.addresses.items old.graphs.items new old.walk ends

-- ---- an answer comes to one thing at most

told_one : (one other : RawCodec) → Told one ≡ Told other → one ≡ other
told_one one other is = cc

never_told : (command : Command) (rest : ℕ → Dialogue) (codec : RawCodec) → Ask command rest ≡ Told codec → ⊥
never_told command rest codec is = cc

-- what a dialogue told has one fault
pub one_fault : AreOne → (dialogue : Dialogue) (one other : WalkFault) → GivesFault dialogue one → GivesFault dialogue other → one ≡ other
one_fault law dialogue one other (codec, told, first) (codec', told', second) =
    let same : codec' ≡ codec = told_one codec' codec (sym told' ∙ told) in
    by (law codec (Err (Malformed one)) (Err (Malformed other)) first (subst (λ (codec : RawCodec). IsFaultOf codec other) same second))
  where
    by : (◌≡◌ {A = Result RawCodec WalkError} (Err (Malformed one)) (Err (Malformed other))) ⊎ ((◌≡◌ {A = Result RawCodec WalkError} (Err (Malformed one)) (Err OutOfMemory)) ⊎ (◌≡◌ {A = Result RawCodec WalkError} (Err (Malformed other)) (Err OutOfMemory))) → one ≡ other
    by (inl is) = cc
    by (inr (inl is)) = cc
    by (inr (inr is)) = cc

-- or a well-formed graph
pub good_or_faulty : AreOne → (dialogue : Dialogue) (graph : RawCodec) (fault : WalkFault) → GivesGraph dialogue graph → GivesFault dialogue fault → ⊥
good_or_faulty law dialogue graph fault (codec, told, good) (codec', told', faulty) =
    let same : codec' ≡ codec = told_one codec' codec (sym told' ∙ told) in
    by (law codec (Ok graph) (Err (Malformed fault)) good (subst (λ (codec : RawCodec). IsFaultOf codec fault) same faulty))
  where
    by : (◌≡◌ {A = Result RawCodec WalkError} (Ok graph) (Err (Malformed fault))) ⊎ ((◌≡◌ {A = Result RawCodec WalkError} (Ok graph) (Err OutOfMemory)) ⊎ (◌≡◌ {A = Result RawCodec WalkError} (Err (Malformed fault)) (Err OutOfMemory))) → ⊥
    by (inl is) = cc
    by (inr (inl is)) = cc
    by (inr (inr is)) = cc

-- one graph
pub one_graph : (dialogue : Dialogue) (one other : RawCodec) → GivesGraph dialogue one → GivesGraph dialogue other → one ≡ other
one_graph dialogue one other (codec, told, first) (codec', told', second) =
    let same : codec' ≡ codec = told_one codec' codec (sym told' ∙ told) in
    let moved : IsGood codec other = subst (λ (codec : RawCodec). IsGood codec other) same second in
    first.value ∙ sym moved.value

-- where it led on it told no fault
pub leads_or_faulty : AreOne → (means : Means) (answer : ℕ) (fault : WalkFault) (old new : Agenda) (walks : Option Walk) → LedBy means walks answer old new → TellsFault walks answer fault → ⊥
leads_or_faulty law means answer fault old new None led tells = tells
leads_or_faulty law means answer fault old new (Some under_way) led tells =
    by (answered (remaining under_way) answer) refl (led_cases means (answered (remaining under_way) answer) old.addresses.items old.graphs.items new led)
  where
    by : (dialogue : Dialogue) → dialogue ≡ answered (remaining under_way) answer
        → WalksOn dialogue old.graphs.items new ⊎ ((codec : RawCodec) × (dialogue ≡ Told codec) × WalkEnds means codec old.addresses.items old.graphs.items new) → ⊥
    by dialogue is (inr (codec, told, ends)) =
        good_or_faulty law (answered (remaining under_way) answer) ends.graph fault (codec, sym is ∙ told, ends.good) tells
    by dialogue is (inl on) =
        let (codec, told, faulty) = tells in
        let asks = asks_by new on.under_way on.is in
        no_question codec (subst (λ (at : Dialogue). IsSome (question at)) (on.goes_on ∙ is ∙ told) asks)

-- nor that no plan has a route
pub routes_or_not : (plans : List Plan) → have_route plans ≡ true → have_route plans ≡ false → ⊥
routes_or_not plans some none = let never : true ≡ false = sym some ∙ none in cc

-- a graph has one plan
abbrev pub HasOnePlan : Means → Type 0
HasOnePlan means = (graph : RawCodec) (plan other : Plan) → means.IsPlanBy graph plan → means.IsPlanBy graph other → other ≡ plan

pub plans_alike : (means : Means) → HasOnePlan means → (graphs : List RawCodec) (one other : List Plan) → ArePlansBy means.IsPlanBy graphs one → ArePlansBy means.IsPlanBy graphs other → one ≡ other
plans_alike means law [] [] [] first second = refl
plans_alike means law [] (plan ∷ one) other first second = absurd first
plans_alike means law [] [] (plan ∷ other) first second = absurd second
plans_alike means law (graph ∷ graphs) [] other first second = absurd first
plans_alike means law (graph ∷ graphs) (plan ∷ one) [] first second = absurd second
plans_alike means law (graph ∷ graphs) (plan ∷ one) (plan' ∷ other) first second =
    let same : plan' ≡ plan = law graph plan plan' first.0 second.0 in
    let rest : one ≡ other = plans_alike means law graphs one other first.1 second.1 in
    cc

pub leads_or_unrouted : (means : Means) → HasOnePlan means → (answer : ℕ) (old new : Agenda) (plans : List Plan) (walks : Option Walk) → LedBy means walks answer old new
    → AnswersNoRoute means walks answer old.addresses.items old.graphs.items plans → ⊥
leads_or_unrouted means law answer old new plans None led ends = ends
leads_or_unrouted means law answer old new plans (Some under_way) led ends =
    by (answered (remaining under_way) answer) refl (led_cases means (answered (remaining under_way) answer) old.addresses.items old.graphs.items new led)
  where
    by : (dialogue : Dialogue) → dialogue ≡ answered (remaining under_way) answer
        → WalksOn dialogue old.graphs.items new ⊎ ((codec : RawCodec) × (dialogue ≡ Told codec) × WalkEnds means codec old.addresses.items old.graphs.items new) → ⊥
    by dialogue is (inl on) =
        let (codec, told, good) = ends.gives in
        let asks = asks_by new on.under_way on.is in
        no_question codec (subst (λ (at : Dialogue). IsSome (question at)) (on.goes_on ∙ is ∙ told) asks)
    by dialogue is (inr (codec, told, walked)) =
        let same : walked.graph ≡ ends.graph = one_graph (answered (remaining under_way) answer) walked.graph ends.graph (codec, sym is ∙ told, walked.good) ends.gives in
        let last : length old.addresses.items ≤ length (old.graphs.items ++ walked.graph ∷ []) =
        subst (λ (graph : RawCodec). length old.addresses.items ≤ length (old.graphs.items ++ graph ∷ [])) (sym same) ends.last in
        let begins = walked.goes_on.1 last in
        let plans_are : ArePlansBy means.IsPlanBy (old.graphs.items ++ walked.graph ∷ []) plans =
        subst (λ (graph : RawCodec). ArePlansBy means.IsPlanBy (old.graphs.items ++ graph ∷ []) plans) (sym same) ends.plans_are in
        let alike : new.plans.items ≡ plans = plans_alike means law (old.graphs.items ++ walked.graph ∷ []) new.plans.items plans begins.plans plans_are in
        routes_or_not plans (subst (λ (plans : List Plan). have_route plans ≡ true) alike begins.routed) ends.none

-- and it is not both
pub faulty_or_unrouted : AreOne → (means : Means) (answer : ℕ) (fault : WalkFault) (old : Agenda) (plans : List Plan) (walks : Option Walk) → TellsFault walks answer fault
    → AnswersNoRoute means walks answer old.addresses.items old.graphs.items plans → ⊥
faulty_or_unrouted law means answer fault old plans None tells ends = tells
faulty_or_unrouted law means answer fault old plans (Some under_way) tells ends =
    good_or_faulty law (answered (remaining under_way) answer) ends.graph fault ends.gives tells

pub one_fault_told : AreOne → (answer : ℕ) (one other : WalkFault) (walks : Option Walk) → TellsFault walks answer one → TellsFault walks answer other → one ≡ other
one_fault_told law answer one other None first second = absurd first
one_fault_told law answer one other (Some under_way) first second = one_fault law (answered (remaining under_way) answer) one other first second
