-- An agenda follows the commands of its codecs.
use Rattle.std.proofs.Common.{◌≡◌, ◌<◌, ◌≤◌, ◌⊎◌, ◌+◌, ℕ, List, [], ◌∷◌, ◌++◌, length, map, Option, Some, None, Result, Ok, Err, inl, inr, true, false, refl, sym, ap, subst, ◌∙◌, append_assoc, append-nil, arith, rules}
use Rattle.std.specs.Prelude.{slice_get, slice_index, All, Contains, sum_by}
use Rattle.std.specs.List.{flat_map, list_any}
use Rattle.std.proofs.Math.ListN.{get_or}
use Rattle.std.proofs.Math.Seq.{get_or-append_seam}
use Rattle.std.proofs.lemmas.Grind.{flat_map-append}
use Rattle.std.proofs.lemmas.Option.{slice_get-get_or}
use Rattle.std.proofs.lemmas.Bool.{cases_lt}
use Rattle.std.proofs.lemmas.List.{length-append, map-append, length-map}
use Rattle.std.proofs.lemmas.List.Elements.{All-head, All-tail, Contains-append_right}
use Rattle.verb_codes.specs.declared.verbs.Command.{Command}
use Rattle.codec_graph.specs.declared.raw.RawCodec.{RawCodec}
use Rattle.codec_graph.specs.Cycles.{IsWellFormed}
use Rattle.route_planner.specs.declared.routes.Plan.{Plan}
use Rattle.route_setup.specs.Means.{Means}
use Rattle.codec_walk.specs.declared.walk.Walk.{Walk}
use Rattle.codec_walk.specs.declared.fault.WalkError.{WalkError}
use Rattle.codec_walk.specs.declared.fault.WalkError.TheVariants.{Malformed, OutOfMemory}
use Rattle.codec_walk.specs.declared.fault.WalkFault.{WalkFault}
use Rattle.codec_walk.specs.declared.words.CodecWord.TheVariants.{Vendor}
use Rattle.codec_walk.specs.Dialogues.{Dialogue, Ask, Told, question, answered, after, told}
use Rattle.codec_walk.specs.Walks.{walk}
use Rattle.codec_walk.specs.Words.{codec_command}
use Rattle.codec_walk.specs.Commands.{walk_commands, node_count}
use Rattle.codec_walk.specs.Replies.{CanAnswer, AreReplies}
use Rattle.codec_walk.specs.Outcomes.{IsGood, IsOutcome, graph_told}
use Rattle.codec_walk.specs.Remaining.{remaining}
use Rattle.codec_walk.proofs.Callers.{after-push, replies-push}
use Rattle.driver_agenda.specs.declared.agenda.Agenda.{Agenda}
use Rattle.driver_agenda.specs.Planned.{ArePlansBy, verbs_for, has_route}
use Rattle.driver_agenda.specs.Agendas.{next_of, BeginsWalk, BeginsVerbs, GoesOn, WalksOn, WalkEnds, LedByDialogue, LedBy, GivesFault, TellsFault, EndsLast, TellsNoRoute}
use Rattle.driver_agenda.specs.Following.{commands_of, AreRight, FollowsWalk, FollowsBy, Follows, CanReply}
use Rattle.driver_agenda.proofs.Places.{get_front, get_back, walk_goes, walked_goes}

-- ---- the laws of walks

abbrev pub Asks : Type 0
Asks = (graph : RawCodec) (answers : List ℕ) → IsWellFormed graph → AreReplies (CanAnswer graph) (walk_commands graph) answers
    → question (after (walk graph.address) answers) ≡ slice_get (walk_commands graph) (length answers)

abbrev pub Tells : Type 0
Tells = (graph : RawCodec) (answers : List ℕ) → IsWellFormed graph → AreReplies (CanAnswer graph) (walk_commands graph) answers
    → length answers ≡ length (walk_commands graph) → (codec : RawCodec) × ((after (walk graph.address) answers ≡ Told codec) × IsGood codec graph)

abbrev pub Counts : Type 0
Counts = (codec : RawCodec) → length (walk_commands codec) ≡ 10 + sum_by node_count codec.nodes

abbrev pub AreOne : Type 0
AreOne = (codec : RawCodec) (one other : Result RawCodec WalkError) → IsOutcome codec one → IsOutcome codec other
    → (one ≡ other) ⊎ ((one ≡ Err OutOfMemory) ⊎ (other ≡ Err OutOfMemory))

-- ---- where the current codec stands

abbrev walked : List RawCodec → List Command
walked graphs = flat_map walk_commands graphs

walked_split : (graphs done rest : List RawCodec) (current : RawCodec) → graphs ≡ done ++ current ∷ rest → walked graphs ≡ walked done ++ (walk_commands current ++ walked rest)
walked_split graphs done rest current split = ap walked split ∙ flat_map-append walk_commands done (current ∷ rest)

current_well : (graphs done rest : List RawCodec) (current : RawCodec) → graphs ≡ done ++ current ∷ rest → All IsWellFormed graphs → IsWellFormed current
current_well graphs done rest current split all =
    let long = length-append done (current ∷ rest) in
    subst IsWellFormed (get_or-append_seam done current rest current)
    (subst (λ (graphs : List RawCodec). IsWellFormed (get_or graphs (length done) current)) split
    (all (length done) current (subst (λ (graphs : List RawCodec). length done < length graphs) (sym split) (omega (arith, long)))))

current_in : (graphs done rest : List RawCodec) (current : RawCodec) → graphs ≡ done ++ current ∷ rest → Contains graphs current
current_in graphs done rest current split =
    subst (λ (graphs : List RawCodec). Contains graphs current) (sym split) (Contains-append_right done (current ∷ rest) current (0, search rules, refl))

-- the command at a place of the current walk, among all commands
place_among : (verbs : RawCodec → List Command) (graphs done rest : List RawCodec) (current : RawCodec) (i count : ℕ) → graphs ≡ done ++ current ∷ rest → i < length (walk_commands current)
    → count ≡ length (walked done) + i → slice_get (commands_of verbs graphs) count ≡ slice_get (walk_commands current) i
place_among verbs graphs done rest current i count split few is =
    let whole = walked_split graphs done rest current split in
    let long = length-append (walked done) (walk_commands current ++ walked rest) in
    let long_too = length-append (walk_commands current) (walked rest) in
    let within : count < length (walked graphs) = subst (λ (all : List Command). count < length all) (sym whole) (omega (arith, long, long_too, few, is)) in
    get_front (walked graphs) (flat_map verbs graphs) count within
    ∙ ap (λ (all : List Command). slice_get all count) whole
    ∙ get_back (walked done) (walk_commands current ++ walked rest) i count is
    ∙ get_front (walk_commands current) (walked rest) i few

-- ---- the next command

next_walked : Asks → (verbs : RawCodec → List Command) (graphs : List RawCodec) (count : ℕ) (agenda : Agenda) (under_way : Walk) → All IsWellFormed graphs → FollowsWalk graphs count agenda under_way
    → question (remaining under_way) ≡ slice_get (commands_of verbs graphs) count
next_walked asks verbs graphs count agenda under_way all stands =
    ap question stands.at
    ∙ asks stands.current stands.words (current_well graphs stands.done stands.rest stands.current stands.split all) stands.replies
    ∙ sym (place_among verbs graphs stands.done stands.rest stands.current (length stands.words) count stands.split stands.few stands.count_is)

next_by : Asks → (means : Means) (verbs : RawCodec → List Command) (graphs : List RawCodec) (count : ℕ) (agenda : Agenda) (walks : Option Walk) → All IsWellFormed graphs
    → FollowsBy means verbs graphs count agenda walks → next_of walks agenda.verbs.items agenda.answered ≡ slice_get (commands_of verbs graphs) count
next_by asks means verbs graphs count agenda (Some under_way) all stands = next_walked asks verbs graphs count agenda under_way all stands
next_by asks means verbs graphs count agenda None all stands =
    ap (λ (all : List Command). slice_get all agenda.answered) stands.verbs_are
    ∙ sym (get_back (walked graphs) (flat_map verbs graphs) agenda.answered count stands.count_is)

pub next_follows : Asks → (means : Means) (verbs : RawCodec → List Command) (graphs : List RawCodec) (count : ℕ) (agenda : Agenda) → All IsWellFormed graphs
    → Follows means verbs graphs count agenda → next_of agenda.walk agenda.verbs.items agenda.answered ≡ slice_get (commands_of verbs graphs) count
next_follows asks means verbs graphs count agenda all follows = next_by asks means verbs graphs count agenda agenda.walk all follows.stands

-- ---- where an answer leads

-- a dialogue that asks leads on
asks_lead : (means : Means) (dialogue : Dialogue) (command : Command) (addresses : List ℕ) (graphs : List RawCodec) (new : Agenda)
    → question dialogue ≡ Some command → LedByDialogue means dialogue addresses graphs new → WalksOn dialogue graphs new
asks_lead means (Ask asked rest) command addresses graphs new is led = led
asks_lead means (Told codec) command addresses graphs new is led = absurd (no_question command is)
  where
    no_question : (command : Command) → None ≡ Some command → ⊥
    no_question command is = cc

-- the verbs of graphs by their plans are the graphs'
verbs_same : (means : Means) (verbs : RawCodec → List Command) (graphs : List RawCodec) (plans : List Plan)
    → All (λ (graph : RawCodec). (plan : Plan) → means.IsPlanBy graph plan → verbs graph ≡ means.verbs_by graph plan) graphs → ArePlansBy means.IsPlanBy graphs plans → verbs_for means.verbs_by graphs plans ≡ flat_map verbs graphs
verbs_same means verbs [] [] are plans_are = refl
verbs_same means verbs [] (plan ∷ plans) are plans_are = absurd plans_are
verbs_same means verbs (graph ∷ graphs) [] are plans_are = absurd plans_are
verbs_same means verbs (graph ∷ graphs) (plan ∷ plans) are plans_are =
    let Is : RawCodec → Type 0 = λ graph. (plan : Plan) → means.IsPlanBy graph plan → verbs graph ≡ means.verbs_by graph plan in
    ap (λ (first : List Command). first ++ verbs_for means.verbs_by graphs plans) (sym (All-head Is graph graphs are plan plans_are.0))
    ∙ ap (λ (rest : List Command). verbs graph ++ rest) (verbs_same means verbs graphs plans (All-tail Is graph graphs are) plans_are.1)

-- the walk over the next codec
begins_next : Counts → (means : Means) (verbs : RawCodec → List Command) (graphs done rest : List RawCodec) (next : RawCodec) (addresses : List ℕ) (count : ℕ) (new : Agenda)
    → graphs ≡ done ++ next ∷ rest → addresses ≡ map (λ (graph : RawCodec). graph.address) graphs → count ≡ length (walked done) → BeginsWalk addresses done new → FollowsBy means verbs graphs count new new.walk
begins_next counts means verbs graphs done rest next addresses count new split are is begins =
    let placed : slice_index addresses (length done) ≡ next.address =
    ap (λ (all : List ℕ). slice_index all (length done)) (are ∙ ap (map (λ (graph : RawCodec). graph.address)) split ∙ map-append (λ (graph : RawCodec). graph.address) done (next ∷ rest))
    ∙ ap (slice_index (map (λ (graph : RawCodec). graph.address) done ++ next.address ∷ map (λ (graph : RawCodec). graph.address) rest)) (sym (length-map done (λ (graph : RawCodec). graph.address)))
    ∙ get_or-append_seam (map (λ (graph : RawCodec). graph.address) done) next.address (map (λ (graph : RawCodec). graph.address) rest) 0 in
    let some = counts next in
    subst (FollowsBy means verbs graphs count new) (sym begins.is) (record {
      done = done;
      current = next;
      rest = rest;
      words = [];
      split = split;
      graphs_are = begins.graphs_are;
      at = begins.begins ∙ ap walk placed;
      replies = tt;
      few = omega (arith, some);
      count_is = omega (arith, is);
    })

begins_verbs : (means : Means) (verbs : RawCodec → List Command) (graphs : List RawCodec) (count : ℕ) (new : Agenda) → AreRight means verbs graphs
    → count ≡ length (walked graphs) → BeginsVerbs means graphs new → FollowsBy means verbs graphs count new new.walk
begins_verbs means verbs graphs count new right is begins =
    subst (FollowsBy means verbs graphs count new) (sym begins.no_walk) (record {
      graphs_are = begins.graphs_are;
      plans = begins.plans;
      verbs_are = begins.verbs ∙ verbs_same means verbs graphs new.plans.items right.verbs_are begins.plans;
      count_is = let none = begins.none in omega (arith, is, none);
    })

-- what comes after the walk over a codec
goes_on_by : Counts → (means : Means) (verbs : RawCodec → List Command) (graphs done rest : List RawCodec) (addresses : List ℕ) (count : ℕ) (new : Agenda)
    → AreRight means verbs graphs → graphs ≡ done ++ rest → addresses ≡ map (λ (graph : RawCodec). graph.address) graphs → count ≡ length (walked done) → GoesOn means addresses done new
    → FollowsBy means verbs graphs count new new.walk
goes_on_by counts means verbs graphs done [] addresses count new right split are is goes =
    let all : graphs ≡ done = split ∙ append-nil done in
    let same : length addresses ≡ length done = ap length are ∙ length-map graphs (λ (graph : RawCodec). graph.address) ∙ ap length all in
    let begins : BeginsVerbs means done new = goes.1 (omega (arith, same)) in
    begins_verbs means verbs graphs count new right (is ∙ ap (λ (graphs : List RawCodec). length (walked graphs)) (sym all)) (subst (λ (graphs : List RawCodec). BeginsVerbs means graphs new) (sym all) begins)
goes_on_by counts means verbs graphs done (next ∷ rest) addresses count new right split are is goes =
    let long = length-append done (next ∷ rest) in
    let same : length addresses ≡ length (done ++ next ∷ rest) = ap length are ∙ length-map graphs (λ (graph : RawCodec). graph.address) ∙ ap length split in
    begins_next counts means verbs graphs done rest next addresses count new split are is (goes.0 (omega (arith, long, same)))

-- ---- an answer to the current walk

module _ (asks : Asks) (tells : Tells) (counts : Counts) (means : Means) (verbs : RawCodec → List Command) (graphs : List RawCodec)
    (right : AreRight means verbs graphs) (count answer : ℕ) (old : Agenda) (under_way : Walk) (stands : FollowsWalk graphs count old under_way)
    (reply : (command : Command) → slice_get (commands_of verbs graphs) count ≡ Some command → CanReply graphs command answer) where
  well : IsWellFormed stands.current
  well = current_well graphs stands.done stands.rest stands.current stands.split right.well_formed

  pub replies_after : AreReplies (CanAnswer stands.current) (walk_commands stands.current) (stands.words ++ answer ∷ [])
  replies_after =
      let asked = get_or (walk_commands stands.current) (length stands.words) (codec_command stands.current Vendor) in
      let there : slice_get (walk_commands stands.current) (length stands.words) ≡ Some asked = slice_get-get_or (walk_commands stands.current) (length stands.words) (codec_command stands.current Vendor) stands.few in
      let among = place_among verbs graphs stands.done stands.rest stands.current (length stands.words) count stands.split stands.few stands.count_is ∙ there in
      let goes = walked_goes stands.current (walk_commands stands.current) (length stands.words) asked (walk_goes stands.current) there in
      replies-push (CanAnswer stands.current) (walk_commands stands.current) stands.words asked answer stands.replies there
      (reply asked among stands.current (current_in graphs stands.done stands.rest stands.current stands.split) (sym goes))

  pub goes_to : answered (remaining under_way) answer ≡ after (walk stands.current.address) (stands.words ++ answer ∷ [])
  goes_to = ap (λ (dialogue : Dialogue). answered dialogue answer) stands.at ∙ sym (after-push (walk stands.current.address) stands.words answer)

  long_after : length (stands.words ++ answer ∷ []) ≡ length stands.words + 1
  long_after = let long = length-append stands.words (answer ∷ []) in omega (arith, long)

  -- all words were told: the walk's graph is the codec's
  pub told_current : length (walk_commands stands.current) ≤ length stands.words + 1 → (codec : RawCodec) × (answered (remaining under_way) answer ≡ Told codec) × IsGood codec stands.current
  told_current last =
      let few = stands.few in
      let long = long_after in
      let (codec, (at, good)) = tells stands.current (stands.words ++ answer ∷ []) well replies_after (omega (arith, last, few, long)) in
      (codec, goes_to ∙ at, good)

  -- or it asks on
  pub asks_next : length stands.words + 1 < length (walk_commands stands.current)
      → question (answered (remaining under_way) answer) ≡ Some (get_or (walk_commands stands.current) (length stands.words + 1) (codec_command stands.current Vendor))
  asks_next more =
      ap question goes_to ∙ asks stands.current (stands.words ++ answer ∷ []) well replies_after
      ∙ ap (slice_get (walk_commands stands.current)) long_after
      ∙ slice_get-get_or (walk_commands stands.current) (length stands.words + 1) (codec_command stands.current Vendor) more

  pub led_walk : (addresses : List ℕ) (new : Agenda) → addresses ≡ map (λ (graph : RawCodec). graph.address) graphs
      → LedByDialogue means (answered (remaining under_way) answer) addresses old.graphs.items new → FollowsBy means verbs graphs (count + 1) new new.walk
  led_walk addresses new are led = by (cases_lt (length stands.words + 1) (length (walk_commands stands.current)))
    where
      whole : length (walked (stands.done ++ stands.current ∷ [])) ≡ length (walked stands.done) + length (walk_commands stands.current)
      whole =
          let long = length-append (walked stands.done) (walk_commands stands.current) in
          ap length (flat_map-append walk_commands stands.done (stands.current ∷ []) ∙ ap (λ (last : List Command). walked stands.done ++ last) (append-nil (walk_commands stands.current))) ∙ long

      by : (length stands.words + 1 < length (walk_commands stands.current)) ⊎ (length (walk_commands stands.current) ≤ length stands.words + 1) → FollowsBy means verbs graphs (count + 1) new new.walk
      by (inl more) =
          let on = asks_lead means (answered (remaining under_way) answer) _ addresses old.graphs.items new (asks_next more) led in
          let long = long_after in
          let is = stands.count_is in
          subst (FollowsBy means verbs graphs (count + 1) new) (sym on.is) (record {
            done = stands.done;
            current = stands.current;
            rest = stands.rest;
            words = stands.words ++ answer ∷ [];
            split = stands.split;
            graphs_are = on.graphs_are ∙ stands.graphs_are;
            at = on.goes_on ∙ goes_to;
            replies = replies_after;
            few = omega (arith, long, more);
            count_is = omega (arith, long, is);
          })
      by (inr last) =
          let (codec, told, good) = told_current last in
          let ends : WalkEnds means codec addresses old.graphs.items new = subst (λ (dialogue : Dialogue). LedByDialogue means dialogue addresses old.graphs.items new) told led in
          let same : ends.graph ≡ stands.current = ends.good.value ∙ sym good.value in
          let goes : GoesOn means addresses (stands.done ++ stands.current ∷ []) new =
          subst (λ (graphs : List RawCodec). GoesOn means addresses graphs new) (ap (λ (done : List RawCodec). done ++ ends.graph ∷ []) stands.graphs_are ∙ ap (λ (graph : RawCodec). stands.done ++ graph ∷ []) same) ends.goes_on in
          let is = stands.count_is in
          let few = stands.few in
          let all = whole in
          goes_on_by counts means verbs graphs (stands.done ++ stands.current ∷ []) stands.rest addresses (count + 1) new right
          (stands.split ∙ sym (append_assoc stands.done (stands.current ∷ []) stands.rest)) are (omega (arith, is, few, last, all)) goes

  -- where words were told, they are all of them
  all_told : (codec : RawCodec) → answered (remaining under_way) answer ≡ Told codec → length (walk_commands stands.current) ≤ length stands.words + 1
  all_told codec told = by (cases_lt (length stands.words + 1) (length (walk_commands stands.current)))
    where
      no_question : (command : Command) → None ≡ Some command → ⊥
      no_question command is = cc

      by : (length stands.words + 1 < length (walk_commands stands.current)) ⊎ (length (walk_commands stands.current) ≤ length stands.words + 1) → length (walk_commands stands.current) ≤ length stands.words + 1
      by (inl more) = absurd (no_question _ (sym (ap question told) ∙ asks_next more))
      by (inr last) = last

  told_one : (one other : RawCodec) → Told one ≡ Told other → one ≡ other
  told_one one other is = cc

  -- they have no fault
  pub no_fault : (fault : WalkFault) → AreOne → GivesFault (answered (remaining under_way) answer) fault → ⊥
  no_fault fault one (codec, told, faulty) =
      let (codec', told', good) = told_current (all_told codec told) in
      let same : codec' ≡ codec = told_one codec' codec (sym told' ∙ told) in
      by (one codec (Ok stands.current) (Err (Malformed fault)) (subst (λ (codec : RawCodec). IsGood codec stands.current) same good) faulty)
    where
      by : (◌≡◌ {A = Result RawCodec WalkError} (Ok stands.current) (Err (Malformed fault))) ⊎ ((◌≡◌ {A = Result RawCodec WalkError} (Ok stands.current) (Err OutOfMemory)) ⊎ (◌≡◌ {A = Result RawCodec WalkError} (Err (Malformed fault)) (Err OutOfMemory))) → ⊥
      by (inl is) = cc
      by (inr (inl is)) = cc
      by (inr (inr is)) = cc

  -- and where they are the last codec's, some plan has a route
  pub has_route_left : (addresses : List ℕ) (new : Agenda) → addresses ≡ map (λ (graph : RawCodec). graph.address) graphs
      → EndsLast means (answered (remaining under_way) answer) addresses old.graphs.items new → ⊥
  has_route_left addresses new are ends =
      let (codec, told, good) = ends.gives in
      let (codec', told', good') = told_current (all_told codec told) in
      let same : codec' ≡ codec = told_one codec' codec (sym told' ∙ told) in
      let one : ends.graph ≡ stands.current = good.value ∙ ap graph_told (sym same) ∙ sym good'.value in
      let last = ends.last in
      let long = length-append old.graphs.items (ends.graph ∷ []) in
      let done_long : length old.graphs.items ≡ length stands.done = ap length stands.graphs_are in
      let long_too = length-append stands.done (stands.current ∷ stands.rest) in
      let count_of : length addresses ≡ length (stands.done ++ stands.current ∷ stands.rest) = ap length are ∙ length-map graphs (λ (graph : RawCodec). graph.address) ∙ ap length stands.split in
      let none_left : stands.rest ≡ [] = no_rest stands.rest (omega (arith, last, long, done_long, long_too, count_of)) in
      let all : old.graphs.items ++ ends.graph ∷ [] ≡ graphs =
      ap (λ (done : List RawCodec). done ++ ends.graph ∷ []) stands.graphs_are ∙ ap (λ (graph : RawCodec). stands.done ++ graph ∷ []) one
      ∙ ap (λ (rest : List RawCodec). stands.done ++ stands.current ∷ rest) (sym none_left) ∙ sym stands.split in
      both (right.routed new.plans.items (subst (λ (graphs : List RawCodec). ArePlansBy means.IsPlanBy graphs new.plans.items) all ends.nothing.plans)) ends.nothing.none
    where
      no_rest : (rest : List RawCodec) → length rest ≡ 0 → rest ≡ []
      no_rest [] is = refl
      no_rest (graph ∷ rest) is = absurd (omega (arith, is))

      both : list_any has_route new.plans.items ≡ true → list_any has_route new.plans.items ≡ false → ⊥
      both yes_it no_it = cc

-- ---- an answer

-- a walk that is not at its end has commands left
pub walks_on : (graphs : List RawCodec) (count : ℕ) (agenda : Agenda) (under_way : Walk) → FollowsWalk graphs count agenda under_way → count < length (flat_map walk_commands graphs)
walks_on graphs count agenda under_way stands =
    let all = ap (λ (graphs : List RawCodec). length (flat_map walk_commands graphs)) stands.split
    ∙ ap length (flat_map-append walk_commands stands.done (stands.current ∷ stands.rest))
    ∙ length-append (flat_map walk_commands stands.done) (walk_commands stands.current ++ flat_map walk_commands stands.rest) in
    let later = length-append (walk_commands stands.current) (flat_map walk_commands stands.rest) in
    let few = stands.few in
    let is = stands.count_is in
    omega (arith, all, later, few, is)

led_by : Asks → Tells → Counts → (means : Means) (verbs : RawCodec → List Command) (graphs : List RawCodec) → AreRight means verbs graphs
    → (count answer : ℕ) (old new : Agenda) (walks : Option Walk) → FollowsBy means verbs graphs count old walks → old.addresses.items ≡ map (λ (graph : RawCodec). graph.address) graphs
    → (count < length (flat_map walk_commands graphs) → (command : Command) → slice_get (commands_of verbs graphs) count ≡ Some command → CanReply graphs command answer) → LedBy means walks answer old new → FollowsBy means verbs graphs (count + 1) new new.walk
led_by asks tells counts means verbs graphs right count answer old new (Some under_way) stands are reply led =
    led_walk asks tells counts means verbs graphs right count answer old under_way stands (reply (walks_on graphs count old under_way stands)) old.addresses.items new are led
led_by asks tells counts means verbs graphs right count answer old new None stands are reply led =
    subst (FollowsBy means verbs graphs (count + 1) new) (sym led.no_walk) (record {
      graphs_are = led.graphs ∙ stands.graphs_are;
      plans = subst (λ (plans : List Plan). ArePlansBy means.IsPlanBy graphs plans) (sym led.plans) stands.plans;
      verbs_are = led.verbs ∙ stands.verbs_are;
      count_is = let is = stands.count_is in let more = led.one_more in omega (arith, is, more);
    })

pub leads_follow : Asks → Tells → Counts → (means : Means) (verbs : RawCodec → List Command) (graphs : List RawCodec) → AreRight means verbs graphs
    → (count answer : ℕ) (old new : Agenda) → Follows means verbs graphs count old → (count < length (flat_map walk_commands graphs) → (command : Command) → slice_get (commands_of verbs graphs) count ≡ Some command → CanReply graphs command answer)
    → LedBy means old.walk answer old new → new.addresses ≡ old.addresses → Follows means verbs graphs (count + 1) new
leads_follow asks tells counts means verbs graphs right count answer old new follows reply led same = record {
  addresses = ap (λ addresses. addresses.items) same ∙ follows.addresses;
  stands = led_by asks tells counts means verbs graphs right count answer old new old.walk follows.stands follows.addresses reply led;
}

pub begins_follow : Counts → (means : Means) (verbs : RawCodec → List Command) (first : RawCodec) (rest : List RawCodec) (agenda : Agenda)
    → agenda.addresses.items ≡ map (λ (graph : RawCodec). graph.address) (first ∷ rest) → BeginsWalk agenda.addresses.items [] agenda → Follows means verbs (first ∷ rest) 0 agenda
begins_follow counts means verbs first rest agenda are begins = record {
  addresses = are;
  stands = begins_next counts means verbs (first ∷ rest) [] rest first agenda.addresses.items 0 agenda refl are refl begins;
}

fault_by : Asks → Tells → Counts → AreOne → (means : Means) (verbs : RawCodec → List Command) (graphs : List RawCodec) → AreRight means verbs graphs
    → (count answer : ℕ) (old : Agenda) (walks : Option Walk) (fault : WalkFault) → FollowsBy means verbs graphs count old walks
    → (count < length (flat_map walk_commands graphs) → (command : Command) → slice_get (commands_of verbs graphs) count ≡ Some command → CanReply graphs command answer) → TellsFault walks answer fault → ⊥
fault_by asks tells counts one means verbs graphs right count answer old (Some under_way) fault stands reply faulty =
    no_fault asks tells counts means verbs graphs right count answer old under_way stands (reply (walks_on graphs count old under_way stands)) fault one faulty
fault_by asks tells counts one means verbs graphs right count answer old None fault stands reply faulty = faulty

pub fault_never : Asks → Tells → Counts → AreOne → (means : Means) (verbs : RawCodec → List Command) (graphs : List RawCodec) → AreRight means verbs graphs
    → (count answer : ℕ) (old : Agenda) (fault : WalkFault) → Follows means verbs graphs count old
    → (count < length (flat_map walk_commands graphs) → (command : Command) → slice_get (commands_of verbs graphs) count ≡ Some command → CanReply graphs command answer) → TellsFault old.walk answer fault → ⊥
fault_never asks tells counts one means verbs graphs right count answer old fault follows reply faulty =
    fault_by asks tells counts one means verbs graphs right count answer old old.walk fault follows.stands reply faulty

route_by : Asks → Tells → Counts → (means : Means) (verbs : RawCodec → List Command) (graphs : List RawCodec) → AreRight means verbs graphs
    → (count answer : ℕ) (old new : Agenda) (walks : Option Walk) → FollowsBy means verbs graphs count old walks → old.addresses.items ≡ map (λ (graph : RawCodec). graph.address) graphs
    → (count < length (flat_map walk_commands graphs) → (command : Command) → slice_get (commands_of verbs graphs) count ≡ Some command → CanReply graphs command answer)
    → TellsNoRoute means walks answer old.addresses.items old.graphs.items new → ⊥
route_by asks tells counts means verbs graphs right count answer old new (Some under_way) stands are reply nothing =
    has_route_left asks tells counts means verbs graphs right count answer old under_way stands (reply (walks_on graphs count old under_way stands)) old.addresses.items new are nothing
route_by asks tells counts means verbs graphs right count answer old new None stands are reply nothing = nothing

pub route_there : Asks → Tells → Counts → (means : Means) (verbs : RawCodec → List Command) (graphs : List RawCodec) → AreRight means verbs graphs
    → (count answer : ℕ) (old new : Agenda) → Follows means verbs graphs count old
    → (count < length (flat_map walk_commands graphs) → (command : Command) → slice_get (commands_of verbs graphs) count ≡ Some command → CanReply graphs command answer)
    → TellsNoRoute means old.walk answer old.addresses.items old.graphs.items new → ⊥
route_there asks tells counts means verbs graphs right count answer old new follows reply nothing =
    route_by asks tells counts means verbs graphs right count answer old new old.walk follows.stands follows.addresses reply nothing
