-- Which graphs are walked, by how many commands were sent.
use Rattle.std.proofs.Common.{◌≡◌, ◌≤◌, ◌<◌, ◌+◌, map, ℕ, Bool, true, false, List, [], ◌∷◌, ◌++◌, length, nat_le, if◌then◌else◌, Option, Some, None, refl, sym, ap, subst, ◌∙◌, arith, append-nil, length-append}
use Rattle.std.proofs.lemmas.Bool.{false≢true}
use Rattle.std.specs.List.{flat_map}
use Rattle.std.proofs.lemmas.List.{length-map}
use Rattle.verb_codes.specs.declared.verbs.Command.{Command}
use Rattle.codec_graph.specs.declared.raw.RawCodec.{RawCodec}
use Rattle.route_planner.specs.declared.routes.Plan.{Plan}
use Rattle.route_setup.specs.Means.{Means}
use Rattle.codec_walk.specs.declared.walk.Walk.{Walk}
use Rattle.codec_walk.specs.Words.{codec_words, codec_command}
use Rattle.codec_walk.specs.Commands.{walk_commands, nodes_commands}
use Rattle.command_engine.specs.declared.answers.Outstanding.{Outstanding}
use Rattle.driver_agenda.specs.declared.agenda.Agenda.{Agenda}
use Rattle.driver_agenda.specs.Following.{commands_of, Follows, FollowsBy}
use Rattle.driver_progress.specs.declared.phase.Phase.{Phase}
use Rattle.driver_progress.specs.declared.phase.Phase.TheVariants.{Walking, SettingUp, Ready}
use Rattle.driver_progress.specs.Phases.{goes_on}
use Rattle.driver_progress.specs.Next.{phase_of_answers}
use Rattle.driver_progress.specs.Tasks.{Task, Order, walks_over}
use Rattle.driver_agenda.proofs.Callers.{walks_on}
use Rattle.driver_bring_up.specs.Standing.{answers_of}
use Rattle.driver_bring_up.specs.declared.bringing.BringUp.{BringUp}
use Rattle.laws_bring_up.specs.Standing.{IsTaskOfCodecs, AreWalked, HasWalked, WalkedIn}
use Rattle.laws_bring_up.proofs.Ready.{all_answered, at_most}

-- none, before the first
-- a walk has a command
some_walk : (graph : RawCodec) → 1 ≤ length (walk_commands graph)
unfolding walk_commands
some_walk graph = omega (arith, length-append (map (codec_command graph) codec_words) (nodes_commands graph.address graph.first graph.nodes))

few_answers : (outstanding : Option Outstanding) (sent : ℕ) → answers_of sent outstanding ≤ sent
few_answers None sent = omega arith
few_answers (Some command) sent = omega arith

pub none_walked : (graphs walked : List RawCodec) (walks sent : ℕ) (outstanding : Option Outstanding) → walked ≡ [] → sent ≡ 0 → AreWalked graphs walked walks sent (answers_of sent outstanding)
none_walked graphs walked walks sent outstanding none begun = record {
  rest = graphs;
  first = ap (λ (walked : List RawCodec). walked ++ graphs) (sym none);
  told = (let zero = ap (λ (walked : List RawCodec). length (flat_map walk_commands walked)) none in omega (arith, zero));
  untold = λ next later is. (let some = some_walk next in let few = few_answers outstanding sent in omega (arith, some, few, begun));
  all = λ less. absurd (omega (arith, begun, less));
}

-- as before
pub walked_on : (graphs : List RawCodec) (task : Task) (old new : BringUp) → new.agenda ≡ old.agenda → new.sent ≡ old.sent → new.engine.rings.outstanding ≡ old.engine.rings.outstanding → HasWalked graphs task old → HasWalked graphs task new
walked_on graphs task old new same sent outstanding walked =
    subst (λ (sent : ℕ). AreWalked graphs new.agenda.graphs.items task.walks sent (answers_of sent new.engine.rings.outstanding)) (sym sent)
    (subst (λ (outstanding : Option Outstanding). AreWalked graphs new.agenda.graphs.items task.walks old.sent (answers_of old.sent outstanding)) (sym outstanding)
    (subst (λ (agenda : Agenda). AreWalked graphs agenda.graphs.items task.walks old.sent (answers_of old.sent old.engine.rings.outstanding)) (sym same) walked))

answers_many : (outstanding : Option Outstanding) (sent n : ℕ) → n < sent → n ≤ answers_of sent outstanding
answers_many None sent n less = omega (arith, less)
answers_many (Some command) sent n less = omega (arith, less)

walks_answered : (all walked : Bool) → (if all then Ready else (if walked then SettingUp else Walking)) ≡ SettingUp → walked ≡ true
walks_answered true walked is = cc
walks_answered false true is = refl
walks_answered false false is = cc

pub none_next : (next : RawCodec) (later : List RawCodec) → [] ≡ next ∷ later → ⊥
none_next next later is = cc

same_next : (one other : RawCodec) (rest later : List RawCodec) → one ∷ rest ≡ other ∷ later → one ≡ other
same_next one other rest later is = cc

module _ (means : Means) (verbs : RawCodec → List Command) (graphs : List RawCodec) (task : Task) (of : IsTaskOfCodecs means verbs graphs task) where
  -- the first of all
  record IsFront (walked : List RawCodec) (count : ℕ) : Type 0 where
    rest : List RawCodec
    first : graphs ≡ walked ++ rest
    told : length (walks_over walked) ≤ count
    untold : (next : RawCodec) (later : List RawCodec) → rest ≡ next ∷ later → count < length (walks_over walked) + length (walk_commands next)

  walked_first : (count : ℕ) (agenda : Agenda) (walks : Option Walk) → FollowsBy means verbs graphs count agenda walks → IsFront agenda.graphs.items count
  walked_first count agenda None stands =
      let long = ap (λ (walked : List RawCodec). length (flat_map walk_commands walked)) stands.graphs_are in
      let counted = stands.count_is in record {
        rest = [];
        first = sym stands.graphs_are ∙ sym (append-nil agenda.graphs.items);
        told = omega (arith, long, counted);
        untold = λ next later is. absurd (none_next next later is);
      }
  walked_first count agenda (Some under_way) stands =
      let long = ap (λ (walked : List RawCodec). length (flat_map walk_commands walked)) stands.graphs_are in
      let counted = stands.count_is in record {
        rest = stands.current ∷ stands.rest;
        first = stands.split ∙ ap (λ (done : List RawCodec). done ++ stands.current ∷ stands.rest) (sym stands.graphs_are);
        told = omega (arith, long, counted);
        untold = λ next later is. (let few = stands.few in let same = ap (λ (graph : RawCodec). length (walk_commands graph)) (same_next stands.current next stands.rest later is) in omega (arith, long, counted, few, same));
      }

  -- once the walks are over, all
  walked_all : (count : ℕ) (agenda : Agenda) (walks : Option Walk) → FollowsBy means verbs graphs count agenda walks → task.walks ≤ count → agenda.graphs.items ≡ graphs
  walked_all count agenda None stands all = stands.graphs_are
  walked_all count agenda (Some under_way) stands all =
      let few = walks_on graphs count agenda under_way stands in
      let walks = of.is_for.walks in
      absurd (omega (arith, few, walks, all))

  pub walked_by : (sent : ℕ) (outstanding : Option Outstanding) (agenda : Agenda) → Follows means verbs graphs (answers_of sent outstanding) agenda → AreWalked graphs agenda.graphs.items task.walks sent (answers_of sent outstanding)
  walked_by sent outstanding agenda follows =
      let front = walked_first (answers_of sent outstanding) agenda agenda.walk follows.stands in record {
        rest = front.rest;
        first = front.first;
        told = front.told;
        untold = front.untold;
        all = λ more. walked_all (answers_of sent outstanding) agenda agenda.walk follows.stands (answers_many outstanding sent task.walks more);
      }

  few_walks : task.walks ≤ length task.orders
  few_walks =
      let long = ap (λ (orders : List Order). length orders) of.is_for.orders ∙ length-map (commands_of verbs graphs) _ ∙ length-append (flat_map walk_commands graphs) (flat_map verbs graphs) in
      let walks = of.is_for.walks in
      omega (arith, long, walks)

  -- by the phase that goes with so many answers
  pub walked_in : (count : ℕ) (agenda : Agenda) (phase : Phase) → Follows means verbs graphs count agenda → phase ≡ phase_of_answers task count → goes_on phase ≡ true → WalkedIn phase (agenda.graphs.items ≡ graphs)
  walked_in count agenda Walking follows is goes = tt {0}
  walked_in count agenda SettingUp follows is goes =
      walked_all count agenda agenda.walk follows.stands (at_most task.walks count (walks_answered (nat_le (length task.orders) count) (nat_le task.walks count) (sym is)))
  walked_in count agenda Ready follows is goes =
      let all = at_most (length task.orders) count (all_answered (nat_le (length task.orders) count) (nat_le task.walks count) (sym is)) in
      let few = few_walks in
      walked_all count agenda agenda.walk follows.stands (omega (arith, all, few))
  walked_in count agenda phase follows is goes = absurd (false≢true goes)
