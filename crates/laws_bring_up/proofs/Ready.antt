-- Once all commands are answered, each codec is as its verbs set it.
use Rattle.std.proofs.Common.{◌≡◌, ◌≤◌, ◌<◌, ◌+◌, ◌*◌, ◌==◌, ℕ, zero, suc, Bool, true, false, List, [], ◌∷◌, map, length, if◌then◌else◌, nat_le, Option, Some, None, refl, sym, ap, subst, ◌∙◌, arith, rules, tests, inl, inr, length-append}
use Rattle.std.specs.Prelude.{All, Contains, drop, get_or, cond}
use Rattle.std.specs.List.{flat_map}
use Rattle.std.proofs.lemmas.List.{length-map, length-drop, take_all}
use Rattle.std.proofs.lemmas.List.Elements.{All-nil, All-cons, All-head, All-tail, All-contains}
use Rattle.std.proofs.lemmas.Option.{slice_get_within, same_Some}
use Rattle.verb_codes.specs.declared.verbs.Command.{Command}
use Rattle.verb_codes.specs.Verbs.{word_of}
use Rattle.codec_graph.specs.declared.raw.RawCodec.{RawCodec}
use Rattle.codec_graph.specs.Cycles.{IsWellFormed}
use Rattle.codec_graph.specs.Settings.{Entries, IsSettingsOf}
use Rattle.codec_graph.specs.CodecStates.{CodecState}
use Rattle.route_planner.specs.declared.routes.Plan.{Plan}
use Rattle.route_setup.specs.Means.{Means}
use Rattle.codec_walk.specs.declared.walk.Walk.{Walk}
use Rattle.codec_walk.specs.Commands.{walk_commands}
use Rattle.setup_verbs.specs.SetUp.{IsCommandOf, settings_after}
use Rattle.world_rings.specs.declared.entries.TheConstants.{COMMAND_BYTES}
use Rattle.world_rings.specs.Memory.{word_at}
use Rattle.hda_world.specs.Worlds.{World, TakenCommand, codec_at}
use Rattle.command_engine.specs.declared.answers.Outstanding.{Outstanding}
use Rattle.command_engine.specs.Fetchings.{RingPart, part_of, IsFetching, IsWordOf, AscendFrom, graphs_in, graph_at}
use Rattle.command_engine.proofs.Callers.{graph_there, none_gained}
use Rattle.driver_agenda.specs.declared.agenda.Agenda.{Agenda}
use Rattle.driver_agenda.specs.Following.{commands_of, FollowsBy}
use Rattle.driver_agenda.specs.Planned.{ArePlansBy}
use Rattle.laws_settings.specs.Histories.{FoundTaken, HasTaken, words_of}
use Rattle.laws_settings.specs.Readings.{KeepsDefaults}
use Rattle.laws_settings.specs.Addressed.{graphs_at, CanBeSent, IsSetBy}
use Rattle.laws_settings.proofs.Callers.{found_by, takes_its_own}
use Rattle.driver_progress.specs.declared.phase.Phase.{Phase}
use Rattle.driver_progress.specs.declared.phase.Phase.TheVariants.{Walking, SettingUp, Ready}
use Rattle.driver_progress.specs.Phases.{goes_on}
use Rattle.driver_progress.specs.Tasks.{Task, Order}
use Rattle.driver_agenda.proofs.Callers.{walks_on}
use Rattle.driver_bring_up.specs.Standing.{answers_of}
use Rattle.driver_bring_up.specs.declared.bringing.BringUp.{BringUp}
use Rattle.laws_bring_up.specs.Standing.{IsTaskOfCodecs, IsLastSent, HaveTaken, IsAsking, StandsIn, IsBroughtUp}
use Rattle.laws_bring_up.specs.SettingUp.{AreSetUp, AreSetUpForGood}
use Rattle.laws_bring_up.proofs.Following.{AgendaLaws}
use Rattle.laws_bring_up.proofs.Replying.{all_low, at_place, found_there, other_address, same_address, words_mapped}

-- ---- all are answered

pub all_answered : (all walked : Bool) → (if all then Ready else (if walked then SettingUp else Walking)) ≡ Ready → all ≡ true
all_answered true walked is = refl
all_answered false true is = cc
all_answered false false is = cc

pub at_most : (a b : ℕ) → nat_le a b ≡ true → a ≤ b
at_most a b is = search (rules, tests)

none_left : (orders : List Order) (sent : ℕ) (outstanding : Option Outstanding) → IsLastSent orders sent outstanding → length orders ≤ answers_of sent outstanding → outstanding ≡ None
none_left orders sent None last all = refl
none_left orders sent (Some command) last all =
    let within = slice_get_within orders last.0 (record { codec = command.codec; word = command.word }) last.2 in
    let is = last.1 in
    absurd (omega (arith, within, is, all))

nothing_gained : (outstanding : Option Outstanding) (part : RingPart) (word : ℕ) (gained : List TakenCommand) → outstanding ≡ None → IsFetching outstanding part word gained → gained ≡ []
nothing_gained None part word gained none trail = none_gained part word gained trail
nothing_gained (Some command) part word gained none trail = absurd (some_none command none)
  where
    some_none : (command : Outstanding) → Some command ≡ None → ⊥
    some_none command is = cc

-- and all were fetched
all_fetched : (outstanding : Option Outstanding) (part : RingPart) (word : ℕ) (gained : List TakenCommand) → outstanding ≡ None → IsFetching outstanding part word gained → part.corb_read_pointer ≡ part.corb_write_pointer
all_fetched outstanding part word gained none (inl all) = all.pointers
all_fetched outstanding part word gained none (inr next) = absurd (subst (λ (outstanding : Option Outstanding). IsWordOf outstanding word) none next.is)

-- ---- a codec by its address

none_at : (low : ℕ) (graphs : List RawCodec) (address : ℕ) → AscendFrom low graphs → address < low → graphs_at address graphs ≡ []
none_at low [] address ascend less = refl
none_at low (graph ∷ graphs) address ascend less =
    let first = ascend.0 in
    ap (λ (is : Bool). cond is (graph ∷ graphs_at address graphs) (graphs_at address graphs)) (above_address graph.address address (omega (arith, first, less)))
    ∙ none_at (graph.address + 1) graphs address ascend.2 (omega (arith, first, less))
  where
    above_address : (a b : ℕ) → b < a → (a == b) ≡ false
    above_address a b less = search (rules, tests)

one_at : (from : ℕ) (graphs : List RawCodec) (k : ℕ) (d : RawCodec) → AscendFrom from graphs → k < length graphs → graphs_at (get_or graphs k d).address graphs ≡ get_or graphs k d ∷ []
one_at from [] k d ascend less = absurd (omega (arith, less))
one_at from (graph ∷ graphs) zero d ascend less =
    ap (λ (is : Bool). cond is (graph ∷ graphs_at graph.address graphs) (graphs_at graph.address graphs)) (same_address graph.address)
    ∙ ap (λ (rest : List RawCodec). graph ∷ rest) (none_at (graph.address + 1) graphs graph.address ascend.2 (omega arith))
one_at from (graph ∷ graphs) (suc k) d ascend less =
    let found = get_or graphs k d in
    let above = (at_place (graph.address + 1) graphs k d ascend.2 (omega (arith, less))).0 in
    ap (λ (is : Bool). cond is (graph ∷ graphs_at found.address graphs) (graphs_at found.address graphs)) (other_address graph.address found.address (omega (arith, above)))
    ∙ one_at (graph.address + 1) graphs k d ascend.2 (omega (arith, less))

alone : (graphs : List RawCodec) (graph : RawCodec) → AscendFrom 0 graphs → Contains graphs graph → graphs_at graph.address graphs ≡ graph ∷ []
alone graphs graph ascend contains =
    subst (λ (graph : RawCodec). graphs_at graph.address graphs ≡ graph ∷ []) contains.2 (one_at 0 graphs contains.0 graph ascend contains.1)

-- the codec that was there at first
pub record WasThere (commands : List TakenCommand) (before : Option CodecState) (now : CodecState) : Type 0 where
  pub first : CodecState
  pub is : before ≡ Some first
  pub taken : HasTaken commands first now

was_there : (commands : List TakenCommand) (before after : Option CodecState) (now : CodecState) → FoundTaken commands before after → after ≡ Some now → WasThere commands before now
was_there commands None None now found is = absurd (none_there now is)
  where
    none_there : (now : CodecState) → None ≡ Some now → ⊥
    none_there now is = cc
was_there commands None (Some there) now found is = absurd found
was_there commands (Some first) None now found is = absurd found
was_there commands (Some first) (Some there) now found is = record { first = first; is = refl; taken = subst (λ (now : CodecState). HasTaken commands first now) (same_Some there now is) found }

all_there : (address : ℕ) (codecs : List CodecState) (codec : CodecState) → All KeepsDefaults codecs → codec_at address codecs ≡ Some codec → KeepsDefaults codec
all_there address [] codec all is = cc
all_there address (first ∷ codecs) codec all is = by (all_there address codecs codec (All-tail KeepsDefaults first codecs all)) (first.graph.address == address) is
  where
    by : (codec_at address codecs ≡ Some codec → KeepsDefaults codec) → (here : Bool) → (if here then Some first else codec_at address codecs) ≡ Some codec → KeepsDefaults codec
    by later true is = subst KeepsDefaults (same_Some first codec is) (All-head KeepsDefaults first codecs all)
    by later false is = later is

-- one that has this graph
record HasGraph (address : ℕ) (codecs : List CodecState) (graph : RawCodec) : Type 0 where
  now : CodecState
  found : codec_at address codecs ≡ Some now

codec_there : (address : ℕ) (codecs : List CodecState) (graph : RawCodec) → graph_at address (graphs_in codecs) ≡ Some graph → HasGraph address codecs graph
codec_there address [] graph is = cc
codec_there address (first ∷ codecs) graph is = by (codec_there address codecs graph) (first.graph.address == address) refl is
  where
    by : (graph_at address (graphs_in codecs) ≡ Some graph → HasGraph address codecs graph) → (here : Bool) → (first.graph.address == address) ≡ here → graph_at address (graphs_in (first ∷ codecs)) ≡ Some graph
        → HasGraph address (first ∷ codecs) graph
    by later true here there = record { now = first; found = ap (λ (is : Bool). if is then Some first else codec_at address codecs) here }
    by later false here there =
        let rest = later (sym (ap (λ (is : Bool). if is then Some first.graph else graph_at address (graphs_in codecs)) here) ∙ there) in
        record { now = rest.now; found = ap (λ (is : Bool). if is then Some first else codec_at address codecs) here ∙ rest.found }

-- ---- what a setter's plans and verbs are for, as it is handed in

pub record SetterLaws (means : Means) : Type 0 where
  pub encodable : (graph : RawCodec) (plan : Plan) → IsWellFormed graph → means.IsPlanBy graph plan → All (IsCommandOf graph) (means.verbs_by graph plan)
  pub opens : (graph : RawCodec) (plan : Plan) (settings : Entries) → IsWellFormed graph → means.IsPlanBy graph plan → IsSettingsOf graph settings → means.IsOpenBy graph (settings_after graph settings (means.verbs_by graph plan)) plan

-- a list without items
no_items : {A : Type 0} (items : List A) → length items ≡ 0 → items ≡ []
no_items {A} [] is = refl
no_items {A} (item ∷ items) is = cc

-- ---- once all commands were taken

module _ (means : Means) (verbs : RawCodec → List Command) (graphs : List RawCodec) (task : Task)
    (laws : AgendaLaws means verbs graphs) (of : IsTaskOfCodecs means verbs graphs task) (setter : SetterLaws means) where
  commands_by : (some : List RawCodec) (plans : List Plan) → ArePlansBy means.IsPlanBy some plans → All IsWellFormed some
      → All (λ (graph : RawCodec). (plan : Plan) → means.IsPlanBy graph plan → verbs graph ≡ means.verbs_by graph plan) some → All (λ (graph : RawCodec). All (IsCommandOf graph) (verbs graph)) some
  commands_by [] plans are well verbs_are = All-nil (λ (graph : RawCodec). All (IsCommandOf graph) (verbs graph))
  commands_by (graph ∷ some) [] are well verbs_are = absurd are
  commands_by (graph ∷ some) (plan ∷ plans) are well verbs_are =
      let Is : RawCodec → Type 0 = λ graph. (plan : Plan) → means.IsPlanBy graph plan → verbs graph ≡ means.verbs_by graph plan in
      All-cons (λ (graph : RawCodec). All (IsCommandOf graph) (verbs graph)) graph some
      (subst (All (IsCommandOf graph)) (sym (All-head Is graph some verbs_are plan are.0)) (setter.encodable graph plan (All-head IsWellFormed graph some well) are.0))
      (commands_by some plans are.1 (All-tail IsWellFormed graph some well) (All-tail Is graph some verbs_are))

  no_commands : (some : List RawCodec) → length (flat_map verbs some) ≡ 0 → All (λ (graph : RawCodec). All (IsCommandOf graph) (verbs graph)) some
  no_commands [] none = All-nil (λ (graph : RawCodec). All (IsCommandOf graph) (verbs graph))
  no_commands (graph ∷ some) none =
      let long = length-append (verbs graph) (flat_map verbs some) in
      All-cons (λ (graph : RawCodec). All (IsCommandOf graph) (verbs graph)) graph some
      (subst (All (IsCommandOf graph)) (sym (no_items (verbs graph) (omega (arith, long, none)))) (All-nil (IsCommandOf graph)))
      (no_commands some (omega (arith, long, none)))

  total : length task.orders ≡ length (flat_map walk_commands graphs) + length (flat_map verbs graphs)
  total = ap (λ (orders : List Order). length orders) of.is_for.orders ∙ length-map (commands_of verbs graphs) _ ∙ length-append (flat_map walk_commands graphs) (flat_map verbs graphs)

  -- where all are answered but one at most, those of the set-up can be encoded
  pub can_be_sent : (count : ℕ) (agenda : Agenda) (walks : Option Walk) → FollowsBy means verbs graphs count agenda walks → length task.orders ≤ count + 1 → All (λ (graph : RawCodec). All (IsCommandOf graph) (verbs graph)) graphs
  can_be_sent count agenda None stands all = commands_by graphs agenda.plans.items stands.plans of.right.well_formed of.right.verbs_are
  can_be_sent count agenda (Some under_way) stands all =
      let few = walks_on graphs count agenda under_way stands in
      let long = total in
      no_commands graphs (omega (arith, few, long, all))

  -- a codec then has the settings that its verbs make of some settings of its graph
  record IsSetFrom (graph : RawCodec) (now : CodecState) : Type 0 where
    graph_is : now.graph ≡ graph
    settings : Entries
    are_settings : IsSettingsOf graph settings
    are_set : now.settings ≡ settings_after graph settings (verbs graph)

  set_from : (graph : RawCodec) (first now : CodecState) → first.graph ≡ graph → KeepsDefaults first → IsSetBy (verbs first.graph) first now → IsSetFrom graph now
  set_from graph first now same keeps set = record {
    graph_is = set.graph ∙ same;
    settings = first.settings;
    are_settings = subst (λ (graph : RawCodec). IsSettingsOf graph first.settings) same keeps.settings;
    are_set = set.settings ∙ ap (λ (graph : RawCodec). settings_after graph first.settings (verbs graph)) same;
  }

  -- all commands were taken, and no other since
  pub record AllTaken (world : World) : Type 0 where
    pub answers : ℕ
    pub from : ℕ
    pub taken : HaveTaken task.orders answers from world
    pub all : length task.orders ≤ answers
    pub within : from ≤ length world.commands
    pub none : drop from world.commands ≡ []
    pub graphs_are : graphs_in world.codecs ≡ graphs
    pub ascend : AscendFrom 0 graphs
    pub commands_are : All (λ (graph : RawCodec). All (IsCommandOf graph) (verbs graph)) graphs

  all_words : (world : World) (is : AllTaken world) → words_of (drop is.taken.begun world.commands) ≡ map word_of (commands_of verbs graphs)
  all_words world is =
      let begun = is.taken.begun in
      let from_is = is.taken.from_is in
      let within = is.within in
      let left = sym (length-drop is.from world.commands) ∙ ap (λ (commands : List TakenCommand). length commands) is.none in
      let long = length-drop begun world.commands in
      let whole = take_all is.answers (drop begun world.commands) (omega (arith, from_is, within, left, long)) in
      sym (ap (λ (commands : List TakenCommand). words_of commands) whole) ∙ is.taken.words
      ∙ ap (λ (orders : List Order). map (λ (order : Order). order.word) orders) (take_all is.answers task.orders is.all ∙ of.is_for.orders) ∙ words_mapped (commands_of verbs graphs)

  taken_set : (world : World) → AllTaken world → (graph : RawCodec) (now : CodecState) → Contains graphs graph → codec_at graph.address world.codecs ≡ Some now → IsSetFrom graph now
  taken_set world is graph now contains there =
      let begun = is.taken.begun in
      let start = is.taken.start in
      let remembers = is.taken.remembers in
      let can : CanBeSent verbs graphs = record { well_formed = of.right.well_formed; addresses = all_low 0 graphs is.ascend; commands_are = is.commands_are } in
      let now_is = same_Some now.graph graph (sym (graph_there graph.address world.codecs now there) ∙ ap (λ (graphs : List RawCodec). graph_at graph.address graphs) is.graphs_are ∙ found_there graphs graph is.ascend contains) in
      let was_at = was_there (drop begun world.commands) (codec_at graph.address start) (codec_at graph.address world.codecs) now (found_by start begun world graph.address remembers) there in
      let first = was_at.first in
      let same : first.graph ≡ graph = sym was_at.taken.graph ∙ now_is in
      let address = ap (λ (graph : RawCodec). graph.address) (sym same) in
      let set = takes_its_own start begun world first now verbs graphs remembers (subst (λ (address : ℕ). codec_at address start ≡ Some first) address was_at.is) (subst (λ (address : ℕ). codec_at address world.codecs ≡ Some now) address there) can
      (subst (λ (graph : RawCodec). graphs_at graph.address graphs ≡ graph ∷ []) (sym same) (alone graphs graph is.ascend contains)) (all_words world is) in
      set_from graph first now same (all_there graph.address start first is.taken.defaults was_at.is) set

  set_open : (graph : RawCodec) (now : CodecState) (plan : Plan) → Contains graphs graph → IsSetFrom graph now → means.IsPlanBy graph plan → means.IsOpenBy graph now.settings plan
  set_open graph now plan contains set planned =
      let well = All-contains IsWellFormed graphs graph of.right.well_formed contains in
      let verbs_are = All-contains (λ (graph : RawCodec). (plan : Plan) → means.IsPlanBy graph plan → verbs graph ≡ means.verbs_by graph plan) graphs graph of.right.verbs_are contains plan planned in
      subst (λ (settings : Entries). means.IsOpenBy graph settings plan) (sym (set.are_set ∙ ap (λ (commands : List Command). settings_after graph set.settings commands) verbs_are)) (setter.opens graph plan set.settings well planned set.are_settings)

  pub taken_set_up : (world : World) → AllTaken world → AreSetUp means graphs world
  taken_set_up world is graph contains =
      let there = codec_there graph.address world.codecs graph (ap (λ (graphs : List RawCodec). graph_at graph.address graphs) is.graphs_are ∙ found_there graphs graph is.ascend contains) in
      let set = taken_set world is graph there.now contains there.found in record {
        now = there.now;
        found = there.found;
        graph_is = set.graph_is;
        opened = λ plan planned. set_open graph there.now plan contains set planned;
      }

  -- ---- in the phase `Ready`

  pub all_taken : (written : ℕ) (bring_up : BringUp) (world : World) → bring_up.phase ≡ Ready → graphs_in world.codecs ≡ graphs → IsAsking means verbs graphs task written bring_up world
      → (bring_up.engine.rings.outstanding ≡ None) × AllTaken world
  all_taken written bring_up world was graphs_are a =
      let outstanding = bring_up.engine.rings.outstanding in
      let answers = answers_of bring_up.sent outstanding in
      let agrees = laws.agrees answers bring_up.agenda task a.follows of.is_for in
      let ready = sym agrees.phase ∙ sym (bring_up.led (ap goes_on was)) ∙ was in
      let all = at_most (length task.orders) answers (all_answered (nat_le (length task.orders) answers) (nat_le task.walks answers) ready) in
      let none = none_left task.orders bring_up.sent outstanding a.last all in
      let gained : drop a.from world.commands ≡ [] = nothing_gained outstanding (part_of world.registers) (word_at world.memory (bring_up.engine.corb.address + COMMAND_BYTES * bring_up.engine.rings.submitted)) (drop a.from world.commands) none a.stands.fetching in (
        none,
        record {
          answers = answers;
          from = a.from;
          taken = a.taken;
          all = all;
          within = a.stands.from_within;
          none = gained;
          graphs_are = graphs_are;
          ascend = subst (AscendFrom 0) graphs_are a.stands.ascend;
          commands_are = can_be_sent answers bring_up.agenda bring_up.agenda.walk a.follows.stands (omega (arith, all));
        },
      )

  pub ready_for_good : (written : ℕ) (bring_up : BringUp) (world : World) → bring_up.phase ≡ Ready → IsBroughtUp means verbs graphs task written bring_up world → AreSetUpForGood means graphs world
  ready_for_good written bring_up world was stands =
      let a = subst (λ (phase : Phase). StandsIn phase means verbs graphs task written bring_up world) was stands.stage in
      let taken = all_taken written bring_up world was stands.graphs_are a in record {
        idle = all_fetched bring_up.engine.rings.outstanding (part_of world.registers) (word_at world.memory (bring_up.engine.corb.address + COMMAND_BYTES * bring_up.engine.rings.submitted)) (drop a.from world.commands) taken.0 a.stands.fetching;
        set_up = taken_set_up world taken.1;
      }
