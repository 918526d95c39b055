-- Where a call that looks for an answer leads the agenda, and what codecs took by then.
use Rattle.std.proofs.Common.{◌≡◌, ◌≤◌, ◌<◌, ◌+◌, ◌-◌, ℕ, Bool, true, false, List, [], ◌∷◌, ◌++◌, map, length, Option, Some, None, refl, sym, ap, subst, ◌∙◌, arith}
use Rattle.std.specs.Prelude.{All, take, drop, slice_get}
use Rattle.std.specs.List.{flat_map}
use Rattle.std.proofs.lemmas.List.{drop-drop, length-drop, map-append}
use Rattle.verb_codes.specs.declared.verbs.Command.{Command}
use Rattle.codec_graph.specs.declared.raw.RawCodec.{RawCodec}
use Rattle.codec_graph.specs.Cycles.{IsWellFormed}
use Rattle.codec_graph.specs.CodecStates.{CodecState}
use Rattle.route_planner.specs.declared.routes.Plan.{Plan}
use Rattle.route_setup.specs.Means.{Means}
use Rattle.codec_walk.specs.Commands.{walk_commands}
use Rattle.codec_walk.specs.declared.fault.WalkFault.{WalkFault}
use Rattle.hda_world.specs.Worlds.{World, TakenCommand}
use Rattle.hda_world.specs.Events.{Event, Stepped}
use Rattle.hda_world.specs.Tellings.{Telling, world_of, MakesBy, Makes}
use Rattle.hda_world.proofs.Callers.{world_of-went}
use Rattle.command_engine.specs.declared.answers.Outstanding.{Outstanding}
use Rattle.command_engine.specs.Belonging.{Belongs, IsAnswered, from_after}
use Rattle.command_engine.specs.Fetchings.{AscendFrom, graphs_in}
use Rattle.command_engine.specs.Polling.{still_outstanding}
use Rattle.driver_agenda.specs.declared.agenda.Agenda.{Agenda}
use Rattle.driver_agenda.specs.Agendas.{LedBy, TellsFault, TellsNoRoute}
use Rattle.driver_agenda.specs.Following.{commands_of, Follows, CanReply}
use Rattle.laws_settings.specs.Histories.{Remembers, words_of}
use Rattle.laws_settings.proofs.Callers.{events_remember}
use Rattle.driver_progress.specs.declared.phase.Phase.{Phase}
use Rattle.driver_progress.specs.declared.phase.Phase.TheVariants.{NothingRouted, Malformed}
use Rattle.driver_progress.specs.Phases.{goes_on}
use Rattle.driver_progress.specs.Tasks.{Task, Order, IsTaskFor}
use Rattle.driver_bring_up.specs.Standing.{Agrees, EndsBy, LeadsOn, answers_of, next_on}
use Rattle.driver_bring_up.specs.Commanding.{order_if, sent_with}
use Rattle.laws_bring_up.specs.Standing.{IsLastSent, HaveTaken}
use Rattle.laws_bring_up.proofs.Grows.{WentOn, part_grows, part_last, part_next}
use Rattle.laws_bring_up.proofs.Replying.{can_reply}

-- ---- the world remembers over accesses

remembers_by : (made : List Event) (old new : Telling) → MakesBy made old new → (start : List CodecState) (begun : ℕ) → Remembers start begun (world_of old) → Remembers start begun (world_of new)
remembers_by [] old new none start begun is = subst (λ (telling : Telling). Remembers start begun (world_of telling)) (sym none) is
remembers_by (event ∷ made) old new makes start begun is =
    remembers_by made makes.0 new makes.2 start begun
    (subst (λ (world : World). Remembers start begun world) (sym (world_of-went old makes.0 _ makes.1.went)) (events_remember start begun (map Stepped makes.1.steps ++ event ∷ []) (world_of old) is))

pub row_remembers : (made : List Event) (old new : Telling) → Makes made old new → (start : List CodecState) (begun : ℕ) → Remembers start begun (world_of old) → Remembers start begun (world_of new)
row_remembers made old new makes start begun is = remembers_by made old new makes.by start begun is

-- a world that another went on to
pub record Later (old new : World) : Type 0 where
  pub on : WentOn old new
  pub remembers : (start : List CodecState) (begun : ℕ) → Remembers start begun old → Remembers start begun new

-- ---- laws of agendas, as they are handed in

pub record AgendaLaws (means : Means) (verbs : RawCodec → List Command) (graphs : List RawCodec) : Type 0 where
  pub leads : (count answer : ℕ) (old new : Agenda) → Follows means verbs graphs count old
      → (count < length (flat_map walk_commands graphs) → (command : Command) → slice_get (commands_of verbs graphs) count ≡ Some command → CanReply graphs command answer)
      → LedBy means old.walk answer old new → new.addresses ≡ old.addresses → Follows means verbs graphs (count + 1) new
  pub well_formed : (count answer : ℕ) (old : Agenda) (fault : WalkFault) → Follows means verbs graphs count old
      → (count < length (flat_map walk_commands graphs) → (command : Command) → slice_get (commands_of verbs graphs) count ≡ Some command → CanReply graphs command answer)
      → TellsFault old.walk answer fault → ⊥
  pub routed : (count answer : ℕ) (old new : Agenda) → Follows means verbs graphs count old
      → (count < length (flat_map walk_commands graphs) → (command : Command) → slice_get (commands_of verbs graphs) count ≡ Some command → CanReply graphs command answer)
      → TellsNoRoute means old.walk answer old.addresses.items old.graphs.items new → ⊥
  pub agrees : (count : ℕ) (agenda : Agenda) (task : Task) → Follows means verbs graphs count agenda → IsTaskFor verbs graphs task → Agrees task count agenda

-- what is outstanding once an order is submitted, if there is one
abbrev pub with_order : Option Order → (clock : ℕ) → Option Outstanding → Option Outstanding
with_order None clock outstanding = outstanding
with_order (Some order) clock outstanding = Some (record { codec = order.codec; word = order.word; issued = clock })

-- ---- where commands stand: what was sent, answered and taken

module _ (means : Means) (verbs : RawCodec → List Command) (graphs : List RawCodec) (task : Task) (laws : AgendaLaws means verbs graphs)
    (is_for : IsTaskFor verbs graphs task) (well : All IsWellFormed graphs) where
  pub record Stage (sent : ℕ) (outstanding : Option Outstanding) (agenda : Agenda) (from : ℕ) (world : World) : Type 0 where
    pub last : IsLastSent task.orders sent outstanding
    pub follows : Follows means verbs graphs (answers_of sent outstanding) agenda
    pub taken : HaveTaken task.orders (answers_of sent outstanding) from world

  taken_on : (answers from : ℕ) (old new : World) → from ≤ length old.commands → Later old new → HaveTaken task.orders answers from old → HaveTaken task.orders answers from new
  taken_on answers from old new within later taken =
      let is = taken.from_is in record {
        start = taken.start;
        begun = taken.begun;
        defaults = taken.defaults;
        remembers = later.remembers taken.start taken.begun taken.remembers;
        from_is = taken.from_is;
        words = ap (λ (commands : List TakenCommand). words_of (take answers (drop taken.begun commands))) later.on.taken
            ∙ ap (λ (commands : List TakenCommand). words_of commands) (part_grows taken.begun answers old.commands later.on.more_taken (omega (arith, within, is)))
            ∙ taken.words;
      }

  pub stage_on : (sent : ℕ) (outstanding : Option Outstanding) (agenda : Agenda) (from : ℕ) (old new : World) → from ≤ length old.commands → Later old new → Stage sent outstanding agenda from old → Stage sent outstanding agenda from new
  stage_on sent outstanding agenda from old new within later stage =
      record { last = stage.last; follows = stage.follows; taken = taken_on (answers_of sent outstanding) from old new within later stage.taken }

  -- ---- an answer

  -- the words that were taken, with the one that was
  pub taken_one : (count from : ℕ) (world : World) (command : Outstanding) (last : TakenCommand) → slice_get task.orders count ≡ Some (record { codec = command.codec; word = command.word }) → HaveTaken task.orders count from world → from ≤ length world.commands
      → drop from world.commands ≡ last ∷ [] → last.word ≡ command.word → HaveTaken task.orders (count + 1) (length world.commands) world
  taken_one count from world command last there taken within gained word =
      let begun = taken.begun in
      let from_is = taken.from_is in
      let one = part_last count (drop begun world.commands) last (drop-drop count begun world.commands ∙ ap (λ (from : ℕ). drop from world.commands) (sym from_is) ∙ gained) in
      let order = part_next count task.orders (record { codec = command.codec; word = command.word }) there in
      let long = sym (length-drop from world.commands) ∙ ap (λ (commands : List TakenCommand). length commands) gained in record {
        start = taken.start;
        begun = begun;
        defaults = taken.defaults;
        remembers = taken.remembers;
        from_is = let all : length world.commands ≡ begun + (count + 1) = omega (arith, long, from_is, within) in all;
        words = ap (λ (commands : List TakenCommand). words_of commands) one.1
            ∙ map-append (λ (taken : TakenCommand). taken.word) (take count (drop begun world.commands)) (last ∷ [])
            ∙ ap (λ (words : List ℕ). words ++ last.word ∷ []) taken.words
            ∙ ap (λ (word : ℕ). map (λ (order : Order). order.word) (take count task.orders) ++ word ∷ []) word
            ∙ sym (map-append (λ (order : Order). order.word) (take count task.orders) (record { codec = command.codec; word = command.word } ∷ []))
            ∙ ap (λ (orders : List Order). map (λ (order : Order). order.word) orders) (sym order);
      }

  -- and so with the one that was answered
  taken_next : (count from : ℕ) (world : World) (command : Outstanding) (value : ℕ) → slice_get task.orders count ≡ Some (record { codec = command.codec; word = command.word }) → HaveTaken task.orders count from world → from ≤ length world.commands
      → IsAnswered from command world.codecs world.commands value → HaveTaken task.orders (count + 1) (length world.commands) world
  taken_next count from world command value there taken within is = taken_one count from world command is.taken there taken within is.only is.word

  -- it is one that the codec can give
  reply : (count from : ℕ) (world : World) (command : Outstanding) (value : ℕ) → AscendFrom 0 graphs → graphs_in world.codecs ≡ graphs → slice_get task.orders count ≡ Some (record { codec = command.codec; word = command.word })
      → HaveTaken task.orders count from world → IsAnswered from command world.codecs world.commands value
      → count < length (flat_map walk_commands graphs) → (asked : Command) → slice_get (commands_of verbs graphs) count ≡ Some asked → CanReply graphs asked value
  reply count from world command value ascend graphs_are there taken is =
      can_reply verbs graphs task.orders count taken.begun taken.start world command value
      (record { well_formed = well; ascend = ascend; graphs_are = graphs_are; orders_are = is_for.orders; defaults = taken.defaults; remembers = taken.remembers; words = taken.words })
      there (subst (λ (from : ℕ). IsAnswered from command world.codecs world.commands value) taken.from_is is)

  -- so it leads on
  ends_on : (word : ℕ) (old new : Agenda) (phase : Phase) → EndsBy means word old new phase → ((fault : WalkFault) → TellsFault old.walk word fault → ⊥) → (TellsNoRoute means old.walk word old.addresses.items old.graphs.items new → ⊥) → goes_on phase ≡ true
  ends_on word old new NothingRouted ends no_fault some_route = absurd (some_route ends)
  ends_on word old new (Malformed codec fault) ends no_fault some_route = absurd (no_fault fault ends.1)
  ends_on word old new phase ends no_fault some_route = ends

  -- ---- the look

  -- how an agenda was led by what was found
  abbrev pub IsLed : (found : Option ℕ) (old new : Agenda) (phase : Phase) → Type 0
  IsLed None old new phase = new ≡ old
  IsLed (Some word) old new phase = LeadsOn means word old new phase × EndsBy means word old new phase × (new.addresses ≡ old.addresses)

  pub record Looks (sent : ℕ) (outstanding : Option Outstanding) (found : Option ℕ) (agenda : Agenda) (from : ℕ) (phase : Phase) (world : World) : Type 0 where
    pub stage : Stage sent (still_outstanding outstanding found) agenda (from_after found from world.commands) world
    pub within : from_after found from world.commands ≤ length world.commands
    pub goes : (word : ℕ) → found ≡ Some word → goes_on phase ≡ true

  no_word : (word : ℕ) → None ≡ Some word → ⊥
  no_word word is = cc

  pub looks_by : (sent : ℕ) (outstanding : Option Outstanding) (found : Option ℕ) (old new : Agenda) (from : ℕ) (phase : Phase) (world : World) → AscendFrom 0 graphs → graphs_in world.codecs ≡ graphs → from ≤ length world.commands
      → Stage sent outstanding old from world → Belongs from outstanding world.codecs world.commands found → IsLed found old new phase → Looks sent outstanding found new from phase world
  looks_by sent None None old new from phase world ascend graphs_are within stage belongs led = record {
    stage = record { last = stage.last; follows = subst (λ (agenda : Agenda). Follows means verbs graphs sent agenda) (sym led) stage.follows; taken = stage.taken };
    within = within;
    goes = λ word is. absurd (no_word word is);
  }
  looks_by sent None (Some word) old new from phase world ascend graphs_are within stage belongs led = absurd belongs
  looks_by sent (Some command) None old new from phase world ascend graphs_are within stage belongs led = record {
    stage = record { last = stage.last; follows = subst (λ (agenda : Agenda). Follows means verbs graphs (sent - 1) agenda) (sym led) stage.follows; taken = stage.taken };
    within = within;
    goes = λ word is. absurd (no_word word is);
  }
  looks_by sent (Some command) (Some word) old new from phase world ascend graphs_are within stage belongs led =
      let count = stage.last.0 in
      let sent_is = stage.last.1 in
      let there = stage.last.2 in
      let answers : sent - 1 ≡ count = omega (arith, sent_is) in
      let taken = subst (λ (answers : ℕ). HaveTaken task.orders answers from world) answers stage.taken in
      let follows = subst (λ (answers : ℕ). Follows means verbs graphs answers old) answers stage.follows in
      let can = reply count from world command word ascend graphs_are there taken belongs in
      let goes = ends_on word old new phase led.1 (λ fault faulty. laws.well_formed count word old fault follows can faulty) (λ none. laws.routed count word old new follows can none) in record {
        stage = record {
          last = tt {0};
          follows = subst (λ (count : ℕ). Follows means verbs graphs count new) (sym sent_is) (laws.leads count word old new follows can (led.0.led goes) led.2);
          taken = subst (λ (count : ℕ). HaveTaken task.orders count (length world.commands) world) (sym sent_is) (taken_next count from world command word there taken within belongs);
        };
        within = omega arith;
        goes = λ value is. goes;
      }

  -- ---- the next command

  no_order : (order : Order) → Some order ≡ None → ⊥
  no_order order is = cc

  order_there : (free : Bool) (sent : ℕ) (outstanding : Option Outstanding) (agenda : Agenda) (order : Order) → Some order ≡ order_if free (next_on agenda) → (free ≡ true → outstanding ≡ None) → Follows means verbs graphs (answers_of sent outstanding) agenda
      → (outstanding ≡ None) × (slice_get task.orders sent ≡ Some order)
  order_there false sent outstanding agenda order is idle follows = absurd (no_order order is)
  order_there true sent outstanding agenda order is idle follows =
      let none = idle refl in
      let at = subst (λ (outstanding : Option Outstanding). Follows means verbs graphs (answers_of sent outstanding) agenda) none follows in
      (none, sym (is ∙ (laws.agrees sent agenda task at is_for).order))

  -- the stage once it is submitted, if there is one
  pub ordered : (free : Bool) (sent : ℕ) (outstanding : Option Outstanding) (agenda : Agenda) (from clock : ℕ) (order : Option Order) (world : World) → order ≡ order_if free (next_on agenda) → (free ≡ true → outstanding ≡ None)
      → Stage sent outstanding agenda from world → Stage (sent_with order sent) (with_order order clock outstanding) agenda from world
  ordered free sent outstanding agenda from clock None world is idle stage = stage
  ordered free sent outstanding agenda from clock (Some order) world is idle stage =
      let there = order_there free sent outstanding agenda order is idle stage.follows in
      let none = there.0 in
      let answers : sent + 1 - 1 ≡ sent = omega arith in
      let count = ap (λ (outstanding : Option Outstanding). answers_of sent outstanding) none ∙ sym answers in record {
        last = (sent, refl, there.1);
        follows = subst (λ (count : ℕ). Follows means verbs graphs count agenda) count stage.follows;
        taken = subst (λ (count : ℕ). HaveTaken task.orders count from world) count stage.taken;
      }

  -- and then none was outstanding
  pub idle_ordered : (free : Bool) (sent : ℕ) (outstanding : Option Outstanding) (agenda : Agenda) (order : Option Order) → order ≡ order_if free (next_on agenda) → (free ≡ true → outstanding ≡ None) → Follows means verbs graphs (answers_of sent outstanding) agenda
      → (one : Order) → order ≡ Some one → outstanding ≡ None
  idle_ordered free sent outstanding agenda order is idle follows one some = (order_there free sent outstanding agenda one (sym some ∙ is) idle follows).0
