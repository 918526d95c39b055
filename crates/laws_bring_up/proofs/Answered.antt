-- Where the answer to the last command is found, all codecs are set up.
use Rattle.std.proofs.Common.{◌≡◌, ◌+◌, ◌*◌, ◌&&◌, ◌||◌, not, ℕ, Bool, true, false, List, [], ◌∷◌, length, Option, Some, None, refl, sym, ap, subst, ◌∙◌, inl, inr, arith}
use Rattle.std.proofs.lemmas.Bool.{false≢true}
use Rattle.std.specs.Prelude.{All, drop}
use Rattle.std.specs.List.{list_any}
use Rattle.std.proofs.lemmas.List.{drop_all}
use Rattle.std.proofs.lemmas.List.Elements.{All-head, All-tail}
use Rattle.verb_codes.specs.declared.verbs.Command.{Command}
use Rattle.codec_graph.specs.declared.raw.RawCodec.{RawCodec}
use Rattle.codec_graph.specs.Settings.{Entries}
use Rattle.route_planner.specs.declared.routes.Plan.{Plan}
use Rattle.route_setup.specs.Means.{Means}
use Rattle.world_rings.specs.declared.response.Response.{Response}
use Rattle.world_rings.specs.declared.entries.TheConstants.{COMMAND_BYTES}
use Rattle.world_rings.specs.Memory.{word_at}
use Rattle.hda_world.specs.Worlds.{World, TakenCommand}
use Rattle.command_engine.specs.declared.answers.Outstanding.{Outstanding}
use Rattle.command_engine.specs.Entries.{is_from, answers_it}
use Rattle.command_engine.specs.Polling.{asked_of}
use Rattle.command_engine.specs.Fetchings as engine
use Rattle.command_engine.specs.Fetchings.{RingPart, part_of, ResponseCanCome, AscendFrom, Stands, graphs_in}
use Rattle.driver_progress.specs.States.{State}
use Rattle.driver_progress.specs.Tasks.{Task}
use Rattle.driver_progress.specs.Progress.{Trail, is_answered}
use Rattle.driver_progress.specs.Answers.{has_answer, AnswersAgree}
use Rattle.driver_bring_up.specs.Standing.{answers_of}
use Rattle.driver_bring_up.specs.declared.bringing.BringUp.{BringUp}
use Rattle.driver_bring_up.specs.Calls.{state_of}
use Rattle.laws_bring_up.specs.Standing.{IsTaskOfCodecs, IsLastSent, HaveTaken, IsAsking}
use Rattle.laws_bring_up.specs.SettingUp.{AreSetUpForGood}
use Rattle.laws_bring_up.proofs.Noting.{Laws}
use Rattle.laws_bring_up.proofs.Following.{AgendaLaws, Later, stage_on, taken_one}
use Rattle.laws_bring_up.proofs.Ready.{SetterLaws, AllTaken, can_be_sent, taken_set_up}

-- ---- that an answer came

-- while no codec took a command, none does
no_answer : (asked : Option ℕ) (response : Response) → ResponseCanCome [] response → answers_it asked response ≡ false
no_answer asked response can = by response.unsolicited can.answer
  where
    by : (unasked : Bool) → (unasked ≡ false → engine.CanCome [] response.codec response.answer) → (not unasked && is_from asked response.codec) ≡ false
    by true answer = refl
    by false answer = absurd (answer refl)

none_answers : (asked : Option ℕ) (responses : List Response) → All (ResponseCanCome []) responses → list_any (answers_it asked) responses ≡ false
none_answers asked [] can = refl
none_answers asked (response ∷ responses) can =
    ap (λ (is : Bool). is || list_any (answers_it asked) responses) (no_answer asked response (All-head (ResponseCanCome []) response responses can))
    ∙ none_answers asked responses (All-tail (ResponseCanCome []) response responses can)

-- so the outstanding command was taken, and it alone
record WasFetched (outstanding : Option Outstanding) (part : RingPart) (gained : List TakenCommand) : Type 0 where
  pointers : part.corb_read_pointer ≡ part.corb_write_pointer
  command : Outstanding
  is : outstanding ≡ Some command
  last : TakenCommand
  only : gained ≡ last ∷ []
  word_is : last.word ≡ command.word

fetched_all : (outstanding : Option Outstanding) (part : RingPart) (gained : List TakenCommand) → engine.AllFetched outstanding part gained → (gained ≡ [] → ⊥) → WasFetched outstanding part gained
fetched_all None part [] all some = absurd (some refl)
fetched_all None part (last ∷ more) all some = absurd all.taken
fetched_all (Some command) part [] all some = absurd (some refl)
fetched_all (Some command) part (last ∷ more) all some = record {
  pointers = all.pointers;
  command = command;
  is = refl;
  last = last;
  only = ap (λ (more : List TakenCommand). last ∷ more) all.taken.1;
  word_is = all.taken.0;
}

was_fetched : (outstanding : Option Outstanding) (part : RingPart) (word : ℕ) (gained : List TakenCommand) → engine.IsFetching outstanding part word gained → (gained ≡ [] → ⊥) → WasFetched outstanding part gained
was_fetched outstanding part word gained (inl all) some = fetched_all outstanding part gained all some
was_fetched outstanding part word gained (inr next) some = absurd (some next.none)

-- ---- of the last command

module _ (means : Means) (verbs : RawCodec → List Command) (graphs : List RawCodec) (task : Task)
    (laws : AgendaLaws means verbs graphs) (of : IsTaskOfCodecs means verbs graphs task) (setter : SetterLaws means) (notes : Laws) where
  pub answered_for_good : (old : BringUp) (written : ℕ) (begun there : World) (trail : Trail) → graphs_in begun.codecs ≡ graphs → (a : IsAsking means verbs graphs task written old begun) → Later begun there
      → Stands a.from a.read old.engine.corb.address old.engine.rirb.address old.engine.rings there → old.sent ≡ length task.orders → trail.state ≡ state_of old → trail.written ≡ written → is_answered trail there ≡ true
      → AreSetUpForGood means graphs there
  answered_for_good old written begun there trail graphs_are a later stands all state_is written_is answered =
      let outstanding = old.engine.rings.outstanding in
      let asked = asked_of outstanding in
      let unread = drop a.read there.written in
      let agree = subst (λ (all : List Response). AnswersAgree asked written a.read all) (sym later.on.written) (notes.grows asked written a.read begun.written later.on.more_written a.agree) in
      let has : has_answer asked unread ≡ true =
      sym agree.agree
      ∙ ap (λ (written : ℕ). has_answer asked (drop written there.written)) (sym written_is)
      ∙ ap (λ (state : State). has_answer (asked_of state.rings.outstanding) (drop trail.written there.written)) (sym state_is)
      ∙ answered in
      let gained = drop a.from there.commands in
      let some = λ (none : gained ≡ []). false≢true (sym (none_answers asked unread (subst (λ (gained : List TakenCommand). All (ResponseCanCome gained) unread) none stands.on_its_way.in_ring)) ∙ has) in
      let fetched = was_fetched outstanding (part_of there.registers) (word_at there.memory (old.engine.corb.address + COMMAND_BYTES * old.engine.rings.submitted)) gained stands.fetching some in
      let stage = stage_on means verbs graphs task laws of.is_for of.right.well_formed old.sent outstanding old.agenda a.from begun there a.stands.from_within later (record { last = a.last; follows = a.follows; taken = a.taken }) in
      let last = subst (λ (outstanding : Option Outstanding). IsLastSent task.orders old.sent outstanding) fetched.is a.last in
      let count = last.0 in
      let sent_is = last.1 in
      let answers : answers_of old.sent outstanding ≡ count = ap (λ (outstanding : Option Outstanding). answers_of old.sent outstanding) fetched.is ∙ omega (arith, sent_is) in
      let taken = taken_one means verbs graphs task laws of.is_for of.right.well_formed count a.from there fetched.command fetched.last last.2
      (subst (λ (answers : ℕ). HaveTaken task.orders answers a.from there) answers stage.taken) stands.from_within fetched.only fetched.word_is in
      let known = later.remembers a.taken.start a.taken.begun a.taken.remembers in
      let graphs_there = known.graphs ∙ sym a.taken.remembers.graphs ∙ graphs_are in
      let whole : AllTaken means verbs graphs task laws of setter there = record {
        answers = count + 1;
        from = length there.commands;
        taken = taken;
        all = omega (arith, sent_is, all);
        within = omega arith;
        none = drop_all (length there.commands) there.commands (omega arith);
        graphs_are = graphs_there;
        ascend = subst (AscendFrom 0) graphs_there stands.ascend;
        commands_are = can_be_sent means verbs graphs task laws of setter (answers_of old.sent outstanding) old.agenda old.agenda.walk a.follows.stands (omega (arith, answers, sent_is, all));
      } in record {
        idle = fetched.pointers;
        set_up = taken_set_up means verbs graphs task laws of setter there whole;
      }
