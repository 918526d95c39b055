-- The words that were answered to a bring-up lead it to its phase, over every platform.
use Rattle.std.proofs.Common.{◌≡◌, ◌⊎◌, ℕ, List, [], ◌∷◌, ◌++◌, length, Bool, true, false, Option, Some, None, inl, inr, refl, sym, ap, subst, ◌∙◌, append-nil}
use Rattle.std.proofs.lemmas.Bool.{false≢true}
use Rattle.std.specs.Prelude.{slice_index}
use Rattle.codec_graph.specs.declared.raw.RawCodec.{RawCodec}
use Rattle.codec_walk.specs.declared.fault.WalkFault.{WalkFault}
use Rattle.route_planner.specs.declared.routes.Plan.{Plan}
use Rattle.route_setup.specs.Means.{Means}
use Rattle.hda_world.specs.Events.{Event}
use Rattle.hda_world.specs.Tellings.{Telling}
use Rattle.command_engine.specs.declared.answers.Outstanding.{Outstanding}
use Rattle.driver_agenda.specs.declared.agenda.Agenda.{Agenda}
use Rattle.codec_walk.specs.declared.walk.Walk.{Walk}
use Rattle.driver_agenda.specs.Agendas.{next_of, BeginsWalk, LedBy, TellsFault}
use Rattle.driver_agenda.specs.AnswerWords.{WasAnsweredBy, WasAnswered, AreFaulty, AreUnrouted, AreRouted, AnswersNoRoute, WasLeft, AreLeft}
use Rattle.driver_agenda.proofs.Callers.{begins_answered, led_answered, faulty_answered, unrouted_answered, faulty_unplanned, left_answered, no_route_answered}
use Rattle.driver_progress.specs.declared.phase.Phase.{Phase}
use Rattle.driver_progress.specs.declared.phase.Phase.TheVariants.{Reset, Settling, Walking, SettingUp, Ready, Playing, Drained, NothingRouted, Unanswered, Late, Malformed, Failed}
use Rattle.driver_progress.specs.Phases.{is_asking, is_ready, goes_on}
use Rattle.driver_bring_up.specs.declared.bringing.BringUp.{BringUp}
use Rattle.driver_bring_up.specs.Standing.{next_on, phase_at, phase_of, LeadsOn, EndsBy}
use Rattle.command_engine.specs.Polling.{found_by}
use Rattle.driver_progress.specs.Commands.{ask_accesses}
use Rattle.driver_progress.specs.Settling.{settle_accesses}
use Rattle.driver_progress.proofs.Callers.{settle_unread, ready_is}
use Rattle.std.specs.Option.{is_some}
use Rattle.driver_bring_up.specs.Commanding.{answer_in, entries_in}
use Rattle.driver_bring_up.specs.Failing.{FailsToWalk, FailsToTake, Fails}
use Rattle.driver_bring_up.specs.Told.{IsGivenUp}
use Rattle.driver_bring_up.specs.Calls.{CanMove, Begins, ReadsOn, Leads, Ends}
use Rattle.driver_bring_up.specs.AnsweredWords.{with_answer, IsUnasked, WereAnsweredIn, WereAnswered}
use Rattle.driver_bring_up.proofs.Leading.{unread_none, answer_none, found_in}

walking_settles : Walking ≡ Settling → ⊥
walking_settles is = cc

reset_settles : Reset ≡ Settling → ⊥
reset_settles is = cc

-- ---- an answer

malformed_answered : (means : Means) (words : List ℕ) (word : ℕ) (old new : Agenda) (codec : ℕ) (fault : WalkFault) → WasAnswered means words old → new.addresses ≡ old.addresses
    → EndsBy means word old new (Malformed codec fault) → AreFaulty new.addresses.items (words ++ word ∷ []) new.graphs.items codec fault × (new.plans.items ≡ [])
malformed_answered means words word old new codec fault stands same (codec_is, tells, graphs, plans) = (
  subst (λ (addresses : List ℕ). AreFaulty addresses (words ++ word ∷ []) new.graphs.items codec fault) (sym (ap (λ all. all.items) same))
      (subst (λ (graphs : List RawCodec). AreFaulty old.addresses.items (words ++ word ∷ []) graphs codec fault) (sym (ap (λ all. all.items) graphs))
      (subst (λ (codec : ℕ). AreFaulty old.addresses.items (words ++ word ∷ []) old.graphs.items codec fault) (sym codec_is)
      (faulty_answered means words word old fault stands tells))),
  ap (λ all. all.items) plans ∙ faulty_unplanned word old fault tells,
)

nothing_answered : (means : Means) (words : List ℕ) (word : ℕ) (old new : Agenda) → WasAnswered means words old → new.addresses ≡ old.addresses
    → EndsBy means word old new NothingRouted → AreUnrouted means new.addresses.items (words ++ word ∷ []) new.graphs.items new.plans.items
nothing_answered means words word old new stands same ends =
    subst (λ (addresses : List ℕ). AreUnrouted means addresses (words ++ word ∷ []) new.graphs.items new.plans.items) (sym (ap (λ all. all.items) same))
    (unrouted_answered means words word old new stands ends)

answer_leads : (means : Means) (words : List ℕ) (word : ℕ) (old new : Agenda) (phase : Phase) → WasAnswered means words old → new.addresses ≡ old.addresses
    → LeadsOn means word old new phase → EndsBy means word old new phase → WereAnsweredIn means (words ++ word ∷ []) new phase
answer_leads means words word old new Walking stands same leads ends = led_answered means words word old new stands (leads.led refl) same
answer_leads means words word old new SettingUp stands same leads ends = led_answered means words word old new stands (leads.led refl) same
answer_leads means words word old new Ready stands same leads ends = led_answered means words word old new stands (leads.led refl) same
answer_leads means words word old new NothingRouted stands same leads ends = nothing_answered means words word old new stands same ends
answer_leads means words word old new (Malformed codec fault) stands same leads ends = malformed_answered means words word old new codec fault stands same ends
answer_leads means words word old new Reset stands same leads ends = absurd (false≢true ends)
answer_leads means words word old new Settling stands same leads ends = absurd (false≢true ends)
answer_leads means words word old new (Unanswered codec command issued noticed) stands same leads ends = absurd (false≢true ends)
answer_leads means words word old new Playing stands same leads ends = absurd (false≢true ends)
answer_leads means words word old new Drained stands same leads ends = absurd (false≢true ends)
answer_leads means words word old new (Late from to limit) stands same leads ends = absurd (false≢true ends)
answer_leads means words word old new Failed stands same leads ends = absurd (false≢true ends)

-- ---- a look while commands are sent

asking_answered : (means : Means) (words : List ℕ) (agenda : Agenda) (phase : Phase) → is_asking phase ≡ true → WereAnsweredIn means words agenda phase → WasAnswered means words agenda
asking_answered means words agenda Walking asking stands = stands
asking_answered means words agenda SettingUp asking stands = stands
asking_answered means words agenda Reset asking stands = absurd (false≢true asking)
asking_answered means words agenda Settling asking stands = absurd (false≢true asking)
asking_answered means words agenda Ready asking stands = absurd (false≢true asking)
asking_answered means words agenda Playing asking stands = absurd (false≢true asking)
asking_answered means words agenda Drained asking stands = absurd (false≢true asking)
asking_answered means words agenda NothingRouted asking stands = absurd (false≢true asking)
asking_answered means words agenda (Unanswered codec command issued noticed) asking stands = absurd (false≢true asking)
asking_answered means words agenda (Late from to limit) asking stands = absurd (false≢true asking)
asking_answered means words agenda (Malformed codec fault) asking stands = absurd (false≢true asking)
asking_answered means words agenda Failed asking stands = absurd (false≢true asking)

given_up_answered : (means : Means) (words : List ℕ) (agenda : Agenda) (outstanding : Option Outstanding) (clock : ℕ) (phase : Phase) → IsGivenUp outstanding clock phase → WasAnswered means words agenda
    → WereAnsweredIn means words agenda phase
given_up_answered means words agenda outstanding clock phase up stands = subst (WereAnsweredIn means words agenda) (sym up.is) stands

not_settling : (phase : Phase) → is_asking phase ≡ true → phase ≡ Settling → ⊥
not_settling phase asking is = false≢true (sym (ap is_asking is) ∙ asking)

module _ (means : Means) (words : List ℕ) (made : List Event) (old new : BringUp) (reads : ReadsOn means made old new) (asking : is_asking old.phase ≡ true)
    (stands : WereAnsweredIn means words old.agenda old.phase) where
  stood : WasAnswered means words old.agenda
  stood = asking_answered means words old.agenda old.phase asking stands

  moves_not : old.phase ≡ Settling → new.phase ≡ Walking → ⊥
  moves_not was is = not_settling old.phase asking was

  -- without an answer
  waits_answered : answer_in old.engine.rings made ≡ None → WereAnsweredIn means words new.agenda new.phase
  waits_answered none =
      let same : new.agenda ≡ old.agenda = reads.left (λ asks. none) moves_not in
      subst (λ (agenda : Agenda). WereAnsweredIn means words agenda new.phase) (sym same) (by (reads.waits asking none))
    where
      by : (new.phase ≡ old.phase) ⊎ ((clock : ℕ) × IsGivenUp old.engine.rings.outstanding clock new.phase) → WereAnsweredIn means words old.agenda new.phase
      by (inl same) = subst (WereAnsweredIn means words old.agenda) (sym same) stands
      by (inr (clock, up)) = given_up_answered means words old.agenda old.engine.rings.outstanding clock new.phase up stood

  -- with one
  pub look_answered : (answer : Option ℕ) → answer_in old.engine.rings made ≡ answer → WereAnsweredIn means (with_answer words answer) new.agenda new.phase
  look_answered None is = waits_answered is
  look_answered (Some word) is =
      let (leads, ends) = reads.taken word is in
      answer_leads means words word old.agenda new.agenda new.phase stood (reads.addresses moves_not) leads ends

-- ---- a call that looks for none

begun_answered : (means : Means) (words : List ℕ) (old new : Agenda) (status : ℕ) → IsUnasked words old → Begins status new → WasAnswered means words new
begun_answered means words old new status unasked begins =
    subst (λ (words : List ℕ). WasAnswered means words new) (sym unasked.words_are)
    (begins_answered means new (subst (λ (addresses : List ℕ). BeginsWalk addresses [] new) (sym begins.addresses) begins.begins))

-- the phase stays, and so does the agenda
same_answered : (means : Means) (words : List ℕ) (old new : Agenda) (phase phase' : Phase) → new ≡ old → phase' ≡ phase → WereAnsweredIn means words old phase → WereAnsweredIn means words new phase'
same_answered means words old new phase phase' same is stands =
    subst (λ (agenda : Agenda). WereAnsweredIn means words agenda phase') (sym same) (subst (WereAnsweredIn means words old) (sym is) stands)

module _ (means : Means) (words : List ℕ) (old new : BringUp) (left : (old.phase ≡ Settling → new.phase ≡ Walking → ⊥) → new.agenda ≡ old.agenda)
    (begun : old.phase ≡ Settling → new.phase ≡ Walking → WereAnsweredIn means words old.agenda Settling → WasAnswered means words new.agenda) where
  pub moved_answered : (phase : Phase) → old.phase ≡ phase → CanMove phase new.phase → WereAnsweredIn means words old.agenda phase → WereAnsweredIn means words new.agenda new.phase
  moved_answered Reset is (inl stays) stands =
      same_answered means words old.agenda new.agenda Reset new.phase (left (λ was walks. reset_settles (sym is ∙ was))) stays stands
  moved_answered Reset is (inr goes) stands =
      same_answered means words old.agenda new.agenda Settling new.phase (left (λ was walks. walking_settles (sym walks ∙ goes))) goes stands
  moved_answered Settling is (inl stays) stands =
      same_answered means words old.agenda new.agenda Settling new.phase (left (λ was walks. walking_settles (sym walks ∙ stays))) stays stands
  moved_answered Settling is (inr goes) stands = subst (WereAnsweredIn means words new.agenda) (sym goes) (begun is goes stands)
  moved_answered phase is stays stands =
      same_answered means words old.agenda new.agenda phase new.phase (left (λ was walks. walking_settles (sym walks ∙ stays ∙ sym is ∙ was))) stays stands

-- ---- the calls

pub call_answered : (means : Means) (irq : Bool) (words : List ℕ) (old new : BringUp) (before after : Option Telling) (leads : Leads means irq old new before after)
    → WereAnswered means words old → WereAnswered means (with_answer words (answer_in old.engine.rings leads.made)) new
call_answered means irq words old new before after leads stands = record { is = by (is_asking old.phase) refl }
  where
    by : (asks : Bool) → is_asking old.phase ≡ asks → WereAnsweredIn means (with_answer words (answer_in old.engine.rings leads.made)) new.agenda new.phase
    by true asking = look_answered means words leads.made old new leads.reads asking stands.is (answer_in old.engine.rings leads.made) refl
    by false idle =
        let none = answer_none old.engine.rings leads.made (unread_none leads.made (leads.unread idle)) in
        subst (λ (answer : Option ℕ). WereAnsweredIn means (with_answer words answer) new.agenda new.phase) (sym none)
        (moved_answered means words old new (leads.reads.left (λ asking. none))
        (λ was walks unasked. begun_answered means words old.agenda new.agenda _ unasked (leads.begun was walks))
        old.phase refl (leads.moves idle) stands.is)

pub end_answered : (means : Means) (words : List ℕ) (old new : BringUp) (before after : Option Telling) (ends : Ends means old new before after)
    → WereAnswered means words old → WereAnswered means (with_answer words (answer_in old.engine.rings ends.made)) new
end_answered means words old new before after ends stands = record { is = by (is_asking old.phase) refl }
  where
    by : (asks : Bool) → is_asking old.phase ≡ asks → WereAnsweredIn means (with_answer words (answer_in old.engine.rings ends.made)) new.agenda new.phase
    by true asking = look_answered means words ends.made old new ends.reads asking stands.is (answer_in old.engine.rings ends.made) refl
    by false idle =
        let none = answer_none old.engine.rings ends.made (unread_none ends.made (ends.unread idle)) in
        let same = ends.stays idle in
        subst (λ (answer : Option ℕ). WereAnsweredIn means (with_answer words answer) new.agenda new.phase) (sym none)
        (same_answered means words old.agenda new.agenda old.phase new.phase
        (ends.reads.left (λ asking. none) (λ was walks. walking_settles (sym walks ∙ same ∙ was))) same stands.is)

-- ---- calls where memory was wanting

-- no codec was found
walk_failed : (words : List ℕ) (old new : Agenda) → IsUnasked words old → new ≡ old → IsUnasked words new
walk_failed words old new unasked same = subst (IsUnasked words) (sym same) unasked

settling_unasked : (means : Means) (words : List ℕ) (agenda : Agenda) (phase : Phase) → phase ≡ Settling → WereAnsweredIn means words agenda phase → IsUnasked words agenda
settling_unasked means words agenda phase is stands = subst (WereAnsweredIn means words agenda) is stands

-- an answer was found
take_failed : (means : Means) (words : List ℕ) (old new : Agenda) (found : Option ℕ) → is_some found ≡ true → WasAnswered means words old → new.addresses ≡ old.addresses
    → ((word : ℕ) → found ≡ Some word → WasLeft means old.walk word old new) → AreLeft means (with_answer words found) new
take_failed means words old new None some stands same left = absurd (false≢true some)
take_failed means words old new (Some word) some stands same left = left_answered means words word old new same stands (left word refl)

-- the answer is the one that the look found
look_found : (means : Means) (old new : BringUp) (made : List Event) (take : FailsToTake means old new made) → answer_in old.engine.rings made ≡ found_by old.engine.rings take.finds.reads
look_found means old new made take =
    let finds = take.finds in
    let looked = ask_accesses old.engine.rirb.address finds.clock old.engine.rings finds.reads in
    ap (answer_in old.engine.rings) (finds.made_is ∙ sym (append-nil looked)) ∙ sym (found_in old.engine.rirb.address finds.clock old.engine.rings finds.reads [] finds.new_ones refl)

pub fails_answered : (means : Means) (irq : Bool) (words : List ℕ) (old new : BringUp) (before after : Option Telling) (fails : Fails means irq old new before after) → new.phase ≡ Failed
    → WereAnswered means words old → WereAnswered means (with_answer words (answer_in old.engine.rings fails.made)) new
fails_answered means irq words old new before after fails failed stands = record {
  is = subst (WereAnsweredIn means (with_answer words (answer_in old.engine.rings fails.made)) new.agenda) (sym failed) (by fails.is);
}
  where
    by : FailsToWalk old new fails.made ⊎ FailsToTake means old new fails.made → WereAnsweredIn means (with_answer words (answer_in old.engine.rings fails.made)) new.agenda Failed
    by (inl walk) =
        let unread = settle_unread old.kept walk.clock old.engine.corb.address old.engine.rirb.address walk.reads in
        let none = answer_none old.engine.rings fails.made (ap entries_in walk.made_is ∙ unread_none (settle_accesses old.kept walk.clock old.engine.corb.address old.engine.rirb.address walk.reads) unread) in
        subst (λ (answer : Option ℕ). WereAnsweredIn means (with_answer words answer) new.agenda Failed) (sym none)
        (inl (walk_failed words old.agenda new.agenda (settling_unasked means words old.agenda old.phase walk.settling stands.is) walk.agenda))
    by (inr take) =
        subst (λ (answer : Option ℕ). WereAnsweredIn means (with_answer words answer) new.agenda Failed) (sym (look_found means old new fails.made take))
        (inr (take_failed means words old.agenda new.agenda (found_by old.engine.rings take.finds.reads) take.finds.found
        (asking_answered means words old.agenda old.phase take.asking stands.is) take.finds.addresses take.finds.left))

-- ---- once all codecs are set up

walking_ready : Walking ≡ Ready → ⊥
walking_ready is = cc

-- while a walk is under way it asks
no_walk : (agenda : Agenda) (walks : Option Walk) → agenda.walk ≡ walks → phase_of agenda ≡ Ready → walks ≡ None
no_walk agenda None is ready = refl
no_walk agenda (Some under_way) is ready =
    let asks : is_some (next_on agenda) ≡ true =
    ap (λ (walk : Option Walk). is_some (next_of walk agenda.verbs.items agenda.answered)) is ∙ (agenda.under_way under_way is).asks in
    let walking : phase_of agenda ≡ Walking =
    ap (λ (asks : Bool). phase_at asks (is_some agenda.walk)) asks ∙ ap (λ (walk : Option Walk). phase_at true (is_some walk)) is in
    absurd (walking_ready (sym walking ∙ ready))

-- so the words are those of the walks over all codecs, and of verbs
pub ready_answered : (means : Means) (words : List ℕ) (bring_up : BringUp) → is_ready bring_up.phase ≡ true → WereAnswered means words bring_up
    → AreRouted means bring_up.agenda.addresses.items words bring_up.agenda.graphs.items bring_up.agenda.plans.items bring_up.agenda.answered
ready_answered means words bring_up ready stands =
    let is : bring_up.phase ≡ Ready = ready_is bring_up.phase ready in
    let set_up : phase_of bring_up.agenda ≡ Ready = sym (bring_up.led (ap goes_on is)) ∙ is in
    let answered : WasAnswered means words bring_up.agenda = subst (WereAnsweredIn means words bring_up.agenda) is stands.is in
    subst (WasAnsweredBy means words bring_up.agenda) (no_walk bring_up.agenda bring_up.agenda.walk refl set_up) answered.is

-- ---- an answer comes to one thing at most

abbrev pub OneFault : Type 0
OneFault = (answer : ℕ) (one other : WalkFault) (old : Agenda) → TellsFault old.walk answer one → TellsFault old.walk answer other → one ≡ other

module _ (means : Means) (answer : ℕ) (old new : Agenda) (one_fault : OneFault)
    (leads_or_faulty : (fault : WalkFault) → LedBy means old.walk answer old new → TellsFault old.walk answer fault → ⊥)
    (leads_or_unrouted : (plans : List Plan) → LedBy means old.walk answer old new → AnswersNoRoute means old.walk answer old.addresses.items old.graphs.items plans → ⊥)
    (faulty_or_unrouted : (fault : WalkFault) (plans : List Plan) → TellsFault old.walk answer fault → AnswersNoRoute means old.walk answer old.addresses.items old.graphs.items plans → ⊥) where
  -- a fault that was told leads to the phase that names it
  pub fault_named : (phase : Phase) (fault : WalkFault) → LeadsOn means answer old new phase → EndsBy means answer old new phase → TellsFault old.walk answer fault
      → phase ≡ Malformed (slice_index old.addresses.items (length old.graphs.items)) fault
  fault_named (Malformed codec other) fault leads (codec_is, told, graphs, plans) tells =
      ap (λ (codec : ℕ). Malformed codec other) codec_is
      ∙ ap (λ (fault : WalkFault). Malformed (slice_index old.addresses.items (length old.graphs.items)) fault) (one_fault answer other fault old told tells)
  fault_named NothingRouted fault leads ends tells = absurd (faulty_or_unrouted fault new.plans.items tells (no_route_answered means answer old new ends))
  fault_named phase fault leads ends tells = absurd (leads_or_faulty fault (leads.led ends) tells)

  -- and so does a set of plans without a route
  pub no_route_named : (phase : Phase) (plans : List Plan) → LeadsOn means answer old new phase → EndsBy means answer old new phase
      → AnswersNoRoute means old.walk answer old.addresses.items old.graphs.items plans → phase ≡ NothingRouted
  no_route_named NothingRouted plans leads ends none = refl
  no_route_named (Malformed codec fault) plans leads (codec_is, told, graphs, kept) none = absurd (faulty_or_unrouted fault plans told none)
  no_route_named phase plans leads ends none = absurd (leads_or_unrouted plans (leads.led ends) none)
