-- Rows of accesses that keep codecs set up.
use Rattle.std.proofs.Common.{◌≡◌, ◌⊎◌, inl, inr, ◌==◌, ◌&&◌, ◌||◌, ℕ, Bool, true, false, if◌then◌else◌, List, [], ◌∷◌, length, refl, sym, ap, subst, ◌∙◌, rules, tests}
use Rattle.std.proofs.lemmas.Bool.{false≢true}
use Rattle.hda_registers.specs.declared.places.TheConstants.{RIRBSTS}
use Rattle.codec_graph.specs.declared.raw.RawCodec.{RawCodec}
use Rattle.codec_graph.specs.Settings.{Entries}
use Rattle.route_planner.specs.declared.routes.Plan.{Plan}
use Rattle.route_setup.specs.Means.{Means}
use Rattle.world_steps.specs.declared.Step.{Step}
use Rattle.hda_world.specs.Worlds.{World}
use Rattle.hda_world.specs.Steps.{after_steps}
use Rattle.hda_world.specs.Events.{Event, Stepped, Begin, End, Read, Write, DmaRead, DmaWrite, happens}
use Rattle.hda_world.specs.Tellings.{Telling, world_of, Accessed, MakesBy}
use Rattle.driver_progress.specs.declared.phase.Phase.{Phase}
use Rattle.driver_progress.specs.declared.phase.Phase.TheVariants.{Ready, Playing, Drained, Late}
use Rattle.driver_progress.specs.Phases.{is_asking, is_early, are_set_up}
use Rattle.driver_progress.specs.Requests.{requests_in, requests_of}
use Rattle.driver_progress.specs.Noting.{IsPlain, ArePlain}
use Rattle.driver_progress.specs.States.{State}
use Rattle.driver_progress.specs.Tasks.{Task, DriverLine}
use Rattle.driver_progress.specs.Progress.{Trail, trail_of, is_answered, noted}
use Rattle.driver_progress.specs.Unread.{IsUnread, AreUnread}
use Rattle.driver_progress.proofs.Callers.{asking_early}
use Rattle.laws_bring_up.specs.SettingUp.{are_answered, AreSetUpForGood, SetUpAt, StaysSetUp}
use Rattle.laws_bring_up.proofs.Calm.{AreCalm, IsLast, calm_front, calm_back}
use Rattle.laws_bring_up.proofs.Same.{steps_for_good, write_for_good}
use Rattle.laws_bring_up.proofs.Always.{access_always, at_access, trail_there}

-- ---- when all are answered

pub ready_phase : (phase : Phase) → is_early phase ≡ true → are_set_up phase ≡ true → phase ≡ Ready
ready_phase Ready early is = refl
ready_phase Playing early is = absurd (false≢true early)
ready_phase Drained early is = absurd (false≢true early)
ready_phase (Late from to limit) early is = absurd (false≢true early)
ready_phase phase early is = absurd (false≢true is)

-- of a state that is another
pub early_as : (state other : State) → state ≡ other → is_early other.phase ≡ true → is_early state.phase ≡ true
early_as state other same early = subst (λ (state : State). is_early state.phase ≡ true) (sym same) early

-- the look of an open stretch found the last answer
pub record FoundLast (asks within sent answered : Bool) : Type 0 where
  pub asks_is : asks ≡ true
  pub within_is : within ≡ true
  pub sent_is : sent ≡ true
  pub answered_is : answered ≡ true

parts : (ready asks within sent answered : Bool) → (ready || (asks && (within && (sent && answered)))) ≡ true → (ready ≡ true) ⊎ FoundLast asks within sent answered
parts true asks within sent answered is = inl refl
parts false true true true true is = inr (record { asks_is = refl; within_is = refl; sent_is = refl; answered_is = refl })
parts false true true true false is = absurd (false≢true is)
parts false true true false answered is = absurd (false≢true is)
parts false true false sent answered is = absurd (false≢true is)
parts false false within sent answered is = absurd (false≢true is)

pub answered_parts : (task : Task) (trail : Trail) → is_early trail.state.phase ≡ true → are_answered task trail ≡ true
    → (trail.state.phase ≡ Ready) ⊎ FoundLast (is_asking trail.state.phase) trail.within (trail.state.sent == length task.orders) trail.answered
answered_parts task trail early is = by (parts (are_set_up trail.state.phase) (is_asking trail.state.phase) trail.within (trail.state.sent == length task.orders) trail.answered is)
  where
    by : (are_set_up trail.state.phase ≡ true) ⊎ FoundLast (is_asking trail.state.phase) trail.within (trail.state.sent == length task.orders) trail.answered
        → (trail.state.phase ≡ Ready) ⊎ FoundLast (is_asking trail.state.phase) trail.within (trail.state.sent == length task.orders) trail.answered
    by (inl ready) = inl (ready_phase trail.state.phase early ready)
    by (inr found) = inr found

pub ready_answered : (task : Task) (trail : Trail) → trail.state.phase ≡ Ready → are_answered task trail ≡ true
ready_answered task trail is = ap (λ (phase : Phase). are_set_up phase || (is_asking phase && (trail.within && ((trail.state.sent == length task.orders) && trail.answered)))) is

all_true : (ready asks within sent answered : Bool) → FoundLast asks within sent answered → (ready || (asks && (within && (sent && answered)))) ≡ true
all_true true asks within sent answered found = refl
all_true false true true true true found = refl
all_true false true true true false found = found.answered_is
all_true false true true false answered found = found.sent_is
all_true false true false sent answered found = found.within_is
all_true false false within sent answered found = found.asks_is

pub found_answered : (task : Task) (trail : Trail) → FoundLast (is_asking trail.state.phase) trail.within (trail.state.sent == length task.orders) trail.answered → are_answered task trail ≡ true
found_answered task trail found = all_true (are_set_up trail.state.phase) (is_asking trail.state.phase) trail.within (trail.state.sent == length task.orders) trail.answered found

pub are_same : (a b : ℕ) → (a == b) ≡ true → a ≡ b
are_same a b is = search (rules, tests)

pub same_are : (a b : ℕ) → a ≡ b → (a == b) ≡ true
same_are a b is = search (rules, tests)

pub last_of : (task : Task) (trail : Trail) (state : State) → trail.state ≡ state → is_early state.phase ≡ true → are_answered task trail ≡ true → IsLast task state
last_of task trail state same early is = subst (IsLast task) same (by (answered_parts task trail (early_as trail.state state same early) is))
  where
    by : (trail.state.phase ≡ Ready) ⊎ FoundLast (is_asking trail.state.phase) trail.within (trail.state.sent == length task.orders) trail.answered → IsLast task trail.state
    by (inl ready) = inl ready
    by (inr found) = inr (found.asks_is, are_same trail.state.sent (length task.orders) found.sent_is)

-- before an answer was looked for they are not, unless they were before
not_found : (asks within sent : Bool) (answered : Bool) → answered ≡ false → FoundLast asks within sent answered → ⊥
not_found asks within sent answered none found = false≢true (sym none ∙ found.answered_is)

not_ready : (phase : Phase) → is_asking phase ≡ true → phase ≡ Ready → ⊥
not_ready phase asking ready = false≢true (sym (ap is_asking ready) ∙ asking)

pub unlooked : (task : Task) (trail : Trail) → is_early trail.state.phase ≡ true → trail.answered ≡ false → are_answered task trail ≡ true → trail.state.phase ≡ Ready
unlooked task trail early none is = by (answered_parts task trail early is)
  where
    by : (trail.state.phase ≡ Ready) ⊎ FoundLast (is_asking trail.state.phase) trail.within (trail.state.sent == length task.orders) trail.answered → trail.state.phase ≡ Ready
    by (inl ready) = ready
    by (inr found) = absurd (not_found (is_asking trail.state.phase) trail.within (trail.state.sent == length task.orders) trail.answered none found)

pub unanswered : (task : Task) (trail : Trail) → is_asking trail.state.phase ≡ true → trail.answered ≡ false → are_answered task trail ≡ true → ⊥
unanswered task trail asking none is = not_ready trail.state.phase asking (unlooked task trail (asking_early trail.state.phase asking) none is)

-- ---- accesses that look for no answer

abbrev pub IsNoLook : Event → Type 0
IsNoLook (Stepped step) = ⊥
IsNoLook Begin = ⊥
IsNoLook End = ⊥
IsNoLook (Read at width value) = (at == RIRBSTS) ≡ false
IsNoLook (Write at width value) = Unit {0}
IsNoLook (DmaRead at bytes) = Unit {0}
IsNoLook (DmaWrite at bytes) = Unit {0}

abbrev pub AreNoLooks : List Event → Type 0
AreNoLooks [] = Unit {0}
AreNoLooks (event ∷ events) = IsNoLook event × AreNoLooks events

unread_no_look : (event : Event) → IsUnread event → IsNoLook event
unread_no_look (Stepped step) is = is
unread_no_look Begin is = is
unread_no_look End is = is
unread_no_look (Read at width value) is = is
unread_no_look (Write at width value) is = tt {0}
unread_no_look (DmaRead at bytes) is = tt {0}
unread_no_look (DmaWrite at bytes) is = tt {0}

pub unread_no_looks : (events : List Event) → AreUnread events → AreNoLooks events
unread_no_looks [] unread = tt {0}
unread_no_looks (event ∷ events) unread = (unread_no_look event unread.0, unread_no_looks events unread.1)

plain_no_look : (event : Event) → IsPlain event → IsNoLook event
plain_no_look (Stepped step) is = is
plain_no_look Begin is = is
plain_no_look End is = is
plain_no_look (Read at width value) is = is
plain_no_look (Write at width value) is = tt {0}
plain_no_look (DmaRead at bytes) is = tt {0}
plain_no_look (DmaWrite at bytes) is = tt {0}

pub plain_no_looks : (events : List Event) → ArePlain events → AreNoLooks events
plain_no_looks [] plain = tt {0}
plain_no_looks (event ∷ events) plain = (plain_no_look event plain.0, plain_no_looks events plain.1)

same_answered : (task : Task) (trail : Trail) (world : World) (event : Event) → IsNoLook event → are_answered task (noted task trail world event) ≡ are_answered task trail
same_answered task trail world (Stepped step) none = absurd none
same_answered task trail world Begin none = absurd none
same_answered task trail world End none = absurd none
same_answered task trail world (Read at width value) none =
    ap (λ (is : Bool). are_set_up trail.state.phase || (is_asking trail.state.phase && (trail.within && ((trail.state.sent == length task.orders) && (if is then is_answered trail world else trail.answered))))) none
same_answered task trail world (Write at width value) none = refl
same_answered task trail world (DmaRead at bytes) none = refl
same_answered task trail world (DmaWrite at bytes) none = refl

same_state : (task : Task) (trail : Trail) (world : World) (event : Event) → IsNoLook event → (noted task trail world event).state ≡ trail.state
same_state task trail world (Stepped step) none = absurd none
same_state task trail world Begin none = absurd none
same_state task trail world End none = absurd none
same_state task trail world (Read at width value) none = refl
same_state task trail world (Write at width value) none = refl
same_state task trail world (DmaRead at bytes) none = refl
same_state task trail world (DmaWrite at bytes) none = refl

-- ---- codecs that are set up

abbrev pub ForGoodAt : (means : Means) (graphs : List RawCodec) → Task → World → Trail → Type 0
ForGoodAt means graphs task world trail = are_answered task trail ≡ true → AreSetUpForGood means graphs world

-- from the last answer on they are, in a stretch that began in this state
pub record IsFine (means : Means) (graphs : List RawCodec) (task : Task) (lines : List DriverLine) (state : State) (telling : Telling) : Type 0 where
  pub set_up : StaysSetUp means graphs task lines telling
  pub good : ForGoodAt means graphs task (world_of telling) (trail_of task lines telling)
  pub state_is : (trail_of task lines telling).state ≡ state

module _ (means : Means) (graphs : List RawCodec) (task : Task) (lines : List DriverLine) (state : State) where
  abbrev Fine : Telling → Type 0
  Fine telling = IsFine means graphs task lines state telling

  abbrev GoodAt : World → Trail → Type 0
  GoodAt world trail = ForGoodAt means graphs task world trail

  -- over an access
  pub access_fine : (event : Event) (old new : Telling) (accessed : Accessed old new event) → Fine old
      → (noted task (trail_of task lines old) (after_steps accessed.steps (world_of old)) event).state ≡ (trail_of task lines old).state
      → (GoodAt (after_steps accessed.steps (world_of old)) (trail_of task lines old)
      → GoodAt (happens (after_steps accessed.steps (world_of old)) event) (noted task (trail_of task lines old) (after_steps accessed.steps (world_of old)) event)) → Fine new
  access_fine event old new accessed fine stays leads =
      let good_on : (done : List Step) → GoodAt (after_steps done (world_of old)) (trail_of task lines old) = λ done answered. steps_for_good means graphs done (world_of old) (fine.good answered) in
      let last = leads (good_on accessed.steps) in record {
        set_up = access_always (SetUpAt means graphs task) task lines event old new accessed (λ done answered. (good_on done answered).set_up) (λ answered. (last answered).set_up) fine.set_up;
        good = at_access GoodAt task lines event old new accessed last;
        state_is = ap (λ (trail : Trail). trail.state) (trail_there task lines event old new accessed) ∙ stays ∙ fine.state_is;
      }

  event_good : (event : Event) (world : World) → IsNoLook event → AreCalm (requests_in event) → AreSetUpForGood means graphs world → AreSetUpForGood means graphs (happens world event)
  event_good (Stepped step) world none calm good = absurd none
  event_good Begin world none calm good = absurd none
  event_good End world none calm good = absurd none
  event_good (Read at width value) world none calm good = good
  event_good (Write at width value) world none calm good = write_for_good means graphs world at width value calm.0 good
  event_good (DmaRead at bytes) world none calm good = good
  event_good (DmaWrite at bytes) world none calm good = record { idle = good.idle; set_up = good.set_up }

  -- over accesses that look for no answer, and submit no command once all are answered
  pub calm_row : (made : List Event) (old new : Telling) → MakesBy made old new → AreNoLooks made → (are_answered task (trail_of task lines old) ≡ true → AreCalm (requests_of made)) → Fine old → Fine new
  calm_row [] old new none no_looks calm fine = subst Fine (sym none) fine
  calm_row (event ∷ made) old new makes no_looks calm fine =
      let first = makes.1 in
      let there = after_steps first.steps (world_of old) in
      let same = same_answered task (trail_of task lines old) there event no_looks.0 in
      let here = access_fine event old makes.0 first fine (same_state task (trail_of task lines old) there event no_looks.0)
      (λ good answered. let before = sym same ∙ answered in event_good event there no_looks.0 (calm_front (requests_in event) (requests_of made) (calm before)) (good before)) in
      calm_row made makes.0 new makes.2 no_looks.1
      (λ answered. calm_back (requests_in event) (requests_of made) (calm (sym same ∙ sym (ap (λ (trail : Trail). are_answered task trail) (trail_there task lines event old makes.0 first)) ∙ answered))) here
