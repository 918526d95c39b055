-- The trail of a stretch over its accesses.
use Rattle.std.proofs.Common.{true, ◌≡◌, ◌==◌, ℕ, Bool, false, List, [], ◌∷◌, ◌++◌, map, length, Option, if◌then◌else◌, refl, sym, ap, subst, ◌∙◌, append_assoc, append-nil, arith, ◌≤◌, length-append}
use Rattle.std.proofs.lemmas.Bool.{false≢true}
use Rattle.std.specs.Prelude.{drop, slice_get}
use Rattle.hda_registers.specs.declared.places.TheConstants.{CORBWP}
use Rattle.world_rings.specs.declared.response.Response.{Response}
use Rattle.world_steps.specs.declared.Step.{Step}
use Rattle.hda_world.specs.Worlds.{World}
use Rattle.hda_world.specs.Events.{Event, Stepped, Begin, End, Read, Write, DmaRead, DmaWrite, happens, after}
use Rattle.hda_world.specs.Tellings.{Telling, world_of, Went, Accessed, MakesBy, Makes}
use Rattle.driver_progress.specs.Tasks.{Task, DriverLine}
use Rattle.driver_progress.specs.States.{State, state_opened}
use Rattle.driver_progress.specs.Seen.{seen_by, values_of}
use Rattle.driver_progress.specs.Next.{next}
use Rattle.driver_progress.specs.Progress.{Conforms, IsProgress, ended, state_of, Trail, trail_of, trail_after, trail_opened, is_answered, noted, seen_in, Fits, FitsAt}
use Rattle.driver_progress.specs.Noting.{with_accesses}
use Rattle.driver_progress.proofs.Callers.{ConformsTo, steps_leave_trail, steps_conform, trail_went, conforms_went, trail_stepped, conforms_stepped, access_fits, unread_access}
use Rattle.driver_progress.specs.Unread.{IsAccess, AreAccesses, IsUnread, AreUnread}
use Rattle.driver_bring_up.specs.Commanding.{IsStretch}
use Rattle.laws_bring_up.proofs.Grows.{event_on}
use Rattle.laws_bring_up.specs.Stretches.{FindsBy, Finds, FindsAll, HasFound, IsAtRest, IsOpen, IsDone}
use Rattle.laws_bring_up.proofs.Accesses.{unread_accesses}
use Rattle.laws_bring_up.proofs.Finding.{steps_find, finds_went, finds_access, row_finds}

-- ---- an event after some steps of the device

pub trail_access : (task : Task) (lines : List DriverLine) (event : Event) (old new : Telling) → (accessed : Accessed old new event)
    → trail_of task lines new ≡ noted task (trail_of task lines old) (after (map Stepped accessed.steps) (world_of old)) event
trail_access task lines event old new accessed =
    trail_went task lines old new (map Stepped accessed.steps ++ event ∷ []) accessed.went ∙ trail_stepped task accessed.steps event (world_of old) (trail_of task lines old)

pub conforms_access : (task : Task) (lines : List DriverLine) (event : Event) (old new : Telling) → Accessed old new event → FitsAt task (trail_of task lines old) event → ConformsTo task lines old → ConformsTo task lines new
conforms_access task lines event old new accessed fits =
    conforms_went task lines old new (map Stepped accessed.steps ++ event ∷ []) accessed.went (conforms_stepped task accessed.steps event (world_of old) (trail_of task lines old) fits)

-- ---- marks

pub opens : (task : Task) (lines left : List DriverLine) (state : State) (old new : Telling) → Accessed old new Begin → IsAtRest task lines left state old → IsOpen task lines (drop 1 left) (slice_get left 0) state new
opens task lines left state old new accessed rest =
    let is = trail_access task lines Begin old new accessed in record {
      conforms = conforms_access task lines Begin old new accessed (tt {0}) rest.conforms;
      finds = finds_access task lines Begin old new accessed (tt {0}) rest.finds;
      within = ap (λ (trail : Trail). trail.within) is;
      left_is = ap (λ (trail : Trail). trail.left) is ∙ ap (λ (left : List DriverLine). drop 1 left) rest.left_is;
      turn_is = ap (λ (trail : Trail). trail.turn) is ∙ ap (λ (left : List DriverLine). slice_get left 0) rest.left_is;
      state_is = ap (λ (trail : Trail). trail.state) is ∙ rest.state_is;
      none_made = ap (λ (trail : Trail). trail.made) is;
      unanswered = ap (λ (trail : Trail). trail.answered) is;
    }

pub closes : (task : Task) (lines left : List DriverLine) (state' : State) (old new : Telling) → Accessed old new End → IsDone task lines left state' old → IsAtRest task lines left state' new
closes task lines left state' old new accessed done =
    let is = trail_access task lines End old new accessed in record {
      conforms = conforms_access task lines End old new accessed done.fits done.conforms;
      finds = finds_access task lines End old new accessed done.found done.finds;
      within = ap (λ (trail : Trail). trail.within) is;
      left_is = ap (λ (trail : Trail). trail.left) is ∙ done.left_is;
      state_is = ap (λ (trail : Trail). trail.state) is ∙ done.leads;
    }

-- ---- accesses that look for no answer

one_noted : (task : Task) (trail : Trail) (world : World) (event : Event) → IsUnread event → (written : ℕ) × (noted task trail world event ≡ record (with_accesses trail (event ∷ [])) { written = written })
one_noted task trail world (Stepped step) unread = absurd unread
one_noted task trail world Begin unread = absurd unread
one_noted task trail world End unread = absurd unread
one_noted task trail world (Read at width value) unread =
    (trail.written, ap (λ (is : Bool). record (with_accesses trail (Read at width value ∷ [])) { answered = if is then is_answered trail world else trail.answered }) unread)
one_noted task trail world (Write at width value) unread = (if at == CORBWP then length world.written else trail.written, refl)
one_noted task trail world (DmaRead at bytes) unread = absurd unread
one_noted task trail world (DmaWrite at bytes) unread = (trail.written, refl)

-- what they made, and how many responses were written when CORBWP was last written
pub record Rowed (task : Task) (lines : List DriverLine) (made : List Event) (old new : Telling) : Type 0 where
  pub written : ℕ
  pub trail : trail_of task lines new ≡ record (with_accesses (trail_of task lines old) made) { written = written }
  pub conforms : ConformsTo task lines old → ConformsTo task lines new

pub unread_row : (task : Task) (lines : List DriverLine) (made : List Event) (old new : Telling) → MakesBy made old new → AreUnread made → Rowed task lines made old new
unread_row task lines [] old new none unread = record {
  written = (trail_of task lines old).written;
  trail = ap (trail_of task lines) none ∙ ap (λ (made : List Event). record (trail_of task lines old) { made = made }) (sym (append-nil (trail_of task lines old).made));
  conforms = λ conforms. subst (ConformsTo task lines) (sym none) conforms;
}
unread_row task lines (event ∷ made) old new makes unread =
    let one = one_noted task (trail_of task lines old) (after (map Stepped makes.1.steps) (world_of old)) event unread.0 in
    let here = trail_access task lines event old makes.0 makes.1 ∙ one.1 in
    let rest = unread_row task lines made makes.0 new makes.2 unread.1 in record {
      written = rest.written;
      trail = rest.trail
          ∙ ap (λ (trail : Trail). record (with_accesses trail made) { written = rest.written }) here
          ∙ ap (λ (all : List Event). record (trail_of task lines old) { made = all; written = rest.written }) (append_assoc (trail_of task lines old).made (event ∷ []) made);
      conforms = λ conforms. rest.conforms (conforms_access task lines event old makes.0 makes.1 (access_fits task (trail_of task lines old) event (unread_access event unread.0)) conforms);
    }

-- ---- accesses of any kind

-- the stretch that they are of stays open, and they are added to what was made
pub record AreOfStretch (old new : Trail) (made : List Event) : Type 0 where
  pub state_is : new.state ≡ old.state
  pub turn_is : new.turn ≡ old.turn
  pub made_is : new.made ≡ old.made ++ made

access_noted : (task : Task) (trail : Trail) (world : World) (event : Event) → IsAccess event → AreOfStretch trail (noted task trail world event) (event ∷ [])
access_noted task trail world (Stepped step) is = absurd is
access_noted task trail world Begin is = absurd is
access_noted task trail world End is = absurd is
access_noted task trail world (Read at width value) is = record { state_is = refl; turn_is = refl; made_is = refl }
access_noted task trail world (Write at width value) is = record { state_is = refl; turn_is = refl; made_is = refl }
access_noted task trail world (DmaRead at bytes) is = record { state_is = refl; turn_is = refl; made_is = refl }
access_noted task trail world (DmaWrite at bytes) is = record { state_is = refl; turn_is = refl; made_is = refl }

pub accesses_row : (task : Task) (lines : List DriverLine) (made : List Event) (old new : Telling) → MakesBy made old new → AreAccesses made → AreOfStretch (trail_of task lines old) (trail_of task lines new) made
accesses_row task lines [] old new none are = record {
  state_is = ap (λ (telling : Telling). (trail_of task lines telling).state) none;
  turn_is = ap (λ (telling : Telling). (trail_of task lines telling).turn) none;
  made_is = ap (λ (telling : Telling). (trail_of task lines telling).made) none ∙ sym (append-nil (trail_of task lines old).made);
}
accesses_row task lines (event ∷ made) old new makes are =
    let here = trail_access task lines event old makes.0 makes.1 in
    let one = access_noted task (trail_of task lines old) (after (map Stepped makes.1.steps) (world_of old)) event are.0 in
    let rest = accesses_row task lines made makes.0 new makes.2 are.1 in record {
      state_is = rest.state_is ∙ ap (λ (trail : Trail). trail.state) here ∙ one.state_is;
      turn_is = rest.turn_is ∙ ap (λ (trail : Trail). trail.turn) here ∙ one.turn_is;
      made_is = rest.made_is ∙ ap (λ (front : List Event). front ++ made) (ap (λ (trail : Trail). trail.made) here ∙ one.made_is) ∙ append_assoc (trail_of task lines old).made (event ∷ []) made;
    }

-- ---- a stretch whose accesses were made

-- the trail after it, from that at its beginning
pub stretch_done : (task : Task) (lines left : List DriverLine) (turn : Option DriverLine) (state state' : State) (made : List Event) (found : Bool) (written : ℕ) (old new : Telling) → IsOpen task lines left turn state old
    → MakesBy made old new → AreAccesses made → trail_of task lines new ≡ record (with_accesses (trail_of task lines old) made) { written = written; answered = found } → ConformsTo task lines new → IsStretch task state turn made found state'
    → FindsBy turn state (seen_by (values_of made) found) → IsDone task lines left state' new
stretch_done task lines left turn state state' made found written old new opened makes are is conforms stretch finds =
    let first = trail_of task lines old in
    let all = is
    ∙ ap (λ (front : List Event). record first { made = front ++ made; written = written; answered = found }) opened.none_made
    ∙ ap (λ (state : State). record first { state = state; made = made; written = written; answered = found }) opened.state_is
    ∙ ap (λ (turn : Option DriverLine). record first { state = state; turn = turn; made = made; written = written; answered = found }) opened.turn_is in record {
      conforms = conforms;
      finds = row_finds task lines made old new makes are opened.finds;
      within = ap (λ (trail : Trail). trail.within) all ∙ opened.within;
      left_is = ap (λ (trail : Trail). trail.left) all ∙ opened.left_is;
      fits = subst (Fits task) (sym all) stretch.fits;
      found = subst Finds (sym all) finds;
      leads = ap (λ (trail : Trail). next task trail.state trail.turn (seen_in trail)) all ∙ sym stretch.leads;
    }

pub unread_done : (task : Task) (lines left : List DriverLine) (turn : Option DriverLine) (state state' : State) (made : List Event) (old new : Telling) → IsOpen task lines left turn state old → Makes made old new → AreUnread made
    → IsStretch task state turn made false state' → FindsBy turn state (seen_by (values_of made) false) → IsDone task lines left state' new
unread_done task lines left turn state state' made old new opened makes unread stretch finds =
    let row = unread_row task lines made old new makes.by unread in
    stretch_done task lines left turn state state' made false row.written old new opened makes.by (unread_accesses made unread)
    (row.trail ∙ ap (λ (answered : Bool). record (with_accesses (trail_of task lines old) made) { written = row.written; answered = answered }) opened.unanswered)
    (row.conforms opened.conforms) stretch finds

-- ---- how many responses were written when CORBWP was written last: no more than are written

append_within : (n : ℕ) (old new more : List Response) → new ≡ old ++ more → n ≤ length old → n ≤ length new
append_within n old new more is within =
    let long = ap (λ (items : List Response). length items) is ∙ length-append old more in
    omega (arith, within, long)

noted_within : (task : Task) (trail : Trail) (world : World) (event : Event) → trail.written ≤ length world.written → (noted task trail world event).written ≤ length world.written
noted_within task trail world (Stepped step) within = within
noted_within task trail world Begin within = within
noted_within task trail world End within = within
noted_within task trail world (Read at width value) within = within
noted_within task trail world (Write at width value) within = by (at == CORBWP)
  where
    by : (is : Bool) → (if is then length world.written else trail.written) ≤ length world.written
    by true = omega arith
    by false = within
noted_within task trail world (DmaRead at bytes) within = within
noted_within task trail world (DmaWrite at bytes) within = within

after_within : (task : Task) (events : List Event) (world : World) (trail : Trail) → trail.written ≤ length world.written → (trail_after task events world trail).written ≤ length (after events world).written
after_within task [] world trail within = within
after_within task (event ∷ events) world trail within =
    let on = event_on event world in
    after_within task events (happens world event) (noted task trail world event)
    (append_within (noted task trail world event).written world.written (happens world event).written on.more_written on.written (noted_within task trail world event within))

pub written_within : (task : Task) (lines : List DriverLine) (telling : Telling) → (trail_of task lines telling).written ≤ length (world_of telling).written
written_within task lines telling = after_within task telling.journal telling.start (trail_opened lines) (omega arith)

-- ---- before the first access

pub rests : (task : Task) (lines : List DriverLine) (steps : List Step) (telling : Telling) → telling.journal ≡ map Stepped steps → IsAtRest task lines lines state_opened telling
rests task lines steps telling none =
    let is = ap (λ (journal : List Event). trail_after task journal telling.start (trail_opened lines)) none ∙ steps_leave_trail task steps telling.start (trail_opened lines) in record {
      conforms = subst (λ (journal : List Event). Conforms task journal telling.start (trail_opened lines)) (sym none) (steps_conform task steps telling.start (trail_opened lines));
      finds = subst (λ (journal : List Event). FindsAll task journal telling.start (trail_opened lines)) (sym none) (steps_find task steps telling.start (trail_opened lines));
      within = ap (λ (trail : Trail). trail.within) is;
      left_is = ap (λ (trail : Trail). trail.left) is;
      state_is = ap (λ (trail : Trail). trail.state) is;
    }

-- ---- steps of the device

stepped : (task : Task) (lines : List DriverLine) (steps : List Step) (old new : Telling) → Went old new (map Stepped steps) → trail_of task lines new ≡ trail_of task lines old
stepped task lines steps old new went = trail_went task lines old new (map Stepped steps) went ∙ steps_leave_trail task steps (world_of old) (trail_of task lines old)

stepped_conforms : (task : Task) (lines : List DriverLine) (steps : List Step) (old new : Telling) → Went old new (map Stepped steps) → ConformsTo task lines old → ConformsTo task lines new
stepped_conforms task lines steps old new went conforms = conforms_went task lines old new (map Stepped steps) went (steps_conform task steps (world_of old) (trail_of task lines old)) conforms

pub rest_stays : (task : Task) (lines left : List DriverLine) (state : State) (steps : List Step) (old new : Telling) → Went old new (map Stepped steps) → IsAtRest task lines left state old → IsAtRest task lines left state new
rest_stays task lines left state steps old new went rest =
    let is = stepped task lines steps old new went in record {
      conforms = stepped_conforms task lines steps old new went rest.conforms;
      finds = finds_went task lines old new (map Stepped steps) went (steps_find task steps (world_of old) (trail_of task lines old)) rest.finds;
      within = ap (λ (trail : Trail). trail.within) is ∙ rest.within;
      left_is = ap (λ (trail : Trail). trail.left) is ∙ rest.left_is;
      state_is = ap (λ (trail : Trail). trail.state) is ∙ rest.state_is;
    }

-- ---- that all of it is progress

pub rest_progress : (task : Task) (lines left : List DriverLine) (state : State) (telling : Telling) → IsAtRest task lines left state telling → IsProgress task lines telling × (state_of task lines telling ≡ state) × HasFound task lines telling
rest_progress task lines left state telling rest = (
  record { conforms = rest.conforms; last = λ within. absurd (false≢true (sym rest.within ∙ within)) },
  ap (λ (within : Bool). (if within then ended task (trail_of task lines telling) else trail_of task lines telling).state) rest.within ∙ rest.state_is,
  rest.finds,
)

pub done_progress : (task : Task) (lines left : List DriverLine) (state' : State) (telling : Telling) → IsDone task lines left state' telling → IsProgress task lines telling × (state_of task lines telling ≡ state') × HasFound task lines telling × Finds (trail_of task lines telling)
done_progress task lines left state' telling done = (
  record { conforms = done.conforms; last = λ within. done.fits },
  ap (λ (within : Bool). (if within then ended task (trail_of task lines telling) else trail_of task lines telling).state) done.within ∙ done.leads,
  done.finds,
  done.found,
)
