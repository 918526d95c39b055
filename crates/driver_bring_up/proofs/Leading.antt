-- What calls read leads the agenda and the counts on.
use Rattle.std.proofs.Common.{inr, ◌⊎◌, inl, ◌≡◌, ◌*◌, ℕ, List, [], ◌∷◌, ◌++◌, Bool, true, false, if◌then◌else◌, Option, Some, None, refl, sym, ap, subst, ◌∙◌}
use Rattle.std.specs.Prelude.{not, ◌&&◌, ◌+◌, nat_le}
use Rattle.std.specs.List.{find}
use Rattle.std.specs.Option.{option_map}
use Rattle.std.specs.Option.{is_some}
use Rattle.verb_codes.specs.Words.{has_bit, bits_of}
use Rattle.route_setup.specs.Means.{Means}
use Rattle.hda_registers.specs.declared.shapes.Width.TheVariants.{One, Four}
use Rattle.hda_registers.specs.declared.places.TheConstants.{INTSTS, STATESTS}
use Rattle.world_rings.specs.declared.response.Response.{Response}
use Rattle.hda_world.specs.Events.{Event, Stepped, Begin, End, Read, Write, DmaRead, DmaWrite}
use Rattle.driver_progress.specs.Unread.{IsUnread, AreUnread}
use Rattle.command_engine.specs.declared.answers.Event as told
use Rattle.command_engine.specs.declared.answers.Outstanding.{Outstanding}
use Rattle.command_engine.specs.declared.answers.Poll.TheVariants as polls
use Rattle.command_engine.specs.declared.ring_places.RingPlaces.{RingPlaces}
use Rattle.command_engine.specs.Entries.{responses_in, answer_among, answers_it}
use Rattle.command_engine.specs.Polling.{PollReads, AreNew, asked_of, poll_of, found_by, answer_limit}
use Rattle.driver_agenda.specs.declared.agenda.Agenda.{Agenda}
use Rattle.driver_progress.specs.declared.registers.TheConstants.{STREAM_STATUS}
use Rattle.driver_progress.specs.declared.phase.Phase.{Phase}
use Rattle.driver_progress.specs.declared.phase.Phase.TheVariants.{Settling, Walking}
use Rattle.driver_progress.specs.Seen.{values_of}
use Rattle.driver_progress.specs.Interrupts.{interrupt_accesses}
use Rattle.driver_progress.specs.Commands.{ask_accesses}
use Rattle.driver_bring_up.specs.declared.jacks.Jacks.{Jacks}
use Rattle.driver_bring_up.specs.Counted.{IsCount}
use Rattle.driver_progress.specs.Phases.{is_asking}
use Rattle.driver_bring_up.specs.Told.{IsGivenUp}
use Rattle.driver_bring_up.specs.Standing.{LeadsOn, EndsBy}
use Rattle.driver_bring_up.specs.Commanding.{IsStretch, LedTo, Taken, poll_by, entry_in, entries_in, answer_in, with_told, submit_made}
use Rattle.driver_progress.specs.Tasks.{Order, Task, DriverLine}
use Rattle.driver_progress.specs.States.{State}
use Rattle.driver_progress.proofs.Callers.{interrupt_unread}
use Rattle.driver_bring_up.specs.declared.bringing.BringUp.{BringUp}
use Rattle.driver_bring_up.specs.Calls.{ReadsOn}
use Rattle.driver_bring_up.proofs.Entries.{asked_entries}

-- ---- where nothing is read

-- no entry is, where no answer is looked for
event_none : (event : Event) → IsUnread event → entry_in event ≡ []
event_none (Stepped step) unread = absurd unread
event_none Begin unread = absurd unread
event_none End unread = absurd unread
event_none (Read at width value) unread = refl
event_none (Write at width value) unread = refl
event_none (DmaRead at bytes) unread = absurd unread
event_none (DmaWrite at bytes) unread = refl

pub unread_none : (made : List Event) → AreUnread made → entries_in made ≡ []
unread_none [] unread = refl
unread_none (event ∷ made) unread =
    ap (λ (entries : List (List ℕ)). entries ++ entries_in made) (event_none event unread.0) ∙ unread_none made unread.1

pub answer_none : (rings : RingPlaces) (made : List Event) → entries_in made ≡ [] → answer_in rings made ≡ None
answer_none rings made none = ap (λ (entries : List (List ℕ)). answer_among (asked_of rings.outstanding) (responses_in entries)) none

not_some : (word : ℕ) → None ≡ Some word → ⊥
not_some word is = cc

-- a call that reads no entry, and leaves the agenda but where the first walk begins
pub reads_none : (means : Means) (made : List Event) (old new : BringUp) → entries_in made ≡ [] → ((old.phase ≡ Settling → new.phase ≡ Walking → ⊥) → new.agenda ≡ old.agenda) → new.jacks ≡ old.jacks
    → (is_asking old.phase ≡ true → new.phase ≡ old.phase) → ReadsOn means made old new
reads_none means made old new none agenda jacks same = record {
  taken = λ word is. absurd (not_some word (sym (answer_none old.engine.rings made none) ∙ is));
  left = λ answered still. agenda still;
  waits = λ asking answered. inl (same asking);
  addresses = λ still. ap (λ (agenda : Agenda). agenda.addresses) (agenda still);
  counted = λ events counts. subst (λ (jacks : Jacks). IsCount (with_told events (entries_in made)) jacks) (sym jacks) (subst (λ (entries : List (List ℕ)). IsCount (with_told events entries) old.jacks) (sym none) counts);
}

pub none_found : (rings : RingPlaces) (made : List Event) → entries_in made ≡ [] → false ≡ is_some (answer_in rings made)
none_found rings made none = sym (ap (λ (answer : Option ℕ). is_some answer) (answer_none rings made none))

-- ---- where a look reads

never_theirs : (unsolicited : Bool) → (not unsolicited && false) ≡ false
never_theirs true = refl
never_theirs false = refl

pub none_asked : (responses : List Response) → answer_among None responses ≡ None
none_asked [] = refl
none_asked (response ∷ responses) = ap (λ (is : Bool). option_map (λ (response : Response). response.answer) (if is then Some response else find (answers_it None) responses)) (never_theirs response.unsolicited) ∙ none_asked responses

taken_by : (means : Means) (outstanding : Option Outstanding) (found : Option ℕ) (clock word : ℕ) (old new : Agenda) (phase' : Phase) → (outstanding ≡ None → found ≡ None)
    → Taken means (poll_of outstanding found clock) old phase' new → found ≡ Some word → LeadsOn means word old new phase' × EndsBy means word old new phase'
taken_by means None found clock word old new phase' none taken is = absurd (not_some word (sym (none refl) ∙ is))
taken_by means (Some command) None clock word old new phase' none taken is = absurd (not_some word is)
taken_by means (Some command) (Some value) clock word old new phase' none taken is =
    subst (λ (value : ℕ). LeadsOn means value old new phase' × EndsBy means value old new phase') (let same : value ≡ word = cc in same) taken

waits : (command : Outstanding) (clock : ℕ) (late : Bool) (phase phase' : Phase) (old new : Agenda) → LedTo (if late then polls.Unanswered command.issued clock else polls.Waiting) (Some command) phase old phase' new → new ≡ old
waits command clock true phase phase' old new led = led.1
waits command clock false phase phase' old new led = led.1

left_by : (outstanding : Option Outstanding) (found : Option ℕ) (clock : ℕ) (phase phase' : Phase) (old new : Agenda) → LedTo (poll_of outstanding found clock) outstanding phase old phase' new → found ≡ None → new ≡ old
left_by None found clock phase phase' old new led is = led.1
left_by (Some command) (Some value) clock phase phase' old new led is = cc
left_by (Some command) None clock phase phase' old new led is = waits command clock (nat_le (command.issued + answer_limit) clock) phase phase' old new led

given_up : (command : Outstanding) (clock : ℕ) (late : Bool) (phase phase' : Phase) (old new : Agenda) → LedTo (if late then polls.Unanswered command.issued clock else polls.Waiting) (Some command) phase old phase' new → (phase' ≡ phase) ⊎ IsGivenUp (Some command) clock phase'
given_up command clock true phase phase' old new led = inr (record { command = command; was = refl; is = led.0 })
given_up command clock false phase phase' old new led = inl led.0

-- where a look leads that finds none
pub waits_by : (outstanding : Option Outstanding) (found : Option ℕ) (clock : ℕ) (phase phase' : Phase) (old new : Agenda) → LedTo (poll_of outstanding found clock) outstanding phase old phase' new → found ≡ None → (phase' ≡ phase) ⊎ IsGivenUp outstanding clock phase'
waits_by None found clock phase phase' old new led is = inl led.0
waits_by (Some command) (Some value) clock phase phase' old new led is = absurd (not_some value (sym is))
waits_by (Some command) None clock phase phase' old new led is = given_up command clock (nat_le (command.issued + answer_limit) clock) phase phase' old new led

pub outstanding_none : (rings : RingPlaces) (reads : PollReads) → rings.outstanding ≡ None → found_by rings reads ≡ None
outstanding_none rings reads none = ap (λ (outstanding : Option Outstanding). answer_among (asked_of outstanding) (responses_in reads.entries)) none ∙ none_asked (responses_in reads.entries)

pub found_in : (rirb clock : ℕ) (rings : RingPlaces) (reads : PollReads) (rest : List Event) → AreNew rings reads → entries_in rest ≡ [] → found_by rings reads ≡ answer_in rings (ask_accesses rirb clock rings reads ++ rest)
found_in rirb clock rings reads rest new none = ap (λ (entries : List (List ℕ)). answer_among (asked_of rings.outstanding) (responses_in entries)) (sym (asked_entries rirb clock rings reads rest new none))

pub submits_none : (corb : ℕ) (rings : RingPlaces) (order : Option Order) → entries_in (submit_made corb rings order) ≡ []
submits_none corb rings None = refl
submits_none corb rings (Some order) = refl

-- it stays, or the command is given up at some clock
gives_up : (outstanding : Option Outstanding) (clock : ℕ) (phase phase' : Phase) → (phase' ≡ phase) ⊎ IsGivenUp outstanding clock phase'
    → (phase' ≡ phase) ⊎ ((clock : ℕ) × IsGivenUp outstanding clock phase')
gives_up outstanding clock phase phase' (inl same) = inl same
gives_up outstanding clock phase phase' (inr up) = inr (clock, up)

pub reads_look : (means : Means) (rirb clock : ℕ) (reads : PollReads) (rest : List Event) (old new : BringUp) → is_asking old.phase ≡ true → AreNew old.engine.rings reads → entries_in rest ≡ []
    → LedTo (poll_by old.engine.rings reads clock) old.engine.rings.outstanding old.phase old.agenda new.phase new.agenda
    → Taken means (poll_by old.engine.rings reads clock) old.agenda new.phase new.agenda
    → ((events : List told.Event) → IsCount events old.jacks → IsCount (with_told events reads.entries) new.jacks) → new.agenda.addresses ≡ old.agenda.addresses
    → ReadsOn means (ask_accesses rirb clock old.engine.rings reads ++ rest) old new
reads_look means rirb clock reads rest old new asking fresh none led taken counted addresses =
    let found = found_in rirb clock old.engine.rings reads rest fresh none in record {
      taken = λ word is. taken_by means old.engine.rings.outstanding (found_by old.engine.rings reads) clock word old.agenda new.agenda new.phase (outstanding_none old.engine.rings reads) taken (found ∙ is);
      left = λ answered still. left_by old.engine.rings.outstanding (found_by old.engine.rings reads) clock old.phase new.phase old.agenda new.agenda led (found ∙ answered asking);
      waits = λ asks answered. gives_up old.engine.rings.outstanding clock old.phase new.phase
          (waits_by old.engine.rings.outstanding (found_by old.engine.rings reads) clock old.phase new.phase old.agenda new.agenda led (found ∙ answered));
      addresses = λ still. addresses;
      counted = λ events counts. subst (λ (entries : List (List ℕ)). IsCount (with_told events entries) new.jacks) (sym (asked_entries rirb clock old.engine.rings reads rest fresh none)) (counted events counts);
    }

-- ---- where interrupts are looked for first

entries_after : (on clears : Bool) (interrupts stream : ℕ) (made : List Event)
    → entries_in (Read INTSTS Four interrupts ∷ ((if on then (if clears then Read STREAM_STATUS One stream ∷ Write STREAM_STATUS One (4 * bits_of stream 2 3) ∷ [] else []) else []) ++ made)) ≡ entries_in made
entries_after true true interrupts stream made = refl
entries_after true false interrupts stream made = refl
entries_after false clears interrupts stream made = refl

pub interrupt_entries : (interrupts stream : ℕ) (made : List Event) → entries_in (interrupt_accesses interrupts stream ++ made) ≡ entries_in made
interrupt_entries interrupts stream made = entries_after (has_bit interrupts 31) (has_bit interrupts 1) interrupts stream made

values_after : (on clears : Bool) (interrupts stream : ℕ) (made : List Event)
    → values_of (Read INTSTS Four interrupts ∷ ((if on then (if clears then Read STREAM_STATUS One stream ∷ Write STREAM_STATUS One (4 * bits_of stream 2 3) ∷ [] else []) else []) ++ made)) STATESTS ≡ values_of made STATESTS
values_after true true interrupts stream made = refl
values_after true false interrupts stream made = refl
values_after false clears interrupts stream made = refl

pub no_entries_looked : (interrupts stream : ℕ) → entries_in (interrupt_accesses interrupts stream) ≡ []
no_entries_looked interrupts stream = unread_none (interrupt_accesses interrupts stream) (interrupt_unread interrupts stream)

pub interrupt_values : (interrupts stream : ℕ) (made : List Event) → values_of (interrupt_accesses interrupts stream ++ made) STATESTS ≡ values_of made STATESTS
interrupt_values interrupts stream made = values_after (has_bit interrupts 31) (has_bit interrupts 1) interrupts stream made

pub reads_after : (means : Means) (made made' : List Event) (old new : BringUp) → entries_in made' ≡ entries_in made → ReadsOn means made old new → ReadsOn means made' old new
reads_after means made made' old new same reads =
    let found = ap (λ (entries : List (List ℕ)). answer_among (asked_of old.engine.rings.outstanding) (responses_in entries)) (sym same) in record {
      taken = λ word is. reads.taken word (found ∙ is);
      addresses = reads.addresses;
      left = λ answered still. reads.left (λ asking. found ∙ answered asking) still;
      waits = λ asking answered. reads.waits asking (found ∙ answered);
      counted = λ events counts. subst (λ (entries : List (List ℕ)). IsCount (with_told events entries) new.jacks) (sym same) (reads.counted events counts);
    }

-- the answer is the same where the same entries are read
pub same_answer : (rings : RingPlaces) (made made' : List Event) → entries_in made' ≡ entries_in made → answer_in rings made' ≡ answer_in rings made
same_answer rings made made' same = ap (λ (entries : List (List ℕ)). answer_among (asked_of rings.outstanding) (responses_in entries)) same

pub found_after : (rings : RingPlaces) (made made' : List Event) → entries_in made' ≡ entries_in made → is_some (answer_in rings made) ≡ is_some (answer_in rings made')
found_after rings made made' same = ap (λ (entries : List (List ℕ)). is_some (answer_among (asked_of rings.outstanding) (responses_in entries))) (sym same)

pub same_found : {task : Task} {state : State} {turn : Option DriverLine} {made : List Event} {state' : State} {found found' : Option ℕ} → found ≡ found' → IsStretch task state turn made (is_some found) state' → IsStretch task state turn made (is_some found') state'
same_found {task} {state} {turn} {made} {state'} {found} {found'} same stretch = subst (λ (found : Option ℕ). IsStretch task state turn made (is_some found) state') same stretch
