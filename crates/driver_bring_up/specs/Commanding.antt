-- What a driver does at a call while commands are sent, and where that leads. This project's own.
use Rattle.std.specs.Prelude.{◌≡◌, ℕ, ◌+◌, Bool, true, false, List, [], Option, Some, None, ◌++◌, ◌∷◌}
use Rattle.verb_codes.specs.declared.verbs.Command.{Command}
use Rattle.std.specs.List.{flat_map}
use Rattle.std.specs.Option.{is_some}
use Rattle.route_setup.specs.Means.{Means}
use Rattle.hda_world.specs.Events.{Event, Stepped, Begin, End, Read, Write, DmaRead, DmaWrite}
use Rattle.hda_world.specs.Tellings.{Telling, Between, Makes}
use Rattle.command_engine.specs.declared.ring_places.RingPlaces.{RingPlaces}
use Rattle.command_engine.specs.declared.answers.Outstanding.{Outstanding}
use Rattle.command_engine.specs.declared.answers.Poll.{Poll}
use Rattle.command_engine.specs.declared.answers.Event as told
use Rattle.command_engine.specs.Entries.{responses_in, unasked_events_of, answer_among}
use Rattle.driver_bring_up.specs.declared.jacks.Jacks.{Jacks}
use Rattle.driver_bring_up.specs.Counted.{IsCount}
use Rattle.command_engine.specs.declared.answers.Poll.TheVariants as polls
use Rattle.command_engine.specs.Told.{PollTellsOf}
use Rattle.command_engine.specs.Polling.{PollReads, AreNew, asked_of, poll_of, found_by, rings_polled}
use Rattle.command_engine.specs.Submitting.{submit_accesses, rings_submitted}
use Rattle.driver_agenda.specs.declared.agenda.Agenda.{Agenda}
use Rattle.driver_agenda.specs.AnswerWords.{WasLeft}
use Rattle.driver_progress.specs.declared.phase.Phase.{Phase}
use Rattle.driver_progress.specs.declared.phase.Phase.TheVariants.{Unanswered}
use Rattle.driver_progress.specs.Phases.{goes_on, can_follow}
use Rattle.driver_progress.specs.Requests.{Request, requests_of}
use Rattle.driver_progress.specs.Tasks.{Task, Order, DriverLine}
use Rattle.driver_progress.specs.Seen.{seen_by, values_of}
use Rattle.driver_progress.specs.States.{State}
use Rattle.driver_progress.specs.Expected.{asks, interrupted_if}
use Rattle.driver_progress.specs.Next.{next, expected, polled}
use Rattle.driver_progress.specs.Commands.{ask_accesses}
use Rattle.driver_bring_up.specs.declared.answering.Answer.{Answer}
use Rattle.driver_bring_up.specs.Standing.{phase_of, order_in, LeadsOn, EndsBy}

-- ---- what is read of RIRB

-- the entry that an event read of the memory, if it did
abbrev pub entry_in : Event → List (List ℕ)
entry_in (Stepped step) = []
entry_in Begin = []
entry_in End = []
entry_in (Read at width value) = []
entry_in (Write at width value) = []
entry_in (DmaRead at bytes) = bytes ∷ []
entry_in (DmaWrite at bytes) = []

abbrev pub entries_in : List Event → List (List ℕ)
entries_in events = flat_map entry_in events

-- the answer to the outstanding command among them
abbrev pub answer_in : RingPlaces → List Event → Option ℕ
answer_in rings events = answer_among (asked_of rings.outstanding) (responses_in (entries_in events))

-- what was told unasked until now, and with them
abbrev pub with_told : List told.Event → (entries : List (List ℕ)) → List told.Event
with_told events [] = events
with_told events (entry ∷ entries) = events ++ unasked_events_of (responses_in (entry ∷ entries))

-- ---- the look for an answer

-- the command that was outstanding was not answered in its time
abbrev pub unanswered_if : Option Outstanding → (issued noticed : ℕ) → Phase → Phase
unanswered_if None issued noticed phase = phase
unanswered_if (Some command) issued noticed phase = Unanswered command.codec command.word issued noticed

-- where a look led by what it found: from this phase and this agenda
abbrev pub LedTo : Poll → Option Outstanding → (phase : Phase) → (old : Agenda) → (phase' : Phase) → (new : Agenda)
    → Type 0
LedTo polls.Idle outstanding phase old phase' new = (phase' ≡ phase) × (new ≡ old)
LedTo (polls.Answered word) outstanding phase old phase' new = (can_follow phase' ≡ true)
    × (goes_on phase' ≡ true → phase' ≡ phase_of new)
LedTo polls.Waiting outstanding phase old phase' new = (phase' ≡ phase) × (new ≡ old)
LedTo (polls.Unanswered issued noticed) outstanding phase old phase' new =
    (phase' ≡ unanswered_if outstanding issued noticed phase) × (new ≡ old)

-- whether the next command may be submitted then
abbrev pub leaves_free : Poll → (phase' : Phase) → Bool
leaves_free polls.Idle phase' = true
leaves_free (polls.Answered word) phase' = goes_on phase'
leaves_free polls.Waiting phase' = false
leaves_free (polls.Unanswered issued noticed) phase' = false

-- whether it found an answer
abbrev pub is_answer : Poll → Bool
is_answer polls.Idle = false
is_answer (polls.Answered word) = true
is_answer polls.Waiting = false
is_answer (polls.Unanswered issued noticed) = false

-- and where an answer led the agenda
abbrev pub Taken : (means : Means) → Poll → (old : Agenda) → (phase' : Phase) → (new : Agenda) → Type 0
Taken means polls.Idle old phase' new = Unit {0}
Taken means (polls.Answered word) old phase' new = LeadsOn means word old new phase' × EndsBy means word old new phase'
Taken means polls.Waiting old phase' new = Unit {0}
Taken means (polls.Unanswered issued noticed) old phase' new = Unit {0}

abbrev pub poll_by : RingPlaces → PollReads → (clock : ℕ) → Poll
poll_by rings reads clock = poll_of rings.outstanding (found_by rings reads) clock

pub record Looks (means : Means) (corb rirb : ℕ) (rings : RingPlaces) (phase : Phase) (old : Agenda) (jacks : Jacks)
    (answer : Answer) (rings' : RingPlaces) (new : Agenda) (jacks' : Jacks) (before after : Option Telling) : Type 0
  where
    pub reads : PollReads
    pub new_ones : AreNew rings reads
    pub made : Between (Makes (ask_accesses rirb answer.clock rings reads)) before after
    -- where it is told and the engine stood to the world: the answer belongs to the outstanding command
    pub tells : Between (PollTellsOf answer.clock corb rirb rings (poll_by rings reads answer.clock) rings'
        (unasked_events_of (responses_in reads.entries))) before after
    pub rings_are : rings' ≡ rings_polled rings reads
    pub led : LedTo (poll_by rings reads answer.clock) rings.outstanding phase old answer.phase new
    -- of all that was told unasked until now
    pub counted : (events : List told.Event) → IsCount events jacks → IsCount (with_told events reads.entries) jacks'
    pub taken : Taken means (poll_by rings reads answer.clock) old answer.phase new
    pub free : answer.is_free ≡ leaves_free (poll_by rings reads answer.clock) answer.phase

-- what a look that found this leaves of the agenda where memory was wanting
abbrev pub LeavesOf : Means → Poll → (old new : Agenda) → Type 0
LeavesOf means polls.Idle old new = ⊥
LeavesOf means (polls.Answered word) old new = WasLeft means old.walk word old new
LeavesOf means polls.Waiting old new = ⊥
LeavesOf means (polls.Unanswered issued noticed) old new = ⊥

-- a look that found an answer which memory was wanting to take: RIRB was read and what was told unasked counted, and
-- nothing else was done. The graphs of the walks before stay
pub record FindsAnswer (means : Means) (rirb : ℕ) (rings : RingPlaces) (jacks : Jacks) (old : Agenda)
    (rings' : RingPlaces) (jacks' : Jacks) (new : Agenda) (made : List Event) : Type 0 where
  pub clock : ℕ
  pub reads : PollReads
  pub made_is : made ≡ ask_accesses rirb clock rings reads
  pub new_ones : AreNew rings reads
  pub found : is_some (found_by rings reads) ≡ true
  pub rings_are : rings' ≡ rings_polled rings reads
  pub counted : (events : List told.Event) → IsCount events jacks → IsCount (with_told events reads.entries) jacks'
  pub left : (word : ℕ) → found_by rings reads ≡ Some word → WasLeft means old.walk word old new
  pub addresses : new.addresses ≡ old.addresses

pub record FindsAlone (means : Means) (rirb : ℕ) (rings : RingPlaces) (jacks : Jacks) (old : Agenda)
    (rings' : RingPlaces) (jacks' : Jacks) (new : Agenda) (before after : Option Telling) : Type 0 where
  pub made : List Event
  pub by : Between (Makes made) before after
  pub is : FindsAnswer means rirb rings jacks old rings' jacks' new made

-- ---- and the next command

abbrev pub order_if : (free : Bool) → Option Command → Option Order
order_if true command = order_in command
order_if false command = None

abbrev pub submit_made : (corb : ℕ) → RingPlaces → Option Order → List Event
submit_made corb rings None = []
submit_made corb rings (Some order) = submit_accesses corb rings order.word

abbrev pub rings_with : Option Order → (clock : ℕ) → RingPlaces → RingPlaces
rings_with None clock rings = rings
rings_with (Some order) clock rings = rings_submitted rings
    (record { codec = order.codec; word = order.word; issued = clock })

-- ---- a stretch, against what is to be done

pub record IsStretch (task : Task) (state : State) (turn : Option DriverLine) (made : List Event) (found : Bool)
    (state' : State) : Type 0 where
  pub fits : requests_of made ≡ expected task state turn (seen_by (values_of made) found)
  pub leads : state' ≡ next task state turn (seen_by (values_of made) found)

-- one in which an answer ends what is to be done: the look, with one for interrupts before it where the call is for
-- them, and then just these accesses. RIRB is read, nothing is outstanding, and all else stays
pub record IsLastLook (task : Task) (state : State) (irq : Bool) (later : List Request) (made : List Event)
    (state' : State) : Type 0 where
  pub fits : requests_of made ≡ interrupted_if irq (seen_by (values_of made) true)
      (asks task state (seen_by (values_of made) true) later)
  pub leads : state' ≡ record state { phase = state'.phase; rings = polled state.rings (seen_by (values_of made) true) }

-- a call that is not for an interrupt
abbrev pub run_of : (budget : ℕ) → DriverLine
run_of budget = record { irq = false; budget = budget }

-- the state after a call: the phase, and one command more if one was submitted
abbrev pub sent_with : Option Order → (sent : ℕ) → ℕ
sent_with None sent = sent
sent_with (Some order) sent = sent + 1

abbrev pub state_with : State → Phase → Option Order → (clock : ℕ) → RingPlaces → State
state_with state phase order clock rings =
    record state { phase = phase; sent = sent_with order state.sent; rings = rings_with order clock rings }
