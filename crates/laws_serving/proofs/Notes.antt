-- How far progress comes over the events of a call in which nothing is written to RIRB.
use Rattle.std.proofs.Common.{◌≡◌, ℕ, zero, suc, ◌+◌, ◌*◌, ◌%◌, ◌==◌, ◌||◌, Bool, true, false, List, [], ◌∷◌, ◌++◌, length, drop, refl, sym, ap, subst, ◌∙◌, append_assoc, append-nil, if◌then◌else◌}
use Rattle.std.specs.Prelude.{All}
use Rattle.std.specs.List.{list_any}
use Rattle.std.proofs.lemmas.List.Elements.{All-nil, All-cons, All-head, All-tail}
use Rattle.verb_codes.specs.Words.{has_bit}
use Rattle.world_steps.specs.declared.Step.{Step}
use Rattle.world_steps.specs.declared.Step.TheVariants as step
use Rattle.hda_registers.specs.declared.shapes.Width.TheVariants.{One, Two, Four}
use Rattle.hda_registers.specs.declared.places.TheConstants.{CORBWP, RIRBSTS, RIRBWP, WALCLK}
use Rattle.world_rings.specs.declared.entries.TheConstants.{RESPONSE_BYTES}
use Rattle.hda_registers.specs.Fields.{entries_of, is_out_of_reset}
use Rattle.world_rings.specs.declared.response.Response.{Response}
use Rattle.world_streams.specs.Output.{frame_of}
use Rattle.hda_world.specs.Worlds.{World, output_of}
use Rattle.hda_world.specs.Steps.{after_step, frame_step, output_fetched, input_stored, output_framed, input_framed, passed, times}
use Rattle.hda_world.specs.Events.{Event, Stepped, Begin, End, Read, Write, DmaRead, DmaWrite, happens, after}
use Rattle.hda_world.proofs.Callers.{access_leaves}
use Rattle.command_engine.specs.declared.ring_places.RingPlaces.{RingPlaces}
use Rattle.command_engine.specs.Entries.{answers_it}
use Rattle.command_engine.specs.Polling.{asked_of, PollReads, entry_reads, batch_accesses, poll_accesses}
use Rattle.command_engine.specs.Submitting.{submit_accesses}
use Rattle.driver_progress.specs.Tasks.{Task}
use Rattle.driver_progress.specs.Progress.{Trail, begun, ended, noted, with_access, trail_after, Conforms, Fits}
use Rattle.driver_progress.specs.Requests.{Request, Gets, Puts, Fetches, Stores, requests_of}
use Rattle.driver_progress.specs.Seen.{values_of}
use Rattle.driver_progress.proofs.Callers.{trail_append, conforms_back}
use Rattle.laws_bring_up.specs.Stretches.{Finds, FindsAll}
use Rattle.laws_serving.specs.ServingSchedules.{IsOfStreams}
use Rattle.laws_serving.proofs.Requests.{IsAccess}
use Rattle.laws_serving.proofs.Rows.{IsCalm}
use Rattle.rig.specs.Stretches.{is_access, accesses_of}
use Rattle.rig.specs.Follows.{AreAccesses}

-- ---- over accesses, while these are all responses that were written

abbrev pub noted_by : List Response → Trail → Event → Trail
noted_by all trail (Stepped step) = trail
noted_by all trail Begin = trail
noted_by all trail End = trail
noted_by all trail (Read at width value) =
    record (with_access trail (Read at width value)) { answered = if at == RIRBSTS then list_any (answers_it (asked_of trail.state.rings.outstanding)) (drop trail.written all) else trail.answered }
noted_by all trail (Write at width value) =
    record (with_access trail (Write at width value)) { written = if at == CORBWP then length all else trail.written }
noted_by all trail (DmaRead at bytes) = with_access trail (DmaRead at bytes)
noted_by all trail (DmaWrite at bytes) = with_access trail (DmaWrite at bytes)

abbrev pub notes : List Response → Trail → List Event → Trail
notes all trail [] = trail
notes all trail (event ∷ events) = notes all (noted_by all trail event) events

pub notes_both : (all : List Response) (trail : Trail) (front back : List Event) → notes all trail (front ++ back) ≡ notes all (notes all trail front) back
notes_both all trail [] back = refl
notes_both all trail (event ∷ front) back = notes_both all (noted_by all trail event) front back

-- steps of streams write nothing to RIRB
frame_written : (b : Bool) (world : World) → (if b then input_framed (output_framed (frame_of (output_of world)) (passed world)) else world).written ≡ world.written
frame_written true world = refl
frame_written false world = refl

frames_written : (count : ℕ) (world : World) → (times count frame_step world).written ≡ world.written
frames_written zero world = refl
frames_written (suc count) world = frames_written count (frame_step world) ∙ frame_written (is_out_of_reset world.registers.global) world

fetch_written : (b c : Bool) (most : ℕ) (world : World) → (if b then output_fetched most world else (if c then input_stored most world else world)).written ≡ world.written
fetch_written true c most world = refl
fetch_written false true most world = refl
fetch_written false false most world = refl

pub step_written : (one : Step) (world : World) → IsOfStreams one → (after_step one world).written ≡ world.written
step_written step.Corb world is = absurd is
step_written (step.Answer codec) world is = absurd is
step_written (step.Lose codec) world is = absurd is
step_written step.Rirb world is = absurd is
step_written (step.Fetch stream most) world is = fetch_written _ _ most world
step_written (step.Link count) world is = frames_written count world
step_written (step.Plug codec nid) world is = absurd is
step_written (step.Unplug codec nid) world is = absurd is

pub event_written : (event : Event) (world : World) → IsCalm event → (happens world event).written ≡ world.written
event_written (Stepped one) world is = step_written one world is
event_written Begin world is = refl
event_written End world is = refl
event_written (Read at width value) world is = refl
event_written (Write at width value) world is = (access_leaves world at value width).written
event_written (DmaRead at bytes) world is = refl
event_written (DmaWrite at bytes) world is = refl

pub trail_call : (task : Task) (body : List Event) (world : World) (trail : Trail) → All IsCalm body → trail_after task body world trail ≡ notes world.written trail (accesses_of body)
trail_call task [] world trail calm = refl
trail_call task (event ∷ body) world trail calm =
    by event (event_written event world (All-head IsCalm event body calm)) (All-head IsCalm event body calm) (λ now next. trail_call task body now next (All-tail IsCalm event body calm))
  where
    by : (event : Event) → (happens world event).written ≡ world.written → IsCalm event → ((now : World) (next : Trail) → trail_after task body now next ≡ notes now.written next (accesses_of body))
        → trail_after task body (happens world event) (noted task trail world event) ≡ notes world.written trail (accesses_of (event ∷ body))
    by (Stepped one) same is later = later (happens world (Stepped one)) trail ∙ ap (λ (all : List Response). notes all trail (accesses_of body)) same
    by Begin same is later = absurd is
    by End same is later = absurd is
    by (Read at width value) same is later = later world (noted_by world.written trail (Read at width value))
    by (Write at width value) same is later =
        later (happens world (Write at width value)) (noted_by world.written trail (Write at width value)) ∙ ap (λ (all : List Response). notes all (noted_by world.written trail (Write at width value)) (accesses_of body)) same
    by (DmaRead at bytes) same is later = later world (with_access trail (DmaRead at bytes))
    by (DmaWrite at bytes) same is later =
        later (happens world (DmaWrite at bytes)) (with_access trail (DmaWrite at bytes)) ∙ ap (λ (all : List Response). notes all (with_access trail (DmaWrite at bytes)) (accesses_of body)) same

-- ---- what it leaves

pub record Stays (old new : Trail) (accesses : List Event) : Type 0 where
  pub state : new.state ≡ old.state
  pub within : new.within ≡ old.within
  pub turn : new.turn ≡ old.turn
  pub left : new.left ≡ old.left
  pub made : new.made ≡ old.made ++ accesses

pub notes_stay : (all : List Response) (trail : Trail) (events : List Event) → AreAccesses events → Stays trail (notes all trail events) events
notes_stay all trail [] are = record { state = refl; within = refl; turn = refl; left = refl; made = sym (append-nil trail.made) }
notes_stay all trail (event ∷ events) are = by event (All-head IsAccess event events are) (notes_stay all (noted_by all trail event) events (All-tail IsAccess event events are))
  where
    by : (event : Event) → is_access event ≡ true → Stays (noted_by all trail event) (notes all (noted_by all trail event) events) events → Stays trail (notes all (noted_by all trail event) events) (event ∷ events)
    by (Stepped step) is rest = cc
    by Begin is rest = cc
    by End is rest = cc
    by (Read at width value) is rest =
        record { state = rest.state; within = rest.within; turn = rest.turn; left = rest.left; made = rest.made ∙ append_assoc trail.made (Read at width value ∷ []) events }
    by (Write at width value) is rest =
        record { state = rest.state; within = rest.within; turn = rest.turn; left = rest.left; made = rest.made ∙ append_assoc trail.made (Write at width value ∷ []) events }
    by (DmaRead at bytes) is rest = record { state = rest.state; within = rest.within; turn = rest.turn; left = rest.left; made = rest.made ∙ append_assoc trail.made (DmaRead at bytes ∷ []) events }
    by (DmaWrite at bytes) is rest = record { state = rest.state; within = rest.within; turn = rest.turn; left = rest.left; made = rest.made ∙ append_assoc trail.made (DmaWrite at bytes ∷ []) events }

-- ---- whether an answer was found, and when a command was sent last

-- no read of this register, and no write of CORBWP
abbrev pub ReadsNone : ℕ → Event → Type 0
ReadsNone register (Stepped step) = Unit {0}
ReadsNone register Begin = Unit {0}
ReadsNone register End = Unit {0}
ReadsNone register (Read at width value) = (at == register) ≡ false
ReadsNone register (Write at width value) = Unit {0}
ReadsNone register (DmaRead at bytes) = Unit {0}
ReadsNone register (DmaWrite at bytes) = Unit {0}

abbrev pub SendsNone : Event → Type 0
SendsNone (Stepped step) = Unit {0}
SendsNone Begin = Unit {0}
SendsNone End = Unit {0}
SendsNone (Read at width value) = Unit {0}
SendsNone (Write at width value) = (at == CORBWP) ≡ false
SendsNone (DmaRead at bytes) = Unit {0}
SendsNone (DmaWrite at bytes) = Unit {0}

pub answered_stays : (all : List Response) (trail : Trail) (events : List Event) → All (ReadsNone RIRBSTS) events → (notes all trail events).answered ≡ trail.answered
answered_stays all trail [] none = refl
answered_stays all trail (event ∷ events) none = answered_stays all (noted_by all trail event) events (All-tail (ReadsNone RIRBSTS) event events none) ∙ by event (All-head (ReadsNone RIRBSTS) event events none)
  where
    by : (event : Event) → ReadsNone RIRBSTS event → (noted_by all trail event).answered ≡ trail.answered
    by (Stepped step) is = refl
    by Begin is = refl
    by End is = refl
    by (Read at width value) is = ap (λ (looks : Bool). if looks then list_any (answers_it (asked_of trail.state.rings.outstanding)) (drop trail.written all) else trail.answered) is
    by (Write at width value) is = refl
    by (DmaRead at bytes) is = refl
    by (DmaWrite at bytes) is = refl

pub written_stays : (all : List Response) (trail : Trail) (events : List Event) → All SendsNone events → (notes all trail events).written ≡ trail.written
written_stays all trail [] none = refl
written_stays all trail (event ∷ events) none = written_stays all (noted_by all trail event) events (All-tail SendsNone event events none) ∙ by event (All-head SendsNone event events none)
  where
    by : (event : Event) → SendsNone event → (noted_by all trail event).written ≡ trail.written
    by (Stepped step) is = refl
    by Begin is = refl
    by End is = refl
    by (Read at width value) is = refl
    by (Write at width value) is = ap (λ (sends : Bool). if sends then length all else trail.written) is
    by (DmaRead at bytes) is = refl
    by (DmaWrite at bytes) is = refl

-- ---- a look for an answer

pub reads_none_both : (register : ℕ) (front back : List Event) → All (ReadsNone register) front → All (ReadsNone register) back → All (ReadsNone register) (front ++ back)
reads_none_both register [] back first second = second
reads_none_both register (event ∷ front) back first second =
    All-cons (ReadsNone register) event (front ++ back) (All-head (ReadsNone register) event front first) (reads_none_both register front back (All-tail (ReadsNone register) event front first) second)

entries_read_none : (register rirb size place : ℕ) (entries : List (List ℕ)) → All (ReadsNone register) (entry_reads rirb size place entries)
entries_read_none register rirb size place [] = All-nil (ReadsNone register)
entries_read_none register rirb size place (entry ∷ entries) =
    All-cons (ReadsNone register) (DmaRead (rirb + RESPONSE_BYTES * (place % size)) entry) (entry_reads rirb size (place + 1) entries) tt (entries_read_none register rirb size (place + 1) entries)

-- what comes of a poll after its read of RIRBSTS
abbrev pub batch_if : (set : Bool) (rirb : ℕ) → RingPlaces → PollReads → List Event
batch_if set rirb rings reads = if set then batch_accesses rirb rings reads.pointer reads.entries else []

pub batch_reads_none : (register : ℕ) → (RIRBWP == register) ≡ false → (set : Bool) (rirb : ℕ) (rings : RingPlaces) (reads : PollReads) → All (ReadsNone register) (batch_if set rirb rings reads)
batch_reads_none register apart true rirb rings reads =
    All-cons (ReadsNone register) (Read RIRBWP Two reads.pointer) (entry_reads rirb (entries_of rings.rirb) (rings.read + 1) reads.entries ++ Write RIRBSTS One 1 ∷ []) apart
    (reads_none_both register (entry_reads rirb (entries_of rings.rirb) (rings.read + 1) reads.entries) (Write RIRBSTS One 1 ∷ []) (entries_read_none register rirb (entries_of rings.rirb) (rings.read + 1) reads.entries)
    (All-cons (ReadsNone register) (Write RIRBSTS One 1) [] tt (All-nil (ReadsNone register))))
batch_reads_none register apart false rirb rings reads = All-nil (ReadsNone register)

-- whether a request reads a register
abbrev pub gets : ℕ → Request → Bool
gets register (Gets at width) = at == register
gets register (Puts at width value) = false
gets register (Fetches at count) = false
gets register (Stores at bytes) = false

or_false : (a b : Bool) → (a || b) ≡ false → (a ≡ false) × (b ≡ false)
or_false true b is = cc
or_false false b is = (refl, is)

-- accesses that ask for no read of it read none
pub asks_none : (register : ℕ) (accesses : List Event) → list_any (gets register) (requests_of accesses) ≡ false → All (ReadsNone register) accesses
asks_none register [] none = All-nil (ReadsNone register)
asks_none register (event ∷ accesses) none = by event none (λ none. asks_none register accesses none)
  where
    by : (event : Event) → list_any (gets register) (requests_of (event ∷ accesses)) ≡ false → (list_any (gets register) (requests_of accesses) ≡ false → All (ReadsNone register) accesses) → All (ReadsNone register) (event ∷ accesses)
    by (Stepped step) is later = All-cons (ReadsNone register) (Stepped step) accesses tt (later is)
    by Begin is later = All-cons (ReadsNone register) Begin accesses tt (later is)
    by End is later = All-cons (ReadsNone register) End accesses tt (later is)
    by (Read at width value) is later =
        let both = or_false (at == register) (list_any (gets register) (requests_of accesses)) is in
        All-cons (ReadsNone register) (Read at width value) accesses both.0 (later both.1)
    by (Write at width value) is later = All-cons (ReadsNone register) (Write at width value) accesses tt (later is)
    by (DmaRead at bytes) is later = All-cons (ReadsNone register) (DmaRead at bytes) accesses tt (later is)
    by (DmaWrite at bytes) is later = All-cons (ReadsNone register) (DmaWrite at bytes) accesses tt (later is)

-- then nothing is read there
pub none_read : (register : ℕ) (events : List Event) → All (ReadsNone register) events → values_of events register ≡ []
none_read register [] none = refl
none_read register (event ∷ events) none = by event (All-head (ReadsNone register) event events none) (none_read register events (All-tail (ReadsNone register) event events none))
  where
    by : (event : Event) → ReadsNone register event → values_of events register ≡ [] → values_of (event ∷ events) register ≡ []
    by (Stepped step) is rest = rest
    by Begin is rest = rest
    by End is rest = rest
    by (Read at width value) is rest = ap (λ (reads : Bool). (if reads then value ∷ [] else []) ++ values_of events register) is ∙ rest
    by (Write at width value) is rest = rest
    by (DmaRead at bytes) is rest = rest
    by (DmaWrite at bytes) is rest = rest

-- a look finds what was written since the last command was sent
pub look_answered : (all : List Response) (trail : Trail) (clock rirb : ℕ) (rings : RingPlaces) (reads : PollReads) (rest : List Event) → All (ReadsNone RIRBSTS) rest
    → (notes all trail (Read WALCLK Four clock ∷ (poll_accesses rirb rings reads ++ rest))).answered ≡ list_any (answers_it (asked_of trail.state.rings.outstanding)) (drop trail.written all)
look_answered all trail clock rirb rings reads rest none =
    answered_stays all (noted_by all (noted_by all trail (Read WALCLK Four clock)) (Read RIRBSTS One reads.flag)) (batch_if (has_bit reads.flag 0) rirb rings reads ++ rest)
    (reads_none_both RIRBSTS (batch_if (has_bit reads.flag 0) rirb rings reads) rest (batch_reads_none RIRBSTS refl (has_bit reads.flag 0) rirb rings reads) none)

-- a submission is noted
pub submission_written : (all : List Response) (trail : Trail) (front : List Event) (corb word : ℕ) (rings : RingPlaces) → (notes all trail (front ++ submit_accesses corb rings word)).written ≡ length all
submission_written all trail front corb word rings = ap (λ (trail : Trail). trail.written) (notes_both all trail front (submit_accesses corb rings word))

-- ---- a whole call

-- the trail when the accesses of a call were made, before its end
abbrev pub trail_made : World → Trail → List Event → Trail
trail_made world trail accesses = notes world.written (begun trail) accesses

-- where a call leads, and that it made what it was to make
pub record IsNoted (task : Task) (world : World) (trail : Trail) (accesses : List Event) (trail' : Trail) : Type 0 where
  pub trail_is : trail' ≡ ended task (trail_made world trail accesses)
  pub fits : Fits task (trail_made world trail accesses)
  pub finds : Finds (trail_made world trail accesses)

pub finds_back : (task : Task) (front back : List Event) (world : World) (trail : Trail) → FindsAll task (front ++ back) world trail → FindsAll task back (after front world) (trail_after task front world trail)
finds_back task [] back world trail all = all
finds_back task (event ∷ front) back world trail all = finds_back task front back (happens world event) (noted task trail world event) all.1

pub call_noted : (task : Task) (body accesses : List Event) (world : World) (trail : Trail) → All IsCalm body → accesses_of body ≡ accesses → Conforms task (Begin ∷ (body ++ End ∷ [])) world trail
    → FindsAll task (Begin ∷ (body ++ End ∷ [])) world trail → IsNoted task world trail accesses (trail_after task (Begin ∷ (body ++ End ∷ [])) world trail)
call_noted task body accesses world trail calm are conforms finds =
    let made : trail_after task body world (begun trail) ≡ trail_made world trail accesses = trail_call task body world (begun trail) calm ∙ ap (notes world.written (begun trail)) are in
    let back = conforms_back task body (End ∷ []) world (begun trail) conforms.1 in
    let found = finds_back task body (End ∷ []) world (begun trail) finds.1 in
    record {
      trail_is = trail_append task body (End ∷ []) world (begun trail) ∙ ap (ended task) made;
      fits = subst (Fits task) made back.0;
      finds = subst Finds made found.0;
    }
