-- A call while commands are sent, by a schedule that serves: the answer is there, and the next command goes.
use Rattle.std.proofs.Common.{◌≡◌, ◌≤◌, ◌<◌, ℕ, ◌+◌, ◌%◌, ◌^◌, ◌&&◌, not, nat_le, Bool, true, false, List, [], ◌∷◌, ◌++◌, length, map, drop, Option, None, Some, refl, sym, ap, subst, ◌∙◌, arith, rules, tests, if◌then◌else◌}
use Rattle.std.specs.Prelude.{All, slice_get, slice_index}
use Rattle.std.specs.List.{list_any}
use Rattle.std.specs.Option.{is_some}
use Rattle.std.proofs.lemmas.List.Elements.{All-nil, All-head, All-tail}
use Rattle.verb_codes.specs.Words.{has_bit}
use Rattle.hda_registers.specs.declared.shapes.Width.TheVariants.{Four}
use Rattle.hda_registers.specs.declared.places.TheConstants.{RIRBSTS, RIRBWP, WALCLK}
use Rattle.hda_registers.specs.Fields.{entries_of}
use Rattle.world_rings.specs.declared.response.Response.{Response}
use Rattle.world_steps.specs.declared.Step.{Step}
use Rattle.hda_world.specs.Worlds.{World}
use Rattle.hda_world.specs.Steps.{after_step, after_steps}
use Rattle.hda_world.specs.Events.{Event, Read}
use Rattle.command_engine.specs.declared.ring_places.RingPlaces.{RingPlaces}
use Rattle.command_engine.specs.declared.answers.Outstanding.{Outstanding}
use Rattle.command_engine.specs.Entries.{answers_it, answer_among}
use Rattle.command_engine.specs.Submitting.{submit_accesses}
use Rattle.command_engine.specs.Polling.{PollReads, AreNew, poll_accesses, asked_of, found_by, rings_polled, still_outstanding}
use Rattle.command_engine.specs.Told.{found_since}
use Rattle.command_engine.specs.Fetchings.{Stands}
use Rattle.command_engine.specs.Belonging.{from_after, as_held}
use Rattle.command_engine.proofs.Callers.{steps_keep_standing, responses_apart}
use Rattle.period_writer.specs.Runs.{Tally, tally_opened, taken_up, measures}
use Rattle.driver_progress.specs.declared.phase.Phase.{Phase}
use Rattle.driver_progress.specs.declared.phase.Phase.TheVariants.{Walking, SettingUp, Ready}
use Rattle.driver_progress.specs.Phases.{is_asking, is_active}
use Rattle.driver_progress.specs.Tasks.{Task, Order, Blocks, DriverLine}
use Rattle.driver_progress.specs.Seen.{Seen, clock_of, values_of, interrupts_at}
use Rattle.driver_progress.specs.States.{State}
use Rattle.driver_progress.specs.Requests.{Request, requests_of}
use Rattle.driver_progress.specs.Expected as expected
use Rattle.driver_progress.specs.Expected.{is_free, next_order, polls, submits, runs, interrupted_if}
use Rattle.driver_progress.specs.Next.{outstanding_if, polled, phase_of_answers, phase_polled, after_poll, submitted_if, after_commands, led, closed, tally_next, next, budget_of}
use Rattle.driver_progress.specs.Progress.{Trail, seen_in, begun}
use Rattle.driver_progress.proofs.Callers.{asking_runs, asking_led, asking_closes, asking_closed}
use Rattle.rig.specs.Follows.{AreAccesses}
use Rattle.world_steps.specs.declared.Step.TheVariants as step
use Rattle.laws_serving.specs.ServingDevices.{keeps_answers, KeepAnswers, HasItsCodec, StandsServed, NamesItsCodec, IsComing}
use Rattle.laws_serving.proofs.Requests.{reads_first, in_two, polled_as, submitted_as, none_asked}
use Rattle.laws_serving.proofs.Rows.{CalmRow, row_split}
use Rattle.laws_serving.proofs.Notes.{gets, asks_none, batch_if, reads_none_both, batch_reads_none, none_read, notes, notes_stay, look_answered, submission_written, trail_made, IsNoted}
use Rattle.laws_serving.specs.ServingSchedules.{IsOfStreams}
use Rattle.laws_serving.proofs.Worlds.{IsTimed, IsBeside, timed_row, SameLink, link_same, link_then}
use Rattle.laws_serving.proofs.Engines.{EnginesRun, RunsOn, at_first, runs_step}
use Rattle.laws_serving.proofs.Polls.{LooksServe, SubmissionsCome, polled as poll_leads, submitted as submission_leads, serves_at}

-- ---- by phase

-- ---- what is found

-- nothing is outstanding once it is free
free_none : (outstanding : Option Outstanding) (answered : Bool) → is_free outstanding answered ≡ true → outstanding_if answered outstanding ≡ None
free_none None true is = refl
free_none None false is = refl
free_none (Some command) true is = refl
free_none (Some command) false is = cc

still_none : (outstanding : Option Outstanding) (answered : Bool) (found : Option ℕ) → is_free outstanding answered ≡ true → is_some found ≡ answered → still_outstanding outstanding found ≡ None
still_none None answered None is same = refl
still_none None answered (Some value) is same = refl
still_none (Some command) answered None is same = cc
still_none (Some command) answered (Some value) is same = refl

-- ---- an answer is there, and the next command may go

-- what was written since the last submission answers just what was unread
abbrev pub answers_since : (outstanding : Option Outstanding) (count : ℕ) → World → Bool
answers_since outstanding count world = list_any (answers_it (asked_of outstanding)) (drop count world.written)

-- before a call by which commands are sent: the engine stands to a device that serves, and what is outstanding is answered
pub record IsFree (task : Task) (sent least : ℕ) (trail : Trail) (world : World) : Type 0 where
  pub phase : is_asking trail.state.phase ≡ true
  pub sent_is : trail.state.sent ≡ sent
  pub tally_is : trail.state.tally ≡ tally_opened
  pub from : ℕ
  pub read : ℕ
  pub served : StandsServed from read task.blocks.corb task.blocks.rirb trail.state.rings world
  pub names : NamesItsCodec trail.state.rings.outstanding
  pub agree : answers_since trail.state.rings.outstanding trail.written world ≡ answers_since trail.state.rings.outstanding read world
  pub free : is_free trail.state.rings.outstanding (answers_since trail.state.rings.outstanding trail.written world) ≡ true
  pub timed : IsTimed least world

-- ---- the accesses

-- the clock, a poll, and what comes after it
pub record IsLook (task : Task) (rings : RingPlaces) (seen : Seen) (rest : List Request) (accesses : List Event) : Type 0 where
  pub clock : ℕ
  pub reads : PollReads
  pub back : List Event
  pub is : accesses ≡ Read WALCLK Four clock ∷ (poll_accesses task.blocks.rirb rings reads ++ back)
  pub new_ones : AreNew rings reads
  pub flag : seen.flag ≡ reads.flag
  pub pointer : has_bit reads.flag 0 ≡ true → seen.pointer ≡ reads.pointer
  pub back_asks : requests_of back ≡ rest
  pub back_are : AreAccesses back

-- what a stretch saw is what its accesses read
pub record SeesThem (seen : Seen) (accesses : List Event) : Type 0 where
  pub clocks : seen.clocks ≡ values_of accesses WALCLK
  pub flag : seen.flag ≡ slice_index (values_of accesses RIRBSTS) 0
  pub pointer : seen.pointer ≡ slice_index (values_of accesses RIRBWP) 0

pub asks_as : (task : Task) (state : State) (seen : Seen) (rest : List Request) (accesses : List Event) → AreAccesses accesses → SeesThem seen accesses → requests_of accesses ≡ expected.asks task state seen rest
    → IsLook task state.rings seen rest accesses
asks_as task state seen rest accesses are sees asks =
    let first = reads_first accesses WALCLK Four (polls task.blocks.rirb state.rings seen ++ rest) are asks in
    let parts = in_two (polls task.blocks.rirb state.rings seen) rest first.later first.are first.rest_is in
    let whole : accesses ≡ Read WALCLK Four first.value ∷ (parts.front ++ parts.back) = first.is ∙ ap (λ (later : List Event). Read WALCLK Four first.value ∷ later) parts.is in
    let flag : seen.flag ≡ slice_index (values_of (parts.front ++ parts.back) RIRBSTS) 0 = sees.flag ∙ ap (λ (accesses : List Event). slice_index (values_of accesses RIRBSTS) 0) whole in
    let pointer : seen.pointer ≡ slice_index (values_of (parts.front ++ parts.back) RIRBWP) 0 = sees.pointer ∙ ap (λ (accesses : List Event). slice_index (values_of accesses RIRBWP) 0) whole in
    let poll = polled_as task.blocks.rirb state.rings seen parts.back parts.front parts.front_are (flag, pointer) parts.front_asks in
    record {
      clock = first.value;
      reads = poll.reads;
      back = parts.back;
      is = whole ∙ ap (λ (front : List Event). Read WALCLK Four first.value ∷ (front ++ parts.back)) poll.is;
      new_ones = poll.new_ones;
      flag = poll.flag;
      pointer = poll.pointer;
      back_asks = parts.back_asks;
      back_are = parts.back_are;
    }

-- it reads the clock once
look_clocks : (task : Task) (rings : RingPlaces) (seen : Seen) (rest : List Request) (accesses : List Event) → SeesThem seen accesses → (look : IsLook task rings seen rest accesses) → list_any (gets WALCLK) rest ≡ false → seen.clocks ≡ look.clock ∷ []
look_clocks task rings seen rest accesses sees look none =
    let back = asks_none WALCLK look.back (ap (list_any (gets WALCLK)) look.back_asks ∙ none) in
    let batch = batch_reads_none WALCLK refl (has_bit look.reads.flag 0) task.blocks.rirb rings look.reads in
    let later = reads_none_both WALCLK (batch_if (has_bit look.reads.flag 0) task.blocks.rirb rings look.reads) look.back batch back in
    sees.clocks ∙ ap (λ (accesses : List Event). values_of accesses WALCLK) look.is
    ∙ ap (λ (rest : List ℕ). look.clock ∷ rest) (none_read WALCLK (batch_if (has_bit look.reads.flag 0) task.blocks.rirb rings look.reads ++ look.back) later)

-- where RIRB is read up to, by what was seen and by what was read
rings_same : (rings : RingPlaces) (seen : Seen) (reads : PollReads) → seen.flag ≡ reads.flag → (has_bit reads.flag 0 ≡ true → seen.pointer ≡ reads.pointer) → outstanding_if seen.answered rings.outstanding ≡ None
    → still_outstanding rings.outstanding (found_by rings reads) ≡ None → rings_polled rings reads ≡ polled rings seen
rings_same rings seen reads flag pointer none still =
    ap (λ (outstanding : Option Outstanding). record rings { read = if has_bit reads.flag 0 then reads.pointer % entries_of rings.rirb else rings.read; outstanding = outstanding }) (still ∙ sym none)
    ∙ ap (λ (read : ℕ). record rings { read = read; outstanding = outstanding_if seen.answered rings.outstanding }) (by (has_bit reads.flag 0) refl ∙ ap (λ (flag : ℕ). if has_bit flag 0 then seen.pointer % entries_of rings.rirb else rings.read) (sym flag))
  where
    by : (b : Bool) → has_bit reads.flag 0 ≡ b → (if has_bit reads.flag 0 then reads.pointer % entries_of rings.rirb else rings.read) ≡ (if has_bit reads.flag 0 then seen.pointer % entries_of rings.rirb else rings.read)
    by true set = ap (λ (b : Bool). if b then reads.pointer % entries_of rings.rirb else rings.read) set ∙ ap (λ (pointer : ℕ). pointer % entries_of rings.rirb) (sym (pointer set)) ∙ ap (λ (b : Bool). if b then seen.pointer % entries_of rings.rirb else rings.read) (sym set)
    by false clear = ap (λ (b : Bool). if b then reads.pointer % entries_of rings.rirb else rings.read) clear ∙ ap (λ (b : Bool). if b then seen.pointer % entries_of rings.rirb else rings.read) (sym clear)

-- ---- the worlds

-- once it looked: all is read, and the engine stands to a device that serves
pub record HasLooked (task : Task) (least : ℕ) (rings : RingPlaces) (reads : PollReads) (read : ℕ) (back : List Event) (world new : World) : Type 0 where
  pub middle : World
  pub row : CalmRow back middle new
  pub from : ℕ
  pub place : ℕ
  pub engines : EnginesRun place middle.registers.global
  pub clear : middle.registers.global.response_flag ≡ 0
  pub link : SameLink world middle
  pub timed : IsTimed least middle
  pub found : found_by rings reads ≡ found_since read rings world
  pub served : StandsServed from (length world.written) task.blocks.corb task.blocks.rirb (rings_polled rings reads) middle

engines_of : (from read corb rirb : ℕ) (rings : RingPlaces) (world : World) → StandsServed from read corb rirb rings world → EnginesRun world.registers.global.corb_read_pointer world.registers.global
engines_of from read corb rirb rings world served =
    record { out = served.stands.has_rings.out; corb_runs = served.serves.corb_runs; no_reset = served.serves.no_reset; rirb_runs = served.serves.rirb_runs; place_is = refl }

-- what holds up to the poll
abbrev Now : (start : World) (from read corb rirb least : ℕ) → RingPlaces → World → Type 0
Now start from read corb rirb least rings w = RunsOn start start.registers.global.corb_read_pointer start.registers.global.response_flag least w × Stands from read corb rirb rings w

now_step : (start : World) (from read corb rirb least : ℕ) (rings : RingPlaces) (one : Step) (w : World) → IsOfStreams one → Now start from read corb rirb least rings w → Now start from read corb rirb least rings (after_step one w)
now_step start from read corb rirb least rings one w is now =
    (runs_step start start.registers.global.corb_read_pointer start.registers.global.response_flag least one w is now.0, steps_keep_standing from read corb rirb rings responses_apart (one ∷ []) w now.1)

pub look_leads : (looks : LooksServe) (task : Task) (least from read : ℕ) (rings : RingPlaces) (clock : ℕ) (reads : PollReads) (back : List Event) (world new : World) → AreNew rings reads → NamesItsCodec rings.outstanding → IsTimed least world
    → StandsServed from read task.blocks.corb task.blocks.rirb rings world → CalmRow (Read WALCLK Four clock ∷ (poll_accesses task.blocks.rirb rings reads ++ back)) world new → HasLooked task least rings reads read back world new
look_leads looks task least from read rings clock reads back world new fresh names timed served row =
    let corb = task.blocks.corb in
    let rirb = task.blocks.rirb in
    let place = world.registers.global.corb_read_pointer in
    let flag = world.registers.global.response_flag in
    let engines = engines_of from read corb rirb rings world served in
    let first = at_first (Now world from read corb rirb least rings) (now_step world from read corb rirb least rings) (Read WALCLK Four clock) (poll_accesses rirb rings reads ++ back) world new row
    (record { engines = engines; flag_is = refl; link = link_same world; timed = timed }, served.stands) in
    let runs = first.holds.0 in
    let parts = row_split (poll_accesses rirb rings reads) back first.world new first.row in
    let there : StandsServed from read corb rirb rings first.world = record {
      stands = first.holds.1;
      serves = serves_at from read place world.registers.global world first.world served.serves runs.engines runs.link (λ is. served.serves.flag (sym runs.flag_is ∙ is));
    } in
    let done = poll_leads looks from read corb rirb place least rings reads first.world parts.0 fresh parts.1 runs.engines runs.timed there names in
    record {
      middle = parts.0;
      row = parts.2;
      from = from_after (found_since read rings first.world) from first.world.commands;
      place = place;
      engines = done.runs.engines;
      clear = done.runs.flag_is;
      link = link_then world first.world parts.0 runs.link done.runs.link;
      timed = done.runs.timed;
      found = done.found ∙ ap (λ (written : List Response). answer_among (asked_of rings.outstanding) (map as_held (drop read written))) runs.link.written;
      served = subst (λ (written : List Response). StandsServed (from_after (found_since read rings first.world) from first.world.commands) (length written) corb rirb (rings_polled rings reads) parts.0) runs.link.written done.served;
    }

-- ---- a call

-- after a call that sent a command: it is outstanding, and comes
pub record IsSent (task : Task) (sent least : ℕ) (order : Order) (trail : Trail) (world : World) : Type 0 where
  pub phase : is_asking trail.state.phase ≡ true
  pub sent_is : trail.state.sent ≡ sent
  pub tally_is : trail.state.tally ≡ tally_opened
  pub issued : ℕ
  pub outstanding : trail.state.rings.outstanding ≡ Some (record { codec = order.codec; word = order.word; issued = issued })
  pub from : ℕ
  pub served : StandsServed from trail.written task.blocks.corb task.blocks.rirb trail.state.rings world
  pub coming : IsComing from world
  pub timed : IsTimed least world

-- after one that found the last answer
pub record IsReady (task : Task) (sent least : ℕ) (trail : Trail) (world : World) : Type 0 where
  pub phase : trail.state.phase ≡ Ready
  pub sent_is : trail.state.sent ≡ sent
  pub tally_is : trail.state.tally ≡ tally_opened
  pub timed : IsTimed least world
  pub from : ℕ
  pub read : ℕ
  pub served : StandsServed from read task.blocks.corb task.blocks.rirb trail.state.rings world
  pub idle : trail.state.rings.outstanding ≡ None

-- ---- where it leads

abbrev seen_of : World → Trail → List Event → Seen
seen_of world trail accesses = seen_in (trail_made world trail accesses)

-- what a call's accesses read is what its stretch saw
pub sees_them : (world : World) (trail : Trail) (accesses : List Event) → AreAccesses accesses → SeesThem (seen_in (trail_made world trail accesses)) accesses
sees_them world trail accesses are =
    let made = (notes_stay world.written (begun trail) accesses are).made in record {
      clocks = ap (λ (made : List Event). values_of made WALCLK) made;
      flag = ap (λ (made : List Event). slice_index (values_of made RIRBSTS) 0) made;
      pointer = ap (λ (made : List Event). slice_index (values_of made RIRBWP) 0) made;
    }

-- what a call by a line or the last one asks
pub fits_so : (task : Task) (world : World) (trail trail' : Trail) (accesses : List Event) (turn : Option DriverLine) → AreAccesses accesses → IsNoted task world trail accesses trail' → slice_get trail.left 0 ≡ turn
    → requests_of accesses ≡ expected.expected_by task trail.state turn (seen_in (trail_made world trail accesses)) (tally_next task trail.state turn (seen_in (trail_made world trail accesses)))
fits_so task world trail trail' accesses turn are noted turn_is =
    let c = trail_made world trail accesses in
    let stays = notes_stay world.written (begun trail) accesses are in
    sym (ap requests_of stays.made) ∙ noted.fits
    ∙ ap (λ (state : State). expected.expected_by task state c.turn (seen_in c) (tally_next task state c.turn (seen_in c))) stays.state
    ∙ ap (λ (turn : Option DriverLine). expected.expected_by task trail.state turn (seen_in c) (tally_next task trail.state turn (seen_in c))) (stays.turn ∙ turn_is)

-- and leads to
pub leads_so : (task : Task) (world : World) (trail trail' : Trail) (accesses : List Event) (turn : Option DriverLine) → AreAccesses accesses → IsNoted task world trail accesses trail' → slice_get trail.left 0 ≡ turn
    → trail'.state ≡ next task trail.state turn (seen_in (trail_made world trail accesses))
leads_so task world trail trail' accesses turn are noted turn_is =
    let c = trail_made world trail accesses in
    let stays = notes_stay world.written (begun trail) accesses are in
    ap (λ (trail : Trail). trail.state) noted.trail_is
    ∙ ap (λ (state : State). next task state c.turn (seen_in c)) stays.state
    ∙ ap (λ (turn : Option DriverLine). next task trail.state turn (seen_in c)) (stays.turn ∙ turn_is)

-- one that is for no interrupt does what its phase asks, and leads where this leads
pub plainly_asked : (task : Task) (state : State) (line : DriverLine) (seen : Seen) (tally : Tally) → line.irq ≡ false → expected.expected_by task state (Some line) seen tally ≡ runs task state line.budget seen tally state.phase
plainly_asked task state line seen tally calm = ap (λ (irq : Bool). interrupted_if (irq && is_active state.phase) seen (runs task state line.budget seen tally state.phase)) calm

pub plainly_led : (task : Task) (state : State) (line : DriverLine) (seen : Seen) → line.irq ≡ false
    → next task state (Some line) seen ≡ record (led task state seen (tally_next task state (Some line) seen) state.phase) { tally = tally_next task state (Some line) seen }
plainly_led task state line seen calm =
    let tally = tally_next task state (Some line) seen in
    ap (λ (irq : Bool). record (if irq && not (has_bit seen.interrupts interrupts_at) then state else led task state seen tally state.phase) { tally = tally }) calm

-- a stretch that reads the clock once is no run
pub no_run : (task : Task) (state : State) (turn : Option DriverLine) (seen : Seen) (clock : ℕ) → state.tally ≡ tally_opened → seen.clocks ≡ clock ∷ [] → tally_next task state turn seen ≡ tally_opened
no_run task state turn seen clock opened clocks =
    ap (λ (tally : Tally). taken_up (measures task.geometry) (length task.pcm) tally (record { budget = budget_of turn; clocks = seen.clocks; lpibs = seen.positions })) opened
    ∙ ap (λ (clocks : List ℕ). taken_up (measures task.geometry) (length task.pcm) tally_opened (record { budget = budget_of turn; clocks = clocks; lpibs = seen.positions })) clocks

-- the state once all is answered that was sent
abbrev answered_state : Task → State → Seen → State
answered_state task state seen = record state { phase = phase_of_answers task state.sent; rings = polled state.rings seen }

poll_answers : (task : Task) (state : State) (seen : Seen) → outstanding_if seen.answered state.rings.outstanding ≡ None → after_poll task state seen ≡ answered_state task state seen
poll_answers task state seen none =
    ap (λ (outstanding : Option Outstanding). record state { phase = phase_polled task state (clock_of seen) outstanding; rings = polled state.rings seen }) none

asks_next : (task : Task) (state : State) (line : DriverLine) (seen : Seen) (clock : ℕ) (order : Option Order) → is_asking state.phase ≡ true → line.irq ≡ false → state.tally ≡ tally_opened → seen.clocks ≡ clock ∷ []
    → outstanding_if seen.answered state.rings.outstanding ≡ None → next_order task state seen ≡ order
    → next task state (Some line) seen ≡ record (submitted_if order (clock_of seen) (answered_state task state seen)) { tally = tally_opened }
asks_next task state line seen clock order asking calm opened clocks none order_is =
    let tally = tally_next task state (Some line) seen in
    plainly_led task state line seen calm
    ∙ ap (λ (led : State). record led { tally = tally }) (asking_led task state seen tally state.phase asking
    ∙ ap (λ (order : Option Order). submitted_if order (clock_of seen) (after_poll task state seen)) order_is
    ∙ ap (submitted_if order (clock_of seen)) (poll_answers task state seen none))
    ∙ ap (λ (tally : Tally). record (submitted_if order (clock_of seen) (answered_state task state seen)) { tally = tally }) (no_run task state (Some line) seen clock opened clocks)

-- ---- phases

more_left : (task : Task) (answers : ℕ) → answers < length task.orders → is_asking (phase_of_answers task answers) ≡ true
more_left task answers less = by (nat_le (length task.orders) answers) refl (nat_le task.walks answers)
  where
    by : (all : Bool) → nat_le (length task.orders) answers ≡ all → (walked : Bool) → is_asking (if nat_le (length task.orders) answers then Ready else (if walked then SettingUp else Walking)) ≡ true
    by true is walked = let most : length task.orders ≤ answers = search (rules, tests, is) in absurd (omega (arith, less, most))
    by false is true = ap (λ (all : Bool). is_asking (if all then Ready else SettingUp)) is
    by false is false = ap (λ (all : Bool). is_asking (if all then Ready else Walking)) is

none_left : (task : Task) (answers : ℕ) → length task.orders ≤ answers → phase_of_answers task answers ≡ Ready
none_left task answers most =
    let is : nat_le (length task.orders) answers ≡ true = search (rules, most) in
    ap (λ (all : Bool). if all then Ready else (if nat_le task.walks answers then SettingUp else Walking)) is

submits_gets_none : (register : ℕ) (blocks : Blocks) (rings : RingPlaces) (order : Option Order) → list_any (gets register) (submits blocks rings order) ≡ false
submits_gets_none register blocks rings None = refl
submits_gets_none register blocks rings (Some order) = refl

-- ---- what a call by which commands are sent does

-- that a poll finds an answer exactly where one of the responses that were not read is one, as a law says
abbrev pub FindsAnswers : Type 0
FindsAnswers = (asked : Option ℕ) (responses : List Response) → is_some (answer_among asked (map as_held responses)) ≡ list_any (answers_it asked) responses

-- that a device goes on serving over steps that keep answers, as a law says
abbrev pub ServesOn : Type 0
ServesOn = (from read corb rirb : ℕ) (rings : RingPlaces) (steps : List Step) (world : World) → KeepAnswers steps → HasItsCodec rings.outstanding world.codecs → StandsServed from read corb rirb rings world
    → StandsServed from read corb rirb rings (after_steps steps world)

-- steps of streams keep answers
keep_one : (one : Step) → IsOfStreams one → keeps_answers one ≡ true
keep_one step.Corb is = absurd is
keep_one (step.Answer codec) is = absurd is
keep_one (step.Lose codec) is = absurd is
keep_one step.Rirb is = absurd is
keep_one (step.Fetch stream most) is = refl
keep_one (step.Link frames) is = refl
keep_one (step.Plug codec nid) is = absurd is
keep_one (step.Unplug codec nid) is = absurd is

pub keep_all : (steps : List Step) → All IsOfStreams steps → KeepAnswers steps
keep_all [] are = tt
keep_all (one ∷ steps) are = (keep_one one (All-head IsOfStreams one steps are), keep_all steps (All-tail IsOfStreams one steps are))

module _ (looks : LooksServe) (finds : FindsAnswers) (task : Task) (sent least : ℕ) where
  -- the rings as the engine has them are those of progress
  look_done : (trail : Trail) (rest : List Request) (accesses : List Event) (world new : World) → IsFree task sent least trail world → AreAccesses accesses → CalmRow accesses world new
      → requests_of accesses ≡ expected.asks task trail.state (seen_of world trail accesses) rest → list_any (gets WALCLK) rest ≡ false → list_any (gets RIRBSTS) rest ≡ false
      → (look : IsLook task trail.state.rings (seen_of world trail accesses) rest accesses) × ((seen_of world trail accesses).clocks ≡ look.clock ∷ []) × ((seen_of world trail accesses).answered ≡ answers_since trail.state.rings.outstanding trail.written world)
  look_done trail rest accesses world new free are row asks no_clock no_look =
      let seen = seen_of world trail accesses in
      let sees = sees_them world trail accesses are in
      let look = asks_as task trail.state seen rest accesses are sees asks in
      let back = asks_none RIRBSTS look.back (ap (list_any (gets RIRBSTS)) look.back_asks ∙ no_look) in
      let answered : seen.answered ≡ answers_since trail.state.rings.outstanding trail.written world =
      ap (λ (accesses : List Event). (notes world.written (begun trail) accesses).answered) look.is
      ∙ look_answered world.written (begun trail) look.clock task.blocks.rirb trail.state.rings look.reads look.back back in
      (look, look_clocks task trail.state.rings seen rest accesses sees look no_clock, answered)

  -- nothing is outstanding after the look, by progress and by the engine, and both have the same rings
  looked_rings : (trail : Trail) (reads : PollReads) (seen : Seen) (world : World) → (free : IsFree task sent least trail world) → seen.flag ≡ reads.flag → (has_bit reads.flag 0 ≡ true → seen.pointer ≡ reads.pointer)
      → seen.answered ≡ answers_since trail.state.rings.outstanding trail.written world → found_by trail.state.rings reads ≡ found_since free.read trail.state.rings world
      → (outstanding_if seen.answered trail.state.rings.outstanding ≡ None) × (rings_polled trail.state.rings reads ≡ polled trail.state.rings seen)
  looked_rings trail reads seen world free flag pointer answered found =
      let outstanding = trail.state.rings.outstanding in
      let is_free : is_free outstanding seen.answered ≡ true = ap (is_free outstanding) answered ∙ free.free in
      let some : is_some (found_by trail.state.rings reads) ≡ seen.answered =
      ap (λ (found : Option ℕ). is_some found) found ∙ finds (asked_of outstanding) (drop free.read world.written) ∙ sym free.agree ∙ sym answered in
      let none = free_none outstanding seen.answered is_free in
      (none, rings_same trail.state.rings seen reads flag pointer none (still_none outstanding seen.answered (found_by trail.state.rings reads) is_free some))

  -- the next command is the one in turn
  order_in_turn : (trail : Trail) (seen : Seen) (world : World) → IsFree task sent least trail world → seen.answered ≡ answers_since trail.state.rings.outstanding trail.written world → next_order task trail.state seen ≡ slice_get task.orders sent
  order_in_turn trail seen world free answered =
      ap (λ (free : Bool). if free then slice_get task.orders trail.state.sent else None) (ap (is_free trail.state.rings.outstanding) answered ∙ free.free) ∙ ap (slice_get task.orders) free.sent_is

  -- what a call asked and where its look led
  record Asked (trail : Trail) (rest : List Request) (accesses : List Event) (world new : World) : Type 0 where
    look : IsLook task trail.state.rings (seen_of world trail accesses) rest accesses
    clocks : (seen_of world trail accesses).clocks ≡ look.clock ∷ []
    answered : (seen_of world trail accesses).answered ≡ answers_since trail.state.rings.outstanding trail.written world
    none : outstanding_if (seen_of world trail accesses).answered trail.state.rings.outstanding ≡ None
    middle : World
    row : CalmRow look.back middle new
    from : ℕ
    place : ℕ
    engines : EnginesRun place middle.registers.global
    clear : middle.registers.global.response_flag ≡ 0
    timed : IsTimed least middle
    link : SameLink world middle
    served : StandsServed from (length world.written) task.blocks.corb task.blocks.rirb (polled trail.state.rings (seen_of world trail accesses)) middle

  asked_by : (trail : Trail) (rest : List Request) (accesses : List Event) (world new : World) → IsFree task sent least trail world → AreAccesses accesses → CalmRow accesses world new
      → requests_of accesses ≡ expected.asks task trail.state (seen_of world trail accesses) rest → list_any (gets WALCLK) rest ≡ false → list_any (gets RIRBSTS) rest ≡ false → Asked trail rest accesses world new
  asked_by trail rest accesses world new free are row asks no_clock no_look =
      let seen = seen_of world trail accesses in
      let done = look_done trail rest accesses world new free are row asks no_clock no_look in
      let look = done.0 in
      let looked = look_leads looks task least free.from free.read trail.state.rings look.clock look.reads look.back world new look.new_ones free.names free.timed free.served
      (subst (λ (accesses : List Event). CalmRow accesses world new) look.is row) in
      let rings = looked_rings trail look.reads seen world free look.flag look.pointer done.2 looked.found in
      record {
        look = look;
        clocks = done.1;
        answered = done.2;
        none = rings.0;
        middle = looked.middle;
        row = looked.row;
        from = looked.from;
        place = looked.place;
        engines = looked.engines;
        clear = looked.clear;
        timed = looked.timed;
        link = looked.link;
        served = subst (λ (rings : RingPlaces). StandsServed looked.from (length world.written) task.blocks.corb task.blocks.rirb rings looked.middle) rings.1 looked.served;
      }

  line_asks : (trail trail' : Trail) (line : DriverLine) (accesses : List Event) (world : World) → is_asking trail.state.phase ≡ true → AreAccesses accesses → IsNoted task world trail accesses trail' → slice_get trail.left 0 ≡ Some line → line.irq ≡ false
      → requests_of accesses ≡ expected.asks task trail.state (seen_of world trail accesses) (submits task.blocks trail.state.rings (next_order task trail.state (seen_of world trail accesses)))
  line_asks trail trail' line accesses world phase are noted turn calm =
      let seen = seen_of world trail accesses in
      let tally = tally_next task trail.state (Some line) seen in
      fits_so task world trail trail' accesses (Some line) are noted turn ∙ plainly_asked task trail.state line seen tally calm ∙ asking_runs task trail.state line.budget seen tally trail.state.phase phase

  -- a call by a line, where this is the next command or none is left
  asked_line : (trail trail' : Trail) (line : DriverLine) (accesses : List Event) (world new : World) → IsFree task sent least trail world → AreAccesses accesses → CalmRow accesses world new
      → IsNoted task world trail accesses trail' → slice_get trail.left 0 ≡ Some line → line.irq ≡ false
      → Asked trail (submits task.blocks trail.state.rings (next_order task trail.state (seen_of world trail accesses))) accesses world new
  asked_line trail trail' line accesses world new free are row noted turn calm =
      let order = next_order task trail.state (seen_of world trail accesses) in
      asked_by trail (submits task.blocks trail.state.rings order) accesses world new free are row (line_asks trail trail' line accesses world free.phase are noted turn calm)
      (submits_gets_none WALCLK task.blocks trail.state.rings order) (submits_gets_none RIRBSTS task.blocks trail.state.rings order)

  line_leads : (trail trail' : Trail) (line : DriverLine) (accesses : List Event) (world new : World) → (free : IsFree task sent least trail world) → AreAccesses accesses → IsNoted task world trail accesses trail' → slice_get trail.left 0 ≡ Some line → line.irq ≡ false
      → (asked : Asked trail (submits task.blocks trail.state.rings (next_order task trail.state (seen_of world trail accesses))) accesses world new)
      → trail'.state ≡ record (submitted_if (slice_get task.orders sent) (clock_of (seen_of world trail accesses)) (answered_state task trail.state (seen_of world trail accesses))) { tally = tally_opened }
  line_leads trail trail' line accesses world new free are noted turn calm asked =
      let seen = seen_of world trail accesses in
      leads_so task world trail trail' accesses (Some line) are noted turn
      ∙ asks_next task trail.state line seen asked.look.clock (slice_get task.orders sent) free.phase calm free.tally_is asked.clocks asked.none (order_in_turn trail seen world free asked.answered)

  pub call_sends : (comes : SubmissionsCome) (trail trail' : Trail) (line : DriverLine) (order : Order) (accesses : List Event) (world new : World) → IsFree task sent least trail world → AreAccesses accesses → CalmRow accesses world new
      → IsNoted task world trail accesses trail' → slice_get trail.left 0 ≡ Some line → line.irq ≡ false → slice_get task.orders sent ≡ Some order → order.word < 2 ^ 32 → sent < length task.orders
      → IsSent task (sent + 1) least order trail' new
  call_sends comes trail trail' line order accesses world new free are row noted turn calm there narrow less =
      let seen = seen_of world trail accesses in
      let rings = polled trail.state.rings seen in
      let asked = asked_line trail trail' line accesses world new free are row noted turn calm in
      let state = line_leads trail trail' line accesses world new free are noted turn calm asked
      ∙ ap (λ (order : Option Order). record (submitted_if order (clock_of seen) (answered_state task trail.state seen)) { tally = tally_opened }) there in
      let next : next_order task trail.state seen ≡ Some order = order_in_turn trail seen world free asked.answered ∙ there in
      let back = submitted_as task.blocks trail.state.rings order asked.look.back asked.look.back_are (asked.look.back_asks ∙ ap (submits task.blocks trail.state.rings) next) in
      let command : Outstanding = record { codec = order.codec; word = order.word; issued = clock_of seen } in
      let done = submission_leads comes asked.from (length world.written) task.blocks.corb task.blocks.rirb asked.place least rings command asked.middle new asked.none narrow
      (subst (λ (back : List Event). CalmRow back asked.middle new) back asked.row) asked.engines asked.timed asked.clear asked.served in
      let whole : accesses ≡ (Read WALCLK Four asked.look.clock ∷ poll_accesses task.blocks.rirb trail.state.rings asked.look.reads) ++ submit_accesses task.blocks.corb trail.state.rings order.word =
      asked.look.is ∙ ap (λ (back : List Event). Read WALCLK Four asked.look.clock ∷ (poll_accesses task.blocks.rirb trail.state.rings asked.look.reads ++ back)) back in
      let written : length world.written ≡ trail'.written =
      sym (ap (λ (trail : Trail). trail.written) noted.trail_is
      ∙ ap (λ (accesses : List Event). (notes world.written (begun trail) accesses).written) whole
      ∙ submission_written world.written (begun trail) (Read WALCLK Four asked.look.clock ∷ poll_accesses task.blocks.rirb trail.state.rings asked.look.reads) task.blocks.corb order.word trail.state.rings) in
      let sent_before = free.sent_is in
      record {
        phase = ap (λ (state : State). is_asking state.phase) state ∙ more_left task trail.state.sent (omega (arith, sent_before, less));
        sent_is = ap (λ (state : State). state.sent) state ∙ ap (λ (sent : ℕ). sent + 1) free.sent_is;
        tally_is = ap (λ (state : State). state.tally) state;
        issued = clock_of seen;
        outstanding = ap (λ (state : State). state.rings.outstanding) state;
        from = asked.from;
        served = subst (λ (written : ℕ). StandsServed asked.from written task.blocks.corb task.blocks.rirb trail'.state.rings new) written
            (subst (λ (state : State). StandsServed asked.from (length world.written) task.blocks.corb task.blocks.rirb state.rings new) (sym state) done.served);
        coming = done.coming;
        timed = done.runs.timed;
      }

  -- over steps of streams the engine goes on standing so
  still_serves : ServesOn → (from read : ℕ) (rings : RingPlaces) (old new : World) → rings.outstanding ≡ None → CalmRow [] old new → StandsServed from read task.blocks.corb task.blocks.rirb rings old
      → StandsServed from read task.blocks.corb task.blocks.rirb rings new
  still_serves serves_on from read rings old new idle row served =
      subst (StandsServed from read task.blocks.corb task.blocks.rirb rings) (sym row.2)
      (serves_on from read task.blocks.corb task.blocks.rirb rings row.0 old (keep_all row.0 row.1) (subst (λ (outstanding : Option Outstanding). HasItsCodec outstanding old.codecs) (sym idle) tt) served)

  pub call_readies : (serves_on : ServesOn) (trail trail' : Trail) (line : DriverLine) (accesses : List Event) (world new : World) → IsFree task sent least trail world → AreAccesses accesses → CalmRow accesses world new
      → IsNoted task world trail accesses trail' → slice_get trail.left 0 ≡ Some line → line.irq ≡ false → slice_get task.orders sent ≡ None → length task.orders ≤ sent → IsReady task sent least trail' new
  call_readies serves_on trail trail' line accesses world new free are row noted turn calm there most =
      let seen = seen_of world trail accesses in
      let asked = asked_line trail trail' line accesses world new free are row noted turn calm in
      let state = line_leads trail trail' line accesses world new free are noted turn calm asked
      ∙ ap (λ (order : Option Order). record (submitted_if order (clock_of seen) (answered_state task trail.state seen)) { tally = tally_opened }) there in
      let next : next_order task trail.state seen ≡ None = order_in_turn trail seen world free asked.answered ∙ there in
      let back = none_asked asked.look.back asked.look.back_are (asked.look.back_asks ∙ ap (submits task.blocks trail.state.rings) next) in
      let sent_before = free.sent_is in
      record {
        phase = ap (λ (state : State). state.phase) state ∙ none_left task trail.state.sent (omega (arith, sent_before, most));
        sent_is = ap (λ (state : State). state.sent) state ∙ free.sent_is;
        tally_is = ap (λ (state : State). state.tally) state;
        timed = timed_row [] asked.middle new least (All-nil IsBeside) (subst (λ (back : List Event). CalmRow back asked.middle new) back asked.row) asked.timed;
        from = asked.from;
        read = length world.written;
        served = subst (λ (state : State). StandsServed asked.from (length world.written) task.blocks.corb task.blocks.rirb state.rings new) (sym state)
            (still_serves serves_on asked.from (length world.written) (polled trail.state.rings seen) asked.middle new asked.none (subst (λ (back : List Event). CalmRow back asked.middle new) back asked.row) asked.served);
        idle = ap (λ (state : State). state.rings.outstanding) state ∙ asked.none;
      }

  -- and the last call finds the last answer too
  pub last_call_finds : (trail trail' : Trail) (accesses : List Event) (world new : World) → IsFree task sent least trail world → AreAccesses accesses → CalmRow accesses world new
      → IsNoted task world trail accesses trail' → slice_get trail.left 0 ≡ None → (trail'.state.phase ≡ phase_of_answers task sent) × (trail'.state.sent ≡ sent)
  last_call_finds trail trail' accesses world new free are row noted turn =
      let seen = seen_of world trail accesses in
      let tally = tally_next task trail.state None seen in
      let asks = fits_so task world trail trail' accesses None are noted turn ∙ asking_closes task trail.state seen trail.state.phase free.phase in
      let asked = asked_by trail expected.shuts accesses world new free are row asks refl refl in
      let state = leads_so task world trail trail' accesses None are noted turn
      ∙ ap (λ (closed : State). record closed { tally = tally }) (asking_closed task trail.state seen tally trail.state.phase free.phase ∙ poll_answers task trail.state seen asked.none) in
      (ap (λ (state : State). state.phase) state ∙ ap (phase_of_answers task) free.sent_is, ap (λ (state : State). state.sent) state ∙ free.sent_is)
