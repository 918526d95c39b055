-- The parts of a call of a driver that switches: the look for interrupts, that for answers, a run, and the end of its accesses.
use Rattle.std.proofs.Common.{◌≡◌, inl, inr, ℕ, Bool, true, false, List, [], ◌∷◌, length, Option, Some, sym, ap, subst, ◌∙◌}
use Rattle.std.specs.Option.{is_some}
use Rattle.std.proofs.lemmas.Bool.{false≢true}
use Rattle.codec_graph.specs.declared.raw.RawCodec.{RawCodec}
use Rattle.codec_graph.specs.CodecStates.{CodecState}
use Rattle.stream_format.specs.declared.format.Format.{Format}
use Rattle.route_planner.specs.declared.routes.Plan.{Plan}
use Rattle.hda_world.specs.Worlds.{World}
use Rattle.hda_world.specs.Events.{Event, happens}
use Rattle.hda_world.specs.Tellings.{Telling, world_of, Makes}
use Rattle.command_engine.specs.declared.answers.Outstanding.{Outstanding}
use Rattle.command_engine.specs.declared.ring_places.RingPlaces.{RingPlaces}
use Rattle.command_engine.specs.Belonging.{from_after}
use Rattle.command_engine.specs.Fetchings.{Stands}
use Rattle.command_engine.specs.Polling.{PollReads, asked_of, found_by}
use Rattle.command_engine.specs.Told.{found_since}
use Rattle.period_writer.specs.Runs.{Tally}
use Rattle.period_writer.specs.Standing.{Ring}
use Rattle.period_writer.specs.Writers.{tally_of, ring_of}
use Rattle.driver_progress.specs.Answers.{AnswersAgree}
use Rattle.driver_progress.specs.Tasks.{Task, DriverLine}
use Rattle.driver_progress.specs.Progress.{trail_of}
use Rattle.driver_rules.specs.Onward.{onward_of}
use Rattle.driver_bring_up.specs.Commanding.{poll_by}
use Rattle.driver_bring_up.specs.Told.{IsBefore}
use Rattle.command_engine.specs.Entries.{responses_in, unasked_events_of}
use Rattle.jack_rules.specs.declared.pins.JackPin.{JackPin}
use Rattle.jack_rules.specs.Switching.{SwitchingState}
use Rattle.jack_switch.specs.SwitchRules.{switch_rules}
use Rattle.jack_switch.specs.JackDrivers.{JackDriverState, switch_state, IsAskedBy}
use Rattle.jack_switch.specs.JackCalls.{Looks}
use Rattle.laws_stream.specs.Lives.{Along, HasNotBegun}
use Rattle.laws_stream.specs.Resting.{Rests, AreApartFrom}
use Rattle.laws_stream.specs.Going.{StreamGoes, is_left_open}
use Rattle.laws_switching.specs.Since.{since_ready}
use Rattle.laws_switching.specs.Senses.{KnowsJacks, SensesDecide, senses_after, senses_opened}
use Rattle.laws_switching.specs.Switching.{StreamSwitches}
use Rattle.laws_switching.proofs.Core.{Core, Hears, going_of}
use Rattle.laws_switching.proofs.Given.{Given}
use Rattle.laws_switching.proofs.Opened.{IsOpened, IsOfTask, HasMade}
use Rattle.laws_switching.proofs.StillCalls.{before_row, look_core, look_hears, look_agree, look_answered}
use Rattle.laws_switching.proofs.Polls.{looked_at, poll_core, poll_hears}
use Rattle.laws_switching.proofs.PollAnswers.{poll_answered, poll_agree}
use Rattle.laws_switching.proofs.Running.{plain_later}
use Rattle.laws_switching.proofs.Reached.{HasReached, Goes}

-- ---- lists of moments

-- streams that rested at every moment have not begun
pub rests_silent : (fifo : ℕ) (events : List Event) (world : World) → Along (Rests fifo) events world → Along HasNotBegun events world
rests_silent fifo [] world rests = record { stopped = rests.output_stopped; no_error = rests.no_error; none = rests.none_carried }
rests_silent fifo (event ∷ events) world rests =
    (record { stopped = rests.0.output_stopped; no_error = rests.0.no_error; none = rests.0.none_carried }, rests_silent fifo events (happens world event) rests.1)

-- the outstanding command asks the jack that is asked
pub asks_codec : (outstanding : Option Outstanding) (asking : Option JackPin) → IsAskedBy outstanding asking → (jack : JackPin) → asking ≡ Some jack → asked_of outstanding ≡ Some jack.codec
asks_codec outstanding asking asked jack is =
    let one = asked.asks jack is in
    ap (λ (outstanding : Option Outstanding). asked_of outstanding) one.1 ∙ ap (λ (codec : ℕ). Some codec) one.2

-- a driver of which as much is the same
pub record IsAlike (old new : JackDriverState) : Type 0 where
  pub corb : new.engine.corb.address ≡ old.engine.corb.address
  pub rirb : new.engine.rirb.address ≡ old.engine.rirb.address
  pub rings : new.engine.rings ≡ old.engine.rings
  pub tally : tally_of new.writer ≡ tally_of old.writer
  pub switching : new.switching ≡ old.switching
  pub given : new.given_up ≡ old.given_up
  pub ring : ring_of new.writer ≡ ring_of old.writer

module _ (format : Format) (graphs : List RawCodec) (plans : List Plan) (task : Task) (given : Given format graphs plans task) (lines : List DriverLine) where
  abbrev Reaches : (start : List CodecState) → (tf : ℕ) → Bool → JackDriverState → Telling → Type 0
  Reaches start tf answered driver telling = HasReached format graphs plans task given lines start tf answered driver telling

  -- the look for interrupts, from where the stretch began
  pub reached_first : (irq : Bool) (left : List DriverLine) (turn : Option DriverLine) (supply : List ℕ) (start : List CodecState) (tf : ℕ) (driver : JackDriverState) (first : List Event) (old new : Telling) → IsBefore irq first
      → Makes first old new → going_of format graphs plans task given lines driver ≡ true → IsOpened format graphs plans task given lines left turn supply start tf driver old → Reaches start tf false driver new
  reached_first irq left turn supply start tf driver first old new is_before makes going opened =
      let row = before_row (ring_of driver.writer) driver.engine.corb.address driver.engine.rirb.address irq first is_before in record {
        from = opened.from;
        read = opened.read;
        core = look_core format graphs plans task given lines driver first row old new makes start tf opened.from opened.read going opened.core;
        hears = look_hears format graphs plans task given lines driver first row old new makes opened.hears;
        agree = look_agree format graphs plans task given lines driver first row old new makes opened.read opened.agree;
        answered_is = look_answered format graphs plans task given lines driver first row old new makes ∙ opened.unanswered;
      }

  -- it leaves the rules where they were
  pub first_later : (irq : Bool) (left : List DriverLine) (turn : Option DriverLine) (supply : List ℕ) (start : List CodecState) (tf : ℕ) (driver : JackDriverState) (first : List Event) (old new : Telling) → IsBefore irq first
      → Makes first old new → IsOpened format graphs plans task given lines left turn supply start tf driver old → (onward_of (switch_rules task graphs plans) task lines new).later ≡ Some (switch_state driver)
  first_later irq left turn supply start tf driver first old new is_before makes opened =
      let row = before_row (ring_of driver.writer) driver.engine.corb.address driver.engine.rirb.address irq first is_before in
      plain_later format graphs plans task given lines first old new makes row.plain ∙ opened.opened.later_is

  -- a stream that was started goes
  pub goes_started : (driver : JackDriverState) (telling : Telling) → driver.writer.course.started ≡ true → StreamSwitches task driver telling → Goes format graphs plans task given lines driver telling
  goes_started driver telling started (inl has) = absurd (false≢true (ap (λ (tally : Tally). tally.course.started) (sym has.fresh) ∙ started))
  goes_started driver telling started (inr goes) = goes

  -- the look for answers
  pub reached_poll : (start : List CodecState) (tf : ℕ) (answered : Bool) (driver : JackDriverState) (reads : PollReads) (old new : Telling) → Looks driver reads old new → IsAskedBy driver.engine.rings.outstanding driver.switching.asking
      → going_of format graphs plans task given lines driver ≡ true → driver.writer.course.started ≡ true → (onward_of (switch_rules task graphs plans) task lines old).later ≡ Some (switch_state driver)
      → Reaches start tf answered driver old → Reaches start tf (is_some (found_by driver.engine.rings reads)) (looked_at driver reads) new
  reached_poll start tf answered driver reads old new looks asked going started later was =
      let goes = goes_started driver old started was.core.stream in
      let tells = looks.tells was.from was.read was.core.stands in
      let flag = was.core.stands.flag in
      record {
        from = from_after (found_since was.read driver.engine.rings (world_of new)) was.from (world_of new).commands;
        read = length (world_of new).written;
        core = poll_core format graphs plans task given lines driver reads driver.clock (poll_by driver.engine.rings reads driver.clock) (unasked_events_of (responses_in reads.entries)) old new looks.made start tf was.from was.read going was.core goes tells;
        hears = poll_hears format graphs plans task given lines driver reads driver.clock (poll_by driver.engine.rings reads driver.clock) (unasked_events_of (responses_in reads.entries)) old new looks.made looks.new_ones
            (asks_codec driver.engine.rings.outstanding driver.switching.asking asked) was.hears;
        agree = poll_agree format graphs plans task given lines driver reads was.read driver.clock old new looks.made flag later was.agree tells.answer_is;
        answered_is = poll_answered format graphs plans task given lines driver reads was.read driver.clock old new looks.made flag later was.agree tells.answer_is;
      }

  -- ---- its accesses were made

  alike_stream : (old new : JackDriverState) (telling : Telling) → IsAlike old new → StreamSwitches task old telling → StreamSwitches task new telling
  alike_stream old new telling alike (inl has) = inl (record {
    idle = ap (λ (rings : RingPlaces). rings.outstanding) alike.rings ∙ has.idle;
    fresh = alike.tally ∙ has.fresh;
    kept = alike.given ∙ has.kept;
    apart = subst (λ (ring : Ring). AreApartFrom ring new.engine.rirb.address) (sym alike.ring) (subst (λ (rirb : ℕ). AreApartFrom (ring_of old.writer) rirb) (sym alike.rirb) has.apart);
    rests = subst (λ (ring : Ring). Along (Rests ring.geometry.fifo) telling.journal telling.start) (sym alike.ring) has.rests;
  })
  alike_stream old new telling alike (inr goes) =
      inr (subst (λ (ring : Ring). StreamGoes (is_some new.given_up) ring task.pcm (tally_of new.writer) telling) (sym alike.ring)
      (subst (λ (tally : Tally). StreamGoes (is_some new.given_up) (ring_of old.writer) task.pcm tally telling) (sym alike.tally)
      (subst (λ (given_up : Option ℕ). StreamGoes (is_some given_up) (ring_of old.writer) task.pcm (tally_of old.writer) telling) (sym alike.given) goes)))

  alike_core : (start : List CodecState) (tf from read : ℕ) (old new : JackDriverState) (telling : Telling) → IsAlike old new → Core format graphs plans task given lines start tf from read old telling
      → Core format graphs plans task given lines start tf from read new telling
  alike_core start tf from read old new telling alike core = record {
    by = core.by;
    switching = core.switching;
    taken = λ still. core.taken (sym (ap (λ (given_up : Option ℕ). is_left_open (is_some given_up) new.writer.course.ran) alike.given ∙ ap (λ (tally : Tally). is_left_open (is_some old.given_up) tally.course.ran) alike.tally) ∙ still);
    set_up = core.set_up;
    stands = subst (λ (corb : ℕ). Stands from read corb new.engine.rirb.address new.engine.rings (world_of telling)) (sym alike.corb)
        (subst (λ (rirb : ℕ). Stands from read old.engine.corb.address rirb new.engine.rings (world_of telling)) (sym alike.rirb)
        (subst (λ (rings : RingPlaces). Stands from read old.engine.corb.address old.engine.rirb.address rings (world_of telling)) (sym alike.rings) core.stands));
    sends = λ command is. core.sends command (sym (ap (λ (rings : RingPlaces). rings.outstanding) alike.rings) ∙ is);
    stream = alike_stream old new telling alike core.stream;
  }

  alike_hears : (old new : JackDriverState) (telling : Telling) → IsAlike old new → Hears format graphs plans task given lines old telling → Hears format graphs plans task given lines new telling
  alike_hears old new telling alike hears = record {
    begun = hears.begun;
    decided = subst (λ (corb : ℕ). SensesDecide corb new.engine.rirb.address graphs plans (since_ready task lines telling)) (sym alike.corb)
        (subst (λ (rirb : ℕ). SensesDecide old.engine.corb.address rirb graphs plans (since_ready task lines telling)) (sym alike.rirb) hears.decided);
    knows = subst (λ (switching : SwitchingState). KnowsJacks (senses_after new.engine.corb.address new.engine.rirb.address (since_ready task lines telling) (senses_opened graphs plans)) switching) (sym alike.switching)
        (subst (λ (corb : ℕ). KnowsJacks (senses_after corb new.engine.rirb.address (since_ready task lines telling) (senses_opened graphs plans)) old.switching) (sym alike.corb)
        (subst (λ (rirb : ℕ). KnowsJacks (senses_after old.engine.corb.address rirb (since_ready task lines telling) (senses_opened graphs plans)) old.switching) (sym alike.rirb) hears.knows));
  }

  pub alike_made : (supply : List ℕ) (start : List CodecState) (tf : ℕ) (answered : Bool) (old new : JackDriverState) (telling : Telling) → IsAlike old new → IsOfTask format graphs plans task given lines new supply → Reaches start tf answered old telling
      → HasMade format graphs plans task given lines supply start tf new telling
  alike_made supply start tf answered old new telling alike of has = record {
    of = of;
    from = has.from;
    read = has.read;
    core = alike_core start tf has.from has.read old new telling alike has.core;
    hears = alike_hears old new telling alike has.hears;
    agree = subst (λ (rings : RingPlaces). AnswersAgree (asked_of rings.outstanding) (trail_of task lines telling).written has.read (world_of telling).written) (sym alike.rings) has.agree;
  }
