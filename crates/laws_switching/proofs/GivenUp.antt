-- A call in which a driver that switches gives up: after its looks it stops the stream, and makes no run.
use Rattle.std.proofs.Common.{◌≡◌, inl, inr, ℕ, Bool, true, false, List, [], ◌∷◌, ◌++◌, length, Option, Some, refl, sym, ap, subst, ◌∙◌}
use Rattle.std.specs.Prelude.{All}
use Rattle.std.specs.Option.{is_some, is_none}
use Rattle.std.proofs.lemmas.Bool.{false≢true}
use Rattle.std.proofs.lemmas.Grind.{flat_map-append}
use Rattle.std.proofs.lemmas.List.Elements.{All-cons, All-nil}
use Rattle.codec_graph.specs.declared.raw.RawCodec.{RawCodec}
use Rattle.codec_graph.specs.CodecStates.{CodecState}
use Rattle.stream_format.specs.declared.format.Format.{Format}
use Rattle.route_planner.specs.declared.routes.Plan.{Plan}
use Rattle.hda_registers.specs.declared.shapes.Width.TheVariants.{One}
use Rattle.hda_world.specs.Events.{Event, End, Write}
use Rattle.hda_world.specs.Tellings.{Telling, world_of, Accessed, Makes}
use Rattle.hda_world.proofs.Callers.{Weaving, woven}
use Rattle.command_engine.specs.declared.ring_places.RingPlaces.{RingPlaces}
use Rattle.command_engine.specs.declared.answers.Outstanding.{Outstanding}
use Rattle.command_engine.specs.Belonging.{from_after}
use Rattle.command_engine.specs.Blocks.{corb_bytes, rirb_bytes}
use Rattle.command_engine.specs.Entries.{responses_in, unasked_events_of, answer_among}
use Rattle.command_engine.specs.Fetchings.{Stands}
use Rattle.command_engine.specs.Polling.{poll_accesses, rings_polled, found_by, asked_of}
use Rattle.command_engine.specs.Told.{found_since, PollTells}
use Rattle.period_writer.specs.declared.course.Ran.{Ran}
use Rattle.period_writer.specs.declared.course.Ran.TheVariants as ran
use Rattle.period_writer.specs.declared.registers.TheConstants.{CONTROL}
use Rattle.period_writer.specs.Owning.{IsPlaying}
use Rattle.period_writer.specs.Runs.{Tally}
use Rattle.period_writer.specs.Standing.{Ring}
use Rattle.period_writer.specs.Touching.{IsOfRing}
use Rattle.period_writer.specs.Writers.{WriterState, tally_of, ring_of}
use Rattle.driver_progress.specs.Answers.{AnswersAgree}
use Rattle.driver_progress.specs.Tasks.{Task, DriverLine}
use Rattle.driver_progress.specs.Progress.{trail_of}
use Rattle.driver_bring_up.specs.Commanding.{answer_in, entries_in, entry_in, poll_by}
use Rattle.driver_bring_up.proofs.Callers.{asked_entries}
use Rattle.driver_rules.specs.Onward.{IsRuleStretch}
use Rattle.driver_rules.proofs.Callers.{plain_noted}
use Rattle.audio_driver.specs.States.{is_open}
use Rattle.laws_stream.specs.Lives.{Lives, IsGoing, stops}
use Rattle.laws_stream.specs.Going.{StreamGoes, StreamLeft, is_left_open}
use Rattle.laws_stream.proofs.Callers.{woven_all}
use Rattle.jack_rules.specs.declared.pins.JackPin.{JackPin}
use Rattle.jack_rules.specs.Switching.{SwitchingState}
use Rattle.jack_switch.specs.SwitchRules.{switch_rules}
use Rattle.jack_switch.specs.JackDrivers.{JackDriverState, switch_state, IsJackDriver, KeepsJackDriver}
use Rattle.jack_switch.specs.JackCalls.{Switches, GivesUp}
use Rattle.laws_switching.specs.Since.{since_ready}
use Rattle.laws_switching.specs.Senses.{KnowsJacks, senses_after, senses_opened, SensesDecide, IsBesideSenses}
use Rattle.laws_switching.specs.Switching.{StreamSwitches, SwitchGoesOn}
use Rattle.laws_switching.proofs.Core.{Core, Hears, beside_hears, going_of}
use Rattle.laws_switching.proofs.Opened.{IsOpened, HasMade, Agrees, Rulings, of_kept, switch_ends}
use Rattle.laws_switching.proofs.Polls.{looked_at, poll_stream, poll_core, poll_hears}
use Rattle.laws_switching.proofs.PollAnswers.{poll_answered, poll_agree}
use Rattle.laws_switching.proofs.RunRows.{run_stands}
use Rattle.laws_switching.proofs.Running.{plain_agree}
use Rattle.laws_switching.proofs.StillCalls.{IsLookRow, before_row, look_core, look_hears, look_agree}
use Rattle.laws_switching.proofs.SwitchCalls.{task_kept}
use Rattle.laws_switching.proofs.Given.{Given}
use Rattle.laws_switching.proofs.LastClosing.{Switched, standing_on, stopping_takes}
use Rattle.laws_switching.proofs.LastStops.{both_on, none_some, open_playing, open_going, beside_blocks}

-- the laws of a bare stop, as they are handed in
pub record StopLaws : Type 0 where
  pub given_up : (ring : Ring) (pcm : List ℕ) (tally : Tally) (old new : Telling) → Makes (stops ∷ []) old new → tally.course.ran ≡ ran.Playing → StreamGoes false ring pcm tally old → StreamGoes true ring pcm tally new
  pub of_ring : (ring : Ring) → All (IsOfRing ring) (Write CONTROL One 0 ∷ [])

module _ (format : Format) (graphs : List RawCodec) (plans : List Plan) (task : Task) (given : Given format graphs plans task) (laws : StopLaws) (lines left : List DriverLine) (line : DriverLine) (supply supply' : List ℕ)
    (start : List CodecState) (tf : ℕ) (old new : JackDriverState) (begun made after : Telling) (call : Switches line.irq line.budget old new supply supply' (Some begun) (Some made)) (keeps : KeepsJackDriver old new)
    (driver : IsJackDriver old) (gives : GivesUp line.irq old new call.made begun made) (ends : Accessed made after End) (opened : IsOpened format graphs plans task given lines left (Some line) supply start tf old begun) where
  abbrev ring : Ring
  ring = ring_of old.writer

  abbrev rings : RingPlaces
  rings = old.engine.rings

  abbrev corb : ℕ
  corb = old.engine.corb.address

  abbrev rirb : ℕ
  rirb = old.engine.rirb.address

  abbrev polled : RingPlaces
  polled = rings_polled rings gives.reads

  abbrev looked : Telling
  looked = gives.looked

  abbrev from' : ℕ
  from' = from_after (found_since opened.read rings (world_of looked)) opened.from (world_of looked).commands

  abbrev read' : ℕ
  read' = length (world_of looked).written

  abbrev stop : List Event
  stop = Write CONTROL One 0 ∷ []

  abbrev driver_looked : JackDriverState
  driver_looked = looked_at old gives.reads

  kept : is_some old.given_up ≡ false
  kept = none_some old.given_up (both_on (is_open old.writer.course.ran) (is_none old.given_up) gives.on).1

  open_now : is_open old.writer.course.ran ≡ true
  open_now = (both_on (is_open old.writer.course.ran) (is_none old.given_up) gives.on).0

  playing : old.writer.course.ran ≡ ran.Playing
  playing = open_playing old.writer.course.ran open_now

  going : going_of format graphs plans task given lines old ≡ true
  going = open_going (is_some old.given_up) (is_open old.writer.course.ran) kept open_now

  -- ---- the look for interrupts

  first_row : IsLookRow ring corb rirb gives.first
  first_row = before_row ring corb rirb line.irq gives.first gives.is_before

  core_first : Core format graphs plans task given lines start tf opened.from opened.read old gives.begins
  core_first = look_core format graphs plans task given lines old gives.first first_row begun gives.begins gives.first_made start tf opened.from opened.read going opened.core

  hears_first : Hears format graphs plans task given lines old gives.begins
  hears_first = look_hears format graphs plans task given lines old gives.first first_row begun gives.begins gives.first_made opened.hears

  agree_first : Agrees format graphs plans task given lines old opened.read gives.begins
  agree_first = look_agree format graphs plans task given lines old gives.first first_row begun gives.begins gives.first_made opened.read opened.agree

  later_first : (Rulings format graphs plans task given lines gives.begins).later ≡ Some (switch_state old)
  later_first = (plain_noted (switch_rules task graphs plans) task lines gives.first begun gives.begins gives.first_made first_row.plain).later_is ∙ opened.opened.later_is

  goes_first : StreamGoes (is_some old.given_up) ring task.pcm (tally_of old.writer) gives.begins
  goes_first = by core_first.stream
    where
      by : StreamSwitches task old gives.begins → StreamGoes (is_some old.given_up) ring task.pcm (tally_of old.writer) gives.begins
      by (inl has) = absurd (false≢true (sym (ap (λ (tally : Tally). tally.course.started) has.fresh) ∙ gives.started))
      by (inr goes) = goes

  -- ---- the look for answers

  tells : PollTells old.clock opened.from opened.read corb rirb rings (poll_by rings gives.reads old.clock) polled (unasked_events_of (responses_in gives.reads.entries)) (world_of looked)
  tells = gives.looks.tells opened.from opened.read core_first.stands

  core_looked : Core format graphs plans task given lines start tf from' read' driver_looked looked
  core_looked =
      poll_core format graphs plans task given lines old gives.reads old.clock (poll_by rings gives.reads old.clock) (unasked_events_of (responses_in gives.reads.entries)) gives.begins looked gives.looks.made
      start tf opened.from opened.read going core_first goes_first tells

  asks : (jack : JackPin) → old.switching.asking ≡ Some jack → asked_of rings.outstanding ≡ Some jack.codec
  asks jack is =
      let (command, outstanding, codec_is, word_is) = driver.asked.asks jack is in
      ap (λ (outstanding : Option Outstanding). asked_of outstanding) outstanding ∙ ap (λ (codec : ℕ). Some codec) codec_is

  hears_looked : Hears format graphs plans task given lines driver_looked looked
  hears_looked =
      poll_hears format graphs plans task given lines old gives.reads old.clock (poll_by rings gives.reads old.clock) (unasked_events_of (responses_in gives.reads.entries)) gives.begins looked gives.looks.made
      gives.looks.new_ones asks hears_first

  answered_looked : (Rulings format graphs plans task given lines looked).answered ≡ is_some (found_by rings gives.reads)
  answered_looked =
      poll_answered format graphs plans task given lines old gives.reads opened.read old.clock gives.begins looked gives.looks.made core_first.stands.flag later_first agree_first tells.answer_is

  agree_looked : AnswersAgree (asked_of polled.outstanding) (trail_of task lines looked).written read' (world_of looked).written
  agree_looked =
      poll_agree format graphs plans task given lines old gives.reads opened.read old.clock gives.begins looked gives.looks.made core_first.stands.flag later_first agree_first tells.answer_is

  goes_noted : StreamGoes (is_some old.given_up) ring task.pcm (tally_of old.writer) looked
  goes_noted =
      poll_stream format graphs plans task given lines old gives.reads old.clock (poll_by rings gives.reads old.clock) (unasked_events_of (responses_in gives.reads.entries)) gives.begins looked gives.looks.made goes_first

  goes_looked : StreamGoes false ring task.pcm (tally_of old.writer) looked
  goes_looked = subst (λ (given_up : Bool). StreamGoes given_up ring task.pcm (tally_of old.writer) looked) kept goes_noted

  playing_looked : IsPlaying ring task.pcm (tally_of old.writer) (world_of looked)
  playing_looked = by old.writer.course.ran playing goes_looked.stream
    where
      by : (was : Ran) → was ≡ ran.Playing → StreamLeft false was ring task.pcm (tally_of old.writer) (world_of looked) → IsPlaying ring task.pcm (tally_of old.writer) (world_of looked)
      by ran.Playing is stream = stream
      by ran.Drained is stream = cc
      by (ran.Late from to limit) is stream = cc

  -- ---- the stop

  weaving : Weaving stop looked made
  weaving = woven gives.stopped

  gone : StreamGoes true ring task.pcm (tally_of old.writer) made
  gone = laws.given_up ring task.pcm (tally_of old.writer) looked made gives.stopped playing goes_looked

  stands_made : Stands from' read' corb rirb polled (world_of made)
  stands_made =
      let number = playing_looked.stands.ring_is.number in
      run_stands ring corb rirb (beside_blocks corb corb_bytes old.writer number driver.beside_corb) (beside_blocks rirb rirb_bytes old.writer number driver.beside_rirb) from' read' polled stop looked made gives.stopped
      (laws.of_ring ring) playing_looked.stands.set.input_stopped core_looked.stands

  switched_made : Switched format graphs plans task given lines start tf made
  switched_made =
      let first : IsGoing looked = subst (λ (still : Bool). Lives still looked) going goes_noted.lives in
      standing_on format graphs plans task given lines start tf from' read' corb rirb polled weaving.events looked made weaving.went core_looked.stands stands_made core_looked.sends
      (stopping_takes format graphs plans task given lines start tf weaving.events looked made weaving.went first gone.lives core_looked.by.remembers.within (core_looked.taken going))
      (record { by = core_looked.by; switching = core_looked.switching; set_up = core_looked.set_up })

  hears_made : Hears format graphs plans task given lines driver_looked made
  hears_made =
      beside_hears format graphs plans task given lines driver_looked weaving.events looked made weaving.went
      (woven_all (IsBesideSenses corb rirb) (λ step. tt {0}) stop weaving.events weaving.woven (All-cons (IsBesideSenses corb rirb) (Write CONTROL One 0) [] (tt {0}) (All-nil (IsBesideSenses corb rirb)))) hears_looked

  agree_made : AnswersAgree (asked_of polled.outstanding) (trail_of task lines made).written read' (world_of made).written
  agree_made = plain_agree format graphs plans task given lines stop looked made gives.stopped (refl, tt {0}) (asked_of polled.outstanding) read' agree_looked

  entries_made : entries_in call.made ≡ gives.reads.entries
  entries_made =
      let called = poll_accesses rirb rings gives.reads ++ stop in
      ap entries_in gives.made_is ∙ flat_map-append entry_in gives.first called ∙ ap (λ (entries : List (List ℕ)). entries ++ entries_in called) first_row.none
      ∙ asked_entries rirb 0 rings gives.reads stop gives.looks.new_ones refl

  answered_made : (Rulings format graphs plans task given lines made).answered ≡ is_some (answer_in rings call.made)
  answered_made =
      (plain_noted (switch_rules task graphs plans) task lines stop looked made gives.stopped (refl, tt {0})).answered_is ∙ answered_looked
      ∙ ap (λ (entries : List (List ℕ)). is_some (answer_among (asked_of rings.outstanding) (responses_in entries))) (sym entries_made)

  -- ---- the driver after it

  corb_is : new.engine.corb.address ≡ corb
  corb_is = ap (λ lent. lent.address) keeps.corb

  rirb_is : new.engine.rirb.address ≡ rirb
  rirb_is = ap (λ lent. lent.address) keeps.rirb

  core_new : Core format graphs plans task given lines start tf from' read' new made
  core_new = record {
    by = switched_made.by;
    switching = switched_made.switching;
    taken = λ still. absurd (false≢true (sym (ap (λ (gave : Option ℕ). is_left_open (is_some gave) new.writer.course.ran) gives.given) ∙ still));
    set_up = switched_made.set_up;
    stands = subst (λ (rings : RingPlaces). Stands from' read' new.engine.corb.address new.engine.rirb.address rings (world_of made)) (sym gives.rings)
        (subst (λ (corb : ℕ). Stands from' read' corb new.engine.rirb.address polled (world_of made)) (sym corb_is)
        (subst (λ (rirb : ℕ). Stands from' read' corb rirb polled (world_of made)) (sym rirb_is) stands_made));
    sends = λ command is. core_looked.sends command (sym (ap (λ (rings : RingPlaces). rings.outstanding) gives.rings) ∙ is);
    stream = inr (subst (λ (gave : Option ℕ). StreamGoes (is_some gave) (ring_of new.writer) task.pcm (tally_of new.writer) made) (sym gives.given)
        (subst (λ (writer : WriterState). StreamGoes true (ring_of writer) task.pcm (tally_of writer) made) (sym gives.writer) gone));
  }

  hears_new : Hears format graphs plans task given lines new made
  hears_new = record {
    begun = hears_made.begun;
    decided = subst (λ (corb : ℕ). SensesDecide corb new.engine.rirb.address graphs plans (since_ready task lines made)) (sym corb_is)
        (subst (λ (rirb : ℕ). SensesDecide corb rirb graphs plans (since_ready task lines made)) (sym rirb_is) hears_made.decided);
    knows = subst (λ (switching : SwitchingState). KnowsJacks (senses_after new.engine.corb.address new.engine.rirb.address (since_ready task lines made) (senses_opened graphs plans)) switching) (sym gives.switching_is)
        (subst (λ (corb : ℕ). KnowsJacks (senses_after corb new.engine.rirb.address (since_ready task lines made) (senses_opened graphs plans)) driver_looked.switching) (sym corb_is)
        (subst (λ (rirb : ℕ). KnowsJacks (senses_after corb rirb (since_ready task lines made) (senses_opened graphs plans)) driver_looked.switching) (sym rirb_is) hears_made.knows));
  }

  has_made : HasMade format graphs plans task given lines supply' start tf new made
  has_made = record {
    of = of_kept format graphs plans task given lines old new supply supply' keeps opened.of (task_kept old new supply supply' task keeps (call.sound task.pcm) opened.of.task_is);
    from = from';
    read = read';
    core = core_new;
    hears = hears_new;
    agree = subst (λ (rings : RingPlaces). AnswersAgree (asked_of rings.outstanding) (trail_of task lines made).written read' (world_of made).written) (sym gives.rings) agree_made;
  }

  stretch : IsRuleStretch (switch_rules task graphs plans) (switch_state old) (Some line) call.made (Rulings format graphs plans task given lines made).answered (switch_state new)
  stretch =
      subst (λ (answered : Bool). IsRuleStretch (switch_rules task graphs plans) (switch_state old) (Some line) call.made answered (switch_state new)) (sym answered_made)
      (subst (λ (plans : List Plan). IsRuleStretch (switch_rules task graphs plans) (switch_state old) (Some line) call.made (is_some (answer_in rings call.made)) (switch_state new)) opened.of.planned
      (subst (λ (graphs : List RawCodec). IsRuleStretch (switch_rules task graphs old.plans) (switch_state old) (Some line) call.made (is_some (answer_in rings call.made)) (switch_state new)) opened.of.walked
      (call.is task opened.of.task_is)))

  pub gives_call : SwitchGoesOn format graphs plans task lines left supply' new after
  gives_call = switch_ends format graphs plans task given lines left (Some line) supply supply' start tf old new call.made begun made after call.by.is call.are stretch keeps ends opened has_made
