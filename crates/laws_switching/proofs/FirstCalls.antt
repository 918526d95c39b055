-- A call with the first run of a driver that switches: after its look the stream is set going, and the next command may come.
use Rattle.std.proofs.Common.{◌≡◌, inl, inr, ℕ, true, false, List, [], ◌∷◌, ◌++◌, length, drop, map, Option, None, Some, refl, sym, ap, subst, ◌∙◌}
use Rattle.std.specs.Prelude.{All}
use Rattle.std.specs.Option.{is_some}
use Rattle.std.proofs.lemmas.Bool.{false≢true}
use Rattle.std.proofs.lemmas.Grind.{flat_map-append}
use Rattle.codec_graph.specs.declared.raw.RawCodec.{RawCodec}
use Rattle.codec_graph.specs.CodecStates.{CodecState}
use Rattle.stream_format.specs.declared.format.Format.{Format}
use Rattle.route_planner.specs.declared.routes.Plan.{Plan}
use Rattle.hda_world.specs.Events.{End}
use Rattle.hda_world.specs.Tellings.{Telling, world_of, Accessed}
use Rattle.command_engine.specs.declared.ring_places.RingPlaces.{RingPlaces}
use Rattle.command_engine.specs.Blocks.{corb_bytes, rirb_bytes}
use Rattle.period_writer.specs.Outcomes.{HasNotWrapped, CanBegin, StartTells}
use Rattle.period_writer.specs.Playing.{run_bytes}
use Rattle.period_writer.specs.Runs.{Tally, tally_opened, facts_of}
use Rattle.period_writer.specs.Standing.{Ring}
use Rattle.period_writer.specs.Touching.{IsOfRing}
use Rattle.period_writer.specs.Writers.{WriterState, tally_of, ring_of, measures_of}
use Rattle.driver_progress.specs.Tasks.{Task, Order, DriverLine}
use Rattle.driver_bring_up.specs.Commanding.{answer_in, entries_in, entry_in, submit_made}
use Rattle.driver_bring_up.proofs.Callers.{answer_none}
use Rattle.audio_driver.specs.States.{was_late}
use Rattle.jack_rules.specs.JackPins.{speakers_of}
use Rattle.jack_rules.specs.declared.pins.SpeakerState.{SpeakerState}
use Rattle.jack_switch.specs.JackDrivers.{JackDriverState, IsJackDriver, KeepsJackDriver}
use Rattle.jack_switch.specs.JackCalls.{Switches, Begins}
use Rattle.laws_stream.specs.Resting.{Rests}
use Rattle.laws_stream.specs.Going.{StreamGoes, is_left_open}
use Rattle.laws_stream.proofs.Callers.{Along-end}
use Rattle.laws_switching.specs.Switching.{HasNotPlayed, StreamSwitches, SwitchGoesOn}
use Rattle.laws_switching.proofs.Core.{going_of}
use Rattle.laws_switching.proofs.Given.{Given}
use Rattle.laws_switching.proofs.Opened.{IsOpened, HasMade, Rulings, of_kept, switch_ends}
use Rattle.laws_switching.proofs.StillCalls.{before_row}
use Rattle.laws_switching.proofs.SwitchCalls.{task_kept, call_stretch}
use Rattle.laws_switching.proofs.RunRows.{IsBesideBlocks}
use Rattle.laws_switching.proofs.RunAccesses.{IsRunAccess, start_in, are_plain, none_read}
use Rattle.laws_switching.proofs.Running.{AreBesideRing, ran_to, run_hears, run_agree, first_core, plain_answered}
use Rattle.laws_switching.proofs.Reached.{HasReached, Goes, sent_to, reached_sent}
use Rattle.laws_switching.proofs.CallLaws.{CallLaws, rings_beside}
use Rattle.laws_switching.proofs.CallSteps.{IsAlike, rests_silent, reached_first, alike_made}
use Rattle.laws_switching.proofs.FramesOn.{submitted_small}

drop_none : (pcm : List ℕ) → drop 0 pcm ≡ pcm
drop_none [] = refl
drop_none (byte ∷ pcm) = refl

pub submit_unread : (corb : ℕ) (rings : RingPlaces) (order : Option Order) → entries_in (submit_made corb rings order) ≡ []
submit_unread corb rings None = refl
submit_unread corb rings (Some order) = refl

pub ring_kept : (old new : JackDriverState) → KeepsJackDriver old new → ring_of new.writer ≡ ring_of old.writer
ring_kept old new keeps = cc

-- the rings lie beside the blocks after a run too
pub still_beside : (driver : JackDriverState) (writer : WriterState) → ring_of writer ≡ ring_of driver.writer → AreBesideRing driver → AreBesideRing (ran_to driver writer)
still_beside driver writer same beside = record {
  corb = subst (λ (ring : Ring). IsBesideBlocks ring driver.engine.corb.address corb_bytes) (sym same) beside.corb;
  rirb = subst (λ (ring : Ring). IsBesideBlocks ring driver.engine.rirb.address rirb_bytes) (sym same) beside.rirb;
}

module _ (format : Format) (graphs : List RawCodec) (plans : List Plan) (task : Task) (given : Given format graphs plans task) (laws : CallLaws) (lines left : List DriverLine) (line : DriverLine) (supply supply' : List ℕ)
    (start : List CodecState) (tf : ℕ) (old new : JackDriverState) (begun made after : Telling) (call : Switches line.irq line.budget old new supply supply' (Some begun) (Some made)) (keeps : KeepsJackDriver old new)
    (driver : IsJackDriver old) (begins : Begins line.irq line.budget old new supply call.made begun made) (small : HasNotWrapped (world_of made)) (ends : Accessed made after End)
    (opened : IsOpened format graphs plans task given lines left (Some line) supply start tf old begun) where
  abbrev ring : Ring
  ring = ring_of old.writer

  abbrev Reaches : JackDriverState → Telling → Type 0
  Reaches driver telling = HasReached format graphs plans task given lines start tf false driver telling

  abbrev ran_driver : JackDriverState
  ran_driver = ran_to old new.writer

  kept : old.given_up ≡ None
  kept = driver.kept begins.fresh

  fresh : tally_of old.writer ≡ tally_opened
  fresh = driver.fresh begins.fresh

  going : going_of format graphs plans task given lines old ≡ true
  going = ap (λ (given_up : Option ℕ). is_left_open (is_some given_up) old.writer.course.ran) kept ∙ ap (λ (tally : Tally). is_left_open false tally.course.ran) fresh

  reached : Reaches old begins.begins
  reached = reached_first format graphs plans task given lines line.irq left (Some line) supply start tf old begins.first begun begins.begins begins.is_before begins.first_made going opened

  unplayed : HasNotPlayed old begins.begins
  unplayed = by reached.core.stream
    where
      by : StreamSwitches task old begins.begins → HasNotPlayed old begins.begins
      by (inl has) = has
      by (inr goes) = absurd (false≢true (sym begins.fresh ∙ goes.started))

  can : CanBegin ring (world_of begins.begins)
  can =
      laws.can_begin ring reached.from reached.read old.engine.corb.address old.engine.rirb.address old.engine.rings (world_of begins.begins)
      (Along-end (Rests old.writer.geometry.fifo) begins.begins.journal begins.begins.start unplayed.rests) reached.core.stands unplayed.apart

  small_ran : HasNotWrapped (world_of begins.ran)
  small_ran = submitted_small old.engine.corb.address old.engine.rings begins.order begins.ran made begins.submits.made small

  tells : StartTells ring supply line.budget (tally_of old.writer) (tally_of new.writer) begins.begins begins.ran
  tells = begins.run_tells can small_ran

  supply_is : supply ≡ task.pcm
  supply_is =
      opened.of.task_is.sound (ap (λ (tally : Tally). was_late tally.course.ran) fresh) ∙ ap (λ (tally : Tally). drop tally.course.used task.pcm) fresh ∙ drop_none task.pcm

  ring_same : ring_of new.writer ≡ ring
  ring_same = ring_kept old new keeps

  goes : Goes format graphs plans task given lines ran_driver begins.ran
  goes =
      subst (λ (given_up : Option ℕ). StreamGoes (is_some given_up) (ring_of new.writer) task.pcm (tally_of new.writer) begins.ran) (sym kept)
      (subst (λ (ring : Ring). StreamGoes false ring task.pcm (tally_of new.writer) begins.ran) (sym ring_same)
      (subst (λ (pcm : List ℕ). StreamGoes false ring pcm (tally_of new.writer) begins.ran) supply_is
      (laws.first ring supply line.budget (tally_of old.writer) (tally_of new.writer) begins.begins begins.ran tells
      (rests_silent old.writer.geometry.fifo begins.begins.journal begins.begins.start unplayed.rests))))

  number : length ring.periods ≡ ring.geometry.periods
  number = tells.rises.stands.ring_is.number

  beside : AreBesideRing old
  beside = rings_beside old driver number

  written : List ℕ
  written = run_bytes (measures_of old.writer) old.writer.course (facts_of line.budget (length supply) begins.from 0 begins.to) supply

  all : All (IsRunAccess ring) begins.run
  all =
      subst (All (IsRunAccess ring)) (sym begins.run_is)
      (start_in ring number begins.from begins.in_reset begins.ready begins.to (run_bytes (measures_of old.writer) old.writer.course (facts_of line.budget (length supply) begins.from 0 begins.to) supply))

  of_ring : All (IsOfRing ring) begins.run
  of_ring =
      subst (All (IsOfRing ring)) (sym begins.run_is)
      (laws.starts_of ring begins.from begins.in_reset begins.ready begins.to (run_bytes (measures_of old.writer) old.writer.course (facts_of line.budget (length supply) begins.from 0 begins.to) supply) number)

  reached_ran : Reaches ran_driver begins.ran
  reached_ran = record {
    from = reached.from;
    read = reached.read;
    core = first_core format graphs plans task given lines old new.writer beside begins.run begins.begins begins.ran begins.run_made all start tf reached.from reached.read reached.core of_ring can.input_stopped
        unplayed.idle going (inr goes);
    hears = run_hears format graphs plans task given lines old new.writer beside begins.run begins.begins begins.ran begins.run_made all reached.hears;
    agree = run_agree format graphs plans task given lines old new.writer beside begins.run begins.begins begins.ran begins.run_made all reached.read reached.agree;
    answered_is = plain_answered format graphs plans task given lines begins.run begins.begins begins.ran begins.run_made (are_plain ring begins.run all) ∙ reached.answered_is;
  }

  pins : map (λ (state : SpeakerState). state.speaker) old.switching.speakers ≡ speakers_of graphs plans
  pins = driver.pins.speakers ∙ ap (λ (graphs : List RawCodec). speakers_of graphs old.plans) opened.of.walked ∙ ap (λ (plans : List Plan). speakers_of graphs plans) opened.of.planned

  reached_made : Reaches (sent_to ran_driver new.engine.rings new.switching) made
  reached_made =
      reached_sent format graphs plans task given lines laws ran_driver (still_beside old new.writer ring_same beside) pins driver.reach kept start tf false new.clock begins.ran made reached_ran goes
      new.engine.rings new.switching begins.order begins.submits begins.order_is begins.switching_is

  alike : IsAlike (sent_to ran_driver new.engine.rings new.switching) new
  alike = record {
    corb = ap (λ lent. lent.address) keeps.corb;
    rirb = ap (λ lent. lent.address) keeps.rirb;
    rings = refl;
    tally = refl;
    switching = refl;
    given = begins.given_is;
    ring = refl;
  }

  has_made : HasMade format graphs plans task given lines supply' start tf new made
  has_made =
      alike_made format graphs plans task given lines supply' start tf false (sent_to ran_driver new.engine.rings new.switching) new made alike
      (of_kept format graphs plans task given lines old new supply supply' keeps opened.of (task_kept old new supply supply' task keeps (call.sound task.pcm) opened.of.task_is)) reached_made

  unread : entries_in call.made ≡ []
  unread =
      let submitted = submit_made old.engine.corb.address old.engine.rings begins.order in
      let row = before_row ring old.engine.corb.address old.engine.rirb.address line.irq begins.first begins.is_before in
      ap entries_in begins.made_is ∙ flat_map-append entry_in begins.first (begins.run ++ submitted)
      ∙ ap (λ (entries : List (List ℕ)). entries ++ entries_in (begins.run ++ submitted)) row.none
      ∙ flat_map-append entry_in begins.run submitted
      ∙ ap (λ (entries : List (List ℕ)). entries ++ entries_in submitted) (none_read ring begins.run all)
      ∙ submit_unread old.engine.corb.address old.engine.rings begins.order

  answered_made : (Rulings format graphs plans task given lines made).answered ≡ is_some (answer_in old.engine.rings call.made)
  answered_made = reached_made.answered_is ∙ sym (ap (λ (answer : Option ℕ). is_some answer) (answer_none old.engine.rings call.made unread))

  pub begins_call : SwitchGoesOn format graphs plans task lines left supply' new after
  begins_call =
      switch_ends format graphs plans task given lines left (Some line) supply supply' start tf old new call.made begun made after call.by.is call.are
      (call_stretch format graphs plans task given lines line old new call.made (is_some (answer_in old.engine.rings call.made)) made opened.of.walked opened.of.planned (call.is task opened.of.task_is) answered_made)
      keeps ends opened has_made
