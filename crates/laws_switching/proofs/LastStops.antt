-- A last call of a driver whose stream plays: one more look, a row of accesses with which the stream is stopped, and the end.
use Rattle.std.proofs.Common.{◌≡◌, inl, inr, ℕ, Bool, true, false, List, [], length, Option, None, Some, refl, sym, ap, subst, ◌∙◌, arith}
use Rattle.std.specs.Prelude.{All, ◌&&◌, not}
use Rattle.std.specs.Option.{is_some, is_none}
use Rattle.std.proofs.lemmas.Bool.{false≢true}
use Rattle.codec_graph.specs.declared.raw.RawCodec.{RawCodec}
use Rattle.codec_graph.specs.CodecStates.{CodecState}
use Rattle.stream_format.specs.declared.format.Format.{Format}
use Rattle.route_planner.specs.declared.routes.Plan.{Plan}
use Rattle.hda_world.specs.Events.{Event, End, IsNoStep}
use Rattle.hda_world.specs.Tellings.{Telling, world_of, Accessed, Makes}
use Rattle.hda_world.proofs.Callers.{Weaving, woven}
use Rattle.command_engine.specs.declared.ring_places.RingPlaces.{RingPlaces}
use Rattle.command_engine.specs.declared.answers.Outstanding.{Outstanding}
use Rattle.command_engine.specs.Belonging.{from_after}
use Rattle.command_engine.specs.Blocks.{corb_bytes, rirb_bytes}
use Rattle.command_engine.specs.Entries.{responses_in, unasked_events_of, answer_among}
use Rattle.command_engine.specs.Fetchings.{Stands}
use Rattle.command_engine.specs.Polling.{PollReads, rings_polled, found_by, asked_of}
use Rattle.command_engine.specs.Told.{found_since, PollTells}
use Rattle.period_writer.specs.declared.course.Ran.{Ran}
use Rattle.period_writer.specs.declared.course.Ran.TheVariants as ran
use Rattle.period_writer.specs.Owning.{IsPlaying}
use Rattle.period_writer.specs.Runs.{Tally}
use Rattle.period_writer.specs.Standing.{Ring}
use Rattle.period_writer.specs.Touching.{IsOfRing}
use Rattle.period_writer.specs.Writers.{WriterState, tally_of, ring_of}
use Rattle.driver_progress.specs.Noting.{ArePlain}
use Rattle.driver_progress.specs.Shutting.{shut_accesses}
use Rattle.driver_progress.specs.Tasks.{Task, DriverLine}
use Rattle.driver_bring_up.specs.Commanding.{answer_in, entries_in, poll_by}
use Rattle.driver_bring_up.specs.declared.jacks.Jacks.{Jacks}
use Rattle.driver_rules.proofs.Callers.{plain_noted}
use Rattle.audio_driver.specs.Parting.{IsBesideRing}
use Rattle.audio_driver.specs.States.{is_open, is_playing}
use Rattle.laws_stream.specs.Lives.{Lives, IsGoing}
use Rattle.laws_stream.specs.Going.{StreamGoes, StreamLeft}
use Rattle.laws_stream.specs.Signalled.{HearBySignals}
use Rattle.laws_stream.proofs.Callers.{woven_all}
use Rattle.jack_rules.specs.declared.pins.JackPin.{JackPin}
use Rattle.jack_switch.specs.SwitchRules.{SwitchState, switch_rules, is_on}
use Rattle.jack_switch.specs.JackDrivers.{JackDriverState, switch_state, IsJackDriver}
use Rattle.jack_switch.specs.JackCalls.{EndsSwitching, Looks}
use Rattle.laws_switching.specs.Speakers.{is_switched}
use Rattle.laws_switching.specs.Senses.{IsBesideSenses}
use Rattle.laws_switching.specs.Turned.{outputs}
use Rattle.laws_switching.specs.Switching.{StreamSwitches, WasHeardSwitched, SwitchHasGone}
use Rattle.laws_switching.proofs.Core.{Core, Hears, beside_hears, going_of}
use Rattle.laws_switching.proofs.Opened.{IsOpened, Rulings}
use Rattle.laws_switching.proofs.Polls.{looked_at, poll_stream, poll_core, poll_hears}
use Rattle.laws_switching.proofs.PollAnswers.{poll_answered}
use Rattle.laws_switching.proofs.RunRows.{IsBesideBlocks, run_stands}
use Rattle.laws_switching.proofs.Given.{Given}
use Rattle.laws_switching.proofs.LastShut.{shut_plain, shut_senses}
use Rattle.laws_switching.proofs.LastClosing.{OverLaws, Switched, IsOver, shut_events, shut_went, shut_events_all, standing_on, stopping_takes, over_switched, over_was}
use Rattle.laws_switching.proofs.LastStretch.{last_over}

pub both_on : (one other : Bool) → (one && other) ≡ true → (one ≡ true) × (other ≡ true)
both_on true true on = (refl, refl)
both_on true false on = absurd (false≢true on)
both_on false other on = absurd (false≢true on)

pub none_some : (gave : Option ℕ) → is_none gave ≡ true → is_some gave ≡ false
none_some None none = refl
none_some (Some noticed) none = absurd (false≢true none)

pub open_playing : (was : Ran) → is_open was ≡ true → was ≡ ran.Playing
open_playing ran.Playing is = refl
open_playing ran.Drained is = absurd (false≢true is)
open_playing (ran.Late from to limit) is = absurd (false≢true is)

pub open_going : (gave first : Bool) → gave ≡ false → first ≡ true → (not gave && first) ≡ true
open_going false true kept is = refl
open_going false false kept is = absurd (false≢true is)
open_going true first kept is = absurd (false≢true (sym kept))

-- a block lies beside those of a ring, as the driver has it
pub beside_blocks : (address bytes : ℕ) (writer : WriterState) → length (ring_of writer).periods ≡ (ring_of writer).geometry.periods → IsBesideRing address bytes writer → IsBesideBlocks (ring_of writer) address bytes
beside_blocks address bytes writer number beside = record {
  list = beside.list;
  periods = λ index few. beside.periods index (omega (arith, few, number));
}

module _ (format : Format) (graphs : List RawCodec) (plans : List Plan) (task : Task) (given : Given format graphs plans task) (lines : List DriverLine) (supply : List ℕ) (start : List CodecState) (tf : ℕ) (old : JackDriverState)
    (ended : SwitchState) (jacks : Jacks) (begun made after : Telling) (call : EndsSwitching old ended jacks supply (Some begun) (Some made)) (ends : Accessed made after End)
    (opened : IsOpened format graphs plans task given lines [] None supply start tf old begun) (driver : IsJackDriver old) (plays : is_playing old.writer.course ≡ true) (on : is_on (switch_state old) ≡ true)
    (reads : PollReads) (looked : Telling) (looks : Looks old reads begun looked) where
  abbrev ring : Ring
  ring = ring_of old.writer

  abbrev rings : RingPlaces
  rings = old.engine.rings

  abbrev corb : ℕ
  corb = old.engine.corb.address

  abbrev rirb : ℕ
  rirb = old.engine.rirb.address

  abbrev polled : RingPlaces
  polled = rings_polled rings reads

  abbrev from' : ℕ
  from' = from_after (found_since opened.read rings (world_of looked)) opened.from (world_of looked).commands

  abbrev read' : ℕ
  read' = length (world_of looked).written

  pub kept : is_some old.given_up ≡ false
  kept = none_some old.given_up (both_on (is_open old.writer.course.ran) (is_none old.given_up) on).1

  open_now : is_open old.writer.course.ran ≡ true
  open_now = (both_on (is_open old.writer.course.ran) (is_none old.given_up) on).0

  pub playing : old.writer.course.ran ≡ ran.Playing
  playing = open_playing old.writer.course.ran open_now

  going : going_of format graphs plans task given lines old ≡ true
  going = open_going (is_some old.given_up) (is_open old.writer.course.ran) kept open_now

  goes_begun : StreamGoes (is_some old.given_up) ring task.pcm (tally_of old.writer) begun
  goes_begun = by opened.core.stream
    where
      by : StreamSwitches task old begun → StreamGoes (is_some old.given_up) ring task.pcm (tally_of old.writer) begun
      by (inl has) = absurd (false≢true (sym (ap (λ (tally : Tally). tally.course.started) has.fresh) ∙ (both_on old.writer.course.started (is_open old.writer.course.ran) plays).0))
      by (inr goes) = goes

  -- ---- the look

  tells : PollTells old.clock opened.from opened.read corb rirb rings (poll_by rings reads old.clock) polled (unasked_events_of (responses_in reads.entries)) (world_of looked)
  tells = looks.tells opened.from opened.read opened.core.stands

  core_looked : Core format graphs plans task given lines start tf from' read' (looked_at old reads) looked
  core_looked =
      poll_core format graphs plans task given lines old reads old.clock (poll_by rings reads old.clock) (unasked_events_of (responses_in reads.entries)) begun looked looks.made start tf opened.from opened.read going
      opened.core goes_begun tells

  asks : (jack : JackPin) → old.switching.asking ≡ Some jack → asked_of rings.outstanding ≡ Some jack.codec
  asks jack is =
      let (command, outstanding, codec_is, word_is) = driver.asked.asks jack is in
      ap (λ (outstanding : Option Outstanding). asked_of outstanding) outstanding ∙ ap (λ (codec : ℕ). Some codec) codec_is

  hears_looked : Hears format graphs plans task given lines (looked_at old reads) looked
  hears_looked =
      poll_hears format graphs plans task given lines old reads old.clock (poll_by rings reads old.clock) (unasked_events_of (responses_in reads.entries)) begun looked looks.made looks.new_ones asks opened.hears

  answered_looked : (Rulings format graphs plans task given lines looked).answered ≡ is_some (found_by rings reads)
  answered_looked =
      poll_answered format graphs plans task given lines old reads opened.read old.clock begun looked looks.made opened.core.stands.flag opened.opened.later_is opened.agree tells.answer_is

  goes_noted : StreamGoes (is_some old.given_up) ring task.pcm (tally_of old.writer) looked
  goes_noted =
      poll_stream format graphs plans task given lines old reads old.clock (poll_by rings reads old.clock) (unasked_events_of (responses_in reads.entries)) begun looked looks.made goes_begun

  pub goes_looked : StreamGoes false ring task.pcm (tally_of old.writer) looked
  goes_looked = subst (λ (given_up : Bool). StreamGoes given_up ring task.pcm (tally_of old.writer) looked) kept goes_noted

  going_looked : IsGoing looked
  going_looked = subst (λ (still : Bool). Lives still looked) going goes_noted.lives

  pub playing_looked : IsPlaying ring task.pcm (tally_of old.writer) (world_of looked)
  playing_looked = by old.writer.course.ran playing goes_looked.stream
    where
      by : (was : Ran) → was ≡ ran.Playing → StreamLeft false was ring task.pcm (tally_of old.writer) (world_of looked) → IsPlaying ring task.pcm (tally_of old.writer) (world_of looked)
      by ran.Playing is stream = stream
      by ran.Drained is stream = cc
      by (ran.Late from to limit) is stream = cc

  pub beside_corb : IsBesideBlocks ring corb corb_bytes
  beside_corb = beside_blocks corb corb_bytes old.writer playing_looked.stands.ring_is.number driver.beside_corb

  beside_rirb : IsBesideBlocks ring rirb rirb_bytes
  beside_rirb = beside_blocks rirb rirb_bytes old.writer playing_looked.stands.ring_is.number driver.beside_rirb

  -- ---- then the stream is stopped

  module _ (row : List Event) (over : Telling) (makes : Makes row looked over) (shuts : Makes shut_accesses over made) (all : All (IsOfRing ring) row) (beside : All (IsBesideSenses corb rirb) row) (plain : ArePlain row)
      (entries : entries_in call.made ≡ reads.entries) (tally : Tally) (gone : StreamGoes true ring task.pcm tally over) where
    weaving : Weaving row looked over
    weaving = woven makes

    stands_over : Stands from' read' corb rirb polled (world_of over)
    stands_over = run_stands ring corb rirb beside_corb beside_rirb from' read' polled row looked over makes all playing_looked.stands.set.input_stopped core_looked.stands

    switched_over : Switched format graphs plans task given lines start tf over
    switched_over =
        standing_on format graphs plans task given lines start tf from' read' corb rirb polled weaving.events looked over weaving.went core_looked.stands stands_over core_looked.sends
        (stopping_takes format graphs plans task given lines start tf weaving.events looked over weaving.went going_looked gone.lives core_looked.by.remembers.within (core_looked.taken going))
        (record { by = core_looked.by; switching = core_looked.switching; set_up = core_looked.set_up })

    is_over : IsOver format graphs plans task given lines start tf true ring tally from' read' corb rirb polled over
    is_over = record { switched = switched_over; stands = stands_over; sends = core_looked.sends; over = refl; goes = gone }

    answered_made : (Rulings format graphs plans task given lines made).answered ≡ is_some (answer_in rings call.made)
    answered_made =
        (plain_noted (switch_rules task graphs plans) task lines shut_accesses over made shuts shut_plain).answered_is
        ∙ (plain_noted (switch_rules task graphs plans) task lines row looked over makes plain).answered_is ∙ answered_looked
        ∙ ap (λ (entries : List (List ℕ)). is_some (answer_among (asked_of rings.outstanding) (responses_in entries))) (sym entries)

    hears_after : Hears format graphs plans task given lines (looked_at old reads) after
    hears_after =
        beside_hears format graphs plans task given lines (looked_at old reads) (shut_events over made after shuts ends) over after (shut_went over made after shuts ends)
        (shut_events_all (IsBesideSenses corb rirb) (λ step. tt {0}) (tt {0}) (shut_senses corb rirb) over made after shuts ends)
        (beside_hears format graphs plans task given lines (looked_at old reads) weaving.events looked over weaving.went
        (woven_all (IsBesideSenses corb rirb) (λ step. tt {0}) row weaving.events weaving.woven beside) hears_looked)

    pub stops_gone : OverLaws → (noted : Bool) (last : List Event) → ended.tally ≡ tally → is_some ended.given_up ≡ noted → task.geometry.format ≡ format
        → (All IsNoStep last → HearBySignals noted ring.geometry.format task.pcm tally (world_of over).carried) → SwitchHasGone format graphs plans task lines old.sent ended last after
    stops_gone laws noted last tally_is noted_is is_format hear =
        let same_format : ring.geometry.format ≡ format = sym (ap (λ geometry. geometry.format) opened.of.task_is.geometry) ∙ is_format in
        let there = over_switched format graphs plans task given lines start tf laws true ring tally from' read' corb rirb polled over made after shuts ends is_over in
        let was = over_was format graphs plans task given lines start tf laws true ring tally from' read' corb rirb polled over made after shuts ends is_over noted last same_format hear in
        last_over format graphs plans task given lines supply start tf old ended jacks begun made after call ends opened answered_made last there.set_up hears_after.decided
        (inr (subst (λ (noted : Bool). WasHeardSwitched (outputs format) graphs (is_switched graphs plans) format task.pcm noted ended.tally last after) (sym noted_is)
        (subst (λ (tally : Tally). WasHeardSwitched (outputs format) graphs (is_switched graphs plans) format task.pcm noted tally last after) (sym tally_is) was)))
