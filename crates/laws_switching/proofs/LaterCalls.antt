-- A call with a later run of a driver that switches: after its looks the stream is led on, and the next command may come.
use Rattle.std.proofs.Common.{◌≡◌, ℕ, Bool, true, false, List, [], ◌++◌, length, map, Option, None, Some, refl, sym, ap, subst, ◌∙◌}
use Rattle.std.specs.Prelude.{All}
use Rattle.std.specs.Option.{is_some, is_none}
use Rattle.std.proofs.lemmas.Bool.{false≢true}
use Rattle.std.proofs.lemmas.Grind.{flat_map-append}
use Rattle.codec_graph.specs.declared.raw.RawCodec.{RawCodec}
use Rattle.codec_graph.specs.CodecStates.{CodecState}
use Rattle.stream_format.specs.declared.format.Format.{Format}
use Rattle.route_planner.specs.declared.routes.Plan.{Plan}
use Rattle.hda_world.specs.Events.{End}
use Rattle.hda_world.specs.Tellings.{Telling, world_of, Accessed}
use Rattle.command_engine.specs.Entries.{responses_in, unasked_events_of, answer_among}
use Rattle.command_engine.specs.Polling.{asked_of, found_by, poll_accesses, rings_polled}
use Rattle.period_writer.specs.declared.course.Ran.{Ran}
use Rattle.period_writer.specs.declared.course.Ran.TheVariants as ran
use Rattle.period_writer.specs.Outcomes.{HasNotWrapped}
use Rattle.period_writer.specs.Owning.{IsPlaying}
use Rattle.period_writer.specs.Runs.{facts_of}
use Rattle.period_writer.specs.Standing.{Ring}
use Rattle.period_writer.specs.Touching.{IsOfRing}
use Rattle.period_writer.specs.Writers.{tally_of, ring_of}
use Rattle.driver_progress.specs.Tasks.{Task, DriverLine}
use Rattle.driver_bring_up.specs.Commanding.{answer_in, entries_in, entry_in, submit_made}
use Rattle.driver_bring_up.proofs.Callers.{asked_entries}
use Rattle.audio_driver.specs.States.{is_open, was_late}
use Rattle.jack_rules.specs.JackPins.{speakers_of}
use Rattle.jack_rules.specs.declared.pins.SpeakerState.{SpeakerState}
use Rattle.jack_rules.specs.Switching.{AreInReach, KeepsPins}
use Rattle.jack_switch.specs.JackDrivers.{JackDriverState, IsJackDriver, KeepsJackDriver}
use Rattle.jack_switch.specs.JackCalls.{Switches, GoesOn, switching_looked}
use Rattle.laws_stream.specs.Going.{StreamGoes, StreamLeft}
use Rattle.laws_switching.specs.Switching.{SwitchGoesOn}
use Rattle.laws_switching.proofs.Core.{going_of}
use Rattle.laws_switching.proofs.Given.{Given}
use Rattle.laws_switching.proofs.Opened.{IsOpened, HasMade, Rulings, of_kept, switch_ends}
use Rattle.laws_switching.proofs.StillCalls.{before_row}
use Rattle.laws_switching.proofs.SwitchCalls.{task_kept, call_stretch}
use Rattle.laws_switching.proofs.Polls.{looked_at}
use Rattle.laws_switching.proofs.RunAccesses.{IsRunAccess, play_in, are_plain, none_read}
use Rattle.laws_switching.proofs.Running.{AreBesideRing, ran_to, run_hears, run_agree, later_core, plain_answered}
use Rattle.laws_switching.proofs.Reached.{HasReached, Goes, sent_to, reached_sent}
use Rattle.laws_switching.proofs.CallLaws.{CallLaws, rings_beside}
use Rattle.laws_switching.proofs.CallSteps.{IsAlike, reached_first, first_later, reached_poll, goes_started, alike_made}
use Rattle.laws_switching.proofs.FirstCalls.{submit_unread, ring_kept, still_beside}
use Rattle.laws_switching.proofs.FramesOn.{submitted_small}
use Rattle.laws_switching.proofs.LastStops.{both_on, open_playing, open_going}

open_late : (was : Ran) → was ≡ ran.Playing → was_late was ≡ false
open_late was is = ap was_late is

none_of_some : (given_up : Option ℕ) → is_none given_up ≡ true → given_up ≡ None
none_of_some None is = refl
none_of_some (Some noticed) is = absurd (false≢true is)

module _ (format : Format) (graphs : List RawCodec) (plans : List Plan) (task : Task) (given : Given format graphs plans task) (laws : CallLaws) (lines left : List DriverLine) (line : DriverLine) (supply supply' : List ℕ)
    (start : List CodecState) (tf : ℕ) (old new : JackDriverState) (begun made after : Telling) (call : Switches line.irq line.budget old new supply supply' (Some begun) (Some made)) (keeps : KeepsJackDriver old new)
    (driver : IsJackDriver old) (on : GoesOn line.irq line.budget old new supply call.made begun made) (small : HasNotWrapped (world_of made)) (ends : Accessed made after End)
    (opened : IsOpened format graphs plans task given lines left (Some line) supply start tf old begun) where
  abbrev ring : Ring
  ring = ring_of old.writer

  abbrev found : Bool
  found = is_some (found_by old.engine.rings on.reads)

  abbrev Reaches : Bool → JackDriverState → Telling → Type 0
  Reaches answered driver telling = HasReached format graphs plans task given lines start tf answered driver telling

  abbrev seen : JackDriverState
  seen = looked_at old on.reads

  abbrev ran_driver : JackDriverState
  ran_driver = ran_to (looked_at old on.reads) new.writer

  kept : old.given_up ≡ None
  kept = none_of_some old.given_up (both_on (is_open old.writer.course.ran) (is_none old.given_up) on.on).1

  open_now : is_open old.writer.course.ran ≡ true
  open_now = (both_on (is_open old.writer.course.ran) (is_none old.given_up) on.on).0

  playing : old.writer.course.ran ≡ ran.Playing
  playing = open_playing old.writer.course.ran open_now

  going : going_of format graphs plans task given lines old ≡ true
  going = open_going (is_some old.given_up) (is_open old.writer.course.ran) (ap (λ (given_up : Option ℕ). is_some given_up) kept) open_now

  -- ---- the looks

  reached : Reaches false old on.begins
  reached = reached_first format graphs plans task given lines line.irq left (Some line) supply start tf old on.first begun on.begins on.is_before on.first_made going opened

  reached_looked : Reaches found seen on.looked
  reached_looked =
      reached_poll format graphs plans task given lines start tf false old on.reads on.begins on.looked on.looks driver.asked going on.started
      (first_later format graphs plans task given lines line.irq left (Some line) supply start tf old on.first begun on.begins on.is_before on.first_made opened) reached

  goes_looked : Goes format graphs plans task given lines seen on.looked
  goes_looked = goes_started format graphs plans task given lines seen on.looked on.started reached_looked.core.stream

  goes_open : StreamGoes false ring task.pcm (tally_of old.writer) on.looked
  goes_open = subst (λ (given_up : Option ℕ). StreamGoes (is_some given_up) ring task.pcm (tally_of old.writer) on.looked) kept goes_looked

  plays : IsPlaying ring task.pcm (tally_of old.writer) (world_of on.looked)
  plays = subst (λ (was : Ran). StreamLeft false was ring task.pcm (tally_of old.writer) (world_of on.looked)) playing goes_open.stream

  -- ---- the run

  small_ran : HasNotWrapped (world_of on.ran)
  small_ran = submitted_small old.engine.corb.address (rings_polled old.engine.rings on.reads) on.order on.ran made on.submits.made small

  ring_same : ring_of new.writer ≡ ring
  ring_same = ring_kept old new keeps

  gone : StreamGoes false ring task.pcm (tally_of new.writer) on.ran
  gone =
      laws.runs ring task.pcm line.budget (tally_of old.writer) (tally_of new.writer) new.writer.course.ran on.looked on.ran
      (on.run_tells task.pcm (opened.of.task_is.sound (open_late old.writer.course.ran playing))) refl playing small_ran goes_open

  goes : Goes format graphs plans task given lines ran_driver on.ran
  goes =
      subst (λ (given_up : Option ℕ). StreamGoes (is_some given_up) (ring_of new.writer) task.pcm (tally_of new.writer) on.ran) (sym kept)
      (subst (λ (ring : Ring). StreamGoes false ring task.pcm (tally_of new.writer) on.ran) (sym ring_same) gone)

  number : length ring.periods ≡ ring.geometry.periods
  number = plays.stands.ring_is.number

  beside_old : AreBesideRing old
  beside_old = rings_beside old driver number

  beside : AreBesideRing seen
  beside = record { corb = beside_old.corb; rirb = beside_old.rirb }

  all : All (IsRunAccess ring) on.run
  all =
      subst (All (IsRunAccess ring)) (sym on.run_is)
      (play_in ring number old.writer.course (facts_of line.budget (length supply) on.from on.lpib on.to) supply new.writer.course.ran)

  of_ring : All (IsOfRing ring) on.run
  of_ring =
      subst (All (IsOfRing ring)) (sym on.run_is)
      (laws.run_of ring old.writer.course (facts_of line.budget (length supply) on.from on.lpib on.to) supply new.writer.course.ran number)

  reached_ran : Reaches found ran_driver on.ran
  reached_ran = record {
    from = reached_looked.from;
    read = reached_looked.read;
    core = later_core format graphs plans task given lines seen new.writer beside on.run on.looked on.ran on.run_made all start tf reached_looked.from reached_looked.read reached_looked.core of_ring plays.stands.set.input_stopped
        going goes_looked goes;
    hears = run_hears format graphs plans task given lines seen new.writer beside on.run on.looked on.ran on.run_made all reached_looked.hears;
    agree = run_agree format graphs plans task given lines seen new.writer beside on.run on.looked on.ran on.run_made all reached_looked.read reached_looked.agree;
    answered_is = plain_answered format graphs plans task given lines on.run on.looked on.ran on.run_made (are_plain ring on.run all) ∙ reached_looked.answered_is;
  }

  -- ---- the next command

  same_pins : KeepsPins old.switching (switching_looked old on.reads)
  same_pins = laws.told old.switching (unasked_events_of (responses_in on.reads.entries)) (found_by old.engine.rings on.reads)

  pins : map (λ (state : SpeakerState). state.speaker) (switching_looked old on.reads).speakers ≡ speakers_of graphs plans
  pins =
      same_pins.speakers ∙ driver.pins.speakers ∙ ap (λ (graphs : List RawCodec). speakers_of graphs old.plans) opened.of.walked ∙ ap (λ (plans : List Plan). speakers_of graphs plans) opened.of.planned

  reach : AreInReach (switching_looked old on.reads)
  reach = laws.reaches old.switching (switching_looked old on.reads) same_pins driver.reach

  reached_made : Reaches found (sent_to ran_driver new.engine.rings new.switching) made
  reached_made =
      reached_sent format graphs plans task given lines laws ran_driver (still_beside seen new.writer ring_same beside) pins reach kept start tf found new.clock on.ran made reached_ran goes
      new.engine.rings new.switching on.order on.submits on.order_is on.switching_is

  alike : IsAlike (sent_to ran_driver new.engine.rings new.switching) new
  alike = record {
    corb = ap (λ lent. lent.address) keeps.corb;
    rirb = ap (λ lent. lent.address) keeps.rirb;
    rings = refl;
    tally = refl;
    switching = refl;
    given = on.given_is;
    ring = refl;
  }

  has_made : HasMade format graphs plans task given lines supply' start tf new made
  has_made =
      alike_made format graphs plans task given lines supply' start tf found (sent_to ran_driver new.engine.rings new.switching) new made alike
      (of_kept format graphs plans task given lines old new supply supply' keeps opened.of (task_kept old new supply supply' task keeps (call.sound task.pcm) opened.of.task_is)) reached_made

  -- what was read of RIRB
  entries_made : entries_in call.made ≡ on.reads.entries
  entries_made =
      let rirb = old.engine.rirb.address in
      let submitted = submit_made old.engine.corb.address (rings_polled old.engine.rings on.reads) on.order in
      let called = poll_accesses rirb old.engine.rings on.reads ++ (on.run ++ submitted) in
      let row = before_row ring old.engine.corb.address rirb line.irq on.first on.is_before in
      let unread : entries_in (on.run ++ submitted) ≡ [] =
      flat_map-append entry_in on.run submitted ∙ ap (λ (entries : List (List ℕ)). entries ++ entries_in submitted) (none_read ring on.run all)
      ∙ submit_unread old.engine.corb.address (rings_polled old.engine.rings on.reads) on.order in
      ap entries_in on.made_is ∙ flat_map-append entry_in on.first called ∙ ap (λ (entries : List (List ℕ)). entries ++ entries_in called) row.none
      ∙ asked_entries rirb 0 old.engine.rings on.reads (on.run ++ submitted) on.looks.new_ones unread

  answered_made : (Rulings format graphs plans task given lines made).answered ≡ is_some (answer_in old.engine.rings call.made)
  answered_made =
      reached_made.answered_is ∙ ap (λ (entries : List (List ℕ)). is_some (answer_among (asked_of old.engine.rings.outstanding) (responses_in entries))) (sym entries_made)

  pub goes_call : SwitchGoesOn format graphs plans task lines left supply' new after
  goes_call =
      switch_ends format graphs plans task given lines left (Some line) supply supply' start tf old new call.made begun made after call.by.is call.are
      (call_stretch format graphs plans task given lines line old new call.made (is_some (answer_in old.engine.rings call.made)) made opened.of.walked opened.of.planned (call.is task opened.of.task_is) answered_made)
      keeps ends opened has_made
