-- A look for answers of a driver that switches while its stream plays.
use Rattle.std.proofs.Common.{◌≡◌, inr, ℕ, Bool, true, List, ◌++◌, length, drop, Option, None, Some, sym, ap, subst, ◌∙◌}
use Rattle.std.specs.Option.{is_some}
use Rattle.codec_graph.specs.declared.raw.RawCodec.{RawCodec}
use Rattle.codec_graph.specs.CodecStates.{CodecState}
use Rattle.stream_format.specs.declared.format.Format.{Format}
use Rattle.route_planner.specs.declared.routes.Plan.{Plan}
use Rattle.hda_world.specs.Worlds.{World}
use Rattle.hda_world.specs.Events.{Event}
use Rattle.hda_world.specs.Tellings.{Telling, world_of, Makes}
use Rattle.hda_world.proofs.Callers.{Weaving, woven, world_of-went}
use Rattle.command_engine.specs.declared.ring_places.RingPlaces.{RingPlaces}
use Rattle.command_engine.specs.declared.answers.Outstanding.{Outstanding}
use Rattle.command_engine.specs.declared.answers.Event as told
use Rattle.command_engine.specs.declared.answers.Poll.{Poll}
use Rattle.command_engine.specs.Belonging.{Belongs, from_after}
use Rattle.command_engine.specs.Entries.{responses_in, unasked_events_of}
use Rattle.command_engine.specs.Fetchings.{Stands}
use Rattle.command_engine.specs.Polling.{PollReads, AreNew, poll_accesses, rings_polled, found_by, still_outstanding, asked_of}
use Rattle.command_engine.specs.Told.{found_since, PollTells}
use Rattle.period_writer.specs.Writers.{tally_of, ring_of}
use Rattle.driver_progress.specs.Tasks.{Task, DriverLine}
use Rattle.jack_rules.specs.declared.pins.JackPin.{JackPin}
use Rattle.jack_rules.specs.Switching.{told_all}
use Rattle.jack_rules.specs.JackPins.{speakers_of}
use Rattle.jack_switch.specs.JackDrivers.{JackDriverState}
use Rattle.laws_stream.specs.Lives.{Lives, IsGoing}
use Rattle.laws_stream.specs.Going.{StreamGoes}
use Rattle.laws_switching.specs.Speakers.{is_switched}
use Rattle.laws_switching.specs.Since.{since_ready}
use Rattle.laws_switching.specs.Senses.{Senses, KnowsJacks, senses_after, senses_opened, AreDecided}
use Rattle.laws_switching.proofs.SinceTurn.{since_went, senses_both, decided_both, woven_senses, woven_decided}
use Rattle.laws_switching.proofs.Between.{going_runs, ran_between}
use Rattle.laws_switching.proofs.Taken.{Grown, went_grown, Sends, AreWords, standing_words, answered_words, words_more, Takes, takes_running}
use Rattle.laws_switching.proofs.Moments.{turned_went, stays_but}
use Rattle.laws_switching.proofs.Core.{Core, Hears, SensesAt, going_of, switches_by, ascends}
use Rattle.laws_switching.proofs.Given.{Given}

-- the driver after a look that read this
abbrev pub looked_at : JackDriverState → PollReads → JackDriverState
looked_at driver reads = record driver {
  engine = record driver.engine { rings = rings_polled driver.engine.rings reads };
  switching = told_all driver.switching (unasked_events_of (responses_in reads.entries)) (found_by driver.engine.rings reads);
}

-- ---- the outstanding command

still_sends : (is_speaker : ℕ → ℕ → Bool) (outstanding : Option Outstanding) (found : Option ℕ) → Sends is_speaker outstanding → Sends is_speaker (still_outstanding outstanding found)
still_sends is_speaker outstanding None sends = sends
still_sends is_speaker outstanding (Some value) sends = λ command is. absurd (none_some command is)
  where
    none_some : (command : Outstanding) → None ≡ Some command → ⊥
    none_some command is = cc

polled_words : (is_speaker : ℕ → ℕ → Bool) (from read corb rirb : ℕ) (rings rings' : RingPlaces) (world : World) (found : Option ℕ) → Belongs from rings.outstanding world.codecs world.commands found
    → Stands (from_after found from world.commands) read corb rirb rings' world → Sends is_speaker rings.outstanding → Sends is_speaker rings'.outstanding → AreWords is_speaker (drop from world.commands)
polled_words is_speaker from read corb rirb rings rings' world None belongs stands sends sends' = standing_words is_speaker from read corb rirb rings' world stands sends'
polled_words is_speaker from read corb rirb rings rings' world (Some value) belongs stands sends sends' = answered_words is_speaker from value rings.outstanding world.codecs world.commands belongs sends

-- ---- the look

module _ (format : Format) (graphs : List RawCodec) (plans : List Plan) (task : Task) (given : Given format graphs plans task) (lines : List DriverLine) (driver : JackDriverState) (reads : PollReads) (clock : ℕ) (answer : Poll)
    (events : List told.Event) (old new : Telling) (makes : Makes (poll_accesses driver.engine.rirb.address driver.engine.rings reads) old new) where
  weaving : Weaving (poll_accesses driver.engine.rirb.address driver.engine.rings reads) old new
  weaving = woven makes

  pub poll_stream : StreamGoes (is_some driver.given_up) (ring_of driver.writer) task.pcm (tally_of driver.writer) old → StreamGoes (is_some driver.given_up) (ring_of driver.writer) task.pcm (tally_of driver.writer) new
  poll_stream goes =
      given.stream.rows (is_some driver.given_up) (ring_of driver.writer) task.pcm (tally_of driver.writer) (poll_accesses driver.engine.rirb.address driver.engine.rings reads) old new makes
      (given.poll_alone (ring_of driver.writer) driver.engine.rirb.address driver.engine.rings reads) goes

  module _ (start : List CodecState) (tf from read : ℕ) (going : going_of format graphs plans task given lines driver ≡ true) (was : Core format graphs plans task given lines start tf from read driver old)
      (goes : StreamGoes (is_some driver.given_up) (ring_of driver.writer) task.pcm (tally_of driver.writer) old)
      (tells : PollTells clock from read driver.engine.corb.address driver.engine.rirb.address driver.engine.rings answer (rings_polled driver.engine.rings reads) events (world_of new)) where
    grown : Grown (world_of old) (world_of new)
    grown = went_grown old new weaving.events weaving.went

    sends_on : Sends (is_switched graphs plans) (rings_polled driver.engine.rings reads).outstanding
    sends_on = still_sends (is_switched graphs plans) driver.engine.rings.outstanding (found_by driver.engine.rings reads) was.sends

    words_on : AreWords (is_switched graphs plans) (drop tf (world_of new).commands)
    words_on =
        words_more (is_switched graphs plans) tf from (world_of old) (world_of new) grown was.by.remembers.within was.stands.from_within
        (polled_words (is_switched graphs plans) from (length (world_of new).written) driver.engine.corb.address driver.engine.rirb.address driver.engine.rings (rings_polled driver.engine.rings reads) (world_of new)
        (found_since read driver.engine.rings (world_of new)) tells.belongs tells.stands was.sends sends_on) was.switching.words

    takes_on : Takes true tf (world_of new)
    takes_on =
        let first : IsGoing old = subst (λ (still : Bool). Lives still old) going goes.lives in
        let second : IsGoing new = subst (λ (still : Bool). Lives still new) going (poll_stream goes).lives in
        subst (Takes true tf) (sym (world_of-went old new weaving.events weaving.went))
        (takes_running given.took tf weaving.events (world_of old) (ran_between old new weaving.events weaving.went (going_runs old first) second) was.by.remembers.within (was.taken going))

    pub poll_core : Core format graphs plans task given lines start tf (from_after (found_since read driver.engine.rings (world_of new)) from (world_of new).commands) (length (world_of new).written) (looked_at driver reads) new
    poll_core =
        let switching = switches_by format graphs plans task given lines true tf (world_of old) (world_of new) grown was.by.remembers.within was.switching words_on takes_on in record {
          by = turned_went format graphs plans start tf old new weaving.events weaving.went was.by;
          switching = switching;
          taken = λ still. takes_on;
          set_up = stays_but format graphs plans start tf given.set_up given.well
              (ascends format graphs plans task given lines start tf from read driver.engine.corb.address driver.engine.rirb.address driver.engine.rings (world_of old) was.by was.stands) given.planned
              task lines old new weaving.events weaving.went was.by switching was.set_up;
          stands = tells.stands;
          sends = sends_on;
          stream = inr (poll_stream goes);
        }

  -- what is known of jacks
  pub poll_hears : AreNew driver.engine.rings reads → ((jack : JackPin) → driver.switching.asking ≡ Some jack → asked_of driver.engine.rings.outstanding ≡ Some jack.codec) → Hears format graphs plans task given lines driver old
      → Hears format graphs plans task given lines (looked_at driver reads) new
  poll_hears new_ones asks was =
      let corb = driver.engine.corb.address in
      let rirb = driver.engine.rirb.address in
      let made = poll_accesses rirb driver.engine.rings reads in
      let senses = SensesAt format graphs plans task given lines driver old in
      let law = given.poll_senses corb rirb (speakers_of graphs plans) senses driver.switching driver.engine.rings reads new_ones was.knows asks in
      let since : since_ready task lines new ≡ since_ready task lines old ++ weaving.events = since_went task lines old new weaving.events weaving.went was.begun in record {
        begun = record { first = was.begun.first; rest = was.begun.rest ++ weaving.events; is = since ∙ ap (λ (part : List Event). part ++ weaving.events) was.begun.is };
        decided = subst (λ (events : List Event). AreDecided corb rirb (speakers_of graphs plans) events (senses_opened graphs plans)) (sym since)
            (decided_both corb rirb (speakers_of graphs plans) (since_ready task lines old) weaving.events (senses_opened graphs plans) was.decided
            (woven_decided corb rirb (speakers_of graphs plans) made weaving.events senses weaving.woven law.1));
        knows = subst (λ (senses : Senses). KnowsJacks senses (looked_at driver reads).switching)
            (sym (ap (λ (events : List Event). senses_after corb rirb events (senses_opened graphs plans)) since
            ∙ senses_both corb rirb (since_ready task lines old) weaving.events (senses_opened graphs plans)
            ∙ woven_senses corb rirb made weaving.events senses weaving.woven)) law.0;
      }
