-- The last call of a driver that may play.
use Rattle.std.proofs.Common.{◌≡◌, ◌≤◌, ◌⊎◌, inl, inr, ◌&&◌, ℕ, length, true, false, List, [], ◌∷◌, ◌++◌, map, None, Some, sym, ap, subst, ◌∙◌}
use Rattle.std.proofs.lemmas.Bool.{false≢true}
use Rattle.std.specs.Prelude.{All}
use Rattle.verb_codes.specs.declared.verbs.Command.{Command}
use Rattle.codec_graph.specs.declared.raw.RawCodec.{RawCodec}
use Rattle.codec_graph.specs.Settings.{Entries}
use Rattle.route_planner.specs.declared.routes.Plan.{Plan}
use Rattle.route_setup.specs.Means.{Means}
use Rattle.stream_format.specs.declared.format.Format.{Format}
use Rattle.hda_world.specs.Worlds.{World}
use Rattle.hda_world.specs.Events.{Event, Stepped, Begin, End, happens, after, IsNoStep}
use Rattle.hda_world.specs.Tellings.{Telling, world_of, Went, Accessed}
use Rattle.hda_world.proofs.Callers.{world_of-went, went_both, Weaving, woven, events_front, events_back}
use Rattle.period_writer.specs.declared.geometry.Geometry.{Geometry}
use Rattle.period_writer.specs.Runs.{Tally, tally_opened}
use Rattle.period_writer.specs.Outcomes.{HasNotWrapped}
use Rattle.driver_progress.specs.declared.phase.Phase.TheVariants.{Ready}
use Rattle.driver_progress.specs.States.{State}
use Rattle.driver_progress.specs.Tasks.{Task, DriverLine, walks_over}
use Rattle.driver_progress.specs.Progress.{trail_of}
use Rattle.driver_progress.specs.Phases.{are_set_up}
use Rattle.driver_agenda.specs.declared.agenda.Agenda.{Agenda}
use Rattle.driver_bring_up.specs.declared.bringing.BringUp.{BringUp}
use Rattle.driver_bring_up.specs.Calls as bringing
use Rattle.laws_bring_up.specs.Stretches.{IsOpen}
use Rattle.laws_bring_up.specs.Standing.{IsEnded}
use Rattle.laws_bring_up.specs.Keeping as told
use Rattle.laws_bring_up.proofs.Callers.{opens, closes, rest_progress}
use Rattle.audio_driver.specs.States.{is_open, plays_now, state_with, IsTaskOf}
use Rattle.audio_driver.specs.Sounding as sounding
use Rattle.laws_stream.specs.Resting.{Rests}
use Rattle.laws_stream.specs.Lives.{IsStopped, Along}
use Rattle.laws_stream.specs.Ending.{HearTheLine}
use Rattle.laws_stream.proofs.Callers.{went_same, Along-end, Along-front}
use Rattle.laws_driver.specs.Sounding.{Parts, state_in, ring_in, tally_in, IsSounding}
use Rattle.laws_driver.specs.Keeping.{IsSilent, IsHeard, Closes, WasNeverHeard, WasHeard, DriverHasGone}
use Rattle.laws_driver.proofs.Given.{Given}
use Rattle.laws_driver.proofs.States.{silent_with, silent_state, plays_then, end_silent}
use Rattle.laws_driver.proofs.Rest.{along_weaker, rests_stopped, begin_rest, end_rest, row_rest}
use Rattle.laws_driver.proofs.Bringing.{made_rest, ends_accesses}
use Rattle.laws_driver.proofs.Ready.{IsReady, ready_stands, ended_ready}
use Rattle.laws_driver.proofs.Good.{StayGood, begin_good, end_good}
use Rattle.laws_driver.proofs.Playing.{Played, plays}
use Rattle.laws_driver.proofs.Heard.{heard_set_up, heard_good, none_ended}

along_back : (Holds : World → Type 0) (front back : List Event) (world : World) → Along Holds (front ++ back) world → Along Holds back (after front world)
along_back Holds [] back world along = along
along_back Holds (event ∷ front) back world along = along_back Holds front back (happens world event) along.1

never_heard : (fifo : ℕ) (telling : Telling) → Along (Rests fifo) telling.journal telling.start → WasNeverHeard telling
never_heard fifo telling rests = record {
  stopped = along_weaker (Rests fifo) IsStopped (rests_stopped fifo) telling.journal telling.start rests;
  none = (Along-end (Rests fifo) telling.journal telling.start rests).none_carried;
}

module _ (means : Means) (verbs : RawCodec → List Command) (graphs : List RawCodec) (task : Task)
    (laws : Given means verbs graphs task) (lines : List DriverLine) (old : Parts) (ended : BringUp) (tally : Tally) (last : List Event) (before begun made after : Telling) (begins : Accessed before begun Begin)
    (closing : Closes means task.plays old ended tally (Some begun) (Some made)) (ends : Accessed made after End) where
  abbrev pub Gone : Type 0
  Gone = DriverHasGone means graphs task lines ended tally last after

  -- ---- where its calls do not play

  pub silent_end : plays_now task.plays old.bring_up ≡ false → IsSilent means verbs graphs task lines [] old before → Gone
  silent_end none is =
      let fifo = old.writer.geometry.fifo in
      let called = laws.told.opens lines [] old.bring_up before begun begins is.under_way in
      let call = closing.ends none in
      let shut = laws.told.ends lines [] old.bring_up ended begun made called call in
      let gone = laws.told.over lines ended after (laws.told.ends_over lines [] ended made after ends shut) in
      let are = ends_accesses means verbs graphs task laws.agenda laws.of laws.setter laws.notes lines old.bring_up ended begun made called.stands call in
      let still = made_rest laws.stretches task lines [] None (bringing.state_of old.bring_up) call.made begun made called.opened call.by.is are (end_silent task old.bring_up) shut.done.fits in
      let rests = end_rest laws.events fifo made after ends (row_rest laws.events fifo call.made begun made call.by.is still (begin_rest laws.events fifo before begun begins is.silent.rests)) in
      let fresh : tally ≡ tally_opened = closing.recorded none ∙ is.silent.fresh in record {
        progress = gone.progress;
        finds = gone.finds;
        state_is = gone.state_is ∙ sym (silent_with ended tally fresh);
        ended_is = gone.ended;
        ready = λ started. absurd (false≢true (sym (ap (λ (tally : Tally). tally.course.started) fresh) ∙ started));
        set_up = gone.set_up;
        heard = inl (fresh, never_heard fifo after rests);
      }

  -- ---- where they do

  module _ (task_is : IsTaskOf old.bring_up old.writer old.supply task) (now : plays_now task.plays old.bring_up ≡ true) where
    abbrev call : sounding.EndsSound old.bring_up ended old.writer tally old.supply (Some begun) (Some made)
    call = closing.sounds now

    abbrev state_then : State
    state_then = state_with ended tally

    played : IsOpen task lines [] None (state_in old) begun → StayGood means graphs task lines begun → old.bring_up.engine.rings.outstanding ≡ None → are_set_up (state_in old).phase ≡ true
        → Played means graphs task lines [] None state_then made
    played opened good none up = plays means graphs task lines [] None (state_in old) state_then call.made begun made opened good none up call.by.is call.are (call.is task task_is)

    gone_by : Played means graphs task lines [] None state_then made → IsEnded graphs task ended → ended.phase ≡ Ready → ((tally ≡ tally_opened) × WasNeverHeard after) ⊎ WasHeard means graphs task tally last after → Gone
    gone_by was ended_is ready heard =
        let rest = closes task lines [] state_then made after ends was.done in
        let progress = rest_progress task lines [] state_then after rest in record {
          progress = progress.0;
          finds = progress.2;
          state_is = progress.1;
          ended_is = ended_is;
          ready = λ started. ready;
          set_up = (end_good means graphs task lines made after ends was.good).set_up;
          heard = heard;
        }

    -- no sound was played
    module _ (is : IsSilent means verbs graphs task lines [] old before) where
      called : told.IsCalled means verbs graphs task lines [] None old.bring_up begun
      called = laws.told.opens lines [] old.bring_up before begun begins is.under_way

      was_ready : old.bring_up.phase ≡ Ready
      was_ready = (plays_then task.plays old.bring_up now).1

      ready : IsReady means verbs graphs task laws.agenda laws.of laws.setter old.bring_up (world_of begun)
      ready = ready_stands means verbs graphs task laws.agenda laws.of laws.setter (trail_of task lines begun).written old.bring_up (world_of begun) was_ready called.stands

      state_is : state_in old ≡ bringing.state_of old.bring_up
      state_is = silent_state old.bring_up old.writer is.silent.fresh

      opened : IsOpen task lines [] None (state_in old) begun
      opened = subst (λ (state : State). IsOpen task lines [] None state begun) (sym state_is) called.opened

      was_played : Played means graphs task lines [] None state_then made
      was_played =
          played opened (record { set_up = called.set_up; good = ready.good }) ready.answered (ap (λ (state : State). are_set_up state.phase) state_is ∙ ap are_set_up was_ready)

      recorded : sounding.EndTells old.bring_up ended old.writer tally old.supply call.made begun made → tally ≡ tally_opened
      recorded (inl shuts) = shuts.tally_is ∙ is.silent.fresh
      recorded (inr stops) =
          let started = ap (λ (tally : Tally). tally.course.started && is_open tally.course.ran) is.silent.fresh in
          absurd (false≢true (sym started ∙ stops.plays))

      pub ready_end : Gone
      ready_end =
          let fifo = old.writer.geometry.fifo in
          let still = made_rest laws.stretches task lines [] None (bringing.state_of old.bring_up) call.made begun made called.opened call.by.is call.are (end_silent task old.bring_up) was_played.done.fits in
          let rests = end_rest laws.events fifo made after ends (row_rest laws.events fifo call.made begun made call.by.is still (begin_rest laws.events fifo before begun begins is.silent.rests)) in
          gone_by was_played
          (ended_ready graphs task ended (call.phase ∙ was_ready) (ap (λ (agenda : Agenda). agenda.graphs.items) call.agenda ∙ ready.walked)
          (none_ended old.bring_up ended old.writer tally old.supply call.made begun made call.tells.is ready.answered) (subst (λ (sent : ℕ). length (walks_over graphs) ≤ sent) (sym call.sent) ready.enough))
          (call.phase ∙ was_ready)
          (inl (recorded call.tells.is, never_heard fifo after rests))

    -- or it was
    module _ (went : Went before after last) (small : Along HasNotWrapped last (world_of before)) (is : IsHeard means graphs task lines [] old before) where
      was : IsSounding means graphs task old before
      was = is.sounds

      ended_played : Played means graphs task lines [] None state_then made
      ended_played =
          played (opens task lines [] (state_in old) before begun begins is.rest) (begin_good means graphs task lines before begun begins (heard_good means verbs graphs task laws lines [] old before is)) was.answered
          (heard_set_up means verbs graphs task laws lines [] old before is)

      -- the events of the call among those of its stretch
      abbrev front : List Event
      front = map Stepped begins.steps ++ Begin ∷ []

      abbrev back : List Event
      back = map Stepped ends.steps ++ End ∷ []

      calling : Weaving call.made begun made
      calling = woven call.by.is

      last_is : last ≡ (front ++ calling.events) ++ back
      last_is = went_same before after last ((front ++ calling.events) ++ back) went
          (went_both before made after (front ++ calling.events) back (went_both before begun made front calling.events begins.went calling.went) ends.went)

      small_then : Along HasNotWrapped calling.events (world_of begun)
      small_then =
          subst (Along HasNotWrapped calling.events) (sym (world_of-went before begun front begins.went))
          (along_back HasNotWrapped front calling.events (world_of before)
          (Along-front HasNotWrapped (front ++ calling.events) back (world_of before) (subst (λ (events : List Event). Along HasNotWrapped events (world_of before)) last_is small)))

      alone_then : All IsNoStep last → All IsNoStep calling.events
      alone_then alone = events_back IsNoStep front calling.events (events_front IsNoStep (front ++ calling.events) back (subst (All IsNoStep) last_is alone))

      pub heard_end : Gone
      heard_end =
          let began = laws.heard.begin was.codecs (ring_in old) task.pcm (tally_in old) before begun begins was.by in
          let stops = laws.heard.last was.codecs task.pcm old.bring_up ended old.writer tally old.supply call.made calling.events begun made call.tells.is call.by.is calling.went small_then task_is.sound began in
          let over = laws.heard.over made after ends stops.1 in
          gone_by ended_played
          (ended_ready graphs task ended (call.phase ∙ was.ready) (ap (λ (agenda : Agenda). agenda.graphs.items) call.agenda ∙ was.walked)
          (none_ended old.bring_up ended old.writer tally old.supply call.made begun made call.tells.is was.answered) (subst (λ (sent : ℕ). length (walks_over graphs) ≤ sent) (sym call.sent) was.enough))
          (call.phase ∙ was.ready)
          (inr (record {
            started = stops.0;
            lived = over.0;
            codecs = was.codecs;
            set_up = was.set_up;
            hear = λ alone. subst (λ (format : Format). HearTheLine was.codecs format task.pcm tally (world_of after).carried) (sym (ap (λ (geometry : Geometry). geometry.format) task_is.geometry))
                (subst (HearTheLine was.codecs old.writer.geometry.format task.pcm tally) (sym over.1) (stops.2 (alone_then alone)));
          }))
