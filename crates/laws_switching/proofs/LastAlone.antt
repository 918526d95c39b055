-- A last call of a driver whose stream does not play, or that gave up: it makes the end alone.
use Rattle.std.proofs.Common.{◌≡◌, ◌⊎◌, inl, inr, ℕ, Bool, true, false, List, [], ◌∷◌, drop, Option, None, Some, refl, sym, ap, subst, ◌∙◌}
use Rattle.std.specs.Prelude.{All, ◌&&◌, not}
use Rattle.std.specs.Option.{is_some, is_none}
use Rattle.std.proofs.lemmas.Bool.{false≢true}
use Rattle.std.proofs.lemmas.List.Elements.{All-cons, All-head, All-nil, All-tail}
use Rattle.codec_graph.specs.declared.raw.RawCodec.{RawCodec}
use Rattle.codec_graph.specs.CodecStates.{CodecState}
use Rattle.stream_format.specs.declared.format.Format.{Format}
use Rattle.route_planner.specs.declared.routes.Plan.{Plan}
use Rattle.hda_world.specs.Worlds.{World, TakenCommand}
use Rattle.hda_world.specs.Events.{Event, End, happens}
use Rattle.hda_world.specs.Tellings.{Telling, world_of, Accessed, Makes}
use Rattle.period_writer.specs.Runs.{Tally}
use Rattle.period_writer.specs.Standing.{Ring}
use Rattle.period_writer.specs.Writers.{tally_of, ring_of}
use Rattle.driver_progress.specs.Shutting.{shut_accesses}
use Rattle.driver_progress.specs.Tasks.{Task, DriverLine}
use Rattle.driver_bring_up.specs.Commanding.{answer_in, entries_in}
use Rattle.driver_bring_up.specs.declared.jacks.Jacks.{Jacks}
use Rattle.driver_bring_up.proofs.Callers.{answer_none}
use Rattle.driver_rules.proofs.Callers.{plain_noted}
use Rattle.audio_driver.specs.States.{is_open}
use Rattle.laws_driver.specs.Keeping.{WasNeverHeard}
use Rattle.laws_stream.specs.Resting.{Rests, LeavesRest}
use Rattle.laws_stream.specs.Lives.{Along, IsStopped}
use Rattle.laws_stream.specs.Going.{StreamGoes, is_left_open}
use Rattle.laws_stream.specs.Signalled.{HearBySignals}
use Rattle.laws_stream.proofs.Callers.{Along-append, Along-end}
use Rattle.jack_switch.specs.SwitchRules.{SwitchState, switch_rules}
use Rattle.jack_switch.specs.JackDrivers.{JackDriverState}
use Rattle.jack_switch.specs.JackCalls.{EndsSwitching, ShutsAlone}
use Rattle.laws_switching.specs.Speakers.{is_switched}
use Rattle.laws_switching.specs.Senses.{IsBesideSenses}
use Rattle.laws_switching.specs.Turned.{outputs}
use Rattle.laws_switching.specs.Switching.{HasNotPlayed, StreamSwitches, WasHeardSwitched, SwitchHasGone}
use Rattle.laws_switching.proofs.Taken.{none_more, IsRunning, Takes, takes_weak}
use Rattle.laws_switching.proofs.Core.{Hears, beside_hears, fresh_goes}
use Rattle.laws_switching.proofs.Opened.{IsOpened, Rulings}
use Rattle.laws_switching.proofs.Given.{Given}
use Rattle.laws_switching.proofs.LastShut.{IsShut, shut_takes, shut_plain, shut_rests, shut_senses}
use Rattle.laws_switching.proofs.LastClosing.{OverLaws, Switched, IsOver, shut_events, shut_went, shut_events_all, shut_on, over_switched, over_was}
use Rattle.laws_switching.proofs.LastStretch.{last_over}

-- what is heard of a stream that was over, as it is handed in
abbrev pub OverHeard : Type 0
OverHeard = (given_up : Bool) (ring : Ring) (pcm : List ℕ) (tally : Tally) (telling : Telling) → is_left_open given_up tally.course.ran ≡ false → StreamGoes given_up ring pcm tally telling
    → HearBySignals given_up ring.geometry.format pcm tally (world_of telling).carried

-- a stream that was set going, and does not play or was given up, is over
still_over : (started first : Bool) (gave : Option ℕ) → started ≡ true → ((started && first) ≡ false) ⊎ ((first && is_none gave) ≡ false) → (not (is_some gave) && first) ≡ false
still_over true true None is (inl not_playing) = absurd (false≢true (sym not_playing))
still_over true true None is (inr off) = absurd (false≢true (sym off))
still_over true true (Some noticed) is still = refl
still_over true false None is still = refl
still_over true false (Some noticed) is still = refl
still_over false first gave is still = absurd (false≢true is)

along_rests : (fifo : ℕ) (events : List Event) (world : World) → Along (Rests fifo) events world → Along IsStopped events world
along_rests fifo [] world rests = record { stopped = rests.output_stopped; no_error = rests.no_error }
along_rests fifo (event ∷ events) world rests = (record { stopped = rests.0.output_stopped; no_error = rests.0.no_error }, along_rests fifo events (happens world event) rests.1)

module _ (format : Format) (graphs : List RawCodec) (plans : List Plan) (task : Task) (given : Given format graphs plans task) (lines : List DriverLine) (supply : List ℕ) (start : List CodecState) (tf : ℕ) (old : JackDriverState)
    (ended : SwitchState) (jacks : Jacks) (begun made after : Telling) (call : EndsSwitching old ended jacks supply (Some begun) (Some made)) (ends : Accessed made after End)
    (opened : IsOpened format graphs plans task given lines [] None supply start tf old begun) (alone : ShutsAlone old ended jacks call.made) where
  shuts : Makes shut_accesses begun made
  shuts = subst (λ (events : List Event). Makes events begun made) alone.made_is call.by.is

  unanswered : (Rulings format graphs plans task given lines made).answered ≡ is_some (answer_in old.engine.rings call.made)
  unanswered =
      (plain_noted (switch_rules task graphs plans) task lines shut_accesses begun made shuts shut_plain).answered_is ∙ opened.unanswered
      ∙ sym (ap (λ (answer : Option ℕ). is_some answer) (answer_none old.engine.rings call.made (ap entries_in alone.made_is)))

  hears : Hears format graphs plans task given lines old after
  hears =
      let corb = old.engine.corb.address in
      let rirb = old.engine.rirb.address in
      beside_hears format graphs plans task given lines old (shut_events begun made after shuts ends) begun after (shut_went begun made after shuts ends)
      (shut_events_all (IsBesideSenses corb rirb) (λ step. tt {0}) (tt {0}) (shut_senses corb rirb) begun made after shuts ends) opened.hears

  switched : Switched format graphs plans task given lines start tf begun
  switched = record { by = opened.core.by; switching = opened.core.switching; set_up = opened.core.set_up }

  -- ---- a stream that was never set going

  rests_along : (fifo : ℕ) (events : List Event) (world : World) → All LeavesRest events → Rests fifo world → Along (Rests fifo) events world
  rests_along fifo [] world all rests = rests
  rests_along fifo (event ∷ events) world all rests = (
    rests,
    rests_along fifo events (happens world event) (All-tail LeavesRest event events all)
        (given.rest_events fifo (event ∷ []) world (All-cons LeavesRest event [] (All-head LeavesRest event events all) (All-nil LeavesRest)) rests),
  )

  never_heard : HasNotPlayed old begun → WasNeverHeard after
  never_heard has =
      let fifo = old.writer.geometry.fifo in
      let events = shut_events begun made after shuts ends in
      let went = shut_went begun made after shuts ends in
      let rests : Along (Rests fifo) after.journal after.start =
      subst (λ (start : World). Along (Rests fifo) after.journal start) (sym went.start)
      (subst (λ (journal : List Event). Along (Rests fifo) journal begun.start) (sym went.journal)
      (Along-append (Rests fifo) begun.journal events begun.start has.rests
      (rests_along fifo events (world_of begun) (shut_events_all LeavesRest (λ step. tt {0}) (tt {0}) shut_rests begun made after shuts ends) (Along-end (Rests fifo) begun.journal begun.start has.rests)))) in record {
        stopped = along_rests fifo after.journal after.start rests;
        none = (Along-end (Rests fifo) after.journal after.start rests).none_carried;
      }

  never_switched : HasNotPlayed old begun → Switched format graphs plans task given lines start tf after
  never_switched has =
      let core = opened.core in
      let rings = old.engine.rings in
      let corb = old.engine.corb.address in
      let rirb = old.engine.rirb.address in
      let shut : IsShut opened.from opened.read corb rirb rings (world_of begun) (world_of after) = shut_takes opened.from opened.read corb rirb rings begun made after shuts ends core.stands in
      let same : (world_of after).commands ≡ (world_of begun).commands =
      shut.same ∙ none_more opened.from opened.read corb rirb rings (world_of begun) shut.last core.stands shut.stands has.idle shut.grown in
      let ran : Takes true tf (world_of after) =
      subst (λ (commands : List TakenCommand). All IsRunning (drop tf commands)) (sym same) (core.taken (fresh_goes format graphs plans task given lines old begun has)) in
      shut_on format graphs plans task given lines start tf opened.from opened.read corb rirb rings begun made after shuts ends core.stands core.sends (takes_weak true tf (world_of after) ran) switched

  -- ---- one that was over

  over_there : StreamGoes (is_some old.given_up) (ring_of old.writer) task.pcm (tally_of old.writer) begun
      → IsOver format graphs plans task given lines start tf (is_some old.given_up) (ring_of old.writer) (tally_of old.writer) opened.from opened.read old.engine.corb.address old.engine.rirb.address old.engine.rings begun
  over_there goes = record {
    switched = switched;
    stands = opened.core.stands;
    sends = opened.core.sends;
    over = still_over old.writer.course.started (is_open old.writer.course.ran) old.given_up goes.started alone.still;
    goes = goes;
  }

  -- ---- both

  pub alone_gone : OverLaws → OverHeard → (last : List Event) → task.geometry.format ≡ format → SwitchHasGone format graphs plans task lines old.sent ended last after
  alone_gone laws heard last is_format = by opened.core.stream
    where
      same_format : (ring_of old.writer).geometry.format ≡ format
      same_format = sym (ap (λ geometry. geometry.format) opened.of.task_is.geometry) ∙ is_format

      by : StreamSwitches task old begun → SwitchHasGone format graphs plans task lines old.sent ended last after
      by (inl has) =
          last_over format graphs plans task given lines supply start tf old ended jacks begun made after call ends opened unanswered last (never_switched has).set_up hears.decided
          (inl (ap (λ (state : SwitchState). state.tally) alone.state ∙ has.fresh, never_heard has))
      by (inr goes) =
          let is = over_there goes in
          let rings = old.engine.rings in
          let corb = old.engine.corb.address in
          let rirb = old.engine.rirb.address in
          let there = over_switched format graphs plans task given lines start tf laws (is_some old.given_up) (ring_of old.writer) (tally_of old.writer) opened.from opened.read corb rirb rings begun made after shuts ends is in
          last_over format graphs plans task given lines supply start tf old ended jacks begun made after call ends opened unanswered last there.set_up hears.decided
          (inr (subst (λ (state : SwitchState). WasHeardSwitched (outputs format) graphs (is_switched graphs plans) format task.pcm (is_some state.given_up) state.tally last after) (sym alone.state)
          (over_was format graphs plans task given lines start tf laws (is_some old.given_up) (ring_of old.writer) (tally_of old.writer) opened.from opened.read corb rirb rings begun made after shuts ends is
          (is_some old.given_up) last same_format (λ steps. heard (is_some old.given_up) (ring_of old.writer) task.pcm (tally_of old.writer) begun is.over goes))))
