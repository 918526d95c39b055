-- The first calls that play: each finds no interrupt, or sets the stream going.
use Rattle.std.proofs.Common.{◌≡◌, ◌≤◌, inl, inr, ℕ, true, List, ◌∷◌, length, drop, Some, refl, sym, ap, subst, ◌∙◌}
use Rattle.std.proofs.lemmas.Bool.{false≢true}
use Rattle.std.specs.Option.{is_some}
use Rattle.verb_codes.specs.declared.verbs.Command.{Command}
use Rattle.codec_graph.specs.declared.raw.RawCodec.{RawCodec}
use Rattle.codec_graph.specs.Settings.{Entries}
use Rattle.route_planner.specs.declared.routes.Plan.{Plan}
use Rattle.route_setup.specs.Means.{Means}
use Rattle.hda_world.specs.Events.{Begin, End}
use Rattle.hda_world.specs.Tellings.{Telling, world_of, Accessed}
use Rattle.period_writer.specs.declared.course.Course.{Course}
use Rattle.period_writer.specs.Runs.{Tally, tally_opened}
use Rattle.period_writer.specs.Standing.{Ring}
use Rattle.period_writer.specs.Writers.{tally_of, ring_of}
use Rattle.period_writer.specs.Outcomes.{HasNotWrapped}
use Rattle.driver_progress.specs.declared.phase.Phase.TheVariants.{Ready}
use Rattle.driver_progress.specs.States.{State}
use Rattle.driver_progress.specs.Tasks.{Task, DriverLine, walks_over}
use Rattle.driver_progress.specs.Progress.{trail_of}
use Rattle.driver_progress.specs.Phases.{are_set_up}
use Rattle.driver_bring_up.specs.Commanding.{IsStretch, answer_in}
use Rattle.driver_agenda.specs.declared.agenda.Agenda.{Agenda}
use Rattle.driver_bring_up.specs.declared.bringing.BringUp.{BringUp}
use Rattle.driver_bring_up.specs.Calls as bringing
use Rattle.laws_bring_up.specs.Stretches.{IsOpen, IsDone}
use Rattle.laws_bring_up.specs.Standing.{IsBroughtUp}
use Rattle.laws_bring_up.specs.Keeping as told
use Rattle.laws_bring_up.proofs.Callers.{closes}
use Rattle.audio_driver.specs.States.{plays_now, was_late, IsTaskOf}
use Rattle.audio_driver.specs.Sounding as sounding
use Rattle.laws_stream.specs.Resting.{Rests, LeavesRest, AreApartFrom}
use Rattle.laws_stream.specs.Lives.{HasNotBegun, Along}
use Rattle.laws_stream.proofs.Callers.{Along-end}
use Rattle.laws_driver.specs.Sounding.{Parts, state_in, ring_in, tally_in}
use Rattle.laws_driver.specs.Keeping.{IsSilent, IsHeard, DriverGoesOn, Calls}
use Rattle.laws_driver.proofs.Given.{Given}
use Rattle.laws_driver.proofs.States.{silent_state, plays_then, task_on}
use Rattle.laws_driver.proofs.Rest.{along_weaker, rests_unbegun, begin_rest, end_rest, row_rest}
use Rattle.laws_driver.proofs.Ready.{IsReady, ready_stands}
use Rattle.laws_driver.proofs.Still.{look_all, still_stands}
use Rattle.laws_driver.proofs.Good.{end_good}
use Rattle.laws_driver.proofs.Playing.{Played, plays}

module _ (means : Means) (verbs : RawCodec → List Command) (graphs : List RawCodec) (task : Task)
    (laws : Given means verbs graphs task) (lines left : List DriverLine) (line : DriverLine) (old new : Parts) (before begun made after : Telling) (begins : Accessed before begun Begin)
    (calls : Calls means task.plays line.irq line.budget old new (Some begun) (Some made)) (ends : Accessed made after End) (small : HasNotWrapped (world_of made)) (now : plays_now task.plays old.bring_up ≡ true)
    (is : IsSilent means verbs graphs task lines (line ∷ left) old before) where
  was_ready : old.bring_up.phase ≡ Ready
  was_ready = (plays_then task.plays old.bring_up now).1

  task_is : IsTaskOf old.bring_up old.writer old.supply task
  task_is = is.silent.task_is (plays_then task.plays old.bring_up now).0

  called : told.IsCalled means verbs graphs task lines left (Some line) old.bring_up begun
  called = laws.told.opens lines (line ∷ left) old.bring_up before begun begins is.under_way

  ready : IsReady means verbs graphs task laws.agenda laws.of laws.setter old.bring_up (world_of begun)
  ready = ready_stands means verbs graphs task laws.agenda laws.of laws.setter (trail_of task lines begun).written old.bring_up (world_of begun) was_ready called.stands

  call : sounding.PlaysSound line.irq line.budget old.bring_up new.bring_up old.writer new.writer old.supply new.supply (Some begun) (Some made)
  call = calls.sounds now

  stretch : IsStretch task (state_in old) (Some line) call.made (is_some (answer_in old.bring_up.engine.rings call.made)) (state_in new)
  stretch = call.is task task_is

  state_is : state_in old ≡ bringing.state_of old.bring_up
  state_is = silent_state old.bring_up old.writer is.silent.fresh

  opened : IsOpen task lines left (Some line) (state_in old) begun
  opened = subst (λ (state : State). IsOpen task lines left (Some line) state begun) (sym state_is) called.opened

  up : are_set_up (state_in old).phase ≡ true
  up = ap (λ (state : State). are_set_up state.phase) state_is ∙ ap are_set_up was_ready

  played : Played means graphs task lines left (Some line) (state_in new) made
  played =
      plays means graphs task lines left (Some line) (state_in old) (state_in new) call.made begun made opened (record { set_up = called.set_up; good = ready.good }) ready.answered up call.by.is call.are stretch

  begun_rests : Along (Rests old.writer.geometry.fifo) begun.journal begun.start
  begun_rests = begin_rest laws.events old.writer.geometry.fifo before begun begins is.silent.rests

  task_then : IsTaskOf new.bring_up new.writer new.supply task
  task_then = task_on task line.irq line.budget old.bring_up new.bring_up old.writer new.writer old.supply new.supply (Some begun) (Some made) call task_is

  -- ---- no run came

  module _ (still : sounding.IsStill line.irq old.bring_up new.bring_up old.writer new.writer call.made) where
    still_fresh : tally_in new ≡ tally_opened
    still_fresh = ap tally_of still.writer_is ∙ is.silent.fresh

    has_made : told.HasMade means verbs graphs task lines left new.bring_up made
    has_made =
        let stands = still_stands means verbs graphs task laws.agenda laws.of laws.notes lines old.bring_up call.made begun made was_ready still.looks call.by.is called.stands in record {
          done = subst (λ (state : State). IsDone task lines left state made) (silent_state new.bring_up new.writer still_fresh) played.done;
          stands = subst (λ (bring_up : BringUp). IsBroughtUp means verbs graphs task (trail_of task lines made).written bring_up (world_of made)) (sym still.bring_up) stands;
          set_up = played.good.set_up;
          remains = record { before = λ answered. played.good.good; after = λ up. played.good.good };
        }

    still_rests : Along (Rests old.writer.geometry.fifo) after.journal after.start
    still_rests =
        end_rest laws.events old.writer.geometry.fifo made after ends
        (row_rest laws.events old.writer.geometry.fifo call.made begun made call.by.is (look_all LeavesRest (λ at value width. tt {0}) (λ value. inr (inl (inr refl, refl))) call.made still.looks) begun_rests)

    still_silent : IsSilent means verbs graphs task lines left new after
    still_silent = record {
      under_way = laws.told.closes lines left new.bring_up made after ends has_made;
      silent = record {
        task_is = λ plays. task_then;
        fresh = still_fresh;
        apart = subst (λ (bring_up : BringUp). AreApartFrom (ring_in new) bring_up.engine.rirb.address) (sym still.bring_up)
            (subst (λ (ring : Ring). AreApartFrom ring old.bring_up.engine.rirb.address) (sym (ap ring_of still.writer_is)) is.silent.apart);
        rests = subst (λ (fifo : ℕ). Along (Rests fifo) after.journal after.start) (sym (ap (λ geometry. geometry.fifo) call.stays.geometry)) still_rests;
      };
    }

  -- ---- or the first

  course_is : old.writer.course ≡ tally_opened.course
  course_is = ap (λ (tally : Tally). tally.course) is.silent.fresh

  all_left : old.supply ≡ task.pcm
  all_left = task_is.sound (ap (λ (course : Course). was_late course.ran) course_is) ∙ ap (λ (course : Course). drop course.used task.pcm) course_is

  begun_heard : sounding.Begins line.irq line.budget old.bring_up new.bring_up old.writer new.writer old.supply call.made begun made → IsHeard means graphs task lines left new after
  begun_heard first =
      let fifo = old.writer.geometry.fifo in
      let by = laws.heard.first task.pcm line.irq line.budget old.bring_up new.bring_up old.writer new.writer old.supply call.made begun made ready.from ready.read old.bring_up.engine.corb.address old.bring_up.engine.rirb.address
      first call.stays all_left (along_weaker (Rests fifo) HasNotBegun (rests_unbegun fifo) begun.journal begun.start begun_rests) (Along-end (Rests fifo) begun.journal begun.start begun_rests) ready.stands ready.good.idle is.silent.apart small in record {
        rest = closes task lines left (state_in new) made after ends played.done;
        set_up = (end_good means graphs task lines made after ends played.good).set_up;
        sounds = record {
          task_is = task_then;
          ready = call.stays.phase ∙ was_ready;
          walked = ap (λ (agenda : Agenda). agenda.graphs.items) call.stays.agenda ∙ ready.walked;
          answered = ap (λ (bring_up : BringUp). bring_up.engine.rings.outstanding) first.bring_up ∙ ready.answered;
          enough = subst (λ (sent : ℕ). length (walks_over graphs) ≤ sent) (sym call.stays.sent) ready.enough;
          codecs = (world_of begun).codecs;
          set_up = ready.good.set_up;
          by = laws.heard.end (world_of begun).codecs (ring_in new) task.pcm (tally_in new) made after ends by;
        };
      }

  by_tells : sounding.SoundTells line.irq line.budget old.bring_up new.bring_up old.writer new.writer old.supply call.made begun made → DriverGoesOn means verbs graphs task lines left new after
  by_tells (inl still) = inl (still_silent still)
  by_tells (inr (inl first)) = inr (begun_heard first)
  by_tells (inr (inr goes)) = absurd (false≢true (sym (ap (λ (course : Course). course.started) course_is) ∙ goes.started))

  pub first_call : DriverGoesOn means verbs graphs task lines left new after
  first_call = by_tells call.tells.is
