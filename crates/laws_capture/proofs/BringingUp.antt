-- A driver that captures brings its codecs up: its rules wait, and no block comes.
use Rattle.std.proofs.Common.{◌≡◌, inl, inr, ℕ, Bool, false, List, [], ◌∷◌, map, None, Some, refl, sym, ap, subst, ◌∙◌}
use Rattle.std.proofs.lemmas.Bool.{false≢true}
use Rattle.verb_codes.specs.declared.verbs.Command.{Command}
use Rattle.codec_graph.specs.declared.raw.RawCodec.{RawCodec}
use Rattle.route_setup.specs.Means.{Means}
use Rattle.world_steps.specs.declared.Step.{Step}
use Rattle.hda_world.specs.Events.{Event, Stepped, Begin, End}
use Rattle.hda_world.specs.Tellings.{Telling, world_of, Went, Accessed}
use Rattle.hda_world.proofs.Callers.{grew_both, grew_access, grew_row}
use Rattle.period_writer.specs.Runs.{Tally, tally_opened}
use Rattle.period_writer.specs.Outcomes.{HasNotWrapped}
use Rattle.driver_progress.specs.Phases.{is_ready}
use Rattle.driver_progress.specs.Tasks.{Task, DriverLine}
use Rattle.driver_progress.specs.States.{state_opened}
use Rattle.driver_progress.specs.Progress.{trail_of}
use Rattle.driver_bring_up.specs.declared.bringing.BringUp.{BringUp}
use Rattle.driver_bring_up.specs.Calls as bringing
use Rattle.driver_rules.specs.Onward.{onward_opened, onward_after}
use Rattle.driver_rules.proofs.Callers.{waits_steps, progress_waits}
use Rattle.laws_bring_up.specs.Standing.{IsBroughtUp}
use Rattle.laws_bring_up.specs.Keeping as told
use Rattle.laws_stream.specs.Resting.{Rests, AreApartFrom}
use Rattle.laws_stream.proofs.Callers.{Along-end}
use Rattle.laws_driver.specs.Sounding.{Parts, ring_in, tally_in}
use Rattle.laws_driver.specs.Keeping.{IsSilent, DriverGoesOn, Calls, Closes}
use Rattle.recording_driver.specs.RecordRules.{record_rules}
use Rattle.laws_capture.specs.Capturing.{IsComing, HasNotRecorded}
use Rattle.laws_capture.proofs.BringUps.{leads_accesses, ends_accesses, end_silent, made_rest}
use Rattle.laws_capture.proofs.RulesWait.{unready, unlined, stretch_waits}
use Rattle.laws_capture.proofs.NoneCame.{IsQuiet, steps_quiet, mark_quiet, row_quiet, grew_none}
use Rattle.laws_capture.proofs.Given.{Given}

module _ (means : Means) (verbs : RawCodec → List Command) (graphs : List RawCodec) (task : Task) (total nid : ℕ)
    (laws : Given means verbs graphs task nid) (lines : List DriverLine) where
  abbrev Coming : (left : List DriverLine) → Parts → Telling → Type 0
  Coming left parts telling = IsComing means verbs graphs task total lines left parts telling

  -- it plays nothing
  pub silent_of : (left : List DriverLine) (parts : Parts) (telling : Telling) → DriverGoesOn means verbs graphs task lines left parts telling → IsSilent means verbs graphs task lines left parts telling
  silent_of left parts telling (inl silent) = silent
  silent_of left parts telling (inr heard) = absurd (false≢true (sym laws.silent ∙ heard.sounds.task_is.plays))

  -- so streams rest
  pub quiet_of : (left : List DriverLine) (parts : Parts) (telling : Telling) → Coming left parts telling → IsQuiet parts.writer.geometry.fifo (world_of telling)
  quiet_of left parts telling coming = record {
    rests = Along-end (Rests parts.writer.geometry.fifo) telling.journal telling.start (silent_of left parts telling coming.under_way).silent.rests;
    none_came = coming.none_came;
  }

  pub coming_begins : (parts : Parts) (telling : Telling) → telling.journal ≡ [] → bringing.state_of parts.bring_up ≡ state_opened → IsBroughtUp means verbs graphs task 0 parts.bring_up (world_of telling) → tally_in parts ≡ tally_opened
      → AreApartFrom (ring_in parts) parts.bring_up.engine.rirb.address → Rests parts.writer.geometry.fifo (world_of telling) → (world_of telling).came ≡ [] → Coming lines parts telling
  coming_begins parts telling none opened stands fresh apart rests none_came = record {
    under_way = laws.driver.begins lines parts telling none opened stands fresh (λ plays. absurd (false≢true (sym laws.silent ∙ plays))) apart rests;
    waits = ap (λ (journal : List Event). (onward_after (record_rules task total) task journal telling.start (onward_opened lines)).later) none;
    none_came = none_came;
  }

  pub coming_steps : (left : List DriverLine) (parts : Parts) (steps : List Step) (old new : Telling) → Went old new (map Stepped steps) → Coming left parts old → Coming left parts new
  coming_steps left parts steps old new went coming = record {
    under_way = laws.driver.steps lines left parts steps old new went coming.under_way;
    waits = waits_steps (record_rules task total) task lines steps old new went coming.waits;
    none_came = (steps_quiet laws.came parts.writer.geometry.fifo steps old new went (quiet_of left parts old coming)).none_came;
  }

  -- ---- a call

  pub coming_call : (left : List DriverLine) (line : DriverLine) (old new : Parts) (before begun made after : Telling) → Accessed before begun Begin → is_ready old.bring_up.phase ≡ false
      → Calls means false line.irq line.budget old new (Some begun) (Some made) → Accessed made after End → HasNotWrapped (world_of made) → Coming (line ∷ left) old before → Coming left new after
  coming_call left line old new before begun made after begins not calls ends small coming =
      let was = silent_of (line ∷ left) old before coming.under_way in
      let called = laws.told.opens lines (line ∷ left) old.bring_up before begun begins was.under_way in
      let leads = calls.leads refl in
      let are = leads_accesses means verbs graphs task laws.agenda laws.of laws.setter laws.notes lines line.irq old.bring_up new.bring_up begun made called.stands leads in
      let under_way = laws.driver.runs lines left line old new before begun made after begins
      (subst (λ (plays : Bool). Calls means plays line.irq line.budget old new (Some begun) (Some made)) (sym laws.silent) calls) ends small coming.under_way in
      let grew = grew_both before begun after (grew_access before begun Begin begins) (grew_both begun made after (grew_row leads.by.is) (grew_access made after End ends)) in record {
        under_way = under_way;
        waits = stretch_waits (record_rules task total) task lines leads.made before begun made after begins leads.by.is are ends
            (unready (trail_of task lines before).state (bringing.state_of old.bring_up) (trail_of task lines before).left was.under_way.rest.state_is not) coming.waits;
        none_came = grew_none laws.came new.writer.geometry.fifo before after grew (silent_of left new after under_way).silent.rests coming.none_came;
      }

  -- ---- the closing stretch

  pub coming_shuts : (old : Parts) (ended : BringUp) (tally : Tally) (before begun made after : Telling) → Accessed before begun Begin → Closes means false old ended tally (Some begun) (Some made) → Accessed made after End
      → Coming [] old before → HasNotRecorded means graphs task total lines ended after
  coming_shuts old ended tally before begun made after begins closing ends coming =
      let was = silent_of [] old before coming.under_way in
      let fifo = old.writer.geometry.fifo in
      let call = closing.ends refl in
      let called : told.IsCalled means verbs graphs task lines [] None old.bring_up begun = laws.told.opens lines [] old.bring_up before begun begins was.under_way in
      let shut = laws.told.ends lines [] old.bring_up ended begun made called call in
      let gone = laws.told.over lines ended after (laws.told.ends_over lines [] ended made after ends shut) in
      let are = ends_accesses means verbs graphs task laws.agenda laws.of laws.setter laws.notes lines old.bring_up ended begun made called.stands call in
      let still = made_rest laws.stretches task lines [] None (bringing.state_of old.bring_up) call.made begun made called.opened call.by.is are (end_silent task old.bring_up.phase old.bring_up.early) shut.done.fits in
      let quiet = mark_quiet laws.came fifo End made after (tt {0}) ends
      (row_quiet laws.came fifo call.made begun made call.by.is still (mark_quiet laws.came fifo Begin before begun (tt {0}) begins (quiet_of [] old before coming))) in
      let waits = stretch_waits (record_rules task total) task lines call.made before begun made after begins call.by.is are ends
      (unlined (is_ready (trail_of task lines before).state.phase) (trail_of task lines before).left was.under_way.rest.left_is) coming.waits in
      let onward = progress_waits (record_rules task total) task lines after gone.progress waits in record {
        onward = onward.0;
        later_is = onward.1;
        finds = gone.finds;
        state_is = gone.state_is;
        ended_is = gone.ended;
        set_up = gone.set_up;
        none_came = quiet.none_came;
      }
