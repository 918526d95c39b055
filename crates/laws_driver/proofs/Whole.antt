-- All that is told of a driver that may play.
use Rattle.std.proofs.Common.{◌≡◌, inl, inr, Bool, true, false, List, [], ◌∷◌, map, Some, refl, sym, subst}
use Rattle.verb_codes.specs.declared.verbs.Command.{Command}
use Rattle.codec_graph.specs.declared.raw.RawCodec.{RawCodec}
use Rattle.codec_graph.specs.Settings.{Entries}
use Rattle.route_planner.specs.declared.routes.Plan.{Plan}
use Rattle.route_setup.specs.Means.{Means}
use Rattle.world_steps.specs.declared.Step.{Step}
use Rattle.hda_world.specs.Worlds.{World}
use Rattle.hda_world.specs.Events.{Event, Stepped, Begin, End, after}
use Rattle.hda_world.specs.Tellings.{Telling, world_of, Went, Accessed}
use Rattle.period_writer.specs.Runs.{Tally, tally_opened}
use Rattle.period_writer.specs.Outcomes.{HasNotWrapped}
use Rattle.driver_progress.specs.States.{state_opened}
use Rattle.driver_progress.specs.Tasks.{Task, DriverLine}
use Rattle.driver_bring_up.specs.declared.bringing.BringUp.{BringUp}
use Rattle.driver_bring_up.specs.Calls as bringing
use Rattle.laws_bring_up.specs.Standing.{IsBroughtUp}
use Rattle.audio_driver.specs.States.{plays_now, IsTaskOf}
use Rattle.laws_stream.specs.Resting.{Rests, AreApartFrom}
use Rattle.laws_stream.specs.Lives.{Along}
use Rattle.laws_driver.specs.Sounding.{Parts, ring_in, tally_in}
use Rattle.laws_driver.specs.Keeping.{DriverGoesOn, Calls, Closes, DriverHasGone, KeepsPlaying}
use Rattle.laws_driver.proofs.Given.{Given}
use Rattle.laws_driver.proofs.States.{plays_so, plays_then}
use Rattle.laws_driver.proofs.Silent.{silent_steps, silent_call}
use Rattle.laws_driver.proofs.First.{first_call}
use Rattle.laws_driver.proofs.Heard.{heard_steps, heard_call}
use Rattle.laws_driver.proofs.Ends.{silent_end, ready_end, heard_end}

module _ (means : Means) (verbs : RawCodec → List Command) (graphs : List RawCodec) (task : Task)
    (laws : Given means verbs graphs task) where
  abbrev UnderWay : (lines left : List DriverLine) → Parts → Telling → Type 0
  UnderWay lines left parts telling = DriverGoesOn means verbs graphs task lines left parts telling

  begins_told : (lines : List DriverLine) (parts : Parts) (telling : Telling) → telling.journal ≡ [] → bringing.state_of parts.bring_up ≡ state_opened → IsBroughtUp means verbs graphs task 0 parts.bring_up (world_of telling) → tally_in parts ≡ tally_opened
      → (task.plays ≡ true → IsTaskOf parts.bring_up parts.writer parts.supply task) → AreApartFrom (ring_in parts) parts.bring_up.engine.rirb.address → Rests parts.writer.geometry.fifo (world_of telling) → UnderWay lines lines parts telling
  begins_told lines parts telling none opened stands fresh task_is apart rests = inl (record {
    under_way = laws.told.begins lines parts.bring_up telling none opened stands;
    silent = record {
      task_is = task_is;
      fresh = fresh;
      apart = apart;
      rests = along_none (Rests parts.writer.geometry.fifo) telling none rests;
    };
  })
    where
      along_none : (Holds : World → Type 0) (telling : Telling) → telling.journal ≡ [] → Holds (world_of telling) → Along Holds telling.journal telling.start
      along_none Holds telling none holds =
          subst (λ (journal : List Event). Along Holds journal telling.start) (sym none) (subst (λ (journal : List Event). Holds (after journal telling.start)) none holds)

  steps_told : (lines left : List DriverLine) (parts : Parts) (steps : List Step) (old new : Telling) → Went old new (map Stepped steps) → UnderWay lines left parts old → UnderWay lines left parts new
  steps_told lines left parts steps old new went (inl silent) = inl (silent_steps means verbs graphs task laws lines left parts steps old new went silent)
  steps_told lines left parts steps old new went (inr heard) = inr (heard_steps means verbs graphs task laws lines left parts steps old new went heard)

  runs_told : (lines left : List DriverLine) (line : DriverLine) (old new : Parts) (before begun made after : Telling) → Accessed before begun Begin → Calls means task.plays line.irq line.budget old new (Some begun) (Some made)
      → Accessed made after End → HasNotWrapped (world_of made) → UnderWay lines (line ∷ left) old before → UnderWay lines left new after
  runs_told lines left line old new before begun made after begins calls ends small (inl silent) = by (plays_now task.plays old.bring_up) refl
    where
      by : (now : Bool) → plays_now task.plays old.bring_up ≡ now → UnderWay lines left new after
      by false none = inl (silent_call means verbs graphs task laws lines left line old new before begun made after begins calls ends none silent)
      by true now = first_call means verbs graphs task laws lines left line old new before begun made after begins calls ends small now silent
  runs_told lines left line old new before begun made after begins calls ends small (inr heard) = inr (heard_call means verbs graphs task laws lines left line old new before begun made after begins calls ends small heard)

  ends_told : (lines : List DriverLine) (old : Parts) (ended : BringUp) (tally : Tally) (last : List Event) (before begun made after : Telling) → Accessed before begun Begin → Closes means task.plays old ended tally (Some begun) (Some made)
      → Accessed made after End → Went before after last → Along HasNotWrapped last (world_of before) → UnderWay lines [] old before → DriverHasGone means graphs task lines ended tally last after
  ends_told lines old ended tally last before begun made after begins closing ends went small (inl silent) = by (plays_now task.plays old.bring_up) refl
    where
      by : (now : Bool) → plays_now task.plays old.bring_up ≡ now → DriverHasGone means graphs task lines ended tally last after
      by false none = silent_end means verbs graphs task laws lines old ended tally last before begun made after begins closing ends none silent
      by true now = ready_end means verbs graphs task laws lines old ended tally last before begun made after begins closing ends (silent.silent.task_is (plays_then task.plays old.bring_up now).0) now silent
  ends_told lines old ended tally last before begun made after begins closing ends went small (inr heard) =
      let sounds = heard.sounds in
      heard_end means verbs graphs task laws lines old ended tally last before begun made after begins closing ends sounds.task_is (plays_so task.plays old.bring_up sounds.task_is.plays sounds.ready) went small heard

  pub whole : KeepsPlaying means verbs graphs task
  whole = record { begins = begins_told; steps = steps_told; runs = runs_told; ends = ends_told }
