-- A driver that played no sound yet: steps of the device, and calls that play none.
use Rattle.std.proofs.Common.{◌≡◌, ℕ, false, List, ◌∷◌, map, Some, sym, ap, subst, ◌∙◌}
use Rattle.verb_codes.specs.declared.verbs.Command.{Command}
use Rattle.codec_graph.specs.declared.raw.RawCodec.{RawCodec}
use Rattle.codec_graph.specs.Settings.{Entries}
use Rattle.route_planner.specs.declared.routes.Plan.{Plan}
use Rattle.route_setup.specs.Means.{Means}
use Rattle.world_steps.specs.declared.Step.{Step}
use Rattle.hda_world.specs.Events.{Stepped, Begin, End}
use Rattle.hda_world.specs.Tellings.{Telling, Went, Accessed}
use Rattle.period_writer.specs.Standing.{Ring}
use Rattle.period_writer.specs.Writers.{WriterState, tally_of, ring_of}
use Rattle.driver_progress.specs.Tasks.{Task, DriverLine}
use Rattle.driver_bring_up.specs.Calls as bringing
use Rattle.audio_driver.specs.States.{plays_now, IsTaskOf}
use Rattle.laws_stream.specs.Resting.{Rests, AreApartFrom}
use Rattle.laws_stream.specs.Lives.{Along}
use Rattle.laws_driver.specs.Sounding.{Parts, ring_in, IsYetSilent}
use Rattle.laws_driver.specs.Keeping.{IsSilent, Calls}
use Rattle.laws_driver.proofs.Given.{Given}
use Rattle.laws_driver.proofs.States.{plays_not, call_silent}
use Rattle.laws_driver.proofs.Rest.{steps_rest, begin_rest, end_rest, row_rest}
use Rattle.laws_driver.proofs.Bringing.{made_rest, leads_accesses}

-- the task of a driver whose bring-up was led on
task_kept : (task : Task) (old new : Parts) → bringing.IsKept old.bring_up new.bring_up → new.writer ≡ old.writer → new.supply ≡ old.supply → IsTaskOf old.bring_up old.writer old.supply task → IsTaskOf new.bring_up new.writer new.supply task
task_kept task old new kept writer supply is =
    subst (λ (supply : List ℕ). IsTaskOf new.bring_up new.writer supply task) (sym supply)
    (subst (λ (writer : WriterState). IsTaskOf new.bring_up writer old.supply task) (sym writer) (record {
      rings = record { corb = is.rings.corb ∙ sym (ap (λ corb. corb.address) kept.corb); rirb = is.rings.rirb ∙ sym (ap (λ rirb. rirb.address) kept.rirb) };
      geometry = is.geometry;
      list = is.list;
      periods = is.periods;
      sound = is.sound;
      plays = is.plays;
    }))

-- it stays silent where its writer stays, and streams rested until then
pub silent_on : (task : Task) (old new : Parts) (before after : Telling) → bringing.IsKept old.bring_up new.bring_up → new.writer ≡ old.writer → new.supply ≡ old.supply → Along (Rests old.writer.geometry.fifo) after.journal after.start
    → IsYetSilent task old before → IsYetSilent task new after
silent_on task old new before after kept writer supply rests silent = record {
  task_is = λ plays. task_kept task old new kept writer supply (silent.task_is plays);
  fresh = ap tally_of writer ∙ silent.fresh;
  apart = subst (λ (rirb : ℕ). AreApartFrom (ring_in new) rirb) (sym (ap (λ rirb. rirb.address) kept.rirb))
      (subst (λ (ring : Ring). AreApartFrom ring old.bring_up.engine.rirb.address) (sym (ap ring_of writer)) silent.apart);
  rests = subst (λ (writer : WriterState). Along (Rests writer.geometry.fifo) after.journal after.start) (sym writer) rests;
}

module _ (means : Means) (verbs : RawCodec → List Command) (graphs : List RawCodec) (task : Task)
    (laws : Given means verbs graphs task) (lines : List DriverLine) where
  abbrev pub Silent : (left : List DriverLine) → Parts → Telling → Type 0
  Silent left parts telling = IsSilent means verbs graphs task lines left parts telling

  pub silent_steps : (left : List DriverLine) (parts : Parts) (steps : List Step) (old new : Telling) → Went old new (map Stepped steps) → Silent left parts old → Silent left parts new
  silent_steps left parts steps old new went before = record {
    under_way = laws.told.steps lines left parts.bring_up steps old new went before.under_way;
    silent = record {
      task_is = before.silent.task_is;
      fresh = before.silent.fresh;
      apart = before.silent.apart;
      rests = steps_rest laws.events parts.writer.geometry.fifo steps old new went before.silent.rests;
    };
  }

  -- a call of the bring-up
  pub silent_call : (left : List DriverLine) (line : DriverLine) (old new : Parts) (before begun made after : Telling) → Accessed before begun Begin → Calls means task.plays line.irq line.budget old new (Some begun) (Some made)
      → Accessed made after End → plays_now task.plays old.bring_up ≡ false → Silent (line ∷ left) old before → Silent left new after
  silent_call left line old new before begun made after begins calls ends none is =
      let fifo = old.writer.geometry.fifo in
      let called = laws.told.opens lines (line ∷ left) old.bring_up before begun begins is.under_way in
      let leads = calls.leads none in
      let has = laws.told.calls lines left line.budget line.irq old.bring_up new.bring_up begun made called (plays_not task.plays old.bring_up none) leads calls.kept in
      let are = leads_accesses means verbs graphs task laws.agenda laws.of laws.setter laws.notes lines line.irq old.bring_up new.bring_up begun made called.stands leads in
      let still = made_rest laws.stretches task lines left (Some line) (bringing.state_of old.bring_up) leads.made begun made called.opened leads.by.is are (call_silent task line old.bring_up none) has.done.fits in
      let rests = end_rest laws.events fifo made after ends (row_rest laws.events fifo leads.made begun made leads.by.is still (begin_rest laws.events fifo before begun begins is.silent.rests)) in record {
        under_way = laws.told.closes lines left new.bring_up made after ends has;
        silent = silent_on task old new before after calls.kept (calls.writer none) (calls.supply none) rests is.silent;
      }
