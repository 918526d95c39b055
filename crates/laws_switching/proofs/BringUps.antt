-- The events that a bring-up's calls make are accesses.
use Rattle.std.proofs.Common.{◌≡◌, ℕ, Bool, true, false, List, [], Some, refl, ◌⊎◌, inl, inr}
use Rattle.verb_codes.specs.declared.verbs.Command.{Command}
use Rattle.codec_graph.specs.declared.raw.RawCodec.{RawCodec}
use Rattle.route_setup.specs.Means.{Means}
use Rattle.hda_world.specs.Tellings.{Telling, world_of}
use Rattle.command_engine.specs.Polling.{rings_polled}
use Rattle.driver_progress.specs.Phases.{is_asking}
use Rattle.driver_progress.specs.Tasks.{Task, DriverLine}
use Rattle.driver_progress.specs.Progress.{trail_of}
use Rattle.driver_progress.specs.Shutting.{shut_accesses}
use Rattle.driver_progress.specs.Unread.{AreAccesses}
use Rattle.driver_progress.proofs.Callers.{asking_goes_on}
use Rattle.driver_bring_up.specs.Commanding.{submit_made}
use Rattle.driver_bring_up.specs.declared.bringing.BringUp.{BringUp}
use Rattle.driver_bring_up.specs.Calls.{Leads, Ends}
use Rattle.driver_bring_up.specs.Told.{LooksOn, IsStill}
use Rattle.laws_bring_up.specs.Standing.{IsTaskOfCodecs, IsBroughtUp}
use Rattle.laws_bring_up.proofs.Callers.{AgendaLaws, SetterLaws, Laws, asking_in, unread_accesses, looked_accesses, submit_are, shut_are}

-- ---- accesses

module _ (means : Means) (verbs : RawCodec → List Command) (graphs : List RawCodec) (task : Task)
    (laws : AgendaLaws means verbs graphs) (of : IsTaskOfCodecs means verbs graphs task) (setter : SetterLaws means) (notes : Laws) (lines : List DriverLine) where
  pub leads_accesses : (irq : Bool) (old new : BringUp) (before after : Telling) → IsBroughtUp means verbs graphs task (trail_of task lines before).written old (world_of before)
      → (leads : Leads means irq old new (Some before) (Some after)) → AreAccesses leads.made
  leads_accesses irq old new before after stands leads = by (is_asking old.phase) refl
    where
      looks : (from read : ℕ) → LooksOn irq old new leads.made from read before after ⊎ IsStill old new leads.made from read after → AreAccesses leads.made
      looks from read (inl on) =
          let rest = submit_made old.engine.corb.address (rings_polled old.engine.rings on.reads) on.order in
          looked_accesses old leads.made on.first on.clock on.reads rest from read before after on.looked (submit_are old.engine.corb.address (rings_polled old.engine.rings on.reads) on.order)
      looks from read (inr still) = unread_accesses leads.made still.unread

      by : (asks : Bool) → is_asking old.phase ≡ asks → AreAccesses leads.made
      by false not = unread_accesses leads.made (leads.unread not)
      by true asking =
          let a = asking_in means verbs graphs task laws of setter notes lines old.phase (trail_of task lines before).written old (world_of before) asking stands.stage in
          looks a.from a.read ((leads.stays (asking_goes_on old.phase asking)).is a.from a.read a.stands)

  pub ends_accesses : (old new : BringUp) (before after : Telling) → IsBroughtUp means verbs graphs task (trail_of task lines before).written old (world_of before)
      → (ends : Ends means old new (Some before) (Some after)) → AreAccesses ends.made
  ends_accesses old new before after stands ends = by (is_asking old.phase) refl
    where
      by : (asks : Bool) → is_asking old.phase ≡ asks → AreAccesses ends.made
      by false not = unread_accesses ends.made (ends.unread not)
      by true asking =
          let a = asking_in means verbs graphs task laws of setter notes lines old.phase (trail_of task lines before).written old (world_of before) asking stands.stage in
          let on = (ends.looks asking).is a.from a.read a.stands in
          looked_accesses old ends.made [] on.clock on.reads shut_accesses a.from a.read before after on.looked shut_are
