-- Once codecs are set up they stay so at every moment, over accesses that submit no command.
use Rattle.std.proofs.Common.{◌≡◌, true, List, [], ◌∷◌, map, sym, subst, ◌∙◌}
use Rattle.codec_graph.specs.declared.raw.RawCodec.{RawCodec}
use Rattle.route_setup.specs.Means.{Means}
use Rattle.world_steps.specs.declared.Step.{Step}
use Rattle.hda_world.specs.Worlds.{World}
use Rattle.hda_world.specs.Steps.{after_steps}
use Rattle.hda_world.specs.Events.{Event, Stepped, Begin, End, Read, Write, DmaRead, DmaWrite, happens, after}
use Rattle.hda_world.specs.Tellings.{Telling, world_of, Went, Accessed, MakesBy}
use Rattle.hda_world.proofs.Callers.{world_of-went, steps_after}
use Rattle.driver_progress.specs.Requests.{requests_in, requests_of}
use Rattle.driver_progress.specs.Tasks.{Task, DriverLine}
use Rattle.driver_progress.specs.Progress.{Trail, trail_of, trail_after, trail_opened, noted}
use Rattle.laws_bring_up.specs.SettingUp.{are_answered, Always, SetUpAt, StaysSetUp, AreSetUpForGood, IsIdle}
use Rattle.laws_bring_up.proofs.Callers.{world_after, access_always, steps_always, steps_for_good, write_for_good, AreCalm, calm_front, calm_back}

always_end : (Holds : World → Trail → Type 0) (task : Task) (events : List Event) (world : World) (trail : Trail) → Always Holds task events world trail → Holds (after events world) (trail_after task events world trail)
always_end Holds task [] world trail all = all
always_end Holds task (event ∷ events) world trail all = always_end Holds task events (happens world event) (noted task trail world event) all.1

module _ (means : Means) (graphs : List RawCodec) (task : Task) (lines : List DriverLine) where
  -- at every moment until now, and from now on
  pub record StayGood (telling : Telling) : Type 0 where
    pub set_up : StaysSetUp means graphs task lines telling
    pub good : AreSetUpForGood means graphs (world_of telling)

  -- where the phase says that they are, and no command is under way
  pub good_now : (telling : Telling) → StaysSetUp means graphs task lines telling → are_answered task (trail_of task lines telling) ≡ true → IsIdle (world_of telling) → StayGood telling
  good_now telling set_up answered idle = record {
    set_up = set_up;
    good = record {
      idle = idle;
      set_up = always_end (SetUpAt means graphs task) task telling.journal telling.start (trail_opened lines) set_up answered;
    };
  }

  access_good : (event : Event) (old new : Telling) → Accessed old new event → ((world : World) → AreSetUpForGood means graphs world → AreSetUpForGood means graphs (happens world event)) → StayGood old → StayGood new
  access_good event old new accessed leads before =
      let each : (done : List Step) → AreSetUpForGood means graphs (after_steps done (world_of old)) = λ done. steps_for_good means graphs done (world_of old) before.good in
      let last = leads (after_steps accessed.steps (world_of old)) (each accessed.steps) in record {
        set_up = access_always (SetUpAt means graphs task) task lines event old new accessed (λ done answered. (each done).set_up) (λ answered. last.set_up) before.set_up;
        good = subst (AreSetUpForGood means graphs) (sym (world_after event old new accessed)) last;
      }

  pub begin_good : (old new : Telling) → Accessed old new Begin → StayGood old → StayGood new
  begin_good old new accessed before = access_good Begin old new accessed (λ world good. good) before

  pub end_good : (old new : Telling) → Accessed old new End → StayGood old → StayGood new
  end_good old new accessed before = access_good End old new accessed (λ world good. good) before

  pub steps_good : (steps : List Step) (old new : Telling) → Went old new (map Stepped steps) → StayGood old → StayGood new
  steps_good steps old new went before =
      let each : (done : List Step) → AreSetUpForGood means graphs (after_steps done (world_of old)) = λ done. steps_for_good means graphs done (world_of old) before.good in record {
        set_up = steps_always (SetUpAt means graphs task) task lines steps old new went (λ done answered. (each done).set_up) before.set_up;
        good = subst (AreSetUpForGood means graphs) (sym (world_of-went old new (map Stepped steps) went ∙ steps_after steps (world_of old))) (each steps);
      }

  event_good : (event : Event) (world : World) → AreCalm (requests_in event) → AreSetUpForGood means graphs world → AreSetUpForGood means graphs (happens world event)
  event_good (Stepped step) world calm good = steps_for_good means graphs (step ∷ []) world good
  event_good Begin world calm good = good
  event_good End world calm good = good
  event_good (Read at width value) world calm good = good
  event_good (Write at width value) world calm good = write_for_good means graphs world at width value calm.0 good
  event_good (DmaRead at bytes) world calm good = good
  event_good (DmaWrite at bytes) world calm good = record { idle = good.idle; set_up = good.set_up }

  pub row_good : (made : List Event) (old new : Telling) → MakesBy made old new → AreCalm (requests_of made) → StayGood old → StayGood new
  row_good [] old new makes calm before = subst StayGood (sym makes) before
  row_good (event ∷ made) old new makes calm before =
      row_good made makes.0 new makes.2 (calm_back (requests_in event) (requests_of made) calm)
      (access_good event old makes.0 makes.1 (λ world good. event_good event world (calm_front (requests_in event) (requests_of made) calm) good) before)
