-- How a driver that records stands to the world is kept by steps of the device, marks and looks for interrupts.
use Rattle.std.proofs.Common.{◌≡◌, inl, inr, ◌++◌, ℕ, List, [], ◌∷◌, map, length, refl, sym, ap, subst, ◌∙◌, arith}
use Rattle.std.specs.Prelude.{All}
use Rattle.std.proofs.lemmas.List.Elements.{All-append, All-cons, All-head, All-nil, All-tail}
use Rattle.codec_graph.specs.declared.raw.RawCodec.{RawCodec}
use Rattle.hda_registers.specs.declared.shapes.Width.{Width}
use Rattle.hda_registers.specs.declared.shapes.Width.TheVariants.{One}
use Rattle.world_steps.specs.declared.Step.{Step}
use Rattle.hda_world.specs.Worlds.{World}
use Rattle.hda_world.specs.Events.{Event, Stepped, Begin, End, Read, Write, DmaRead, DmaWrite, after_write, happens, after}
use Rattle.hda_world.specs.Tellings.{Telling, world_of, Went, Accessed, Makes}
use Rattle.hda_world.proofs.Callers.{world_of-went, woven, steps_leave, write_memory}
use Rattle.command_engine.specs.Engines.{EngineState}
use Rattle.command_engine.specs.declared.ring_places.RingPlaces.{RingPlaces}
use Rattle.command_engine.specs.Fetchings.{Stands}
use Rattle.command_engine.proofs.Callers.{responses_apart, event_keeps, status_apart}
use Rattle.hda_capture.specs.Recorders.{RecorderState}
use Rattle.laws_settings.proofs.Callers.{remembers_itself, events_remember}
use Rattle.laws_stream.proofs.Callers.{all_map, woven_all}
use Rattle.laws_recording.specs.Filling.{recorder_ring}
use Rattle.laws_recording.specs.Beside.{LeavesFilling}
use Rattle.laws_capture.specs.Taking.{HasNotStarted, IsTaking, StreamTakes}
use Rattle.laws_capture.proofs.NoneCame.{CameLaws, events_quiet}
use Rattle.laws_capture.proofs.Given.{RecorderLaws, TakenLaws}
use Rattle.laws_capture.proofs.Looks.{IsLook, all_filling, all_stopped, all_rest}

-- ---- the engine of commands

module _ (from read corb rirb : ℕ) (rings : RingPlaces) where
  write_stands : (world : World) (at value : ℕ) (width : Width) → IsLook (Write at width value) → Stands from read corb rirb rings world → Stands from read corb rirb rings (after_write at width value world)
  write_stands world at value width is stands =
      subst (λ (at : ℕ). Stands from read corb rirb rings (after_write at width value world)) (sym is.at_is)
      (subst (λ (width : Width). Stands from read corb rirb rings (after_write 0x83 width value world)) (sym is.width_is)
      (event_keeps from read corb rirb rings responses_apart (Write 0x83 One value) world (record { control = inr (omega arith); rings = inr (omega arith) }) (status_apart corb rirb value world stands.apart) stands))

  event_stands : (event : Event) (world : World) → IsLook event → Stands from read corb rirb rings world → Stands from read corb rirb rings (happens world event)
  event_stands (Stepped step) world is stands = event_keeps from read corb rirb rings responses_apart (Stepped step) world (tt {0}) (tt {0}) stands
  event_stands Begin world is stands = stands
  event_stands End world is stands = stands
  event_stands (Read at width value) world is stands = stands
  event_stands (Write at width value) world is stands = write_stands world at value width is stands
  event_stands (DmaRead at bytes) world is stands = stands
  event_stands (DmaWrite at bytes) world is stands = absurd is

  events_stand : (events : List Event) (world : World) → All IsLook events → Stands from read corb rirb rings world → Stands from read corb rirb rings (after events world)
  events_stand [] world all stands = stands
  events_stand (event ∷ events) world all stands =
      events_stand events (happens world event) (All-tail IsLook event events all) (event_stands event world (All-head IsLook event events all) stands)

-- ---- the region keeps its size

event_region : (event : Event) (world : World) → IsLook event → length (happens world event).memory ≡ length world.memory
event_region (Stepped step) world is = (steps_leave (step ∷ []) world).memory.size
event_region Begin world is = refl
event_region End world is = refl
event_region (Read at width value) world is = refl
event_region (Write at width value) world is = ap (λ (memory : List ℕ). length memory) (write_memory world at value width)
event_region (DmaRead at bytes) world is = refl
event_region (DmaWrite at bytes) world is = absurd is

events_region : (events : List Event) (world : World) → All IsLook events → length (after events world).memory ≡ length world.memory
events_region [] world all = refl
events_region (event ∷ events) world all =
    events_region events (happens world event) (All-tail IsLook event events all) ∙ event_region event world (All-head IsLook event events all)

-- ---- the whole of it

module _ (came : CameLaws) (recorder_laws : RecorderLaws) (taken_laws : TakenLaws) (graphs : List RawCodec) (engine : EngineState) (recorder : RecorderState) where
  pub unstarted_events : (events : List Event) (world : World) → All IsLook events → HasNotStarted graphs engine recorder world → HasNotStarted graphs engine recorder (after events world)
  unstarted_events events world all has =
      let quiet = events_quiet came recorder.geometry.fifo events world (all_rest events all) (record { rests = has.rests; none_came = has.none_came }) in record {
        fresh = has.fresh;
        none = has.none;
        region = events_region events world all ∙ has.region;
        graphs_are = (events_remember world.codecs (length world.commands) events world (remembers_itself world)).graphs ∙ has.graphs_are;
        from = has.from;
        read = has.read;
        stands = events_stand has.from has.read engine.corb.address engine.rirb.address engine.rings events world all has.stands;
        rests = quiet.rests;
        apart = has.apart;
        none_came = quiet.none_came;
      }

  taking_events : (events : List Event) (world : World) → All (LeavesFilling (recorder_ring recorder)) events → IsTaking recorder world → IsTaking recorder (after events world)
  taking_events events world all is =
      let given = taken_laws.events is.nid recorder events world all is.recording is.hears is.took in
      record { nid = is.nid; recording = recorder_laws.events recorder events world all is.recording; hears = given.0; took = given.1 }

  events_take : (events : List Event) (world : World) → All IsLook events → StreamTakes graphs engine recorder world → StreamTakes graphs engine recorder (after events world)
  events_take events world all (inl has) = inl (unstarted_events events world all has)
  events_take events world all (inr (inl is)) = inr (inl (taking_events events world (all_filling (recorder_ring recorder) events all) is))
  events_take events world all (inr (inr is)) =
      let stopped = all_stopped events all in
      inr (inr (record {
        over = is.over;
        has = record {
          recorded = recorder_laws.over recorder events world stopped is.has.recorded;
          took = taken_laws.over recorder.geometry.format events world recorder stopped is.has.recorded is.has.took;
        };
      }))

  -- as they are told
  pub went_takes : (old new : Telling) (events : List Event) → Went old new events → All IsLook events → StreamTakes graphs engine recorder (world_of old) → StreamTakes graphs engine recorder (world_of new)
  went_takes old new events went all takes =
      subst (StreamTakes graphs engine recorder) (sym (world_of-went old new events went)) (events_take events (world_of old) all takes)

  pub steps_take : (steps : List Step) (old new : Telling) → Went old new (map Stepped steps) → StreamTakes graphs engine recorder (world_of old) → StreamTakes graphs engine recorder (world_of new)
  steps_take steps old new went takes = went_takes old new (map Stepped steps) went (all_map IsLook Stepped (λ step. tt {0}) steps) takes

  pub mark_takes : (mark : Event) (old new : Telling) → IsLook mark → Accessed old new mark → StreamTakes graphs engine recorder (world_of old) → StreamTakes graphs engine recorder (world_of new)
  mark_takes mark old new is accessed takes =
      went_takes old new (map Stepped accessed.steps ++ mark ∷ []) accessed.went
      (All-append IsLook (map Stepped accessed.steps) (mark ∷ []) (all_map IsLook Stepped (λ step. tt {0}) accessed.steps) (All-cons IsLook mark [] is (All-nil IsLook))) takes

  pub row_takes : (made : List Event) (old new : Telling) → Makes made old new → All IsLook made → StreamTakes graphs engine recorder (world_of old) → StreamTakes graphs engine recorder (world_of new)
  row_takes made old new makes all takes =
      let weaving = woven makes in
      went_takes old new weaving.events weaving.went (woven_all IsLook (λ step. tt {0}) made weaving.events weaving.woven all) takes

  pub unstarted_row : (made : List Event) (old new : Telling) → Makes made old new → All IsLook made → HasNotStarted graphs engine recorder (world_of old) → HasNotStarted graphs engine recorder (world_of new)
  unstarted_row made old new makes all has =
      let weaving = woven makes in
      subst (HasNotStarted graphs engine recorder) (sym (world_of-went old new weaving.events weaving.went))
      (unstarted_events weaving.events (world_of old) (woven_all IsLook (λ step. tt {0}) made weaving.events weaving.woven all) has)

  -- over accesses that leave a recorder alone that records
  pub taking_row : (made : List Event) (old new : Telling) → Makes made old new → All (LeavesFilling (recorder_ring recorder)) made → IsTaking recorder (world_of old) → IsTaking recorder (world_of new)
  taking_row made old new makes all is =
      let given = taken_laws.rows is.nid recorder made old new makes all is.recording is.hears is.took in
      record { nid = is.nid; recording = recorder_laws.rows recorder made old new makes all is.recording; hears = given.0; took = given.1 }
