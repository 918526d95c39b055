-- What is recorded is the given sound.
use Rattle.std.proofs.Common.{◌≡◌, ◌≢◌, ◌/◌, ℕ, Bool, true, not, if◌then◌else◌, ◌&&◌, List, [], ◌∷◌, length, Some, refl, sym, ap, ap₂, subst, ◌∙◌, arith}
use Rattle.std.specs.Prelude.{All}
use Rattle.std.proofs.lemmas.List.Elements.{All-head, All-tail}
use Rattle.world_steps.specs.declared.Step.{Step}
use Rattle.hda_registers.specs.declared.shapes.Width.{Width}
use Rattle.hda_registers.specs.declared.shapes.Width.TheVariants.{One}
use Rattle.hda_registers.specs.Fields.{is_running}
use Rattle.hda_registers.specs.Access.{written}
use Rattle.hda_registers.proofs.Callers.{keeps-reset, keeps-left}
use Rattle.laws_recording.proofs.RunParts.{steps_go}
use Rattle.stream_format.specs.declared.format.Format.{Format}
use Rattle.stream_format.specs.Cadence.{block_bytes, bytes_of_block}
use Rattle.stream_format.specs.Layouts.{Layout, layout, layout_of}
use Rattle.stream_format.proofs.Callers.{read_back}
use Rattle.world_streams.specs.Streams.{StreamState, begun}
use Rattle.hda_world.specs.declared.world.TheConstants.{REGION_BYTES}
use Rattle.hda_world.specs.Worlds.{World}
use Rattle.hda_world.specs.Arriving.{listened}
use Rattle.hda_world.specs.Steps.{after_step, after_steps}
use Rattle.hda_world.specs.Streaming.{HearsPin, HasFetchedAll, HasTakenSound, taken_sound}
use Rattle.hda_world.specs.Events.{Event, Stepped, Begin, End, Read, Write, DmaRead, DmaWrite, happens, after, after_write}
use Rattle.hda_world.specs.Tellings.{Telling, Makes, world_of}
use Rattle.hda_world.specs.Moments.{AreWoven}
use Rattle.hda_world.proofs.Callers.{woven, world_of-went, after-append, after-stepped, plain_write}
use Rattle.period_writer.specs.Standing.{Ring}
use Rattle.period_writer.specs.Outcomes.{CanBegin}
use Rattle.hda_capture.specs.declared.course.Recorded.{Recorded}
use Rattle.hda_capture.specs.declared.course.Recorded.TheVariants.{Recording, Complete, Late}
use Rattle.hda_capture.specs.Recorders.{RecorderState, IsRecorder}
use Rattle.hda_capture.specs.Calls.{StartsRecording, RecordsRun, stop_accesses}
use Rattle.laws_recording.specs.Filling.{FillsRing, recorder_ring}
use Rattle.laws_recording.specs.Recording.{AreFirstOf, IsRecording}
use Rattle.laws_recording.specs.Beside.{LeavesFilling, StaysTaken}
use Rattle.laws_recording.specs.Sound.{HearsGiven, TookGiven}
use Rattle.laws_recording.proofs.EndedStays.{stop_stays}
use Rattle.laws_recording.proofs.EngineKept.{reads}
use Rattle.laws_recording.proofs.EventsBeside.{event_goes}
use Rattle.laws_recording.proofs.FirstRecording.{first_parts, woven_all}
use Rattle.laws_recording.proofs.Growing.{step_goes}
use Rattle.laws_recording.proofs.Hearing.{fill_hears, event_hears, events_hear}
use Rattle.laws_recording.proofs.PieceReads.{one_access}

-- ---- what was taken, where nothing of it changes

took_same : (format : Format) (old new : World) → new.input ≡ old.input → new.came ≡ old.came → new.given ≡ old.given → TookGiven format old → TookGiven format new
took_same format old new state came given took =
    ap (λ (state : StreamState). state.entered) state ∙ took ∙ ap₂ (λ (sound : List ℕ) (marks : List Bool). taken_sound (block_bytes format) sound marks) (sym given) (sym came)

pub took_ended : (format : Format) (old new : World) → StaysTaken old new → TookGiven format old → TookGiven format new
took_ended format old new stays took = took_same format old new stays.state stays.came stays.given took

-- ---- while the ring is filled

-- both facts
abbrev pub Given : (format : Format) (nid : ℕ) → World → Type 0
Given format nid world = HearsGiven format nid world × TookGiven format world

module _ (nid : ℕ)
    (steps_keep : (steps : List Step) (world : World) → HasFetchedAll world → HearsPin nid world → HasTakenSound world
    → HasFetchedAll (after_steps steps world) × HearsPin nid (after_steps steps world) × HasTakenSound (after_steps steps world)) where
  -- as the world's laws say it
  module _ (ring : Ring) (world : World) (fills : FillsRing ring world) where
    layout_is : layout_of world.registers.input.format ≡ Some (layout ring.geometry.format)
    layout_is = ap layout_of fills.set.format_is ∙ read_back ring.geometry.format

    hears_pin : HearsGiven ring.geometry.format nid world → HearsPin nid world
    hears_pin hears = ap₂ (λ (tag word : ℕ). listened tag word world.codecs) fills.set.tag fills.set.format_is ∙ hears.listens

    took_sound : TookGiven ring.geometry.format world → HasTakenSound world
    took_sound took runs other found =
        subst (λ (l : Layout). world.input.entered ≡ taken_sound (bytes_of_block l.channels l.bits) world.given world.came) (same_layout (layout ring.geometry.format) other (sym layout_is ∙ found)) took
      where
        same_layout : (one other : Layout) → Some one ≡ Some other → one ≡ other
        same_layout one other same = cc

    took_given : HasTakenSound world → TookGiven ring.geometry.format world
    took_given sound = sound fills.set.runs (layout ring.geometry.format) layout_is

  pub step_given : (ring : Ring) (step : Step) (world : World) → FillsRing ring world → Given ring.geometry.format nid world → Given ring.geometry.format nid (after_step step world)
  step_given ring step world fills given =
      let kept = steps_keep (step ∷ []) world given.0.fetched (hears_pin ring world fills given.0) (took_sound ring world fills given.1) in (
        event_hears ring.geometry.format nid (Stepped step) world tt given.0,
        took_given ring (after_step step world) (step_goes ring step world fills).fills kept.2,
      )

  pub steps_given : (ring : Ring) (steps : List Step) (world : World) → FillsRing ring world → Given ring.geometry.format nid world → Given ring.geometry.format nid (after_steps steps world)
  steps_given ring [] world fills given = given
  steps_given ring (step ∷ steps) world fills given = steps_given ring steps (after_step step world) (step_goes ring step world fills).fills (step_given ring step world fills given)

  -- a write while the stream runs lets it go on
  write_took : (format : Format) (world : World) (at value : ℕ) (width : Width) → at / 4 ≢ 2 → is_running world.registers.input ≡ true → TookGiven format world → TookGiven format (after_write at width value world)
  write_took format world at value width control runs took =
      let plain = plain_write world at value width (keeps-reset world.registers at width value control) (keeps-left world.registers at width value control) in
      let new = (written world.registers at width value).input in
      took_same format world (after_write at width value world)
      (ap (λ (w : World). w.input) plain ∙ ap (λ (was : Bool). let state : StreamState = if not was && is_running new then begun else world.input in state) runs)
      (ap (λ (w : World). w.came) plain ∙ ap (λ (was : Bool). let came : List Bool = if not was && is_running new then [] else world.came in came) runs)
      (ap (λ (w : World). w.given) plain) took

  event_given : (ring : Ring) (event : Event) (world : World) → LeavesFilling ring event → FillsRing ring world → Given ring.geometry.format nid world → Given ring.geometry.format nid (happens world event)
  event_given ring (Stepped step) world leaves fills given = step_given ring step world fills given
  event_given ring Begin world leaves fills given = given
  event_given ring End world leaves fills given = given
  event_given ring (Read at width value) world leaves fills given = given
  event_given ring (Write at width value) world leaves fills given =
      let hears = fill_hears ring (Write at width value) leaves in
      (event_hears ring.geometry.format nid (Write at width value) world hears given.0, write_took ring.geometry.format world at value width hears.0 fills.set.runs given.1)
  event_given ring (DmaRead at bytes) world leaves fills given = given
  event_given ring (DmaWrite at bytes) world leaves fills given =
      (event_hears ring.geometry.format nid (DmaWrite at bytes) world tt given.0, took_same ring.geometry.format world (happens world (DmaWrite at bytes)) refl refl refl given.1)

  pub events_given : (ring : Ring) (events : List Event) (world : World) → All (LeavesFilling ring) events → FillsRing ring world → Given ring.geometry.format nid world → Given ring.geometry.format nid (after events world)
  events_given ring [] world leave fills given = given
  events_given ring (event ∷ events) world leave fills given =
      let here = All-head (LeavesFilling ring) event events leave in
      events_given ring events (happens world event) (All-tail (LeavesFilling ring) event events leave) (event_goes ring event world here fills).fills (event_given ring event world here fills given)

  pub rows_given : (ring : Ring) (made : List Event) (old new : Telling) → Makes made old new → All (LeavesFilling ring) made → FillsRing ring (world_of old) → Given ring.geometry.format nid (world_of old) → Given ring.geometry.format nid (world_of new)
  rows_given ring made old new makes leave fills given =
      let weaving = woven makes in
      subst (Given ring.geometry.format nid) (sym (world_of-went old new weaving.events weaving.went))
      (events_given ring weaving.events (world_of old) (woven_all (LeavesFilling ring) (λ step. tt) made weaving.events leave weaving.woven) fills given)

  -- ---- the first run

  pub first_given : (old new : RecorderState) (before after' : Telling) → IsRecorder old → StartsRecording old new (Some before) (Some after') → length (world_of before).memory ≡ REGION_BYTES
      → CanBegin (recorder_ring old) (world_of before) → HearsGiven old.geometry.format nid (world_of before) → Given old.geometry.format nid (world_of after')
  first_given old new before after' is starts region can hears =
      let parts = first_parts old new before after' is starts region can in
      let heard = subst (HearsGiven old.geometry.format nid) (sym parts.risen_is) (events_hear old.geometry.format nid parts.front (world_of before) parts.hearing hears) in
      let none = ap (λ (state : StreamState). state.entered) parts.anew in
      let took : TookGiven old.geometry.format parts.risen = none ∙ ap (taken_sound (block_bytes old.geometry.format) parts.risen.given) (sym parts.came) in
      subst (Given old.geometry.format nid) (sym parts.ends) (events_given (recorder_ring old) parts.back parts.risen parts.leave parts.fills (heard, took))

  -- ---- a later run

  -- the stop
  stop_given : (ring : Ring) (last : List Event) (world : World) → FillsRing ring world → AreWoven (Write 0x80 One 0 ∷ []) last → Given ring.geometry.format nid world → Given ring.geometry.format nid (after last world)
  stop_given ring last world fills woven given =
      let one = one_access (Write 0x80 One 0) last woven in
      let there : after last world ≡ happens (after_steps one.0 world) (Write 0x80 One 0) = ap (λ (events : List Event). after events world) one.1 ∙ after-stepped one.0 (Write 0x80 One 0) world in
      let still = after_steps one.0 world in
      let kept = steps_given ring one.0 world fills given in
      let out = (steps_go ring one.0 world fills).fills.set.out in
      subst (Given ring.geometry.format nid) (sym there) (
        event_hears ring.geometry.format nid (Write 0x80 One 0) still (λ same. absurd (omega (arith, same)), λ same. absurd (omega (arith, same))) kept.0,
        took_ended ring.geometry.format still (happens still (Write 0x80 One 0)) (stop_stays still out).ended kept.1,
      )

  last_given : (ring : Ring) (answer : Recorded) (last : List Event) (world : World) → FillsRing ring world → AreWoven (stop_accesses answer) last → Given ring.geometry.format nid world → Given ring.geometry.format nid (after last world)
  last_given ring Recording last world fills woven given = subst (λ (events : List Event). Given ring.geometry.format nid (after events world)) (sym woven) given
  last_given ring Complete last world fills woven given = stop_given ring last world fills woven given
  last_given ring (Late start to) last world fills woven given = stop_given ring last world fills woven given

  pub later_given : (old new : RecorderState) (answer : Recorded) (before after' : Telling) → RecordsRun old answer new (Some before) (Some after') → IsRecording old (world_of before)
      → Given old.geometry.format nid (world_of before) → Given old.geometry.format nid (world_of after')
  later_given old new answer before after' run recording given =
      let weaving = woven run.made.is in
      let parts = reads (recorder_ring old) old.course.read run.from run.lpib run.to run.pieces (stop_accesses answer) weaving.events (world_of before) recording.fills weaving.woven in
      let there = world_of-went before after' weaving.events weaving.went ∙ ap (λ (events : List Event). after events (world_of before)) parts.events_are ∙ after-append parts.front parts.back (world_of before) in
      subst (Given old.geometry.format nid) (sym there)
      (last_given (recorder_ring old) answer parts.back (after parts.front (world_of before)) parts.fills parts.stops (events_given (recorder_ring old) parts.front (world_of before) parts.leave recording.fills given))

-- ---- what was recorded

pub recorded_given : (format : Format) (bytes : List ℕ) (world : World) → AreFirstOf world.input.entered bytes → TookGiven format world → AreFirstOf (taken_sound (block_bytes format) world.given world.came) bytes
recorded_given format bytes world first took = subst (λ (taken : List ℕ). AreFirstOf taken bytes) took first
