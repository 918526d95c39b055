-- The engine of commands goes on standing over the runs of a recorder.
use Rattle.std.proofs.Common.{◌≡◌, inr, ℕ, List, [], ◌∷◌, ◌++◌, ◌+◌, ◌/◌, length, map, Some, append_assoc, sym, ap, subst, ◌∙◌, arith}
use Rattle.std.specs.Prelude.{All}
use Rattle.std.proofs.lemmas.List.Elements.{All-nil, All-cons, All-append}
use Rattle.hda_registers.specs.declared.shapes.Width.TheVariants.{One, Four}
use Rattle.hda_registers.specs.Laws.{IsBesideRings}
use Rattle.world_steps.specs.declared.Step.{Step}
use Rattle.hda_world.specs.Steps.{after_step}
use Rattle.hda_world.specs.declared.world.TheConstants.{REGION_BYTES}
use Rattle.hda_world.specs.Worlds.{World, input_of}
use Rattle.hda_world.specs.Events.{Event, Stepped, Read, Write, happens, after}
use Rattle.hda_world.specs.Tellings.{Telling, world_of}
use Rattle.hda_world.specs.Moments.{AreWoven, AtEach}
use Rattle.hda_world.proofs.Callers.{woven, world_of-went, woven_split, after-append}
use Rattle.period_writer.specs.Standing.{Ring, bytes_in}
use Rattle.period_writer.specs.Outcomes.{CanBegin}
use Rattle.command_engine.specs.declared.ring_places.RingPlaces.{RingPlaces}
use Rattle.command_engine.specs.Apart.{IsBesideBoth}
use Rattle.command_engine.specs.Fetchings.{AreBeside, Stands}
use Rattle.command_engine.proofs.Callers.{stopped_apart}
use Rattle.hda_capture.specs.declared.course.Recorded.{Recorded}
use Rattle.hda_capture.specs.declared.course.Recorded.TheVariants.{Recording, Complete, Late}
use Rattle.hda_capture.specs.Recorders.{RecorderState, IsRecorder}
use Rattle.hda_capture.specs.Reading.{piece_read, pieces_read}
use Rattle.hda_capture.specs.Calls.{StartsRecording, RecordsRun, stop_accesses}
use Rattle.laws_recording.specs.Filling.{FillsRing, recorder_ring}
use Rattle.laws_recording.specs.Recording.{IsRecording}
use Rattle.laws_recording.specs.Beside.{LeavesFilling, LiesBesideEngine}
use Rattle.laws_recording.proofs.EndedStays.{stop_stays}
use Rattle.laws_recording.proofs.EventsBeside.{events_go}
use Rattle.laws_recording.proofs.FirstRecording.{first_parts, woven_all}
use Rattle.laws_recording.proofs.Growing.{step_goes}
use Rattle.laws_recording.proofs.PieceReads.{one_access}
use Rattle.laws_recording.proofs.Readying.{BesideEngine}

-- ---- a later run: its reads, and the stop

-- reads of the ring are reads
both_reads : (b : ℕ) (periods : List ℕ) (from : ℕ) (pieces : List (List ℕ)) (period : ℕ) → All IsBesideBoth (pieces_read b periods from period pieces)
both_reads b periods from [] period = All-nil IsBesideBoth
both_reads b periods from (piece ∷ pieces) period = All-cons IsBesideBoth (piece_read b periods from period piece) (pieces_read b periods from (period + 1) pieces) tt (both_reads b periods from pieces (period + 1))

abbrev reads_of : (ring : Ring) (read from lpib to : ℕ) → List (List ℕ) → List Event
reads_of ring read from lpib to pieces = Read 0x30 Four from ∷ Read 0x84 Four lpib ∷ (pieces_read (bytes_in ring) ring.periods read (read / bytes_in ring) pieces ++ Read 0x30 Four to ∷ [])

-- all before the stop are reads
pub record Reads (ring : Ring) (stop events : List Event) (world : World) : Type 0 where
  pub front : List Event
  pub back : List Event
  pub events_are : events ≡ front ++ back
  pub both : All IsBesideBoth front
  pub leave : All (LeavesFilling ring) front
  pub fills : FillsRing ring (after front world)
  pub stops : AreWoven stop back

all_both : (ring : Ring) (read from lpib to : ℕ) (pieces : List (List ℕ)) → All IsBesideBoth (reads_of ring read from lpib to pieces)
all_both ring read from lpib to pieces =
    let line = pieces_read (bytes_in ring) ring.periods read (read / bytes_in ring) pieces in
    let last : List Event = Read 0x30 Four to ∷ [] in
    All-cons IsBesideBoth (Read 0x30 Four from) (Read 0x84 Four lpib ∷ (line ++ last)) tt
    (All-cons IsBesideBoth (Read 0x84 Four lpib) (line ++ last) tt
    (All-append IsBesideBoth line last (both_reads (bytes_in ring) ring.periods read pieces (read / bytes_in ring)) (All-cons IsBesideBoth (Read 0x30 Four to) [] tt (All-nil IsBesideBoth))))

reads_leave : (ring : Ring) (read : ℕ) (pieces : List (List ℕ)) (period : ℕ) → All (LeavesFilling ring) (pieces_read (bytes_in ring) ring.periods read period pieces)
reads_leave ring read [] period = All-nil (LeavesFilling ring)
reads_leave ring read (piece ∷ pieces) period = All-cons (LeavesFilling ring) (piece_read (bytes_in ring) ring.periods read period piece) (pieces_read (bytes_in ring) ring.periods read (period + 1) pieces) tt (reads_leave ring read pieces (period + 1))

all_leave : (ring : Ring) (read from lpib to : ℕ) (pieces : List (List ℕ)) → All (LeavesFilling ring) (reads_of ring read from lpib to pieces)
all_leave ring read from lpib to pieces =
    let line = pieces_read (bytes_in ring) ring.periods read (read / bytes_in ring) pieces in
    let last : List Event = Read 0x30 Four to ∷ [] in
    All-cons (LeavesFilling ring) (Read 0x30 Four from) (Read 0x84 Four lpib ∷ (line ++ last)) tt
    (All-cons (LeavesFilling ring) (Read 0x84 Four lpib) (line ++ last) tt
    (All-append (LeavesFilling ring) line last (reads_leave ring read pieces (read / bytes_in ring)) (All-cons (LeavesFilling ring) (Read 0x30 Four to) [] tt (All-nil (LeavesFilling ring)))))

pub reads : (ring : Ring) (read from lpib to : ℕ) (pieces : List (List ℕ)) (stop events : List Event) (world : World) → FillsRing ring world
    → AreWoven (Read 0x30 Four from ∷ Read 0x84 Four lpib ∷ (pieces_read (bytes_in ring) ring.periods read (read / bytes_in ring) pieces ++ (Read 0x30 Four to ∷ stop))) events → Reads ring stop events world
reads ring read from lpib to pieces stop events world fills woven =
    let line = pieces_read (bytes_in ring) ring.periods read (read / bytes_in ring) pieces in
    let together : line ++ (Read 0x30 Four to ∷ stop) ≡ (line ++ Read 0x30 Four to ∷ []) ++ stop = sym (append_assoc line (Read 0x30 Four to ∷ []) stop) in
    let (front, back, are, in_front, in_back) = woven_split (reads_of ring read from lpib to pieces) stop events (subst (λ (rest : List Event). AreWoven (Read 0x30 Four from ∷ Read 0x84 Four lpib ∷ rest) events) together woven) in
    let leave = woven_all (LeavesFilling ring) (λ step. tt) (reads_of ring read from lpib to pieces) front (all_leave ring read from lpib to pieces) in_front in
    record {
      front = front;
      back = back;
      events_are = are;
      both = woven_all IsBesideBoth (λ step. tt) (reads_of ring read from lpib to pieces) front (all_both ring read from lpib to pieces) in_front;
      leave = leave;
      fills = (events_go ring front world leave fills).fills;
      stops = in_back;
    }

-- ---- where each event is beside the engine

beside_by : (corb rirb : ℕ) (ring : Ring) → LiesBesideEngine corb rirb ring → (events : List Event) (world : World) → AtEach (BesideEngine ring) events world → AreBeside corb rirb events world
beside_by corb rirb ring lies [] world moments = tt
beside_by corb rirb ring lies (event ∷ events) world moments =
    let here = moments.0 corb rirb lies in
    (here.0, here.1, beside_by corb rirb ring lies events (happens world event) moments.1)

-- and so are steps before the stop, and the stop
stop_beside : (corb rirb : ℕ) (ring : Ring) (steps : List Step) (world : World) → FillsRing ring world → AreBeside corb rirb (map Stepped steps ++ Write 0x80 One 0 ∷ []) world
stop_beside corb rirb ring [] world fills =
    let rings : IsBesideRings 0x80 = record { control = inr (omega arith); rings = inr (omega arith) } in
    (rings, stopped_apart corb rirb (happens world (Write 0x80 One 0)).memory (input_of (happens world (Write 0x80 One 0))) (stop_stays world fills.set.out).ended.stopped, tt)
stop_beside corb rirb ring (one ∷ steps) world fills = (tt, tt, stop_beside corb rirb ring steps (after_step one world) (step_goes ring one world fills).fills)

module _ (from read corb rirb : ℕ) (rings : RingPlaces)
    (events_keep : (events : List Event) (world : World) → AreBeside corb rirb events world → Stands from read corb rirb rings world → Stands from read corb rirb rings (after events world))
    (reads_keep : (events : List Event) (world : World) → All IsBesideBoth events → Stands from read corb rirb rings world → Stands from read corb rirb rings (after events world)) where
  abbrev Holds : World → Type 0
  Holds = Stands from read corb rirb rings

  pub first_stands : (old new : RecorderState) (before after' : Telling) → IsRecorder old → StartsRecording old new (Some before) (Some after') → length (world_of before).memory ≡ REGION_BYTES
      → CanBegin (recorder_ring old) (world_of before) → LiesBesideEngine corb rirb (recorder_ring old) → Holds (world_of before) → Holds (world_of after')
  first_stands old new before after' is starts region can lies holds =
      let parts = first_parts old new before after' is starts region can in
      let risen = events_keep parts.front (world_of before) (beside_by corb rirb (recorder_ring old) lies parts.front (world_of before) parts.moments) holds in
      subst (Stands from read corb rirb rings) (sym parts.ends) (reads_keep parts.back parts.risen parts.both (subst (Stands from read corb rirb rings) (sym parts.risen_is) risen))

  -- the stop
  stop_stands : (ring : Ring) (last : List Event) (world : World) → FillsRing ring world → AreWoven (Write 0x80 One 0 ∷ []) last → Holds world → Holds (after last world)
  stop_stands ring last world fills woven holds =
      let one = one_access (Write 0x80 One 0) last woven in
      events_keep last world (subst (λ (events : List Event). AreBeside corb rirb events world) (sym one.1) (stop_beside corb rirb ring one.0 world fills)) holds

  last_stands : (ring : Ring) (answer : Recorded) (last : List Event) (world : World) → FillsRing ring world → AreWoven (stop_accesses answer) last → Holds world → Holds (after last world)
  last_stands ring Recording last world fills woven holds = subst (λ (events : List Event). Stands from read corb rirb rings (after events world)) (sym woven) holds
  last_stands ring Complete last world fills woven holds = stop_stands ring last world fills woven holds
  last_stands ring (Late start to) last world fills woven holds = stop_stands ring last world fills woven holds

  pub later_stands : (old new : RecorderState) (answer : Recorded) (before after' : Telling) → RecordsRun old answer new (Some before) (Some after') → IsRecording old (world_of before) → Holds (world_of before) → Holds (world_of after')
  later_stands old new answer before after' run recording holds =
      let weaving = woven run.made.is in
      let parts = reads (recorder_ring old) old.course.read run.from run.lpib run.to run.pieces (stop_accesses answer) weaving.events (world_of before) recording.fills weaving.woven in
      let there = world_of-went before after' weaving.events weaving.went ∙ ap (λ (events : List Event). after events (world_of before)) parts.events_are ∙ after-append parts.front parts.back (world_of before) in
      subst (Stands from read corb rirb rings) (sym there)
      (last_stands (recorder_ring old) answer parts.back (after parts.front (world_of before)) parts.fills parts.stops (reads_keep parts.front (world_of before) parts.both holds))
