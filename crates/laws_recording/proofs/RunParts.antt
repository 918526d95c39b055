-- The moments of a later run: its reads of the clock and of LPIB, its reads of the ring, and the stop.
use Rattle.std.proofs.Common.{◌≡◌, ◌≤◌, ◌*◌, ◌/◌, ◌%◌, ◌^◌, ℕ, List, [], ◌∷◌, ◌++◌, length, sym, ap, subst, ◌∙◌, arith}
use Rattle.std.proofs.lemmas.List.Elements.{All-nil, All-cons}
use Rattle.world_steps.specs.declared.Step.{Step}
use Rattle.hda_registers.specs.declared.shapes.Width.{Width}
use Rattle.hda_registers.specs.declared.shapes.Width.TheVariants.{One, Four}
use Rattle.hda_registers.specs.Fields.{Fields}
use Rattle.hda_registers.specs.Access.{value_at, shown_at, stream_shown, stream_groups_in}
use Rattle.hda_registers.proofs.Callers.{read-wall_clock, keeps-reset, keeps-left}
use Rattle.hda_world.specs.Worlds.{World}
use Rattle.hda_world.specs.Steps.{after_step, after_steps}
use Rattle.hda_world.specs.Events.{Event, Read, Write, AreHonest, happens, after}
use Rattle.hda_world.specs.Moments.{AreWoven}
use Rattle.hda_world.proofs.Callers.{after-append, after-stepped, honest-stepped, woven_split, AreHonest-front, AreHonest-back, plain_write}
use Rattle.period_writer.specs.Standing.{Ring, bytes_in, size_of}
use Rattle.hda_capture.specs.declared.course.Recorded.{Recorded}
use Rattle.hda_capture.specs.declared.course.Recorded.TheVariants.{Recording, Complete, Late}
use Rattle.hda_capture.specs.Calls.{stop_accesses}
use Rattle.hda_capture.specs.Reading.{pieces_read}
use Rattle.laws_recording.specs.Filling.{FillsRing}
use Rattle.laws_recording.specs.Beside.{LeavesFilling}
use Rattle.laws_recording.proofs.EventsBeside.{events_go}
use Rattle.laws_recording.proofs.FirstRecording.{woven_all}
use Rattle.laws_recording.proofs.Growing.{Goes, goes_none, goes_both, step_goes}
use Rattle.laws_recording.proofs.PieceReads.{one_access, pieces_leave}

-- LPIB reads what it holds
read-input_position : (f : Fields) → value_at f 0x84 Four ≡ f.input.link_position
unfolding value_at shown_at stream_shown stream_groups_in
read-input_position f = omega arith

-- a read of a register gives what it holds after these events
read_there : (at value : ℕ) (width : Width) (events : List Event) (world : World) → AreWoven (Read at width value ∷ []) events → AreHonest events world → value ≡ value_at (after events world).registers at width
read_there at value width events world woven honest =
    let one = one_access (Read at width value) events woven in
    let there : after events world ≡ after_steps one.0 world = ap (λ (events : List Event). after events world) one.1 ∙ after-stepped one.0 (Read at width value) world in
    subst (λ (w : World). value ≡ value_at w.registers at width) (sym there) (honest-stepped one.0 (Read at width value) world (subst (λ (events : List Event). AreHonest events world) one.1 honest))

-- the clock counts the link frames, and LPIB the bytes that were taken
clock_there : (ring : Ring) (value : ℕ) (events : List Event) (world : World) → AreWoven (Read 0x30 Four value ∷ []) events → AreHonest events world → FillsRing ring (after events world) → value ≡ (500 * (after events world).frames) % 2 ^ 32
clock_there ring value events world woven honest fills = read_there 0x30 value Four events world woven honest ∙ read-wall_clock (after events world).registers ∙ fills.clock_is

link_there : (ring : Ring) (value : ℕ) (events : List Event) (world : World) → AreWoven (Read 0x84 Four value ∷ []) events → AreHonest events world → FillsRing ring (after events world)
    → value ≡ length (after events world).input.entered % size_of ring
link_there ring value events world woven honest fills = read_there 0x84 value Four events world woven honest ∙ read-input_position (after events world).registers ∙ fills.position

read_goes : (ring : Ring) (at value : ℕ) (width : Width) (events : List Event) (world : World) → AreWoven (Read at width value ∷ []) events → FillsRing ring world → Goes ring world (after events world)
read_goes ring at value width events world woven fills =
    events_go ring events world (woven_all (LeavesFilling ring) (λ step. tt) (Read at width value ∷ []) events (All-cons (LeavesFilling ring) (Read at width value) [] tt (All-nil (LeavesFilling ring))) woven) fills

-- ---- the moments

-- after the first clock, LPIB, the reads of the ring, and the last clock
pub record RunParts (ring : Ring) (read from lpib to : ℕ) (pieces : List (List ℕ)) (stop events : List Event) (world : World) : Type 0 where
  pub clock : World
  pub found : World
  pub row : List Event
  pub done : World
  pub last : List Event
  pub to_clock : Goes ring world clock
  pub to_found : Goes ring clock found
  pub row_woven : AreWoven (pieces_read (bytes_in ring) ring.periods read (read / bytes_in ring) pieces) row
  pub row_honest : AreHonest row found
  pub to_done : Goes ring (after row found) done
  pub from_is : from ≡ (500 * clock.frames) % 2 ^ 32
  pub lpib_is : lpib ≡ length found.input.entered % size_of ring
  pub to_is : to ≡ (500 * done.frames) % 2 ^ 32
  pub last_woven : AreWoven stop last
  pub ends : after events world ≡ after last done

-- the worlds one after another
ends_by : (events e1 r1 e2 r2 e3 r3 e4 e5 : List Event) (world : World) → events ≡ e1 ++ r1 → r1 ≡ e2 ++ r2 → r2 ≡ e3 ++ r3 → r3 ≡ e4 ++ e5
    → after events world ≡ after e5 (after e4 (after e3 (after e2 (after e1 world))))
ends_by events e1 r1 e2 r2 e3 r3 e4 e5 world are1 are2 are3 are4 =
    two events e1 r1 world are1 ∙ two r1 e2 r2 (after e1 world) are2 ∙ two r2 e3 r3 (after e2 (after e1 world)) are3 ∙ two r3 e4 e5 (after e3 (after e2 (after e1 world))) are4 where
      two : (events front back : List Event) (world : World) → events ≡ front ++ back → after events world ≡ after back (after front world)
      two events front back world are = ap (λ (events : List Event). after events world) are ∙ after-append front back world

pub run_parts : (ring : Ring) (read from lpib to : ℕ) (pieces : List (List ℕ)) (stop events : List Event) (world : World) → FillsRing ring world
    → AreWoven (Read 0x30 Four from ∷ Read 0x84 Four lpib ∷ (pieces_read (bytes_in ring) ring.periods read (read / bytes_in ring) pieces ++ (Read 0x30 Four to ∷ stop))) events → AreHonest events world
    → RunParts ring read from lpib to pieces stop events world
run_parts ring read from lpib to pieces stop events world fills woven honest =
    let line = pieces_read (bytes_in ring) ring.periods read (read / bytes_in ring) pieces in
    let (e1, r1, are1, in1, more1) = woven_split (Read 0x30 Four from ∷ []) (Read 0x84 Four lpib ∷ (line ++ (Read 0x30 Four to ∷ stop))) events woven in
    let h1 : AreHonest (e1 ++ r1) world = subst (λ (events : List Event). AreHonest events world) are1 honest in
    let w1 = after e1 world in
    let (e2, r2, are2, in2, more2) = woven_split (Read 0x84 Four lpib ∷ []) (line ++ (Read 0x30 Four to ∷ stop)) r1 more1 in
    let h2 : AreHonest (e2 ++ r2) (after e1 world) = subst (λ (events : List Event). AreHonest events (after e1 world)) are2 (AreHonest-back e1 r1 world h1) in
    let w2 = after e2 w1 in
    let (e3, r3, are3, in3, more3) = woven_split line (Read 0x30 Four to ∷ stop) r2 more2 in
    let h3 : AreHonest (e3 ++ r3) (after e2 (after e1 world)) = subst (λ (events : List Event). AreHonest events (after e2 (after e1 world))) are3 (AreHonest-back e2 r2 w1 h2) in
    let w3 = after e3 w2 in
    let (e4, e5, are4, in4, in5) = woven_split (Read 0x30 Four to ∷ []) stop r3 more3 in
    let h4 : AreHonest (e4 ++ e5) (after e3 (after e2 (after e1 world))) = subst (λ (events : List Event). AreHonest events (after e3 (after e2 (after e1 world)))) are4 (AreHonest-back e3 r3 w2 h3) in
    let w4 = after e4 w3 in
    let g1 = read_goes ring 0x30 from Four e1 world in1 fills in
    let g2 = read_goes ring 0x84 lpib Four e2 w1 in2 g1.fills in
    let g3 = events_go ring e3 w2 (pieces_leave ring read 0 pieces (read / bytes_in ring) e3 in3) g2.fills in
    let g4 = read_goes ring 0x30 to Four e4 w3 in4 g3.fills in
    record {
      clock = w1;
      found = w2;
      row = e3;
      done = w4;
      last = e5;
      to_clock = g1;
      to_found = g2;
      row_woven = in3;
      row_honest = AreHonest-front e3 r3 w2 h3;
      to_done = g4;
      from_is = clock_there ring from e1 world in1 (AreHonest-front e1 r1 world h1) g1.fills;
      lpib_is = link_there ring lpib e2 w1 in2 (AreHonest-front e2 r2 w1 h2) g2.fills;
      to_is = clock_there ring to e4 w3 in4 (AreHonest-front e4 e5 w3 h4) g4.fills;
      last_woven = in5;
      ends = ends_by events e1 r1 e2 r2 e3 r3 e4 e5 world are1 are2 are3 are4;
    }

pub row_goes : (ring : Ring) (read from lpib to : ℕ) (pieces : List (List ℕ)) (stop events : List Event) (world : World) → (parts : RunParts ring read from lpib to pieces stop events world) → Goes ring parts.found (after parts.row parts.found)
row_goes ring read from lpib to pieces stop events world parts =
    events_go ring parts.row parts.found (pieces_leave ring read 0 pieces (read / bytes_in ring) parts.row parts.row_woven) parts.to_found.fills

-- ---- the stop

-- steps, and then the write
pub record StopParts (ring : Ring) (last : List Event) (world : World) : Type 0 where
  pub still : World
  pub goes : Goes ring world still
  pub ends : after last world ≡ happens still (Write 0x80 One 0)

pub steps_go : (ring : Ring) (steps : List Step) (world : World) → FillsRing ring world → Goes ring world (after_steps steps world)
steps_go ring [] world fills = goes_none ring world fills
steps_go ring (one ∷ steps) world fills =
    let here = step_goes ring one world fills in
    goes_both ring world (after_step one world) (after_steps steps (after_step one world)) here (steps_go ring steps (after_step one world) here.fills)

pub stop_parts : (ring : Ring) (last : List Event) (world : World) → FillsRing ring world → AreWoven (Write 0x80 One 0 ∷ []) last → StopParts ring last world
stop_parts ring last world fills woven =
    let one = one_access (Write 0x80 One 0) last woven in
    record {
      still = after_steps one.0 world;
      goes = steps_go ring one.0 world fills;
      ends = ap (λ (events : List Event). after events world) one.1 ∙ after-stepped one.0 (Write 0x80 One 0) world;
    }

stop_frames : (world : World) → (happens world (Write 0x80 One 0)).frames ≡ world.frames
stop_frames world = ap (λ (w : World). w.frames) (plain_write world 0x80 0 One (keeps-reset world.registers 0x80 One 0 (omega arith)) (keeps-left world.registers 0x80 One 0 (omega arith)))

ended_frames : (ring : Ring) (last : List Event) (world : World) → FillsRing ring world → AreWoven (Write 0x80 One 0 ∷ []) last → world.frames ≤ (after last world).frames
ended_frames ring last world fills woven =
    let parts = stop_parts ring last world fills woven in
    let up = parts.goes.grows.up in
    let same : (after last world).frames ≡ parts.still.frames = ap (λ (w : World). w.frames) parts.ends ∙ stop_frames parts.still in
    omega (arith, up, same)

-- link frames only pass
pub stop_up : (ring : Ring) (answer : Recorded) (last : List Event) (world : World) → FillsRing ring world → AreWoven (stop_accesses answer) last → world.frames ≤ (after last world).frames
stop_up ring Recording last world fills woven = let same : (after last world).frames ≡ world.frames = ap (λ (events : List Event). (after events world).frames) woven in omega (arith, same)
stop_up ring Complete last world fills woven = ended_frames ring last world fills woven
stop_up ring (Late from to) last world fills woven = ended_frames ring last world fills woven
