-- Events beside a recorder keep that it records.
use Rattle.std.proofs.Common.{◌≡◌, ◌≢◌, ◌+◌, ◌/◌, inl, inr, ℕ, Bool, true, false, List, [], ◌∷◌, length, if◌then◌else◌, refl, sym, ap, subst, ◌∙◌, arith}
use Rattle.std.specs.Prelude.{All, slice_index}
use Rattle.std.proofs.lemmas.List.{append-nil}
use Rattle.std.proofs.lemmas.List.Elements.{All-head, All-tail}
use Rattle.hda_registers.specs.declared.shapes.Width.{Width}
use Rattle.hda_registers.specs.declared.shapes.Width.TheVariants.{One}
use Rattle.hda_registers.specs.declared.shapes.Shape.{Shape}
use Rattle.hda_registers.specs.Fields.{Fields, Descriptor, is_out_of_reset}
use Rattle.hda_registers.specs.Access.{access_of, written, placed, global_written, stream_written, is_taken}
use Rattle.hda_registers.specs.Laws.{IsBesideRings}
use Rattle.hda_registers.proofs.Callers.{keeps-reset, keeps-left, keeps-shape, leaves-rings, written_time}
use Rattle.world_rings.specs.Memory.{stored}
use Rattle.world_rings.proofs.Callers.{stored_outside}
use Rattle.world_streams.specs.Streams.{StreamState, Stream}
use Rattle.hda_world.specs.Worlds.{World}
use Rattle.hda_world.specs.Events.{Event, Stepped, Begin, End, Read, Write, DmaRead, DmaWrite, happens, after, after_write}
use Rattle.hda_world.proofs.Callers.{plain_write, input_stays, input_status}
use Rattle.period_writer.specs.Rings.{list_bytes}
use Rattle.period_writer.specs.Standing.{Ring, AreBesideRirb, bytes_in}
use Rattle.period_writer.specs.Beside.{HaveNoneInCommon, IsBesideBlocks}
use Rattle.period_writer.proofs.Callers.{BlockStays, outside_by}
use Rattle.hda_capture.specs.Recorders.{RecorderState}
use Rattle.laws_recording.specs.Filling.{FillsRingBy, FillsRing, recorder_ring}
use Rattle.laws_recording.specs.Recording.{IsRecording}
use Rattle.command_engine.specs.Apart.{IsBesideInput}
use Rattle.laws_recording.specs.Beside.{LeavesRecording, KeepsRirbBeside, LeaveRecording, LeavesFilling}
use Rattle.laws_recording.proofs.FillingKept.{memory_fills}
use Rattle.laws_recording.proofs.Growing.{GoneOn, HasGone, Goes, goes_none, goes_both, step_goes}
use Rattle.laws_recording.proofs.Steps.{goes_on}

-- ---- memory beside the blocks

block_beside : (memory : List ℕ) (address other size : ℕ) (bytes : List ℕ) → HaveNoneInCommon address (length bytes) other size → BlockStays memory (stored memory address bytes) other size
block_beside memory address other size bytes apart place within =
    (stored_outside address bytes memory).1 (other + place) (outside_by address (length bytes) (other + place) (λ index small same. apart index place small within (sym same)))

-- what was taken is the same
same_gone : (old new : World) → new.input ≡ old.input → HasGone old.input.entered old.input.left new
same_gone old new same =
    let none : GoneOn old.input.entered old.input.left old.input = record { more = []; taken = sym (append-nil old.input.entered); stored = omega arith } in
    subst (GoneOn old.input.entered old.input.left) (sym same) none

memory_goes : (ring : Ring) (world : World) (address : ℕ) (bytes : List ℕ) → IsBesideBlocks ring address (length bytes) → FillsRing ring world → Goes ring world (happens world (DmaWrite address bytes))
memory_goes ring world address bytes beside fills = record {
  fills = memory_fills ring world.memory (stored world.memory address bytes) world.registers.global.controller_reset world.registers.global.wall_clock world.registers.global.rirb_base
      world.registers.shape world.registers.input world.frames world.input
      (record {
        size = (stored_outside address bytes world.memory).0;
        list = block_beside world.memory address ring.list (list_bytes ring.geometry.periods) bytes beside.list;
        periods = λ index within. block_beside world.memory address (slice_index ring.periods index) (bytes_in ring) bytes (beside.periods index within);
      }) fills;
  grows = record { up = omega arith; few = omega arith };
  gone = same_gone world (happens world (DmaWrite address bytes)) refl;
}

-- ---- registers

-- what is looked at stays, but for status bits of the input stream, and RIRB lies outside the ring
record IsSame (ring : Ring) (old new : World) : Type 0 where
  memory : new.memory ≡ old.memory
  reset : new.registers.global.controller_reset ≡ old.registers.global.controller_reset
  clock : new.registers.global.wall_clock ≡ old.registers.global.wall_clock
  beside : AreBesideRirb ring new.registers.global.rirb_base new.registers.shape
  shape : new.registers.shape ≡ old.registers.shape
  completion : ℕ
  fifo_error : ℕ
  input : new.registers.input ≡ record old.registers.input { completion = completion; fifo_error = fifo_error }
  frames : new.frames ≡ old.frames
  state : new.input ≡ old.input

same_by : (ring : Ring) (memory : List ℕ) (reset clock base base' : ℕ) (shape shape' : Shape) (input : Descriptor) (completion fifo_error frames : ℕ) (state : StreamState)
    → AreBesideRirb ring base' shape' → shape' ≡ shape → FillsRingBy ring memory reset clock base shape input frames state
    → FillsRingBy ring memory reset clock base' shape' (record input { completion = completion; fifo_error = fifo_error }) frames state
same_by ring memory reset clock base base' shape shape' input completion fifo_error frames state beside same fills = record {
  set = record {
    out = fills.set.out;
    fifo = ap (λ (s : Shape). s.fifo) same ∙ fills.set.fifo;
    runs = fills.set.runs;
    no_error = fills.set.no_error;
    tag = fills.set.tag;
    length_is = fills.set.length_is;
    last = fills.set.last;
    format_is = fills.set.format_is;
    list_is = fills.set.list_is;
  };
  ring_is = fills.ring_is;
  clock_is = fills.clock_is;
  position = fills.position;
  beside = beside;
  list_stands = fills.list_stands;
  fifo = fills.fifo;
  place = fills.place;
  whole = fills.whole;
  standing = fills.standing;
}

same_fills : (ring : Ring) (old new : World) → IsSame ring old new → FillsRing ring old → FillsRing ring new
same_fills ring old new same fills =
    let base = new.registers.global.rirb_base in
    let shape = new.registers.shape in
    let first = same_by ring old.memory old.registers.global.controller_reset old.registers.global.wall_clock old.registers.global.rirb_base base old.registers.shape shape old.registers.input same.completion same.fifo_error old.frames old.input
    same.beside same.shape fills in
    let d : Descriptor = record old.registers.input { completion = same.completion; fifo_error = same.fifo_error } in
    subst (λ (memory : List ℕ). FillsRingBy ring memory new.registers.global.controller_reset new.registers.global.wall_clock base shape new.registers.input new.frames new.input) (sym same.memory)
    (subst (λ (reset : ℕ). FillsRingBy ring old.memory reset new.registers.global.wall_clock base shape new.registers.input new.frames new.input) (sym same.reset)
    (subst (λ (clock : ℕ). FillsRingBy ring old.memory old.registers.global.controller_reset clock base shape new.registers.input new.frames new.input) (sym same.clock)
    (subst (λ (input : Descriptor). FillsRingBy ring old.memory old.registers.global.controller_reset old.registers.global.wall_clock base shape input new.frames new.input) (sym same.input)
    (subst (λ (frames : ℕ). FillsRingBy ring old.memory old.registers.global.controller_reset old.registers.global.wall_clock base shape d frames new.input) (sym same.frames)
    (subst (λ (state : StreamState). FillsRingBy ring old.memory old.registers.global.controller_reset old.registers.global.wall_clock base shape d old.frames state) (sym same.state) first)))))

same_goes : (ring : Ring) (old new : World) → IsSame ring old new → FillsRing ring old → Goes ring old new
same_goes ring old new same fills = record {
  fills = same_fills ring old new same fills;
  grows = record { up = (let frames = same.frames in omega (arith, frames)); few = (let taken = ap (λ (state : StreamState). length state.entered) same.state in omega (arith, taken)) };
  gone = same_gone old new same.state;
}

-- RIRB lies where it lay
still_beside : (ring : Ring) (world : World) (at value : ℕ) (width : Width) → at / 4 ≢ 2 → (written world.registers at width value).global.rirb_base ≡ world.registers.global.rirb_base
    → AreBesideRirb ring world.registers.global.rirb_base world.registers.shape → AreBesideRirb ring (after_write at width value world).registers.global.rirb_base (after_write at width value world).registers.shape
still_beside ring world at value width other base beside =
    let plain = plain_write world at value width (keeps-reset world.registers at width value other) (keeps-left world.registers at width value other) in
    subst (λ (w : World). AreBesideRirb ring w.registers.global.rirb_base w.registers.shape) (sym plain)
    (subst (λ (base : ℕ). AreBesideRirb ring base (written world.registers at width value).shape) (sym base)
    (subst (AreBesideRirb ring world.registers.global.rirb_base) (sym (keeps-shape world.registers at width value)) beside))

-- a write elsewhere than at GCTL or the input's descriptor
elsewhere_same : (ring : Ring) (world : World) (at value : ℕ) (width : Width) → IsBesideInput at → is_out_of_reset world.registers.global ≡ true
    → AreBesideRirb ring (after_write at width value world).registers.global.rirb_base (after_write at width value world).registers.shape → IsSame ring world (after_write at width value world)
elsewhere_same ring world at value width input out beside =
    let plain = plain_write world at value width (keeps-reset world.registers at width value input.control) (keeps-left world.registers at width value input.control) in
    let time = written_time world.registers at width value input.control out in
    let stays = input_stays world at value width input.control input.descriptor in
    record {
      memory = ap (λ (w : World). w.memory) plain;
      reset = ap (λ (w : World). w.registers.global.controller_reset) plain ∙ time.reset;
      clock = ap (λ (w : World). w.registers.global.wall_clock) plain ∙ time.clock;
      beside = beside;
      shape = ap (λ (w : World). w.registers.shape) plain ∙ keeps-shape world.registers at width value;
      completion = world.registers.input.completion;
      fifo_error = world.registers.input.fifo_error;
      input = ap (λ (s : Stream). s.descriptor) stays;
      frames = ap (λ (w : World). w.frames) plain;
      state = ap (λ (s : Stream). s.state) stays;
    }

-- RIRBSTS
response_base : (f : Fields) (v : ℕ) → is_out_of_reset f.global ≡ true → (written f 0x5D One v).global.rirb_base ≡ f.global.rirb_base
unfolding written placed global_written
response_base f v out = rw out refl

-- STS: no error of the descriptor is set
pub input_error : (f : Fields) (v : ℕ) → f.input.descriptor_error ≡ 0 → (written f 0x83 One v).input.descriptor_error ≡ 0
unfolding written placed stream_written
input_error f v none = by (is_taken f 0x83 One) where
  by : (taken : Bool) → (if taken then record f { input = stream_written (access_of 0x03 One v) f.input } else f).input.descriptor_error ≡ 0
  by true = rw none refl
  by false = none

status_same : (ring : Ring) (world : World) (value : ℕ) → is_out_of_reset world.registers.global ≡ true → world.registers.input.descriptor_error ≡ 0
    → AreBesideRirb ring (after_write 0x83 One value world).registers.global.rirb_base (after_write 0x83 One value world).registers.shape → IsSame ring world (after_write 0x83 One value world)
status_same ring world value out none beside =
    let plain = plain_write world 0x83 value One (keeps-reset world.registers 0x83 One value (λ e. cc)) (keeps-left world.registers 0x83 One value (λ e. cc)) in
    let new = (written world.registers 0x83 One value).input in
    let time = written_time world.registers 0x83 One value (λ e. cc) out in
    let status = input_status world value in
    let error : new.descriptor_error ≡ world.registers.input.descriptor_error = input_error world.registers value none ∙ sym none in
    record {
      memory = ap (λ (w : World). w.memory) plain;
      reset = ap (λ (w : World). w.registers.global.controller_reset) plain ∙ time.reset;
      clock = ap (λ (w : World). w.registers.global.wall_clock) plain ∙ time.clock;
      beside = beside;
      shape = ap (λ (w : World). w.registers.shape) plain ∙ keeps-shape world.registers 0x83 One value;
      completion = new.completion;
      fifo_error = new.fifo_error;
      input = ap (λ (s : Stream). s.descriptor) status
          ∙ ap (λ error. let d : Descriptor = record world.registers.input { completion = new.completion; fifo_error = new.fifo_error; descriptor_error = error } in d) error;
      frames = ap (λ (w : World). w.frames) plain;
      state = ap (λ (s : Stream). s.state) status;
    }

-- ---- events after each of which RIRB lies outside the ring

abbrev BesideAfter : Ring → ℕ → Width → ℕ → World → Type 0
BesideAfter ring at width value world = AreBesideRirb ring (after_write at width value world).registers.global.rirb_base (after_write at width value world).registers.shape

write_same : (ring : Ring) (world : World) (at value : ℕ) (width : Width) → LeavesRecording ring (Write at width value) → BesideAfter ring at width value world → FillsRing ring world → IsSame ring world (after_write at width value world)
write_same ring world at value width (inl input) beside fills = elsewhere_same ring world at value width input fills.set.out beside
write_same ring world at value width (inr status) beside fills =
    let at_is = status.at_is in
    let width_is = status.width_is in
    subst (λ (at : ℕ). BesideAfter ring at width value world → IsSame ring world (after_write at width value world)) (sym at_is)
    (subst (λ (width : Width). BesideAfter ring 0x83 width value world → IsSame ring world (after_write 0x83 width value world)) (sym width_is)
    (status_same ring world value fills.set.out fills.set.no_error)) beside

one_goes : (ring : Ring) (event : Event) (world : World) → LeavesRecording ring event → KeepsRirbBeside ring event world → FillsRing ring world → Goes ring world (happens world event)
one_goes ring (Stepped step) world leaves beside fills = step_goes ring step world fills
one_goes ring Begin world leaves beside fills = goes_none ring world fills
one_goes ring End world leaves beside fills = goes_none ring world fills
one_goes ring (Read at width value) world leaves beside fills = goes_none ring world fills
one_goes ring (Write at width value) world leaves beside fills = same_goes ring world (after_write at width value world) (write_same ring world at value width leaves beside fills) fills
one_goes ring (DmaRead at bytes) world leaves beside fills = goes_none ring world fills
one_goes ring (DmaWrite at bytes) world leaves beside fills = memory_goes ring world at bytes leaves fills

row_goes : (ring : Ring) (events : List Event) (world : World) → LeaveRecording ring events world → FillsRing ring world → Goes ring world (after events world)
row_goes ring [] world leave fills = goes_none ring world fills
row_goes ring (event ∷ events) world leave fills =
    let here = one_goes ring event world leave.0 leave.1 fills in
    goes_both ring world (happens world event) (after events (happens world event)) here (row_goes ring events (happens world event) leave.2 here.fills)

-- ---- events that leave RIRB where it lies

-- a write leaves what records alone, and RIRB beside
write_leaves : (ring : Ring) (world : World) (at value : ℕ) (width : Width) → LeavesFilling ring (Write at width value) → FillsRing ring world → LeavesRecording ring (Write at width value) × BesideAfter ring at width value world
write_leaves ring world at value width (inl (rings, input)) fills =
    (inl input, still_beside ring world at value width input.control (leaves-rings world.registers at width value rings).rirb_base fills.beside)
write_leaves ring world at value width (inr (inl status)) fills =
    let input : IsBesideInput 0x5D = record { control = λ e. cc; descriptor = inl (omega arith) } in
    subst (λ (at : ℕ). LeavesRecording ring (Write at width value) × BesideAfter ring at width value world) (sym status.at_is)
    (subst (λ (width : Width). LeavesRecording ring (Write 0x5D width value) × BesideAfter ring 0x5D width value world) (sym status.width_is)
    (inl input, still_beside ring world 0x5D value One (λ e. cc) (response_base world.registers value fills.set.out) fills.beside))
write_leaves ring world at value width (inr (inr status)) fills =
    let rings : IsBesideRings 0x83 = record { control = inr (omega arith); rings = inr (omega arith) } in
    subst (λ (at : ℕ). LeavesRecording ring (Write at width value) × BesideAfter ring at width value world) (sym status.at_is)
    (subst (λ (width : Width). LeavesRecording ring (Write 0x83 width value) × BesideAfter ring 0x83 width value world) (sym status.width_is)
    (inr (record { at_is = refl; width_is = refl }), still_beside ring world 0x83 value One (λ e. cc) (leaves-rings world.registers 0x83 One value rings).rirb_base fills.beside))

pub event_goes : (ring : Ring) (event : Event) (world : World) → LeavesFilling ring event → FillsRing ring world → Goes ring world (happens world event)
event_goes ring (Stepped step) world leaves fills = step_goes ring step world fills
event_goes ring Begin world leaves fills = goes_none ring world fills
event_goes ring End world leaves fills = goes_none ring world fills
event_goes ring (Read at width value) world leaves fills = goes_none ring world fills
event_goes ring (Write at width value) world leaves fills =
    let both = write_leaves ring world at value width leaves fills in
    one_goes ring (Write at width value) world both.0 both.1 fills
event_goes ring (DmaRead at bytes) world leaves fills = goes_none ring world fills
event_goes ring (DmaWrite at bytes) world leaves fills = memory_goes ring world at bytes leaves fills

pub events_go : (ring : Ring) (events : List Event) (world : World) → All (LeavesFilling ring) events → FillsRing ring world → Goes ring world (after events world)
events_go ring [] world leave fills = goes_none ring world fills
events_go ring (event ∷ events) world leave fills =
    let here = event_goes ring event world (All-head (LeavesFilling ring) event events leave) fills in
    goes_both ring world (happens world event) (after events (happens world event)) here (events_go ring events (happens world event) (All-tail (LeavesFilling ring) event events leave) here.fills)

-- ---- so a recorder records on

pub events_keep_recording : (recorder : RecorderState) (events : List Event) (world : World) → LeaveRecording (recorder_ring recorder) events world → IsRecording recorder world → IsRecording recorder (after events world)
events_keep_recording recorder events world leave recording =
    goes_on recorder world (after events world) recording (row_goes (recorder_ring recorder) events world leave recording.fills)

pub fillings_keep_recording : (recorder : RecorderState) (events : List Event) (world : World) → All (LeavesFilling (recorder_ring recorder)) events → IsRecording recorder world → IsRecording recorder (after events world)
fillings_keep_recording recorder events world leave recording =
    goes_on recorder world (after events world) recording (events_go (recorder_ring recorder) events world leave recording.fills)
