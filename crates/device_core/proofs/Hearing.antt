-- That the device goes where the world goes as blocks come to its input stream, and as that stores its bytes.
use Rattle.std.proofs.Common.{◌≡◌, ◌+◌, ◌++◌, ℕ, min, Bool, true, false, List, length, refl, sym, ap, subst, ◌∙◌, length-append}
use Rattle.codec_graph.specs.CodecStates.{CodecState}
use Rattle.hda_registers.specs.Fields.{Descriptor, Fields, is_out_of_reset, is_running, stream_of}
use Rattle.hda_registers.specs.Laws.{IsHeldInReset}
use Rattle.hda_registers.specs.declared.shapes.Shape.{Shape}
use Rattle.world_streams.specs.Streams.{StreamState, Stream}
use Rattle.world_streams.specs.Input.{Intake, Storage, frame_move, store}
use Rattle.world_streams.proofs.Callers.{move-stopped, store-stopped}
use Rattle.stream_descriptor.specs.declared.arrived.Arrived.{Arrived}
use Rattle.stream_descriptor.specs.Running.{Playing, StandsFor, Runs, stream_at, with_descriptor}
use Rattle.stream_descriptor.specs.Taking.{TakesFor, TakesTo, framed_at, marks_in, stored_at}
use Rattle.stream_descriptor.proofs.Callers.{marks-count}
use Rattle.hda_world.specs.Worlds.{World, input_of}
use Rattle.hda_world.specs.Arriving.{arriving}
use Rattle.hda_world.specs.Steps.{with_intake, input_framed, storage_of, with_storage, input_stored}
use Rattle.device_core.specs.Captures.{CaptureState, IsSourceOf, arriving_at, most_came}
use Rattle.device_core.specs.Devices.{DeviceState, IsWorld, KeepsSound}
use Rattle.device_core.specs.Keeping.{IsDevice}
use Rattle.device_core.proofs.Standing.{device_from, held_on}
use Rattle.device_core.proofs.Bringing.{framed-stopped}

-- ---- in reset

-- a stream that is held in reset does not run
pub rests_in_reset : (fields : Fields) → IsHeldInReset fields → is_out_of_reset fields.global ≡ false → is_running fields.input ≡ false
rests_in_reset fields held off = ap (λ (f : Fields). is_running f.input) (held off)

-- so it does not matter that a call does nothing then
framed_held : (fields : Fields) (state : StreamState) (blocks : List (List ℕ)) → IsHeldInReset fields → framed_at 0 blocks fields state ≡ frame_move fields.shape.fifo blocks (stream_at 0 fields state)
framed_held fields state blocks held = by_out _ refl
  where
    moved : Intake
    moved = frame_move fields.shape.fifo blocks (stream_at 0 fields state)

    by_out : (out : Bool) → is_out_of_reset fields.global ≡ out → framed_at 0 blocks fields state ≡ frame_move fields.shape.fifo blocks (stream_at 0 fields state)
    by_out true is = rw is refl
    by_out false is = rw is (sym (move-stopped fields.shape.fifo blocks (stream_at 0 fields state) (rests_in_reset fields held is)))

stored_held : (most : ℕ) (memory : List ℕ) (fields : Fields) (state : StreamState) → IsHeldInReset fields
    → stored_at 0 most memory fields state ≡ store most (record { memory = memory; stream = stream_at 0 fields state })
stored_held most memory fields state held = by_out _ refl
  where
    by_out : (out : Bool) → is_out_of_reset fields.global ≡ out → stored_at 0 most memory fields state ≡ store most (record { memory = memory; stream = stream_at 0 fields state })
    by_out true is = rw is refl
    by_out false is = rw is (sym (store-stopped most (record { memory = memory; stream = stream_at 0 fields state }) (rests_in_reset fields held is)))

-- ---- beside the output stream

-- the output stream stands for its state whatever the input's descriptor is
beside_input : (playing : Playing) (old new : Fields) (state : StreamState) → playing.index ≡ 1 → StandsFor playing old state → new.shape ≡ old.shape → new.output ≡ old.output
    → StandsFor playing new state
beside_input playing old new state index stands shape output =
    let here : stream_of new playing.index ≡ stream_of old playing.index =
    ap (stream_of new) index ∙ (output ∙ sym (ap (stream_of old) index)) in
    record {
      capacity = stands.capacity ∙ ap (λ (s : Shape). s.fifo) (sym shape);
      stopped = λ off. stands.stopped (ap is_running (sym here) ∙ off);
      running = λ on. subst (λ (d : Descriptor). Runs playing (record { descriptor = d; state = state })) (sym here) (stands.running (ap is_running (sym here) ∙ on));
    }

-- ---- a link frame

-- what the capture does in a link frame that brings these blocks
abbrev pub Brings : (before after : CaptureState) (old new : Fields) (codecs : List CodecState) → Type 0
Brings before after old new codecs =
    (came : ℕ) (state : StreamState) → before.came ≡ min came most_came → TakesFor before.playing old state
    → TakesTo after.playing old new (framed_at 0 (arriving_at old codecs before.given came state) old state).stream

-- what it says of them
abbrev pub Marks : (before : CaptureState) (old : Fields) (codecs : List CodecState) (arrived : Arrived) → Type 0
Marks before old codecs arrived =
    (came : ℕ) (state : StreamState) → before.came ≡ min came most_came → TakesFor before.playing old state
    → marks_in arrived ≡ (framed_at 0 (arriving_at old codecs before.given came state) old state).marks

-- how it counts them
abbrev pub Counts : (before after : CaptureState) (arrived : Arrived) → Type 0
Counts before after arrived = (came : ℕ) → before.came ≡ min came most_came → after.came ≡ min (came + (arrived.taken + arrived.dropped)) most_came

-- what it does in a store, and what that leaves in memory
abbrev pub Stores : (before after : CaptureState) (old new : Fields) (most : ℕ) (memory : List ℕ) → Type 0
Stores before after old new most memory =
    (state : StreamState) → TakesFor before.playing old state → TakesTo after.playing old new (stored_at before.playing.index most memory old state).stream

abbrev pub StoresMemory : (before : CaptureState) (old : Fields) (most : ℕ) (memory later : List ℕ) → Type 0
StoresMemory before old most memory later =
    (state : StreamState) → TakesFor before.playing old state → later ≡ (stored_at before.playing.index most memory old state).memory

module _ (memory : List ℕ) (old : DeviceState) (world : World) (is : IsWorld memory old world) (held : IsHeldInReset old.registers) (output_index : old.output.index ≡ 1) where
  abbrev r : Fields
  r = old.registers

  -- with another input stream of other registers
  with_input : (later : List ℕ) (after : CaptureState) (new : Fields) (stream : Stream) (came : List Bool) → after.playing.index ≡ 0 → TakesTo after.playing r new stream → after.given ≡ old.input.given
      → after.came ≡ min (length came) most_came
      → IsWorld later (record old { registers = new; input = after })
      (record world { memory = later; registers = record world.registers { input = stream.descriptor }; input = stream.state; came = came })
  with_input later after new stream came index leads given count =
      let here : new ≡ record r { input = stream.descriptor } = leads.registers ∙ ap (λ (i : ℕ). with_descriptor i stream.descriptor r) index in
      record {
        memory_is = refl;
        registers_are = ap (λ (f : Fields). record f { input = stream.descriptor }) is.registers_are ∙ sym here;
        codecs_are = is.codecs_are;
        waiting_is = is.waiting_is;
        frames_are = is.frames_are;
        captured = record { given_is = is.captured.given_is ∙ sym given; came_is = count };
        input_stands = leads.stands;
        output_stands = beside_input old.output r new world.output output_index is.output_stands (ap (λ (f : Fields). f.shape) here) (ap (λ (f : Fields). f.output) here);
      }

  -- the blocks that come
  blocks_same : arriving world ≡ arriving_at r old.codecs old.input.given (length world.came) world.input
  blocks_same =
      ap (λ (f : Fields). arriving_at f world.codecs world.given (length world.came) world.input) is.registers_are
      ∙ (ap (λ (codecs : List CodecState). arriving_at r codecs world.given (length world.came) world.input) is.codecs_are
      ∙ ap (λ (given : List ℕ). arriving_at r old.codecs given (length world.came) world.input) is.captured.given_is)

  intake_same : frame_move world.registers.shape.fifo (arriving world) (input_of world) ≡ framed_at 0 (arriving_at r old.codecs old.input.given (length world.came) world.input) r world.input
  intake_same =
      ap (λ (blocks : List (List ℕ)). frame_move world.registers.shape.fifo blocks (input_of world)) blocks_same
      ∙ (ap (λ (f : Fields). frame_move f.shape.fifo (arriving_at r old.codecs old.input.given (length world.came) world.input) (stream_at 0 f world.input)) is.registers_are
      ∙ sym (framed_held r world.input (arriving_at r old.codecs old.input.given (length world.came) world.input) held))

  pub heard_marks : (arrived : Arrived) → Marks old.input r old.codecs arrived → (input_framed world).came ≡ world.came ++ marks_in arrived
  heard_marks arrived marks =
      ap (λ (intake : Intake). world.came ++ intake.marks) intake_same ∙ ap (λ (added : List Bool). world.came ++ added) (sym (marks (length world.came) world.input is.captured.came_is is.input_stands))

  pub heard_moved : (after : CaptureState) (new : Fields) (arrived : Arrived) → after.playing.index ≡ 0 → Brings old.input after r new old.codecs → Marks old.input r old.codecs arrived
      → after.given ≡ old.input.given → Counts old.input after arrived
      → IsWorld memory (record old { registers = new; input = after }) (input_framed world)
  heard_moved after new arrived index brings marks given count =
      let intake : Intake = framed_at 0 (arriving_at r old.codecs old.input.given (length world.came) world.input) r world.input in
      let size : length (world.came ++ intake.marks) ≡ length world.came + (arrived.taken + arrived.dropped) =
      length-append world.came intake.marks
      ∙ ap (λ (n : ℕ). length world.came + n) (ap length (sym (marks (length world.came) world.input is.captured.came_is is.input_stands)) ∙ marks-count arrived) in
      subst (λ (intake : Intake). IsWorld memory (record old { registers = new; input = after }) (with_intake intake world)) (sym intake_same)
      (subst (λ (m : List ℕ). IsWorld memory (record old { registers = new; input = after })
      (record world { memory = m; registers = record world.registers { input = intake.stream.descriptor }; input = intake.stream.state; came = world.came ++ intake.marks })) (sym is.memory_is)
      (with_input memory after new intake.stream (world.came ++ intake.marks) index (brings (length world.came) world.input is.captured.came_is is.input_stands) given
      (count (length world.came) is.captured.came_is ∙ sym (ap (λ (n : ℕ). min n most_came) size))))

  -- ---- a store

  storage_same : (most : ℕ) → store most (storage_of world) ≡ stored_at 0 most memory r world.input
  storage_same most =
      ap (λ (m : List ℕ). store most (record { memory = m; stream = input_of world })) is.memory_is
      ∙ (ap (λ (f : Fields). store most (record { memory = memory; stream = stream_at 0 f world.input })) is.registers_are
      ∙ sym (stored_held most memory r world.input held))

  pub store_moved : (most : ℕ) (later : List ℕ) (after : CaptureState) (new : Fields) → old.input.playing.index ≡ 0 → after.playing.index ≡ old.input.playing.index
      → Stores old.input after r new most memory → StoresMemory old.input r most memory later
      → after ≡ record old.input { playing = after.playing }
      → IsWorld later (record old { registers = new; input = after }) (input_stored most world)
  store_moved most later after new index same leads memory_is kept =
      let storage : Storage = stored_at 0 most memory r world.input in
      let went : TakesTo after.playing r new storage.stream =
      subst (λ (i : ℕ). TakesTo after.playing r new (stored_at i most memory r world.input).stream) index (leads world.input is.input_stands) in
      let now : later ≡ storage.memory = memory_is world.input is.input_stands ∙ ap (λ (i : ℕ). (stored_at i most memory r world.input).memory) index in
      subst (λ (storage : Storage). IsWorld later (record old { registers = new; input = after }) (with_storage storage world)) (sym (storage_same most))
      (subst (λ (m : List ℕ). IsWorld later (record old { registers = new; input = after })
      (record world { memory = m; registers = record world.registers { input = storage.stream.descriptor }; input = storage.stream.state })) now
      (with_input later after new storage.stream world.came (same ∙ index) went (ap (λ (capture : CaptureState). capture.given) kept) (ap (λ (capture : CaptureState). capture.came) kept ∙ is.captured.came_is)))

-- ---- what holds of a device at all times

-- the registers have another input's descriptor
registers_by : (index : ℕ) (old new : Fields) (d : Descriptor) → index ≡ 0 → new ≡ with_descriptor index d old → new ≡ record old { input = d }
registers_by index old new d is new_is = new_is ∙ ap (λ (i : ℕ). with_descriptor i d old) is

module _ (later : List ℕ) (old : DeviceState) (after : CaptureState) (new : Fields) (stream : Stream) (index : after.playing.index ≡ 0) (leads : TakesTo after.playing old.registers new stream) where
  -- the output stream's tag and format stay
  pub input_sound : KeepsSound old.registers new
  input_sound =
      let here = registers_by after.playing.index old.registers new stream.descriptor index leads.registers in
      record { tag = ap (λ (f : Fields). f.output.tag) here; format = ap (λ (f : Fields). f.output.format) here }

  pub input_keeps : (world : World) → IsDevice old → IsWorld later (record old { registers = new; input = after }) world → (is_out_of_reset old.registers.global ≡ false → stream.descriptor ≡ old.registers.input)
      → IsSourceOf after.source old.codecs → IsDevice (record old { registers = new; input = after })
  input_keeps world keeps is still source =
      let here = registers_by after.playing.index old.registers new stream.descriptor index leads.registers in
      device_from later old (record old { registers = new; input = after }) world keeps is
      (held_on old.registers new keeps.held (λ off. here ∙ ap (λ (d : Descriptor). record old.registers { input = d }) (still off)) (ap (λ (f : Fields). f.global.controller_reset) here))
      refl source (index ∙ sym keeps.input_index) refl

-- in reset a link frame and a store leave the descriptor
pub heard_still : (fields : Fields) (state : StreamState) (blocks : List (List ℕ)) → IsHeldInReset fields → is_out_of_reset fields.global ≡ false → (framed_at 0 blocks fields state).stream.descriptor ≡ fields.input
heard_still fields state blocks held off = ap (λ (intake : Intake). intake.stream.descriptor) (framed-stopped fields state blocks (rests_in_reset fields held off))

pub stored_still : (most : ℕ) (memory : List ℕ) (fields : Fields) (state : StreamState) → is_out_of_reset fields.global ≡ false → (stored_at 0 most memory fields state).stream.descriptor ≡ fields.input
stored_still most memory fields state off = rw off refl
