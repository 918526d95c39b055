-- What the input stream keeps over a write of a register.
use Rattle.std.proofs.Common.{◌≡◌, ◌≤◌, ◌%◌, ℕ, Bool, true, false, List, [], ◌∷◌, length, Some, if◌then◌else◌, refl, sym, ap, subst, ◌∙◌, arith}
use Rattle.std.proofs.Math.Nat.{zero-mod}
use Rattle.hda_registers.specs.declared.shapes.Width.{Width}
use Rattle.hda_registers.specs.declared.shapes.Shape.{Shape}
use Rattle.hda_registers.specs.Fields.{Descriptor, Fields, is_running}
use Rattle.hda_registers.specs.Status.{worth}
use Rattle.hda_registers.specs.Access.{written, rose, fell, effects_of}
use Rattle.hda_registers.proofs.Callers.{keeps-shape}
use Rattle.stream_format.specs.Cadence.{bytes_of_block}
use Rattle.stream_format.specs.Layouts.{Layout, layout_of}
use Rattle.world_streams.specs.Streams.{SamePlay, StreamState, begun, is_ready, settled, settled_state}
use Rattle.world_streams.specs.Lists.{IsInUse}
use Rattle.world_streams.proofs.Callers.{write_plays, write_ready_input}
use Rattle.hda_world.specs.Buffers.{HasListOutsideBuffers, KeepsListApart}
use Rattle.hda_world.specs.Worlds.{World}
use Rattle.hda_world.specs.Events.{Event, Stepped, Begin, End, Read, Write, DmaRead, DmaWrite, reset_if, counted_anew_if, registers_written, after_write, happens, after}
use Rattle.hda_world.specs.Streaming.{IsWithinFifo, HoldsTaken, HasTakenPosition, ShowsTakenReady, AreTaken, HasTakenBlocks}
use Rattle.hda_world.proofs.Leaving.{write_registers}
use Rattle.hda_world.proofs.Stepping.{kept_step}
use Rattle.hda_world.proofs.Writing.{write_states, write_came, settled_fifo}
use Rattle.hda_world.proofs.Settling.{was_running, ready_by}
use Rattle.hda_world.proofs.Taking.{keeps_given}

-- LPIB, where RUN rose or stayed
position_by : (rises : Bool) (old new : Descriptor) (state : StreamState) → rose old new ≡ rises → (is_running old ≡ true → is_running new ≡ true → SamePlay old new)
    → (is_running old ≡ true → old.link_position ≡ length state.entered % old.buffer_length) → is_running new ≡ true
    → (if rises then 0 else new.link_position) ≡ length (if rises then begun else state).entered % new.buffer_length
position_by true old new state is plays holds on = sym (zero-mod new.buffer_length)
position_by false old new state is plays holds on =
    let ran : is_running old ≡ true = was_running (is_running old) (is_running new) is on in
    let same : SamePlay old new = plays ran on in
    same.position ∙ (holds ran ∙ ap (λ (size : ℕ). length state.entered % size) (sym same.length))

-- the blocks that were taken, where RUN stayed
order_by : (old new : Descriptor) (state : StreamState) (came : List Bool) (sound : List ℕ) → rose old new ≡ false → (is_running old ≡ true → is_running new ≡ true → SamePlay old new)
    → (is_running old ≡ true → (layout : Layout) → layout_of old.format ≡ Some layout → AreTaken (bytes_of_block layout.channels layout.bits) sound came state.entered)
    → is_running new ≡ true → (layout : Layout) → layout_of new.format ≡ Some layout → AreTaken (bytes_of_block layout.channels layout.bits) sound came state.entered
order_by old new state came sound is plays holds on layout found =
    let ran : is_running old ≡ true = was_running (is_running old) (is_running new) is on in
    let same : SamePlay old new = plays ran on in
    holds ran layout (ap layout_of (sym same.format) ∙ found)

-- no write changes the sound that pins are given
given_parts : (reset left : Bool) (world : World) → (counted_anew_if left (reset_if reset world)).given ≡ world.given
given_parts true true world = refl
given_parts true false world = refl
given_parts false true world = refl
given_parts false false world = refl

-- the input stream's registers and state after a write
module _ (world : World) (at value : ℕ) (width : Width) where
  abbrev before : Descriptor
  before = world.registers.input

  abbrev written_to : Descriptor
  written_to = (written world.registers at width value).input

  registers_are : (after_write at width value world).registers.input ≡ settled before written_to
  registers_are = ap (λ (f : Fields). f.input) (write_registers world at value width)

  state_is : (after_write at width value world).input ≡ settled_state before written_to world.input
  state_is = (write_states world at value width).0

  pub write_keeps_taken : HoldsTaken world → HoldsTaken (after_write at width value world)
  write_keeps_taken holds =
      let shape : (after_write at width value world).registers.shape ≡ world.registers.shape =
      ap (λ (f : Fields). f.shape) (write_registers world at value width) ∙ keeps-shape world.registers at width value in
      subst (λ (s : Shape). IsWithinFifo (after_write at width value world).input.left (length (after_write at width value world).input.entered) s.fifo) (sym shape)
      (subst (λ (state : StreamState). IsWithinFifo state.left (length state.entered) world.registers.shape.fifo) (sym state_is)
      (settled_fifo (rose before written_to) world.input world.registers.shape.fifo holds))

  pub write_keeps_taken_position : HasTakenPosition world → HasTakenPosition (after_write at width value world)
  write_keeps_taken_position holds =
      subst (λ (d : Descriptor). is_running d ≡ true → d.link_position ≡ length (after_write at width value world).input.entered % d.buffer_length) (sym registers_are)
      (subst (λ (state : StreamState). is_running written_to ≡ true → (settled before written_to).link_position ≡ length state.entered % written_to.buffer_length) (sym state_is)
      (position_by (rose before written_to) before written_to world.input refl (write_plays 0 world.registers at width value) holds))

  pub write_keeps_taken_ready : ShowsTakenReady world → ShowsTakenReady (after_write at width value world)
  write_keeps_taken_ready shows =
      subst (λ (d : Descriptor). d.fifo_ready ≡ worth (is_ready (record { descriptor = d; state = (after_write at width value world).input })) 0) (sym registers_are)
      (subst (λ (state : StreamState). (settled before written_to).fifo_ready ≡ worth (is_ready (record { descriptor = written_to; state = state })) 0) (sym state_is)
      (ready_by (rose before written_to) (fell before written_to) before written_to world.input refl refl
      (write_plays 0 world.registers at width value) (write_ready_input world.registers at width value) shows))

  -- where RUN rose nothing came yet
  pub write_begins_taken_order : rose before written_to ≡ true → ((after_write at width value world).came ≡ []) × ((after_write at width value world).input.entered ≡ [])
  write_begins_taken_order rises = (
    write_came world at value width ∙ ap (λ (begins : Bool). if begins then [] else world.came) rises,
    ap (λ (state : StreamState). state.entered) (state_is ∙ ap (λ (begins : Bool). if begins then begun else world.input) rises),
  )

  -- and else what came stays
  pub write_keeps_came : rose before written_to ≡ false → (after_write at width value world).came ≡ world.came
  write_keeps_came rises = write_came world at value width ∙ ap (λ (begins : Bool). if begins then [] else world.came) rises

  -- where RUN rose no entry is in use, and the first is read next
  pub write_begins_list : rose before written_to ≡ true → HasListOutsideBuffers (after_write at width value world) → KeepsListApart (after_write at width value world)
  write_begins_list rises outside = λ runs.
      let starts : (after_write at width value world).input ≡ begun = state_is ∙ ap (λ (begins : Bool). if begins then begun else world.input) rises in
      record {
        in_use = subst (λ (state : StreamState). IsInUse state.list) (sym starts) refl;
        listed = subst (λ (state : StreamState). state.list.index ≤ (after_write at width value world).registers.input.last_index) (sym starts) (omega arith);
        apart = outside;
      }

  -- the order of what was taken too
  pub write_keeps_taken_order : rose before written_to ≡ false → HasTakenBlocks world → HasTakenBlocks (after_write at width value world)
  write_keeps_taken_order rises holds =
      let given : (after_write at width value world).given ≡ world.given =
      given_parts (effects_of world.registers at width value).reset (effects_of world.registers at width value).left_reset
      (registers_written (written world.registers at width value) world) in
      subst (λ (d : Descriptor). is_running d ≡ true → (layout : Layout) → layout_of d.format ≡ Some layout
      → AreTaken (bytes_of_block layout.channels layout.bits) (after_write at width value world).given (after_write at width value world).came (after_write at width value world).input.entered)
      (sym registers_are)
      (subst (λ (sound : List ℕ). is_running written_to ≡ true → (layout : Layout) → layout_of written_to.format ≡ Some layout
      → AreTaken (bytes_of_block layout.channels layout.bits) sound (after_write at width value world).came (after_write at width value world).input.entered) (sym given)
      (subst (λ (came : List Bool). is_running written_to ≡ true → (layout : Layout) → layout_of written_to.format ≡ Some layout
      → AreTaken (bytes_of_block layout.channels layout.bits) world.given came (after_write at width value world).input.entered)
      (sym (write_came world at value width ∙ ap (λ (begins : Bool). if begins then [] else world.came) rises))
      (subst (λ (state : StreamState). is_running written_to ≡ true → (layout : Layout) → layout_of written_to.format ≡ Some layout
      → AreTaken (bytes_of_block layout.channels layout.bits) world.given world.came state.entered)
      (sym (state_is ∙ ap (λ (begins : Bool). if begins then begun else world.input) rises))
      (order_by before written_to world.input world.came world.given rises (write_plays 0 world.registers at width value) holds))))

-- ---- the sound that pins are given

given_event : (event : Event) (world : World) → (happens world event).given ≡ world.given
given_event (Stepped step) world = kept_step (λ (now : World). now.given ≡ world.given) (keeps_given world.given) step world refl
given_event Begin world = refl
given_event End world = refl
given_event (Read at width value) world = refl
given_event (Write at width value) world =
    given_parts (effects_of world.registers at width value).reset (effects_of world.registers at width value).left_reset (registers_written (written world.registers at width value) world)
given_event (DmaRead at bytes) world = refl
given_event (DmaWrite at bytes) world = refl

pub given_after : (events : List Event) (world : World) → (after events world).given ≡ world.given
given_after [] world = refl
given_after (event ∷ events) world = given_after events (happens world event) ∙ given_event event world
