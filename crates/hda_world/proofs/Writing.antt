-- What writes of registers do to the streams.
use Rattle.std.proofs.Common.{◌≡◌, ◌≢◌, ◌≤◌, ◌<◌, ◌/◌, ◌⊎◌, inl, inr, nat_lt, ℕ, Bool, true, false, List, length, if◌then◌else◌, refl, sym, ap, ap₂, subst, ◌∙◌, arith, rules, tests}
use Rattle.std.proofs.Math.Bool.{not-and_self, and-not_self}
use Rattle.std.proofs.lemmas.Bool.{cases_lt}
use Rattle.hda_registers.specs.declared.shapes.Width.{Width}
use Rattle.hda_registers.specs.declared.shapes.Width.TheVariants.{One}
use Rattle.hda_registers.specs.declared.shapes.Shape.{Shape}
use Rattle.hda_registers.specs.Fields.{Global, Descriptor, Fields, reset_fields, is_out_of_reset, is_running}
use Rattle.hda_registers.specs.Access.{written, placed, with_global, global_written, access_of, is_taken, effects_of, rose}
use Rattle.hda_registers.specs.Laws.{IsBesideStreams, LeavesStreams}
use Rattle.hda_registers.proofs.Callers.{leaves-streams, changes-output, status-input, keeps-shape}
use Rattle.world_streams.specs.Streams.{StreamState, begun, settled, settled_state}
use Rattle.hda_world.specs.Worlds.{World, input_of}
use Rattle.hda_world.specs.Events.{reset_if, counted_anew_if, registers_written, settled_came, after_write}
use Rattle.hda_world.specs.Leaving.{StreamsStay}
use Rattle.hda_world.specs.Streaming.{IsWithinFifo, HoldsFifo}
use Rattle.hda_world.proofs.Leaving.{write_registers}

-- a reset and a fresh count leave the streams
parts : (reset left : Bool) (world : World) →
    ((counted_anew_if left (reset_if reset world)).input ≡ world.input) × ((counted_anew_if left (reset_if reset world)).output ≡ world.output)
    × ((counted_anew_if left (reset_if reset world)).carried ≡ world.carried) × ((counted_anew_if left (reset_if reset world)).came ≡ world.came)
parts true true world = (refl, refl, refl, refl)
parts true false world = (refl, refl, refl, refl)
parts false true world = (refl, refl, refl, refl)
parts false false world = (refl, refl, refl, refl)

pub settled_same : (d : Descriptor) → settled d d ≡ d
settled_same d = rw (not-and_self (is_running d), and-not_self (is_running d)) refl

settled_run : (d : Descriptor) (completion fifo_error descriptor_error : ℕ)
    → (let new : Descriptor = record d { completion = completion; fifo_error = fifo_error; descriptor_error = descriptor_error } in settled d new ≡ new)
settled_run d completion fifo_error descriptor_error = rw (not-and_self (is_running d), and-not_self (is_running d)) refl

state_same : (d : Descriptor) (state : StreamState) → settled_state d d state ≡ state
state_same d state = rw (not-and_self (is_running d)) refl

came_same : (d : Descriptor) (came : List Bool) → settled_came d d came ≡ came
came_same d came = rw (not-and_self (is_running d)) refl

-- a write that leaves both descriptors leaves both streams
descriptors_left : (world : World) (at value : ℕ) (width : Width) → LeavesStreams world.registers (written world.registers at width value) → StreamsStay world (after_write at width value world)
descriptors_left world at value width left =
    let fields = write_registers world at value width in
    let rest = parts (effects_of world.registers at width value).reset (effects_of world.registers at width value).left_reset (registers_written (written world.registers at width value) world) in
    record {
      input_registers = ap (λ (f : Fields). f.input) fields ∙ (ap (settled world.registers.input) left.input ∙ settled_same world.registers.input);
      output_registers = ap (λ (f : Fields). f.output) fields ∙ (ap (settled world.registers.output) left.output ∙ settled_same world.registers.output);
      input = rest.0 ∙ (ap (λ (d : Descriptor). settled_state world.registers.input d world.input) left.input ∙ state_same world.registers.input world.input);
      output = rest.1 ∙ (ap (λ (d : Descriptor). settled_state world.registers.output d world.output) left.output ∙ state_same world.registers.output world.output);
      carried = rest.2;
      came = rest.3 ∙ (ap (λ (d : Descriptor). settled_came world.registers.input d world.came) left.input ∙ came_same world.registers.input world.came);
    }

pub beside_streams : (world : World) (at value : ℕ) (width : Width) → at / 4 ≢ 2 → IsBesideStreams at → StreamsStay world (after_write at width value world)
beside_streams world at value width apart beside = descriptors_left world at value width (leaves-streams world.registers at width value apart beside)

-- a write beside GCTL and the input's descriptor leaves the input stream
input_left : (fields : Fields) (at value : ℕ) (width : Width) → at / 4 ≢ 2 → (at < 0x80) ⊎ (0xA0 ≤ at) → (written fields at width value).input ≡ fields.input
input_left fields at value width apart (inl below) = (leaves-streams fields at width value apart (inl below)).input
input_left fields at value width apart (inr above) = by (cases_lt at 0xC0)
  where
    by : (at < 0xC0) ⊎ (0xC0 ≤ at) → (written fields at width value).input ≡ fields.input
    by (inl below) = (changes-output fields at width value above below).input
    by (inr over) = (leaves-streams fields at width value apart (inr over)).input

pub input_stays : (world : World) (at value : ℕ) (width : Width) → at / 4 ≢ 2 → (at < 0x80) ⊎ (0xA0 ≤ at) → input_of (after_write at width value world) ≡ input_of world
input_stays world at value width apart beside =
    let left = input_left world.registers at value width apart beside in
    let fields = write_registers world at value width in
    let rest = parts (effects_of world.registers at width value).reset (effects_of world.registers at width value).left_reset (registers_written (written world.registers at width value) world) in
    ap₂ (λ (descriptor : Descriptor) (state : StreamState). record { descriptor = descriptor; state = state })
    (ap (λ (f : Fields). f.input) fields ∙ (ap (settled world.registers.input) left ∙ settled_same world.registers.input))
    (rest.0 ∙ (ap (λ (d : Descriptor). settled_state world.registers.input d world.input) left ∙ state_same world.registers.input world.input))

-- a change after which CRST is 1 leaves both descriptors
abbrev LeavesOut : Fields → Fields → Type 0
LeavesOut old new = is_out_of_reset new.global ≡ true → LeavesStreams old new

same_out : (f : Fields) → LeavesOut f f
same_out f out = record { input = refl; output = refl }

global_out : (f : Fields) (g : Global) → LeavesOut f (with_global f g)
global_out f g = by_out (is_out_of_reset g)
  where
    by_out : (out : Bool) → LeavesOut f (if out then record f { global = g } else reset_fields f.shape g.state_status)
    by_out true still = record { input = refl; output = refl }
    by_out false still = (
        let z : false ≡ true = still in
        cc)

where_true : (test : Bool) (f one other : Fields) → test ≡ true → LeavesOut f one → LeavesOut f (if test then one else other)
where_true true f one other is leaves = leaves
where_true false f one other is leaves = cc

where_false : (test : Bool) (f one other : Fields) → test ≡ false → LeavesOut f other → LeavesOut f (if test then one else other)
where_false true f one other is leaves = cc
where_false false f one other is leaves = leaves

either : (test : Bool) (f one : Fields) → LeavesOut f one → LeavesOut f (if test then one else f)
either true f one leaves = leaves
either false f one leaves = same_out f

is_below : (at bound : ℕ) → at < bound → nat_lt at bound ≡ true
is_below at bound below = search (rules, tests)

is_above : (at bound : ℕ) → bound ≤ at → nat_lt at bound ≡ false
is_above at bound above = search (rules, tests)

written_out : (f : Fields) (at value : ℕ) (width : Width) → IsBesideStreams at → LeavesOut f (written f at width value)
unfolding written placed
written_out f at value width (inl below) = either (is_taken f at width) f _ (where_true (nat_lt at 0x80) f _ _ (is_below at 0x80 below) (global_out f (global_written f.shape (access_of at width value) f.global)))
written_out f at value width (inr above) = either (is_taken f at width) f _
    (where_false (nat_lt at 0x80) f _ _ (is_above at 0x80 (omega (arith, above))) (where_false (nat_lt at 0xA0) f _ _ (is_above at 0xA0 (omega (arith, above)))
    (where_false (nat_lt at 0xC0) f _ _ (is_above at 0xC0 above) (same_out f))))

-- so a write beside the descriptors after which CRST is 1 leaves both streams
pub streams_out : (world : World) (at value : ℕ) (width : Width) → IsBesideStreams at → is_out_of_reset (after_write at width value world).registers.global ≡ true
    → StreamsStay world (after_write at width value world)
streams_out world at value width beside out =
    descriptors_left world at value width
    (written_out world.registers at value width beside (ap (λ (f : Fields). is_out_of_reset f.global) (sym (write_registers world at value width)) ∙ out))

-- the streams' states after a write
pub write_states : (world : World) (at value : ℕ) (width : Width) → let new = written world.registers at width value in
    ((after_write at width value world).input ≡ settled_state world.registers.input new.input world.input)
    × ((after_write at width value world).output ≡ settled_state world.registers.output new.output world.output)
write_states world at value width =
    let rest = parts (effects_of world.registers at width value).reset (effects_of world.registers at width value).left_reset (registers_written (written world.registers at width value) world) in
    (rest.0, rest.1)

-- a write of the input stream's status changes its status bits alone
pub input_status : (world : World) (value : ℕ) → let new = (written world.registers 0x83 One value).input in
    input_of (after_write 0x83 One value world)
    ≡ record { descriptor = record world.registers.input { completion = new.completion; fifo_error = new.fifo_error; descriptor_error = new.descriptor_error }; state = world.input }
input_status world value =
    let new = (written world.registers 0x83 One value).input in
    let status = status-input world.registers value in
    let fields = write_registers world 0x83 value One in
    let stays : Descriptor = record world.registers.input { completion = new.completion; fifo_error = new.fifo_error; descriptor_error = new.descriptor_error } in
    ap₂ (λ (descriptor : Descriptor) (state : StreamState). record { descriptor = descriptor; state = state })
    (ap (λ (f : Fields). f.input) fields ∙ (ap (settled world.registers.input) status ∙ settled_run world.registers.input new.completion new.fifo_error new.descriptor_error))
    ((write_states world 0x83 value One).0 ∙ (ap (λ (d : Descriptor). settled_state world.registers.input d world.input) status ∙ state_same world.registers.input world.input))

-- and what came
pub write_came : (world : World) (at value : ℕ) (width : Width)
    → (after_write at width value world).came ≡ settled_came world.registers.input (written world.registers at width value).input world.came
write_came world at value width =
    (parts (effects_of world.registers at width value).reset (effects_of world.registers at width value).left_reset (registers_written (written world.registers at width value) world)).3

-- ---- the FIFO

fresh : (fifo : ℕ) → IsWithinFifo 0 0 fifo
fresh fifo = record { behind = omega arith; ahead = omega arith }

pub settled_fifo : (rises : Bool) (state : StreamState) (fifo : ℕ) → IsWithinFifo state.left (length state.entered) fifo
    → let after : StreamState = if rises then begun else state in IsWithinFifo after.left (length after.entered) fifo
settled_fifo true state fifo holds = fresh fifo
settled_fifo false state fifo holds = holds

pub write_keeps_fifo : (world : World) (at value : ℕ) (width : Width) → HoldsFifo world → HoldsFifo (after_write at width value world)
write_keeps_fifo world at value width holds =
    let new = written world.registers at width value in
    let shape : (after_write at width value world).registers.shape ≡ world.registers.shape =
    ap (λ (f : Fields). f.shape) (write_registers world at value width) ∙ keeps-shape world.registers at width value in
    let rest = parts (effects_of world.registers at width value).reset (effects_of world.registers at width value).left_reset (registers_written new world) in
    let settled_holds = settled_fifo (rose world.registers.output new.output) world.output world.registers.shape.fifo holds in
    subst (λ (s : Shape). IsWithinFifo (after_write at width value world).output.left (length (after_write at width value world).output.entered) s.fifo) (sym shape)
    (subst (λ (state : StreamState). IsWithinFifo state.left (length state.entered) world.registers.shape.fifo) (sym rest.1) settled_holds)
