-- That a device stands for a world at all times, so that what it keeps follows from what the world keeps.
use Rattle.std.proofs.Common.{◌≡◌, ◌≤◌, ◌+◌, ◌-◌, ◌*◌, ◌%◌, ◌==◌, ◌&&◌, ℕ, min, zero, suc, false, List, [], ◌++◌, length, drop, replicate, nat_le, refl, sym, ap, subst, ◌∙◌, arith, inl}
use Rattle.std.proofs.Math.Nat.{mod-mod, mod-zero, add-mul-mod_self_left, min-eq_left, min-le_right}
use Rattle.std.proofs.lemmas.List.{length-append, length-drop, length-replicate}
use Rattle.hda_registers.specs.Fields.{Descriptor, Fields, is_out_of_reset, is_running, stream_of}
use Rattle.hda_registers.specs.Laws.{IsHeldInReset}
use Rattle.hda_registers.specs.Status.{worth}
use Rattle.stream_format.specs.Layouts.{layout_of}
use Rattle.stream_fetch.specs.Fetching as fetching
use Rattle.world_streams.specs.Streams.{StreamState, most_by, has_format, held}
use Rattle.stream_descriptor.specs.Running.{Counts, Playing, StandsFor, RunsBy, taken_bytes}
use Rattle.stream_descriptor.specs.Taking.{TakesFor}
use Rattle.hda_world.specs.Worlds.{World}
use Rattle.device_core.specs.Codecs.{AreAddresses, addresses_of}
use Rattle.device_core.specs.Devices.{DeviceState, IsWorld}
use Rattle.device_core.specs.Captures.{IsSourceOf, most_came}
use Rattle.device_core.specs.Keeping.{IsDevice, IsStanding, IsTaking, shown_state, shown_input}

-- ---- streams

after_front : (count : ℕ) (bytes : List ℕ) → drop count (replicate count 0 ++ bytes) ≡ bytes
after_front zero bytes = refl
after_front (suc count) bytes = after_front count bytes

front_length : (count : ℕ) (bytes : List ℕ) → length (replicate count 0 ++ bytes) ≡ count + length bytes
front_length count bytes = simp (length-append, length-replicate)

-- as many bytes are held as the FIFO has
held_shown : (playing : Playing) (position : ℕ) → held (shown_state playing position) ≡ length playing.fetch.bytes
held_shown playing position =
    let all = front_length position playing.fetch.bytes in
    omega (arith, all)

held_length : (playing : Playing) (state : StreamState) → fetching.StandsFor playing.fetch state → length playing.fetch.bytes ≡ held state
held_length playing state stands = ap length stands.bytes ∙ length-drop state.left state.entered

same_mod : (x y n : ℕ) → x ≡ y % n → x ≡ x % n
same_mod x y n is = subst (λ (z : ℕ). z ≡ z % n) (sym is) (sym (mod-mod y n))

-- whatever state a running stream stands for, it stands for one of which another number of bytes left, where LPIB counts these
runs_shown : {counts : Counts} (playing : Playing) (descriptor : Descriptor) (state : StreamState) (left : ℕ) → RunsBy counts playing (record { descriptor = descriptor; state = state })
    → descriptor.link_position ≡ counts (shown_state playing left) % descriptor.buffer_length
    → RunsBy counts playing (record { descriptor = descriptor; state = shown_state playing left })
runs_shown {counts} playing descriptor state left runs position =
    let count : held state ≡ held (shown_state playing left) = sym (held_length playing state runs.fetch) ∙ sym (held_shown playing left) in
    let size = front_length left playing.fetch.bytes in
    record {
      fetch = record { bytes = sym (after_front left playing.fetch.bytes); list = refl; behind = omega (arith, size) };
      frame = same_mod playing.frame state.frame 480 runs.frame;
      position = position;
      ready = runs.ready
          ∙ ap (λ (n : ℕ). worth (is_running descriptor && has_format descriptor && nat_le (most_by (layout_of descriptor.format)) n) 0) count;
    }

pub stands_shown : (playing : Playing) (fields : Fields) (state : StreamState) → StandsFor playing fields state → IsStanding playing fields
stands_shown playing fields state stands = record {
  capacity = stands.capacity;
  stopped = stands.stopped;
  running = λ on.
      let d : Descriptor = stream_of fields playing.index in
      runs_shown playing d state d.link_position (stands.running on) (same_mod d.link_position state.left d.buffer_length (stands.running on).position);
}

-- of an input stream as many bytes entered as stand at its position, and some CBLs more
taken_shown : (position long held entered : ℕ) → position ≡ entered % long → held ≤ entered → position + long * held - held + held ≡ position + long * held
taken_shown position zero held entered is behind = (let whole : position ≡ entered = is ∙ mod-zero entered in omega (arith, whole, behind))
taken_shown position (suc long) held entered is behind = omega arith

taken_position : (playing : Playing) (descriptor : Descriptor) (state : StreamState) → RunsBy taken_bytes playing (record { descriptor = descriptor; state = state })
    → descriptor.link_position ≡ length (shown_input playing descriptor.link_position descriptor.buffer_length).entered % descriptor.buffer_length
taken_position playing descriptor state runs =
    let position = descriptor.link_position in
    let long = descriptor.buffer_length in
    let holds = length playing.fetch.bytes in
    let within : holds ≤ length state.entered = (let size = held_length playing state runs.fetch in let behind = runs.fetch.behind in omega (arith, size, behind)) in
    let whole : length (shown_input playing position long).entered ≡ position + long * holds =
    front_length (position + long * holds - holds) playing.fetch.bytes ∙ taken_shown position long holds (length state.entered) runs.position within in
    same_mod position (length state.entered) long runs.position ∙ (sym (add-mul-mod_self_left position long holds) ∙ sym (ap (λ (n : ℕ). n % long) whole))

pub taking_shown : (playing : Playing) (fields : Fields) (state : StreamState) → TakesFor playing fields state → IsTaking playing fields
taking_shown playing fields state stands = record {
  capacity = stands.capacity;
  stopped = stands.stopped;
  running = λ on.
      let d : Descriptor = stream_of fields playing.index in
      let long = length playing.fetch.bytes in
      runs_shown playing d state (d.link_position + d.buffer_length * long - long) (stands.running on) (taken_position playing d state (stands.running on));
}

-- ---- devices

-- a world that the device is
abbrev pub shown_world : List ℕ → DeviceState → World
shown_world memory device = record {
  memory = memory;
  registers = device.registers;
  codecs = device.codecs;
  waiting = device.waiting;
  frames = device.frames;
  input = shown_input device.input.playing (stream_of device.registers device.input.playing.index).link_position
      (stream_of device.registers device.input.playing.index).buffer_length;
  output = shown_state device.output (stream_of device.registers device.output.index).link_position;
  given = device.input.given;
  came = replicate device.input.came false;
  commands = [];
  written = [];
  carried = [];
}

pub shown_is : (memory : List ℕ) (device : DeviceState) → IsDevice device → IsWorld memory device (shown_world memory device)
shown_is memory device keeps = record {
  memory_is = refl;
  registers_are = refl;
  codecs_are = refl;
  waiting_is = refl;
  frames_are = inl refl;
  captured = record {
    given_is = refl;
    came_is = sym (ap (λ (n : ℕ). min n most_came) (length-replicate device.input.came false) ∙ min-eq_left keeps.came_fits);
  };
  input_stands = keeps.input_stands;
  output_stands = keeps.output_stands;
}

-- a device that is some world keeps what holds at all times
pub device_from : (memory : List ℕ) (old new : DeviceState) (world : World) → IsDevice old → IsWorld memory new world
    → IsHeldInReset new.registers → addresses_of new.codecs ≡ addresses_of old.codecs → IsSourceOf new.input.source new.codecs
    → new.input.playing.index ≡ old.input.playing.index → new.output.index ≡ old.output.index → IsDevice new
device_from memory old new world keeps is held addresses source input output = record {
  held = held;
  addresses = subst AreAddresses (sym addresses) keeps.addresses;
  input_index = input ∙ keeps.input_index;
  output_index = output ∙ keeps.output_index;
  came_fits = subst (λ (n : ℕ). n ≤ most_came) (sym is.captured.came_is) (min-le_right (length world.came) most_came);
  source_is = source;
  input_stands = taking_shown new.input.playing new.registers world.input is.input_stands;
  output_stands = stands_shown new.output new.registers world.output is.output_stands;
}

-- what is held in reset stays so where nothing changes in reset
pub held_on : (old new : Fields) → IsHeldInReset old → (is_out_of_reset old.global ≡ false → new ≡ old)
    → new.global.controller_reset ≡ old.global.controller_reset → IsHeldInReset new
held_on old new held still same off =
    let before : is_out_of_reset old.global ≡ false = ap (λ (bit : ℕ). bit == 1) (sym same) ∙ off in
    subst IsHeldInReset (sym (still before)) held off
