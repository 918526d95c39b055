-- What holds of a device at all times. This project's own.
use Rattle.std.specs.Prelude.{◌≡◌, ◌≤◌, ◌+◌, ◌-◌, ◌*◌, ℕ, ◌++◌, length, replicate}
use Rattle.hda_registers.specs.Fields.{Fields, stream_of}
use Rattle.hda_registers.specs.Laws.{IsHeldInReset}
use Rattle.world_streams.specs.Streams.{StreamState}
use Rattle.stream_descriptor.specs.Running.{Playing, StandsFor}
use Rattle.stream_descriptor.specs.Taking.{TakesFor}
use Rattle.device_core.specs.Captures.{IsSourceOf, most_came}
use Rattle.device_core.specs.Codecs.{AreAddresses, addresses_of}
use Rattle.device_core.specs.Devices.{DeviceState}

-- a state that a stream can stand for: so many bytes left its FIFO, which has the others
abbrev pub shown_state : Playing → (left : ℕ) → StreamState
shown_state playing left = record {
  frame = playing.frame;
  entered = replicate left 0 ++ playing.fetch.bytes;
  left = left;
  list = playing.fetch.list;
}

-- an output stream stands for some state: as many bytes left it as its descriptor's position says
abbrev pub IsStanding : Playing → Fields → Type 0
IsStanding playing fields = StandsFor playing fields
    (shown_state playing (stream_of fields playing.index).link_position)

-- a state that an input stream can stand for whose descriptor has this position and this CBL: so many bytes left it
-- that those that entered stand at the position, modulo CBL
abbrev pub shown_input : Playing → (position long : ℕ) → StreamState
shown_input playing position long = shown_state playing
    (position + long * length playing.fetch.bytes - length playing.fetch.bytes)

-- an input stream stands for some state
abbrev pub IsTaking : Playing → Fields → Type 0
IsTaking playing fields = TakesFor playing fields (shown_input playing
    (stream_of fields playing.index).link_position (stream_of fields playing.index).buffer_length)

pub record IsDevice (device : DeviceState) : Type 0 where
  pub held : IsHeldInReset device.registers
  pub addresses : AreAddresses (addresses_of device.codecs)
  pub input_index : device.input.playing.index ≡ 0
  pub output_index : device.output.index ≡ 1
  pub came_fits : device.input.came ≤ most_came
  pub source_is : IsSourceOf device.input.source device.codecs
  pub input_stands : IsTaking device.input.playing device.registers
  pub output_stands : IsStanding device.output device.registers
