-- A controller as contracts see it: a device, and the signals that are kept for its codecs. This project's own.
use Rattle.std.specs.Prelude.{ℕ, ◌==◌, Bool, false, List, map, Option, Some, None, slice_get, slice_set, slice_index}
use Rattle.std.specs.Prelude.{if◌then◌else◌}
use Rattle.std.specs.List.{list_any}
use Rattle.codec_graph.specs.declared.pin_kind.PinKind.{PinKind}
use Rattle.codec_graph.specs.declared.pin_kind.PinKind.TheVariants.{Analog}
use Rattle.codec_graph.specs.Kinds.{is_candidate_as}
use Rattle.codec_graph.specs.CodecStates.{CodecState}
use Rattle.stream_format.specs.Layouts.{layout_of}
use Rattle.codec_sound.specs.declared.signals.Signal.{Signal}
use Rattle.heard_frames.specs.HeardLists.{signal_with_as}
use Rattle.codec_sound.specs.Keeping.{KeptSignals, counted_on}
use Rattle.device_core.specs.declared.codecs.Handed.{Handed}
use Rattle.device_core.specs.Devices.{DeviceState, IsWorld}
use Rattle.hda_registers.specs.declared.shapes.Width.{Width}
use Rattle.device_core.specs.Sound.{touches_sound}
use Rattle.hda_world.specs.Worlds.{World, codec_at}
use Rattle.hda_controller.specs.Commands.{is_set_command}
use Rattle.hda_controller.specs.Keeping.{AreKeptFor}

pub record ControllerState : Type 0 where
  pub device : DeviceState
  pub kept : List KeptSignals
  -- for which pins
  pub kind : PinKind

-- with this memory the controller is this world
abbrev pub StandsFor : List ℕ → ControllerState → World → Type 0
StandsFor memory controller world = IsWorld memory controller.device world

-- the kept signals are those of the moment
abbrev pub IsController : ControllerState → Type 0
IsController controller =
    AreKeptFor controller.kind controller.device.registers.output.tag controller.device.registers.output.format
    controller.device.codecs
    controller.kept

-- whether one of the codecs has this address
abbrev pub has_codec : ℕ → List CodecState → Bool
has_codec address codecs = list_any (λ codec. codec.graph.address == address) codecs

-- ---- how often signals were renewed

abbrev pub renewals_of : ControllerState → List ℕ
renewals_of controller = map (λ one. one.renewals) controller.kept

-- the count at a place, if there is one
abbrev pub renewals_at : Option ℕ → List ℕ → Option ℕ
renewals_at None counts = None
renewals_at (Some place) counts = slice_get counts place

-- after a write: once for each codec where it touches what they depend on
abbrev pub renewals_written : ℕ → Width → List ℕ → List ℕ
renewals_written at width counts = if touches_sound at width then map counted_on counts else counts

-- after a step of CORB's engine: once for a codec that it hands a command that sets a control
abbrev pub renewals_handed : Option Handed → List ℕ → List ℕ
renewals_handed None counts = counts
renewals_handed (Some handed) counts =
    if is_set_command handed.word then slice_set counts handed.place (counted_on (slice_index counts handed.place)) else
    counts

-- ---- signals

abbrev pub is_candidate_in : PinKind → Option CodecState → ℕ → Bool
is_candidate_in kind None pin = false
is_candidate_in kind (Some codec) pin = is_candidate_as kind codec.graph pin

-- a candidate pin of the kind, of the codec with this address
abbrev pub is_candidate_of_kind : PinKind → List CodecState → ℕ → ℕ → Bool
is_candidate_of_kind kind codecs address pin = is_candidate_in kind (codec_at address codecs) pin

abbrev pub is_candidate_of : List CodecState → ℕ → ℕ → Bool
is_candidate_of codecs address pin = is_candidate_of_kind Analog codecs address pin

-- the signal of the pin of the codec with this address as a pin of the kind, by the registers and the settings of a
-- device
abbrev pub signal_now : PinKind → DeviceState → ℕ → ℕ → Signal
signal_now kind device address pin =
    signal_with_as kind (codec_at address device.codecs) device.registers.output.tag device.registers.output.format
    (layout_of device.registers.output.format) pin
