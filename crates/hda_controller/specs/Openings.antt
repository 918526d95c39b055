-- The world of a machine at its start: its controller in reset, and its codecs with the settings and what is plugged in
-- that its file says. This project's own.
use Rattle.std.specs.Prelude.{◌≡◌, ℕ, List, [], map, All}
use Rattle.codec_graph.specs.CodecStates.{CodecState}
use Rattle.codec_sound.specs.Keeping.{KeptSignals}
use Rattle.codec_graph.specs.declared.pin_kind.PinKind.{PinKind}
use Rattle.hda_files.specs.declared.machine.CodecFile.{CodecFile}
use Rattle.hda_files.specs.declared.machine.Machine.{Machine}
use Rattle.hda_files.specs.declared.top.RingSize as files
use Rattle.hda_files.specs.declared.top.RingSize.TheVariants as file_size
use Rattle.hda_registers.specs.declared.shapes.RingSize as registers
use Rattle.hda_registers.specs.declared.shapes.RingSize.TheVariants as size
use Rattle.hda_registers.specs.declared.shapes.Shape.{Shape}
use Rattle.device_core.specs.Codecs.{codec_bits}
use Rattle.device_core.specs.Devices.{new_world}
use Rattle.hda_world.specs.Worlds.{World}
use Rattle.hda_controller.specs.Keeping.{IsKeptFor, AreKeptFor}

-- a codec as its file describes it, at which nothing waits
abbrev pub codec_in : CodecFile → CodecState
codec_in file = record { graph = file.graph; settings = file.settings; present = file.present; waiting = [] }

abbrev pub codecs_in : List CodecFile → List CodecState
codecs_in files = map codec_in files

abbrev pub ring_in : files.RingSize → registers.RingSize
ring_in file_size.Two = size.Two
ring_in file_size.Sixteen = size.Sixteen
ring_in file_size.Full = size.Full

abbrev pub shape_of : Machine → Shape
shape_of machine = record {
  fifo = machine.fifo;
  corb = ring_in machine.corb;
  rirb = ring_in machine.rirb;
  codecs = codec_bits (codecs_in machine.codecs);
}

abbrev pub opening_world : List ℕ → Machine → World
opening_world memory machine = new_world memory (shape_of machine) (codecs_in machine.codecs)

-- what private functions promise one another: the signals of codecs that were never renewed, while no stream has a tag
-- or a format
pub record IsFresh (kind : PinKind) (codec : CodecState) (one : KeptSignals) : Type 0 where
  pub fits : IsKeptFor kind 0 0 codec.graph codec.settings one
  pub count : one.renewals ≡ 0

pub record AreFresh (kind : PinKind) (codecs : List CodecState) (kept : List KeptSignals) : Type 0 where
  pub fit : AreKeptFor kind 0 0 codecs kept
  pub counts : All (λ one. one.renewals ≡ 0) kept
