-- Blocks that link frames carried and no list heard yet. What private functions promise one another; this project's
-- own.
use Rattle.std.specs.Prelude.{◌≡◌, ◌*◌, ◌/◌, ℕ, List, [], length, map, Option, Some, None}
use Rattle.stream_format.specs.Layouts.{Layout, layout_of}
use Rattle.codec_graph.specs.declared.pin_kind.PinKind.{PinKind}
use Rattle.codec_sound.specs.declared.signals.Signal.{Signal}
use Rattle.heard_frames.specs.HeardLists.{block_size}
use Rattle.device_core.specs.Devices.{DeviceState}
use Rattle.heard_lists.specs.Listings.{Listing, with_blocks}
use Rattle.hda_controller.specs.Controllers.{signal_now}

-- how many whole blocks some bytes have
abbrev pub block_count : Option Layout → List ℕ → ℕ
block_count None bytes = 0
block_count (Some layout) bytes = length bytes / block_size layout

-- some bytes are those of whole blocks
abbrev pub AreWhole : Option Layout → List ℕ → Type 0
AreWhole None bytes = bytes ≡ []
AreWhole (Some layout) bytes = length bytes ≡ block_count (Some layout) bytes * block_size layout

-- the lists once their pins heard some bytes by these signals
abbrev pub with_heard : Option Layout → (ℕ → ℕ → Signal) → List ℕ → List Listing → List Listing
with_heard None signal bytes lists = lists
with_heard (Some layout) signal bytes lists = map (with_blocks signal layout bytes) lists

-- what the format word of a device's output stream says
abbrev pub layout_now : DeviceState → Option Layout
layout_now device = layout_of device.registers.output.format

-- the lists of pins of the kind once they heard some bytes by its signals
abbrev pub heard_now : PinKind → DeviceState → List ℕ → List Listing → List Listing
heard_now kind device bytes lists = with_heard (layout_now device) (signal_now kind device) bytes lists
