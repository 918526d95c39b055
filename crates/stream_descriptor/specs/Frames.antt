-- What the code answers of a link frame.
use Rattle.std.specs.Prelude.{◌≡◌, ◌⊎◌, ◌==◌, ◌&&◌, nat_le, if◌then◌else◌, length, ℕ, List, ◌++◌, take, drop, Some}
use Rattle.hda_registers.specs.Fields.{Fields, is_out_of_reset, is_running, stream_of}
use Rattle.world_streams.specs.Streams.{due_by, is_usable}
use Rattle.stream_descriptor.specs.Running.{Playing}
use Rattle.stream_format.specs.Layouts.{Layout, layout_of}
use Rattle.stream_format.specs.Cadence.{blocks_of}
use Rattle.world_streams.specs.Streams.{Stream, held_bytes, due}
use Rattle.world_streams.specs.Output as output
use Rattle.stream_descriptor.specs.declared.frame.Frame.{Frame}
use Rattle.stream_descriptor.specs.declared.frame.Frame.TheVariants.{Idle, Gap, Blocks, Hole}

-- so many blocks are due of the stream in its next frame
abbrev pub AreDue : Stream → ℕ → Type 0
AreDue stream blocks =
    (layout : Layout) × (layout_of stream.descriptor.format ≡ Some layout)
    × (blocks ≡ blocks_of layout.rate stream.state.frame)

-- the answer to what a frame found of a stream, and what stands where the bytes are to go
abbrev pub IsAnswer : Stream → output.Frame → List ℕ → List ℕ → Frame → Type 0
IsAnswer stream found old new Idle = ((found ≡ output.Stopped) ⊎ (found ≡ output.Broken)) × (new ≡ old)
IsAnswer stream found old new Gap = (found ≡ output.Gap) × (new ≡ old)
IsAnswer stream found old new (Blocks blocks) =
    (found ≡ output.Blocks) × AreDue stream blocks
    × (new ≡ take (due stream) (held_bytes stream.state) ++ drop (due stream) old)
IsAnswer stream found old new Hole = (found ≡ output.Hole) × (new ≡ old)

-- what a frame finds where so many bytes are due and so many are held
abbrev pub found_due : (due held : ℕ) → output.Frame
found_due due held = if due == 0 then output.Gap else (if nat_le due held then output.Blocks else output.Hole)

-- what it finds of a stream over any registers
abbrev pub found_by : Fields → Playing → output.Frame
found_by fields playing =
    if is_out_of_reset fields.global && is_running (stream_of fields playing.index)
    then (
    if is_usable (stream_of fields playing.index)
    then found_due (due_by (layout_of (stream_of fields playing.index).format) playing.frame)
    (length playing.fetch.bytes)
    else output.Broken
    )
    else output.Stopped

abbrev pub IsKind : output.Frame → Frame → Type 0
IsKind found Idle = (found ≡ output.Stopped) ⊎ (found ≡ output.Broken)
IsKind found Gap = found ≡ output.Gap
IsKind found (Blocks blocks) = found ≡ output.Blocks
IsKind found Hole = found ≡ output.Hole
