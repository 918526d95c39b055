-- What holds of the streams at every moment: what a FIFO holds, where the position stands, what was sent or taken. High
-- Definition Audio 1.0a, 3.3.36, 3.3.37 and 4.5.
use Rattle.std.specs.Prelude.{◌≡◌, ◌≤◌, ◌+◌, ◌%◌, ◌⊎◌, ℕ, Bool, true, false, List, [], ◌∷◌, length, take, drop, All}
use Rattle.std.specs.Prelude.{Some}
use Rattle.std.specs.List.{flat_map}
use Rattle.codec_sound.specs.declared.in_heard.InHeard.TheVariants.{Pin}
use Rattle.hda_registers.specs.Fields.{Descriptor, is_running}
use Rattle.hda_registers.specs.Status.{worth}
use Rattle.stream_format.specs.Cadence.{bytes_of_block}
use Rattle.stream_format.specs.Layouts.{Layout, layout_of}
use Rattle.world_streams.specs.Streams.{StreamState, is_ready}
use Rattle.world_streams.specs.Output.{Carriage, Sent, Missed}
use Rattle.world_streams.specs.Input.{given_block, silent_block, given_blocks, kept_by_marks}
use Rattle.hda_world.specs.Worlds.{World, CarriedFrame, output_of, input_of}
use Rattle.hda_world.specs.Arriving.{listened}

-- of so many bytes that entered a FIFO of this size so many left it
pub record IsWithinFifo (left entered fifo : ℕ) : Type 0 where
  pub behind : left ≤ entered
  pub ahead : entered ≤ left + fifo

-- no byte is sent that was not fetched, and none is fetched for which there is no room
abbrev pub HoldsFifo : World → Type 0
HoldsFifo world = IsWithinFifo world.output.left (length world.output.entered) world.registers.shape.fifo

-- while it runs LPIB is the bytes sent modulo CBL
abbrev pub HasPosition : World → Type 0
HasPosition world =
    is_running world.registers.output ≡ true
    → world.registers.output.link_position ≡ world.output.left % world.registers.output.buffer_length

-- FIFORDY says whether it is ready
abbrev pub ShowsReady : World → Type 0
ShowsReady world = world.registers.output.fifo_ready ≡ worth (is_ready (output_of world)) 0

-- the bytes that link frames carried
abbrev pub bytes_of : Carriage → List ℕ
bytes_of (Sent bytes) = bytes
bytes_of Missed = []

abbrev pub carried_bytes : List CarriedFrame → List ℕ
carried_bytes frames = flat_map (λ (frame : CarriedFrame). bytes_of frame.carriage) frames

-- since the link frame of this place as many passed as the stream counts, and what they carried is what was fetched, in
-- order
pub record AreSent (from : ℕ) (frame left : ℕ) (entered : List ℕ) (carried : List CarriedFrame) : Type 0 where
  pub frames : from + frame ≡ length carried
  pub behind : left ≤ length entered
  pub bytes : carried_bytes (drop from carried) ≡ take left entered

abbrev pub HasSent : ℕ → World → Type 0
HasSent from world = AreSent from world.output.frame world.output.left world.output.entered world.carried

-- an output stream that does not run stays as it is
pub record StaysStopped (descriptor : Descriptor) (state : StreamState) (carried : List CarriedFrame) (world : World)
    : Type 0 where
  pub stopped : is_running world.registers.output ≡ false
  pub registers : world.registers.output ≡ descriptor
  pub state_stays : world.output ≡ state
  pub carried_stays : world.carried ≡ carried

-- ---- the input stream

-- no byte is stored that was not taken, and none is taken for which there is no room
abbrev pub HoldsTaken : World → Type 0
HoldsTaken world = IsWithinFifo world.input.left (length world.input.entered) world.registers.shape.fifo

-- while it runs LPIB is the bytes taken modulo CBL
abbrev pub HasTakenPosition : World → Type 0
HasTakenPosition world =
    is_running world.registers.input ≡ true
    → world.registers.input.link_position ≡ length world.input.entered % world.registers.input.buffer_length

-- FIFORDY says whether it is ready
abbrev pub ShowsTakenReady : World → Type 0
ShowsTakenReady world = world.registers.input.fifo_ready ≡ worth (is_ready (input_of world)) 0

-- a block is that of the sound with this number, or silence
abbrev pub IsGivenOrSilent : (size : ℕ) → (sound : List ℕ) → (number : ℕ) → (block : List ℕ) → Type 0
IsGivenOrSilent size sound number block = (block ≡ given_block size sound number) ⊎ (block ≡ silent_block size)

-- each of some blocks is so, from this number on
abbrev pub AreGivenOrSilent : (size : ℕ) → (sound : List ℕ) → (from : ℕ) → (blocks : List (List ℕ)) → Type 0
AreGivenOrSilent size sound from [] = Unit {0}
AreGivenOrSilent size sound from (block ∷ blocks) =
    IsGivenOrSilent size sound from block × AreGivenOrSilent size sound (from + 1) blocks

-- a block of so many bytes came for each mark, that of the given sound with the mark's number or silence, and what
-- entered is those that were taken, each once and in order
pub record AreTaken (size : ℕ) (sound : List ℕ) (marks : List Bool) (entered : List ℕ) : Type 0 where
  pub blocks : List (List ℕ)
  pub each : All (λ block. length block ≡ size) blocks
  pub given : AreGivenOrSilent size sound 0 blocks
  pub count : length blocks ≡ length marks
  pub bytes : entered ≡ kept_by_marks marks blocks

-- while it runs with a format
abbrev pub HasTakenBlocks : World → Type 0
HasTakenBlocks world = is_running world.registers.input ≡ true → (layout : Layout)
    → layout_of world.registers.input.format ≡ Some layout
    → AreTaken (bytes_of_block layout.channels layout.bits) world.given world.came world.input.entered

-- the blocks of a sound that were taken, of those that came
abbrev pub taken_sound : (size : ℕ) → (sound : List ℕ) → List Bool → List ℕ
taken_sound size sound marks = kept_by_marks marks (given_blocks size sound 0 (length marks))

-- the one converter that takes the stream hears this pin
abbrev pub HearsPin : ℕ → World → Type 0
HearsPin nid world = listened world.registers.input.tag world.registers.input.format world.codecs ≡ Some (Pin nid)

-- CORB's engine has no command to fetch
abbrev pub HasFetchedAll : World → Type 0
HasFetchedAll world = world.registers.global.corb_read_pointer ≡ world.registers.global.corb_write_pointer

-- while it runs with a format, what was taken is the given sound. That is kept while the converter hears a pin, which a
-- command that a codec takes may end
abbrev pub HasTakenSound : World → Type 0
HasTakenSound world = is_running world.registers.input ≡ true → (layout : Layout)
    → layout_of world.registers.input.format ≡ Some layout
    → world.input.entered ≡ taken_sound (bytes_of_block layout.channels layout.bits) world.given world.came

-- an input stream that does not run stays as it is
pub record StaysUntaken (descriptor : Descriptor) (state : StreamState) (came : List Bool) (world : World) : Type 0
  where
    pub stopped : is_running world.registers.input ≡ false
    pub registers : world.registers.input ≡ descriptor
    pub state_stays : world.input ≡ state
    pub came_stays : world.came ≡ came
