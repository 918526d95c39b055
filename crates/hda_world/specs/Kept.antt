-- What is kept by every move of the device is kept by every list of steps. A move ends where a schedule can stop: a
-- command was handed over whole, a batch of responses was written and flagged, a byte was fetched or stored, a link
-- frame passed whole, of which the input stream's part is a move of its own, the last. Each move carries its guard, and
-- those that come where a guard fails its negation. This project's own.
use Rattle.std.specs.Prelude.{◌≡◌, ◌<◌, ◌≤◌, ℕ, ◌+◌, Bool, true, false, List, [], ◌∷◌, ◌++◌, length, drop}
use Rattle.codec_graph.specs.declared.waiting.Waiting.{Waiting}
use Rattle.hda_registers.specs.Fields.{is_out_of_reset, is_running, list_address}
use Rattle.hda_registers.specs.Moves.{framed, raised}
use Rattle.hda_registers.specs.declared.shapes.Raise.TheVariants as event
use Rattle.world_rings.specs.declared.response.Response.{Response}
use Rattle.world_rings.specs.declared.response.TheConstants.{MOST_WAITING}
use Rattle.world_rings.specs.Entries.{next_command, after_response, response_stored}
use Rattle.world_rings.specs.Engines.{can_fetch, can_respond, batch}
use Rattle.world_streams.specs.Lists.{is_good}
use Rattle.world_streams.specs.Streams.{Stream, held, due, is_usable, broke}
use Rattle.world_streams.specs.Output.{next_of, completes, byte_came, Gap, Blocks, Hole}
use Rattle.world_streams.specs.Input.{holds_byte, stored_byte, frame_took, marks_of}
use Rattle.hda_world.specs.declared.step.TheConstants.{FRAMES_TO_DISCOVERY}
use Rattle.hda_world.specs.Worlds.{World, codec_at, output_of, with_output, input_of, with_input}
use Rattle.hda_world.specs.Arriving.{arriving}
use Rattle.hda_world.specs.Steps.{address_of, is_busy, handed, waiting_of, sent, lost, responded, discovered, passed}
use Rattle.hda_world.specs.Steps.{output_framed, plugged_at, with_intake, storage_of, with_storage}
use Rattle.hda_world.specs.Leaving.{DescriptorStays, WentOn}

-- the moves of the codecs are kept
pub record KeptByCodecs (Holds : World → Type 0) : Type 0 where
  -- CORB's engine fetches its next command, and the codec of its address takes it
  pub hands : (world : World) → Holds world → can_fetch world.registers ≡ true
      → (let word = next_command world.registers world.memory in
      is_busy (codec_at (address_of word) world.codecs) ≡ false → Holds (handed word world))
  -- a codec sends its first waiting item
  pub sends : (world : World) (address : ℕ) (item : Waiting) (rest : List Waiting) → Holds world
      → is_out_of_reset world.registers.global ≡ true → length world.waiting < MOST_WAITING
      → waiting_of (codec_at address world.codecs) ≡ item ∷ rest → Holds (sent address item world)
  -- a codec loses its first waiting answer to a command
  pub loses : (world : World) (address : ℕ) → Holds world → is_out_of_reset world.registers.global ≡ true
      → Holds (lost address world)
  -- something is plugged in or out
  pub plugs : (world : World) (address nid : ℕ) (present : Bool) → Holds world
      → Holds (plugged_at address nid present world)

-- the output stream runs, and its registers can be used
pub record CanStream (world : World) : Type 0 where
  pub out : is_out_of_reset world.registers.global ≡ true
  pub runs : is_running world.registers.output ≡ true
  pub usable : is_usable world.registers.output ≡ true

-- it runs, and they can't
pub record MustBreak (world : World) : Type 0 where
  pub out : is_out_of_reset world.registers.global ≡ true
  pub runs : is_running world.registers.output ≡ true
  pub unusable : is_usable world.registers.output ≡ false

-- its FIFO has room for a byte
abbrev pub HasRoom : World → Type 0
HasRoom world = length world.output.entered < world.output.left + world.registers.shape.fifo

-- whether the buffer of its next byte can be used, and whether that byte ends a buffer with IOC
abbrev pub next_is_good : World → Bool
next_is_good world = is_good world.memory (next_of world.memory (list_address world.registers.output) world.output)

abbrev pub next_completes : World → Bool
next_completes world = completes world.memory (list_address world.registers.output) world.output

-- the moves of a fetch of the output stream are kept
pub record KeptByBytes (Holds : World → Type 0) : Type 0 where
  -- a byte comes that does not end a buffer with IOC
  pub comes : (world : World) → Holds world → CanStream world → HasRoom world → next_is_good world ≡ true
      → next_completes world ≡ false
      → Holds (with_output (byte_came world.memory (output_of world)) world)
  -- a byte comes that ends one
  pub ends : (world : World) → Holds world → CanStream world → HasRoom world → next_is_good world ≡ true
      → next_completes world ≡ true
      → Holds (with_output (byte_came world.memory (output_of world)) world)
  -- the list has an entry that can't be used
  pub breaks : (world : World) → Holds world → CanStream world → HasRoom world → next_is_good world ≡ false
      → Holds (with_output (broke (output_of world)) world)
  -- the registers can't be used
  pub refuses : (world : World) → Holds world → MustBreak world → Holds (with_output (broke (output_of world)) world)

-- the input stream runs, and its registers can be used
pub record CanTake (world : World) : Type 0 where
  pub out : is_out_of_reset world.registers.global ≡ true
  pub runs : is_running world.registers.input ≡ true
  pub usable : is_usable world.registers.input ≡ true

-- it runs, and they can't
pub record MustBreakOff (world : World) : Type 0 where
  pub out : is_out_of_reset world.registers.global ≡ true
  pub runs : is_running world.registers.input ≡ true
  pub unusable : is_usable world.registers.input ≡ false

-- whether the buffer into which its next byte goes can be used
abbrev pub goes_well : World → Bool
goes_well world = is_good world.memory (next_of world.memory (list_address world.registers.input) world.input)

-- the world once the input stream's oldest byte was stored
abbrev pub byte_went : World → World
byte_went world = with_storage (stored_byte (storage_of world)) world

-- the world once the blocks that are due came to it
abbrev pub blocks_arrived : World → World
blocks_arrived world = with_intake (record {
  stream = frame_took world.registers.shape.fifo (arriving world) (input_of world);
  marks = marks_of world.registers.shape.fifo (arriving world) (input_of world);
}) world

-- the world once it stopped for an error of its descriptor
abbrev pub input_broke : World → World
input_broke world = with_input (broke (input_of world)) world

-- the moves of the input stream are kept. A relation that looks at none of what they change is kept by each of them
pub record KeptByInput (Holds : World → Type 0) : Type 0 where
  -- a byte is stored
  pub stores : (world : World) → Holds world → CanTake world → holds_byte world.input ≡ true → goes_well world ≡ true
      → Holds (byte_went world)
  -- the list has an entry that can't be used
  pub jams : (world : World) → Holds world → CanTake world → holds_byte world.input ≡ true → goes_well world ≡ false
      → Holds (input_broke world)
  -- a link frame passes: the blocks that are due come, of which none, some or all are taken
  pub takes : (world : World) → Holds world → CanTake world → Holds (blocks_arrived world)
  -- the registers can't be used
  pub refuses : (world : World) → Holds world → MustBreakOff world → Holds (input_broke world)

-- what a link frame does to the running output stream is kept, after what else it does
pub record KeptByFrames (Holds : World → Type 0) (before : World → World) : Type 0 where
  -- no block is due
  pub gaps : (world : World) → Holds world → CanStream world → due (output_of world) ≡ 0
      → Holds (output_framed Gap (before world))
  -- the blocks that are due are sent
  pub sends : (world : World) → Holds world → CanStream world → 0 < due (output_of world)
      → due (output_of world) ≤ held world.output
      → Holds (output_framed Blocks (before world))
  -- they are not there
  pub misses : (world : World) → Holds world → CanStream world → held world.output < due (output_of world)
      → Holds (output_framed Hole (before world))
  -- the registers can't be used
  pub stops : (world : World) → Holds world → MustBreak world
      → Holds (with_output (broke (output_of (before world))) (before world))

pub record Kept (Holds : World → Type 0) : Type 0 where
  pub codecs : KeptByCodecs Holds
  -- RIRB's engine writes a batch of at least one response and sets its flag
  pub responds : (world : World) (response : Response) (rest : List Response) → Holds world
      → can_respond world.registers ≡ true → batch world.registers world.waiting ≡ response ∷ rest
      → Holds (responded (response ∷ rest) world)
  pub bytes : KeptByBytes Holds
  pub input : KeptByInput Holds
  -- a link frame passes while the output stream does not run; in that of the discovery the codecs' bits of the state
  -- change status are set
  pub passes : (world : World) → Holds world → is_out_of_reset world.registers.global ≡ true
      → is_running world.registers.output ≡ false
      → Holds (passed world)
  -- and one while it runs
  pub frames : KeptByFrames Holds passed

-- ---- the same by single responses, and by the tick, the discovery and the stream of a frame,
-- for what these keep one by one

-- RIRB's engine wrote this response, the first that waited
abbrev pub wrote_one : Response → World → World
wrote_one response world = record world {
  registers = after_response world.registers;
  memory = response_stored world.registers world.memory response;
  waiting = drop 1 world.waiting;
  written = world.written ++ response ∷ [];
}

-- RIRB's engine set the response interrupt flag
abbrev pub flagged : World → World
flagged world = record world { registers = raised world.registers event.Response }

-- the wall clock and the count of frames moved on
abbrev pub ticked : World → World
ticked world = record world {
  registers = record world.registers { global = (framed world.registers).global };
  frames = world.frames + 1;
}

-- the codecs were discovered
abbrev pub announced : World → World
announced world = record world
    { registers = record world.registers { global = (discovered world.codecs world.registers).global } }

-- nothing else
abbrev pub unmoved : World → World
unmoved world = world

pub record KeptSingly (Holds : World → Type 0) : Type 0 where
  pub codecs : KeptByCodecs Holds
  pub writes : (world : World) (response : Response) (rest : List Response) → Holds world
      → can_respond world.registers ≡ true → world.waiting ≡ response ∷ rest → Holds (wrote_one response world)
  pub flags : (world : World) → Holds world → can_respond world.registers ≡ true → Holds (flagged world)
  pub bytes : KeptByBytes Holds
  pub input : KeptByInput Holds
  pub ticks : (world : World) → Holds world → is_out_of_reset world.registers.global ≡ true → Holds (ticked world)
  pub announces : (world : World) → Holds world → is_out_of_reset world.registers.global ≡ true
      → world.frames ≡ FRAMES_TO_DISCOVERY → Holds (announced world)
  pub frames : KeptByFrames Holds unmoved

-- ---- any move of the input stream

-- what a move changes: memory, the stream and what came
pub record InputChange : Type 0 where
  pub memory : List ℕ
  pub stream : Stream
  pub came : List Bool

abbrev pub input_moved : InputChange → World → World
input_moved change world = record (with_input change.stream world) { memory = change.memory; came = change.came }

-- it runs, memory keeps its size, of its descriptor LPIB and the status bits alone change, and RUN where it stops, and
-- what came is kept
pub record IsInputMove (world : World) (change : InputChange) : Type 0 where
  pub out : is_out_of_reset world.registers.global ≡ true
  pub runs : is_running world.registers.input ≡ true
  pub size : length change.memory ≡ length world.memory
  pub descriptor : DescriptorStays world.registers.input change.stream.descriptor
  pub came : WentOn world.came change.came

-- every move of it is kept
abbrev pub KeptByMoves : (World → Type 0) → Type 0
KeptByMoves Holds = (world : World) (change : InputChange) → Holds world → IsInputMove world change
    → Holds (input_moved change world)
