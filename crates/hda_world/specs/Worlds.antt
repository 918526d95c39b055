-- The world that driver and device act on in turn. This project's own, over the controller and the codecs of High
-- Definition Audio 1.0a.
use Rattle.std.specs.Prelude.{ℕ, ◌==◌, Bool, List, map, Option, if◌then◌else◌}
use Rattle.std.specs.List.{find}
use Rattle.codec_graph.specs.CodecStates.{CodecState}
use Rattle.hda_registers.specs.Fields.{Fields}
use Rattle.world_rings.specs.declared.response.Response.{Response}
use Rattle.world_streams.specs.Streams.{StreamState, Stream}
use Rattle.world_streams.specs.Output.{Carriage}

-- a command that a codec took, with what later statements ask of that moment: the word, the codec as it was then,
-- whether the output stream ran, and how many of the link frames below had passed
pub record TakenCommand : Type 0 where
  pub word : ℕ
  pub codec : CodecState
  pub running : Bool
  pub carried : ℕ

-- a link frame of the running output stream: what it carried of the stream, and the codecs, the stream's tag and its
-- format word at that moment
pub record CarriedFrame : Type 0 where
  pub codecs : List CodecState
  pub tag : ℕ
  pub format : ℕ
  pub carriage : Carriage

-- everything that an access or a device step may read or change. The last three are histories: device steps only append
-- to them, and nothing ever shortens them. Device steps only append to what came, too, and it begins anew where RUN
-- rises.
pub record World : Type 0 where
  -- the region that the controller's engines reach, as bytes
  pub memory : List ℕ
  pub registers : Fields
  -- the codecs on the link, ascending by address
  pub codecs : List CodecState
  -- the responses that wait in the controller, oldest first
  pub waiting : List Response
  -- the link frames since CRST rose, 0 while it is 0
  pub frames : ℕ
  -- the streams of descriptor 0 and of descriptor 1
  pub input : StreamState
  pub output : StreamState
  -- the sound that all input pins are given, as bytes: no step and no access changes it
  pub given : List ℕ
  -- of each block that came to the input stream since its RUN rose, oldest first, whether it was taken
  pub came : List Bool
  -- the commands that codecs took, oldest first
  pub commands : List TakenCommand
  -- the responses that were written to RIRB, oldest first
  pub written : List Response
  -- the link frames that passed while the output stream ran, oldest first
  pub carried : List CarriedFrame

-- the output stream with its descriptor's registers, and the world with a change of it
abbrev pub output_of : World → Stream
output_of world = record { descriptor = world.registers.output; state = world.output }

abbrev pub with_output : Stream → World → World
with_output stream world = record world {
  registers = record world.registers { output = stream.descriptor };
  output = stream.state;
}

-- the same of the input stream
abbrev pub input_of : World → Stream
input_of world = record { descriptor = world.registers.input; state = world.input }

abbrev pub with_input : Stream → World → World
with_input stream world = record world {
  registers = record world.registers { input = stream.descriptor };
  input = stream.state;
}

-- the world in which input pins are given this sound
abbrev pub given_sound : List ℕ → World → World
given_sound sound world = record world { given = sound }

-- the codec with this address, if there is one
abbrev pub codec_at : ℕ → List CodecState → Option CodecState
codec_at address codecs = find (λ codec. codec.graph.address == address) codecs

-- the codecs with a change of the one with this address
abbrev pub with_codec : ℕ → (CodecState → CodecState) → List CodecState → List CodecState
with_codec address change codecs = map (λ codec. if codec.graph.address == address then change codec else codec) codecs
