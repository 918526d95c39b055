-- What a step of the device does to the world: the moves of High Definition Audio 1.0a, 4.4 (rings), 4.5 (streams), 5.3
-- (link frames), 4.3 (codec discovery) and 7.3.3.15 (presence). When a step comes is the schedule's choice. The queues'
-- limits and that a step does nothing while CRST is 0, but for what is plugged in, are this project's own.
use Rattle.std.specs.Prelude.{ℕ, zero, suc, Bool, true, false, ◌==◌, ◌&&◌, ◌+◌, ◌/◌, ◌^◌, nat_lt, List, [], ◌∷◌, ◌++◌}
use Rattle.std.specs.Prelude.{length, map, drop, fold, Option, None, Some, if◌then◌else◌}
use Rattle.codec_graph.specs.declared.waiting.Waiting.{Waiting}
use Rattle.codec_graph.specs.declared.waiting.Waiting.TheVariants.{Answer, Unsolicited}
use Rattle.codec_graph.specs.CodecStates.{CodecState, taken, is_full, plugged, without_first, without_answer}
use Rattle.hda_registers.specs.Fields.{Fields, is_out_of_reset, is_running}
use Rattle.hda_registers.specs.Moves.{framed, raised}
use Rattle.hda_registers.specs.declared.shapes.Raise.TheVariants as event
use Rattle.world_rings.specs.Entries.{fetched, responses_stored}
use Rattle.world_rings.specs.Engines.{next_word, batch, after_batch}
use Rattle.world_rings.specs.declared.response.Response.{Response}
use Rattle.world_rings.specs.declared.response.TheConstants.{MOST_WAITING}
use Rattle.world_streams.specs.Output.{fetch, Frame, frame_of, after_frame, Carriage, carried_by}
use Rattle.world_streams.specs.Input.{Intake, frame_move, Storage, store}
use Rattle.world_steps.specs.declared.Step.{Step}
use Rattle.world_steps.specs.declared.Step.TheVariants as step
use Rattle.hda_world.specs.declared.step.TheConstants.{FRAMES_TO_DISCOVERY}
use Rattle.hda_world.specs.Worlds.{World, TakenCommand, CarriedFrame, codec_at, with_codec, output_of, with_output}
use Rattle.hda_world.specs.Worlds.{input_of, with_input}
use Rattle.hda_world.specs.Arriving.{arriving}

-- ---- commands

-- the address that a command word names: bits 31:28
abbrev pub address_of : ℕ → ℕ
address_of word = word / 2 ^ 28

-- what the history of commands gains by a word: nothing where no codec has its address
abbrev pub taking : ℕ → Option CodecState → Bool → ℕ → List TakenCommand
taking word None running carried = []
taking word (Some codec) running carried = record { word = word; codec = codec; running = running; carried = carried } ∷
    []

-- CORB's engine fetched this word, and the codec of its address took it
abbrev pub handed : ℕ → World → World
handed word world = record world {
  registers = fetched world.registers;
  codecs = with_codec (address_of word) (λ codec. taken codec word) world.codecs;
  commands = world.commands ++ taking word (codec_at (address_of word) world.codecs) (is_running world.registers.output)
      (length world.carried);
}

-- whether a codec can take no command now
abbrev pub is_busy : Option CodecState → Bool
is_busy None = false
is_busy (Some codec) = is_full codec

-- CORB's engine hands this command to its codec, unless that codec is full
abbrev pub handed_next : Option ℕ → World → World
handed_next None world = world
handed_next (Some word) world = if is_busy (codec_at (address_of word) world.codecs) then world else handed word world

abbrev pub corb_step : World → World
corb_step world = handed_next (next_word world.registers world.memory) world

-- ---- answers of codecs

-- an item of a codec as a response: an unsolicited one is dropped where the controller does not accept these
abbrev pub responses_of : Fields → ℕ → Waiting → List Response
responses_of fields address (Answer value) = record { codec = address; answer = value; unsolicited = false } ∷ []
responses_of fields address (Unsolicited value) =
    if fields.global.unsolicited == 1 then record { codec = address; answer = value; unsolicited = true } ∷ [] else []

-- the codec sent its first waiting item to the controller
abbrev pub sent : ℕ → Waiting → World → World
sent address item world = record world {
  codecs = with_codec address without_first world.codecs;
  waiting = world.waiting ++ responses_of world.registers address item;
}

abbrev pub sent_first : ℕ → List Waiting → World → World
sent_first address [] world = world
sent_first address (item ∷ rest) world = sent address item world

abbrev pub waiting_of : Option CodecState → List Waiting
waiting_of None = []
waiting_of (Some codec) = codec.waiting

-- a codec sends nothing while as many responses wait in the controller as may wait
abbrev pub answer_step : ℕ → World → World
answer_step address world =
    if is_out_of_reset world.registers.global && nat_lt (length world.waiting) MOST_WAITING
    then sent_first address (waiting_of (codec_at address world.codecs)) world else world

-- the codec lost its first waiting answer to a command
abbrev pub lost : ℕ → World → World
lost address world = record world { codecs = with_codec address without_answer world.codecs }

abbrev pub lose_step : ℕ → World → World
lose_step address world = if is_out_of_reset world.registers.global then lost address world else world

-- ---- responses

-- RIRB's engine wrote these responses, the first that waited, and set its flag where these are some
abbrev pub responded : List Response → World → World
responded responses world = record world {
  registers = after_batch world.registers responses;
  memory = responses_stored world.registers world.memory responses;
  waiting = drop (length responses) world.waiting;
  written = world.written ++ responses;
}

abbrev pub rirb_step : World → World
rirb_step world = responded (batch world.registers world.waiting) world

-- ---- link frames

-- the state change status says of each of these codecs that it is there
abbrev pub discovered : List CodecState → Fields → Fields
discovered codecs fields = fold (λ fields codec. raised fields (event.Codec codec.graph.address)) fields codecs

-- the codecs are discovered in the frame of this number, and in no other
abbrev pub discovered_at : ℕ → List CodecState → Fields → Fields
discovered_at frames codecs fields = if frames == FRAMES_TO_DISCOVERY then discovered codecs fields else fields

-- a link frame passed: the wall clock went on, and in the frame of the discovery the codecs' bits were set
abbrev pub passed : World → World
passed world = record world {
  registers = record world.registers
      { global = (discovered_at (world.frames + 1) world.codecs (framed world.registers)).global };
  frames = world.frames + 1;
}

-- what the history of link frames gains where one carried this
abbrev pub frame_carried : World → Carriage → CarriedFrame
frame_carried world carriage =
    record {
      codecs = world.codecs;
      tag = world.registers.output.tag;
      format = world.registers.output.format;
      carriage = carriage;
    }

-- the output stream after a link frame that found this of it
abbrev pub output_framed : Frame → World → World
output_framed found world = record (with_output (after_frame found (output_of world)) world) {
  carried = world.carried ++ map (frame_carried world) (carried_by found (output_of world));
}

-- the world with what a link frame left of the input stream
abbrev pub with_intake : Intake → World → World
with_intake intake world = record (with_input intake.stream world) { came = world.came ++ intake.marks }

-- the input stream after a link frame
abbrev pub input_framed : World → World
input_framed world = with_intake (frame_move world.registers.shape.fifo (arriving world) (input_of world)) world

-- the output stream first, and then the input stream
abbrev pub frame_step : World → World
frame_step world =
    if is_out_of_reset world.registers.global
    then input_framed (output_framed (frame_of (output_of world)) (passed world)) else world

-- n moves in a row
abbrev pub times : ℕ → (World → World) → World → World
times zero move world = world
times (suc n) move world = times n move (move world)

-- ---- bytes of streams

-- the output stream fetched at most so many bytes
abbrev pub output_fetched : ℕ → World → World
output_fetched most world = with_output (fetch most world.registers.shape.fifo world.memory (output_of world)) world

-- the memory and the input stream that stores there, and the world with a change of both
abbrev pub storage_of : World → Storage
storage_of world = record { memory = world.memory; stream = input_of world }

abbrev pub with_storage : Storage → World → World
with_storage storage world = record (with_input storage.stream world) { memory = storage.memory }

-- the input stream stored at most so many bytes
abbrev pub input_stored : ℕ → World → World
input_stored most world = with_storage (store most (storage_of world)) world

-- descriptor 1 is the output stream's, descriptor 0 the input stream's
abbrev pub fetch_step : ℕ → ℕ → World → World
fetch_step stream most world =
    if is_out_of_reset world.registers.global && stream == 1 then output_fetched most world
    else (if is_out_of_reset world.registers.global && stream == 0 then input_stored most world else world)

-- ---- presence

-- something was plugged into a pin of the codec, or unplugged
abbrev pub plugged_at : ℕ → ℕ → Bool → World → World
plugged_at address nid present world = record world {
  codecs = with_codec address (λ codec. plugged codec nid present) world.codecs;
}

-- ---- steps

-- the world after a step of the device. A step that names a codec or a stream that is not there changes nothing
abbrev pub after_step : Step → World → World
after_step step.Corb world = corb_step world
after_step (step.Answer codec) world = answer_step codec world
after_step (step.Lose codec) world = lose_step codec world
after_step step.Rirb world = rirb_step world
after_step (step.Fetch stream most) world = fetch_step stream most world
after_step (step.Link frames) world = times frames frame_step world
after_step (step.Plug codec nid) world = plugged_at codec nid true world
after_step (step.Unplug codec nid) world = plugged_at codec nid false world

-- the world after some steps in order
abbrev pub after_steps : List Step → World → World
after_steps [] world = world
after_steps (step ∷ steps) world = after_steps steps (after_step step world)
