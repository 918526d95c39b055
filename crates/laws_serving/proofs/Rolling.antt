-- What stays while the output stream runs round its ring: how many bytes left it, and when.
use Rattle.std.proofs.Common.{◌≡◌, ◌≤◌, inl, ◌+◌, ◌-◌, ◌*◌, ◌==◌, ◌&&◌, ℕ, zero, suc, Bool, true, false, List, [], ◌∷◌, Option, None, Some, refl, ap, subst, ◌∙◌, arith, if◌then◌else◌}
use Rattle.std.specs.Prelude.{All}
use Rattle.std.proofs.lemmas.Nat.{mul-le}
use Rattle.std.proofs.lemmas.List.Elements.{All-nil, All-cons, All-head, All-tail}
use Rattle.codec_graph.specs.CodecStates.{CodecState}
use Rattle.hda_registers.specs.Fields.{is_out_of_reset}
use Rattle.hda_registers.specs.Laws.{IsBesideStreams}
use Rattle.stream_format.specs.Layouts.{Layout, layout_of}
use Rattle.stream_format.specs.Cadence.{blocks_of, most_blocks, bytes_of_block}
use Rattle.stream_format.proofs.Callers.{bounded}
use Rattle.world_streams.specs.Streams.{Stream, due, due_by, most_by, is_usable, broke}
use Rattle.world_streams.specs.Output.{Frame, Stopped, Broken, Gap, Blocks, Hole, frame_of, fetch_move, fetched_one, has_room, next_of, moves, byte_came}
use Rattle.hda_registers.specs.Fields.{is_running, list_address}
use Rattle.world_streams.specs.Lists.{is_good}
use Rattle.world_steps.specs.declared.Step.{Step}
use Rattle.world_steps.specs.declared.Step.TheVariants as step
use Rattle.heard_frames.specs.HeardLists.{block_size}
use Rattle.hda_world.specs.Worlds.{World, output_of}
use Rattle.hda_world.specs.Steps.{after_step, after_steps, frame_step, output_framed, input_framed, output_fetched, input_stored, passed, times}
use Rattle.hda_world.specs.Events.{Event, Stepped, Begin, End, Read, Write, DmaRead, DmaWrite, IsNoStep, happens, after}
use Rattle.hda_world.specs.Leaving.{StreamsStay, StepsLeave}
use Rattle.hda_world.specs.Streaming.{HasPosition, HasSent}
use Rattle.hda_world.proofs.Callers.{steps_leave, step_leaves_streams, beside_streams}
use Rattle.laws_hearing.specs.Steady.{Steady, IsBesideCommands, LeavesSteady}
use Rattle.laws_serving.proofs.Callers.{event_frames_stay, step_grows}

-- ---- how far a step sends

-- bytes left the stream, so many a link frame at most, and its format stays
pub record Moves (most : ℕ) (old new : World) : Type 0 where
  pub up : old.output.left ≤ new.output.left
  pub few : new.output.left ≤ old.output.left + most * (new.frames - old.frames)
  pub later : old.frames ≤ new.frames
  pub format : new.registers.output.format ≡ old.registers.output.format

pub moves_none : (most : ℕ) (old new : World) → new.output.left ≡ old.output.left → old.frames ≤ new.frames → new.registers.output.format ≡ old.registers.output.format → Moves most old new
moves_none most old new same later format = record { up = omega (arith, same); few = omega (arith, same); later = later; format = format }

pub moves_then : (most : ℕ) (old middle new : World) → Moves most old middle → Moves most middle new → Moves most old new
moves_then most old middle new first second =
    let one = first.later in
    let two = second.later in
    let a = first.few in
    let b = second.few in
    let c = first.up in
    let d = second.up in
    let split : new.frames - old.frames ≡ (middle.frames - old.frames) + (new.frames - middle.frames) = omega (arith, one, two) in
    let wide : most * (new.frames - old.frames) ≡ most * ((middle.frames - old.frames) + (new.frames - middle.frames)) = ap (λ (n : ℕ). most * n) split in record {
      up = omega (arith, c, d);
      few = omega (arith, a, b, wide);
      later = omega (arith, one, two);
      format = second.format ∙ first.format;
    }

-- ---- link frames

due_most : (layout : Option Layout) (frame : ℕ) → due_by layout frame ≤ most_by layout
due_most None frame = omega arith
due_most (Some layout) frame = mul-le (blocks_of layout.rate frame) (bytes_of_block layout.channels layout.bits) (most_blocks layout.rate) (bytes_of_block layout.channels layout.bits) (bounded layout.rate frame) (omega arith)

framed_by : (most : ℕ) (found : Frame) (world : World) → due (output_of world) ≤ most → Moves most world (input_framed (output_framed found (passed world)))
framed_by most Stopped world few = moves_none most world (input_framed (output_framed Stopped (passed world))) refl (omega arith) refl
framed_by most Broken world few = moves_none most world (input_framed (output_framed Broken (passed world))) refl (omega arith) refl
framed_by most Gap world few = moves_none most world (input_framed (output_framed Gap (passed world))) refl (omega arith) refl
framed_by most Blocks world few =
    let one : world.frames + 1 - world.frames ≡ 1 = omega arith in
    let wide : most * (world.frames + 1 - world.frames) ≡ most * 1 = ap (λ (n : ℕ). most * n) one in
    record { up = omega arith; few = omega (arith, few, wide); later = omega arith; format = refl }
framed_by most Hole world few = moves_none most world (input_framed (output_framed Hole (passed world))) refl (omega arith) refl

frame_if : (most : ℕ) (out : Bool) (world : World) → due (output_of world) ≤ most → Moves most world (if out then input_framed (output_framed (frame_of (output_of world)) (passed world)) else world)
frame_if most true world few = framed_by most (frame_of (output_of world)) world few
frame_if most false world few = moves_none most world world refl (omega arith) refl

due_in : (most word : ℕ) (world : World) → world.registers.output.format ≡ word → most_by (layout_of word) ≡ most → due (output_of world) ≤ most
due_in most word world is most_is =
    subst (λ (most : ℕ). due (output_of world) ≤ most) (ap (λ (word : ℕ). most_by (layout_of word)) is ∙ most_is) (due_most (layout_of world.registers.output.format) world.output.frame)

frames_move : (most word count : ℕ) (world : World) → world.registers.output.format ≡ word → most_by (layout_of word) ≡ most → Moves most world (times count frame_step world)
frames_move most word zero world is most_is = moves_none most world world refl (omega arith) refl
frames_move most word (suc count) world is most_is =
    let one = frame_if most (is_out_of_reset world.registers.global) world (due_in most word world is most_is) in
    moves_then most world (frame_step world) (times count frame_step (frame_step world)) one (frames_move most word count (frame_step world) (one.format ∙ is) most_is)

-- ---- fetches

record SamePlace (old new : Stream) : Type 0 where
  left : new.state.left ≡ old.state.left
  format : new.descriptor.format ≡ old.descriptor.format

either : (b : Bool) (start one other : Stream) → SamePlace start one → SamePlace start other → SamePlace start (if b then one else other)
either true start one other first second = first
either false start one other first second = second

fetch_place : (fifo : ℕ) (memory : List ℕ) (stream : Stream) → SamePlace stream (fetch_move fifo memory stream)
fetch_place fifo memory stream =
    let same : SamePlace stream stream = record { left = refl; format = refl } in
    let broken : SamePlace stream (broke stream) = record { left = refl; format = refl } in
    let came : SamePlace stream (byte_came memory stream) = record { left = refl; format = refl } in
    either (is_running stream.descriptor) stream (if is_usable stream.descriptor then fetched_one fifo memory stream else broke stream) stream
    (either (is_usable stream.descriptor) stream (fetched_one fifo memory stream) (broke stream)
    (either (has_room fifo stream.state) stream (if is_good memory (next_of memory (list_address stream.descriptor) stream.state) then byte_came memory stream else broke stream) stream
    (either (is_good memory (next_of memory (list_address stream.descriptor) stream.state)) stream (byte_came memory stream) (broke stream) came broken) same) broken) same

moves_place : (count fifo : ℕ) (memory : List ℕ) (stream : Stream) → SamePlace stream (moves count (fetch_move fifo memory) stream)
moves_place zero fifo memory stream = record { left = refl; format = refl }
moves_place (suc count) fifo memory stream =
    let one = fetch_place fifo memory stream in
    let rest = moves_place count fifo memory (fetch_move fifo memory stream) in record { left = rest.left ∙ one.left; format = rest.format ∙ one.format }

fetch_if : (b c : Bool) (most bytes : ℕ) (world : World) → Moves most world (if b then output_fetched bytes world else (if c then input_stored bytes world else world))
fetch_if true c most bytes world =
    let place = moves_place bytes world.registers.shape.fifo world.memory (output_of world) in
    moves_none most world (output_fetched bytes world) place.left (omega arith) place.format
fetch_if false true most bytes world = moves_none most world (input_stored bytes world) refl (omega arith) refl
fetch_if false false most bytes world = moves_none most world world refl (omega arith) refl

-- ---- every step

quiet_step : (most : ℕ) (one : Step) (world : World) → StreamsStay world (after_step one world) → Moves most world (after_step one world)
quiet_step most one world stays =
    moves_none most world (after_step one world) (ap (λ state. state.left) stays.output) (step_grows one world) (ap (λ descriptor. descriptor.format) stays.output_registers)

pub step_moves : (most word : ℕ) (one : Step) (world : World) → world.registers.output.format ≡ word → most_by (layout_of word) ≡ most → Moves most world (after_step one world)
step_moves most word step.Corb world is most_is = quiet_step most step.Corb world (step_leaves_streams step.Corb world tt)
step_moves most word (step.Answer codec) world is most_is = quiet_step most (step.Answer codec) world (step_leaves_streams (step.Answer codec) world tt)
step_moves most word (step.Lose codec) world is most_is = quiet_step most (step.Lose codec) world (step_leaves_streams (step.Lose codec) world tt)
step_moves most word step.Rirb world is most_is = quiet_step most step.Rirb world (step_leaves_streams step.Rirb world tt)
step_moves most word (step.Fetch stream bytes) world is most_is =
    fetch_if (is_out_of_reset world.registers.global && stream == 1) (is_out_of_reset world.registers.global && stream == 0) most bytes world
step_moves most word (step.Link count) world is most_is = frames_move most word count world is most_is
step_moves most word (step.Plug codec nid) world is most_is = quiet_step most (step.Plug codec nid) world (step_leaves_streams (step.Plug codec nid) world tt)
step_moves most word (step.Unplug codec nid) world is most_is = quiet_step most (step.Unplug codec nid) world (step_leaves_streams (step.Unplug codec nid) world tt)

-- ---- events

-- an event that writes neither GCTL, nor a register of CORB, nor one of the descriptors
abbrev pub IsBesideSound : Event → Type 0
IsBesideSound (Write at width value) = IsBesideCommands at × IsBesideStreams at
IsBesideSound (Stepped step) = Unit {0}
IsBesideSound Begin = Unit {0}
IsBesideSound End = Unit {0}
IsBesideSound (Read at width value) = Unit {0}
IsBesideSound (DmaRead at bytes) = Unit {0}
IsBesideSound (DmaWrite at bytes) = Unit {0}

pub leaves_steady : (event : Event) → IsBesideSound event → LeavesSteady event
leaves_steady (Write at width value) is = (is.0, inl is.1)
leaves_steady (Stepped step) is = tt
leaves_steady Begin is = tt
leaves_steady End is = tt
leaves_steady (Read at width value) is = tt
leaves_steady (DmaRead at bytes) is = tt
leaves_steady (DmaWrite at bytes) is = tt

-- what laws say of such a stream
pub record StreamLaws : Type 0 where
  pub steady : (codecs : List CodecState) (tag word : ℕ) (layout : Layout) (from : ℕ) (events : List Event) (world : World) → layout_of word ≡ Some layout → All LeavesSteady events → Steady codecs tag word (block_size layout) from world
      → Steady codecs tag word (block_size layout) from (after events world)
  pub sent : (from : ℕ) (events : List Event) (world : World) → All LeavesSteady events → HasSent from world → HasSent from (after events world)
  pub steps : (steps : List Step) (world : World) → HasPosition world → HasPosition (after_steps steps world)
  pub accesses : (event : Event) (world : World) → IsNoStep event → HasPosition world → HasPosition (happens world event)

-- the stream of a format goes round a ring of so many bytes; no command is under way, and what link frames carried since the first of them is
-- what left the stream
pub record Rolls (codecs : List CodecState) (tag word : ℕ) (layout : Layout) (ring : ℕ) (world : World) : Type 0 where
  pub position : HasPosition world
  pub length_is : world.registers.output.buffer_length ≡ ring
  pub steady : Steady codecs tag word (block_size layout) 0 world
  pub sent : HasSent 0 world

length_after : (event : Event) (world : World) → IsBesideSound event → (happens world event).registers.output.buffer_length ≡ world.registers.output.buffer_length
length_after (Stepped one) world is = let leaves : StepsLeave world (after_step one world) = steps_leave (one ∷ []) world in ap (λ descriptor. descriptor.buffer_length) leaves.registers.output.only
length_after Begin world is = refl
length_after End world is = refl
length_after (Read at width value) world is = refl
length_after (Write at width value) world is = ap (λ descriptor. descriptor.buffer_length) (beside_streams world at value width is.0.control is.1).output_registers
length_after (DmaRead at bytes) world is = refl
length_after (DmaWrite at bytes) world is = refl

event_moves : (most word : ℕ) (event : Event) (world : World) → IsBesideSound event → world.registers.output.format ≡ word → most_by (layout_of word) ≡ most → Moves most world (happens world event)
event_moves most word (Stepped one) world is format most_is = step_moves most word one world format most_is
event_moves most word Begin world is format most_is = moves_none most world world refl (omega arith) refl
event_moves most word End world is format most_is = moves_none most world world refl (omega arith) refl
event_moves most word (Read at width value) world is format most_is = moves_none most world world refl (omega arith) refl
event_moves most word (Write at width value) world is format most_is =
    let stays = beside_streams world at value width is.0.control is.1 in
    let frames = event_frames_stay (Write at width value) world is.0.control tt in
    moves_none most world (happens world (Write at width value)) (ap (λ state. state.left) stays.output) (omega (arith, frames)) (ap (λ descriptor. descriptor.format) stays.output_registers)
event_moves most word (DmaRead at bytes) world is format most_is = moves_none most world world refl (omega arith) refl
event_moves most word (DmaWrite at bytes) world is format most_is = moves_none most world (happens world (DmaWrite at bytes)) refl (omega arith) refl

pub events_move : (most word : ℕ) (events : List Event) (world : World) → All IsBesideSound events → world.registers.output.format ≡ word → most_by (layout_of word) ≡ most → Moves most world (after events world)
events_move most word [] world are format most_is = moves_none most world world refl (omega arith) refl
events_move most word (event ∷ events) world are format most_is =
    let one = event_moves most word event world (All-head IsBesideSound event events are) format most_is in
    moves_then most world (happens world event) (after events (happens world event)) one (events_move most word events (happens world event) (All-tail IsBesideSound event events are) (one.format ∙ format) most_is)

all_leave : (events : List Event) → All IsBesideSound events → All LeavesSteady events
all_leave [] are = All-nil LeavesSteady
all_leave (event ∷ events) are = All-cons LeavesSteady event events (leaves_steady event (All-head IsBesideSound event events are)) (all_leave events (All-tail IsBesideSound event events are))

length_events : (events : List Event) (world : World) → All IsBesideSound events → (after events world).registers.output.buffer_length ≡ world.registers.output.buffer_length
length_events [] world are = refl
length_events (event ∷ events) world are = length_events events (happens world event) (All-tail IsBesideSound event events are) ∙ length_after event world (All-head IsBesideSound event events are)

pub position_events : (laws : StreamLaws) (events : List Event) (world : World) → HasPosition world → HasPosition (after events world)
position_events laws [] world has = has
position_events laws (Stepped one ∷ events) world has = position_events laws events (happens world (Stepped one)) (laws.steps (one ∷ []) world has)
position_events laws (Begin ∷ events) world has = position_events laws events world has
position_events laws (End ∷ events) world has = position_events laws events world has
position_events laws (Read at width value ∷ events) world has = position_events laws events world has
position_events laws (Write at width value ∷ events) world has = position_events laws events (happens world (Write at width value)) (laws.accesses (Write at width value) world tt has)
position_events laws (DmaRead at bytes ∷ events) world has = position_events laws events world has
position_events laws (DmaWrite at bytes ∷ events) world has = position_events laws events (happens world (DmaWrite at bytes)) (laws.accesses (DmaWrite at bytes) world tt has)

pub rolls_on : (laws : StreamLaws) (codecs : List CodecState) (tag word : ℕ) (layout : Layout) (ring : ℕ) (events : List Event) (world : World) → layout_of word ≡ Some layout → All IsBesideSound events
    → Rolls codecs tag word layout ring world → Rolls codecs tag word layout ring (after events world)
rolls_on laws codecs tag word layout ring events world is are rolls = record {
  position = position_events laws events world rolls.position;
  length_is = length_events events world are ∙ rolls.length_is;
  steady = laws.steady codecs tag word layout 0 events world is (all_leave events are) rolls.steady;
  sent = laws.sent 0 events world (all_leave events are) rolls.sent;
}
