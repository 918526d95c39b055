-- What the device's steps leave alone.
use Rattle.std.proofs.Common.{◌≡◌, ◌≢◌, ◌<◌, ℕ, ◌+◌, ◌*◌, ◌^◌, bit_or, Bool, true, false, cond, List, [], ◌∷◌, ◌++◌, length, map, fold, append-nil, refl, sym, ap, subst, ◌∙◌, append_assoc, Option, Some, if◌then◌else◌, ◌==◌, inl, inr, arith, rules, tests}
use Rattle.std.proofs.Math.Nat.{mod-lt}
use Rattle.std.proofs.lemmas.Bool.{true≢false}
use Rattle.codec_graph.specs.CodecStates.{CodecState, plugged, cleared}
use Rattle.hda_registers.specs.declared.shapes.Raise.TheVariants as event
use Rattle.world_rings.specs.declared.response.Response.{Response}
use Rattle.hda_registers.specs.Fields.{Fields, Global, Descriptor, entries_of, rirb_address, is_out_of_reset, is_running}
use Rattle.hda_registers.specs.Moves.{raised, moved, framed}
use Rattle.hda_registers.specs.declared.shapes.Moved.TheVariants.{CorbRp, RirbWp}
use Rattle.hda_registers.specs.declared.shapes.Shape.{Shape}
use Rattle.codec_graph.specs.declared.raw.RawCodec.{RawCodec}
use Rattle.world_rings.specs.Memory.{IsOutside}
use Rattle.world_rings.proofs.Callers.{stored_outside, length-response_bytes}
use Rattle.world_rings.specs.Entries.{response_bytes, response_stored, response_place, responses_stored, after_response, after_responses}
use Rattle.world_steps.specs.declared.Step.{Step}
use Rattle.world_streams.specs.Streams.{StreamState}
use Rattle.hda_world.specs.Worlds.{World, CarriedFrame, codec_at, with_codec}
use Rattle.hda_world.specs.declared.step.TheConstants.{FRAMES_TO_DISCOVERY}
use Rattle.hda_world.specs.Steps.{discovered, passed, after_steps}
use Rattle.hda_registers.specs.declared.shapes.Width.{Width}
use Rattle.hda_registers.specs.Laws.{IsBesideRings, LeavesRings}
use Rattle.hda_registers.proofs.Callers.{keeps-reset, keeps-left, leaves-rings, not_control, some_entries}
use Rattle.hda_registers.specs.Access.{written, effects_of}
use Rattle.codec_graph.proofs.Callers.{graph-plugged}
use Rattle.hda_world.specs.Events.{reset_if, counted_anew_if, streams_settled, registers_written, after_write}
use Rattle.hda_world.specs.Kept.{Kept, KeptByBytes, KeptByFrames, unmoved, InputChange, IsInputMove, input_moved}
use Rattle.hda_world.specs.Leaving.{DescriptorStays, RegistersStay, MemoryStays, IsOutsideRirb, StepsLeave, WentOn, AccessLeaves}
use Rattle.hda_world.proofs.Inputs.{by_moves, descriptor_both}
use Rattle.hda_world.proofs.Stepping.{kept_steps, frames_after}

-- ---- RIRB

place_inside : (fields : Fields) → response_place fields < entries_of fields.shape.rirb
place_inside fields = mod-lt _ (some_entries fields.shape.rirb)

-- an address outside RIRB is outside the entry that is written next
pub outside_entry : (fields : Fields) (response : Response) (at : ℕ) → IsOutsideRirb fields at → IsOutside (rirb_address fields + 8 * response_place fields) (length (response_bytes response)) at
outside_entry fields response at apart =
    let place = place_inside fields in
    let eight = length-response_bytes response in
    elim apart [ inl below ↦ inl (omega arith) | inr above ↦ inr (rw eight (omega arith)) ]

response_stays : (fields : Fields) (memory : List ℕ) (response : Response) → MemoryStays fields memory (response_stored fields memory response)
response_stays fields memory response =
    let held = stored_outside (rirb_address fields + 8 * response_place fields) (response_bytes response) memory in
    record { size = held.0; outside = λ still at apart. held.1 at (outside_entry fields response at apart) }

-- the registers of RIRB's place stay where they were
outside_stays : (old new : Fields) → RegistersStay old new → (at : ℕ) → IsOutsideRirb old at → IsOutsideRirb new at
outside_stays old new stay at apart =
    let shape = ap (λ (s : Shape). entries_of s.rirb) stay.shape in
    let base = ap (λ (g : Global). 128 * g.rirb_base) stay.global in
    elim apart [ inl below ↦ inl (rw base below) | inr above ↦ inr (rw (base, shape) above) ]

memory_both : (old new : Fields) (first second third : List ℕ) → RegistersStay old new → MemoryStays old first second → MemoryStays new second third → MemoryStays old first third
memory_both old new first second third stay a b = record {
  size = b.size ∙ a.size;
  outside = λ still at apart. b.outside (ap is_running (stay.input.still still) ∙ still) at (outside_stays old new stay at apart) ∙ a.outside still at apart;
}

-- ---- what the moves do to the registers

stay_corb : (old new : Fields) (place : ℕ) → RegistersStay old new → RegistersStay old (moved new (CorbRp place))
stay_corb old new place stay = record { shape = stay.shape; input = stay.input; output = stay.output; global = ap (λ (g : Global). record g { corb_read_pointer = place }) stay.global }

stay_rirb : (old new : Fields) (place : ℕ) → RegistersStay old new → RegistersStay old (moved new (RirbWp place))
stay_rirb old new place stay = record { shape = stay.shape; input = stay.input; output = stay.output; global = ap (λ (g : Global). record g { rirb_write_pointer = place }) stay.global }

stay_flag : (old new : Fields) → RegistersStay old new → RegistersStay old (raised new event.Response)
stay_flag old new stay = record { shape = stay.shape; input = stay.input; output = stay.output; global = ap (λ (g : Global). record g { response_flag = 1 }) stay.global }

stay_codec : (old new : Fields) (codec : ℕ) → RegistersStay old new → RegistersStay old (raised new (event.Codec codec))
stay_codec old new codec stay = record { shape = stay.shape; input = stay.input; output = stay.output; global = ap (λ (g : Global). record g { state_status = bit_or new.global.state_status (2 ^ codec) }) stay.global }

stay_codecs : (codecs : List CodecState) (old new : Fields) → RegistersStay old new → RegistersStay old (fold (λ fields codec. raised fields (event.Codec codec.graph.address)) new codecs)
stay_codecs [] old new stay = stay
stay_codecs (codec ∷ codecs) old new stay = stay_codecs codecs old (raised new (event.Codec codec.graph.address)) (stay_codec old new codec.graph.address stay)

stay_clock : (old new : Fields) → RegistersStay old new → RegistersStay old (framed new)
stay_clock old new stay = record { shape = stay.shape; input = stay.input; output = stay.output; global = ap (λ (g : Global). record g { wall_clock = (framed new).global.wall_clock }) stay.global }

-- ---- what the moves do to the codecs and the histories

pub graphs-with_codec : (address : ℕ) (change : CodecState → CodecState) → ((codec : CodecState) → (change codec).graph ≡ codec.graph) → (codecs : List CodecState) → map (λ codec. codec.graph) (with_codec address change codecs) ≡ map (λ codec. codec.graph) codecs
graphs-with_codec address change keeps [] = refl
graphs-with_codec address change keeps (codec ∷ codecs) =
    let first : (named : Bool) → (if named then change codec else codec).graph ≡ codec.graph = λ named. elim named as (λ b. (if b then change codec else codec).graph ≡ codec.graph) [ true ↦ keeps codec | false ↦ refl ] in
    ap (λ (graph : RawCodec). graph ∷ map (λ codec. codec.graph) (with_codec address change codecs)) (first _) ∙ ap (λ (graphs : List RawCodec). codec.graph ∷ graphs) (graphs-with_codec address change keeps codecs)

went_on : {A : Type 0} (old new more : List A) → WentOn old new → WentOn old (new ++ more)
went_on old new more before = (before.0 ++ more, ap (λ xs. xs ++ more) before.1 ∙ append_assoc old before.0 more)

-- ---- all of it

-- responses one after another
responses_stay : (responses : List Response) (start fields : Fields) (before memory : List ℕ) → RegistersStay start fields → MemoryStays start before memory
    → RegistersStay start (after_responses fields responses) × MemoryStays start before (responses_stored fields memory responses)
responses_stay [] start fields before memory registers stay = (registers, stay)
responses_stay (response ∷ responses) start fields before memory registers stay =
    responses_stay responses start (after_response fields) before (response_stored fields memory response)
    (stay_rirb start fields _ registers) (memory_both start fields before memory _ registers stay (response_stays fields memory response))

stay_discovered : (now : Bool) (codecs : List CodecState) (old new : Fields) → RegistersStay old new → RegistersStay old (if now then discovered codecs new else new)
stay_discovered true codecs old new stay = stay_codecs codecs old new stay
stay_discovered false codecs old new stay = stay

-- ---- what the moves do to the output stream

-- what was still is not moved
was_running : (start world new : Descriptor) → (is_running start ≡ false → world ≡ start) → is_running world ≡ true → is_running start ≡ false → new ≡ start
was_running start world new same runs still = absurd (true≢false (sym runs ∙ ap is_running (same still) ∙ still))

stay_byte : (start world : Descriptor) (completion ready : ℕ) → is_running world ≡ true → DescriptorStays start world
    → DescriptorStays start (record world { completion = completion; fifo_ready = ready })
stay_byte start world completion ready runs stay = record {
  only = ap (λ (d : Descriptor). record d { completion = completion; fifo_ready = ready }) stay.only;
  run = stay.run;
  still = was_running start world _ stay.still runs;
}

stay_blocks : (start world : Descriptor) (position ready : ℕ) → is_running world ≡ true → DescriptorStays start world
    → DescriptorStays start (record world { link_position = position; fifo_ready = ready })
stay_blocks start world position ready runs stay = record {
  only = ap (λ (d : Descriptor). record d { link_position = position; fifo_ready = ready }) stay.only;
  run = stay.run;
  still = was_running start world _ stay.still runs;
}

stay_hole : (start world : Descriptor) → is_running world ≡ true → DescriptorStays start world → DescriptorStays start (record world { fifo_error = 1 })
stay_hole start world runs stay = record {
  only = ap (λ (d : Descriptor). record d { fifo_error = 1 }) stay.only;
  run = stay.run;
  still = was_running start world _ stay.still runs;
}

stay_broke : (start world : Descriptor) → is_running world ≡ true → DescriptorStays start world
    → DescriptorStays start (record world { descriptor_error = 1; run = 0; fifo_ready = 0 })
stay_broke start world runs stay = record {
  only = ap (λ (d : Descriptor). record d { descriptor_error = 1; run = 0; fifo_ready = 0 }) stay.only;
  run = inr (refl, refl);
  still = was_running start world _ stay.still runs;
}

with_descriptor : (start fields : Fields) (output : Descriptor) → RegistersStay start fields → DescriptorStays start.output output → RegistersStay start (record fields { output = output })
with_descriptor start fields output stay stream = record { shape = stay.shape; input = stay.input; output = stream; global = stay.global }

-- the output stream moved, and link frames carried something
stay_output : (start world : World) (output : Descriptor) (state : StreamState) (more : List CarriedFrame) → StepsLeave start world → DescriptorStays start.registers.output output
    → StepsLeave start (record world { registers = record world.registers { output = output }; output = state; carried = world.carried ++ more })
stay_output start world output state more stay stream = record {
  memory = stay.memory;
  registers = with_descriptor start.registers world.registers output stay.registers stream;
  graphs = stay.graphs;
  commands = stay.commands;
  written = stay.written;
  carried = went_on start.carried world.carried more stay.carried;
  came = stay.came;
}

stay_fetched : (start world : World) (output : Descriptor) (state : StreamState) → StepsLeave start world → DescriptorStays start.registers.output output
    → StepsLeave start (record world { registers = record world.registers { output = output }; output = state })
stay_fetched start world output state stay stream = record {
  memory = stay.memory;
  registers = with_descriptor start.registers world.registers output stay.registers stream;
  graphs = stay.graphs;
  commands = stay.commands;
  written = stay.written;
  carried = stay.carried;
  came = stay.came;
}

leaves_bytes : (start : World) → KeptByBytes (StepsLeave start)
leaves_bytes start = record {
  comes = λ world stay can room good is. stay_fetched start world _ _ stay (stay_byte start.registers.output world.registers.output _ _ can.runs stay.registers.output);
  ends = λ world stay can room good is. stay_fetched start world _ _ stay (stay_byte start.registers.output world.registers.output _ _ can.runs stay.registers.output);
  breaks = λ world stay can room bad. stay_fetched start world _ _ stay (stay_broke start.registers.output world.registers.output can.runs stay.registers.output);
  refuses = λ world stay must. stay_fetched start world _ _ stay (stay_broke start.registers.output world.registers.output must.runs stay.registers.output);
}

leaves_frames : (start : World) → KeptByFrames (StepsLeave start) unmoved
leaves_frames start = record {
  gaps = λ world stay can none. stay_output start world _ _ _ stay stay.registers.output;
  sends = λ world stay can some enough. stay_output start world _ _ _ stay (stay_blocks start.registers.output world.registers.output _ _ can.runs stay.registers.output);
  misses = λ world stay can short. stay_output start world _ _ _ stay (stay_hole start.registers.output world.registers.output can.runs stay.registers.output);
  stops = λ world stay must. stay_fetched start world _ _ stay (stay_broke start.registers.output world.registers.output must.runs stay.registers.output);
}

-- the discovery changes the controller's part alone
leaves_passed : (start world : World) → StepsLeave start world → is_out_of_reset world.registers.global ≡ true → StepsLeave start (passed world)
leaves_passed start world stay out = record {
  memory = stay.memory;
  graphs = stay.graphs;
  commands = stay.commands;
  written = stay.written;
  carried = stay.carried;
  came = stay.came;
  registers = (
      let moved = stay_discovered (world.frames + 1 == FRAMES_TO_DISCOVERY) world.codecs start.registers (framed world.registers) (stay_clock start.registers world.registers stay.registers) in
      record { shape = stay.registers.shape; input = stay.registers.input; output = stay.registers.output; global = moved.global });
}

-- the input stream moved: memory is that of before only where it did not run
input_leaves : (start world : World) (change : InputChange) → StepsLeave start world → IsInputMove world change → StepsLeave start (input_moved change world)
input_leaves start world change stay moves = record {
  memory = record {
    size = moves.size ∙ stay.memory.size;
    outside = λ still at apart. absurd (true≢false (sym moves.runs ∙ (ap is_running (stay.registers.input.still still) ∙ still)));
  };
  registers = record {
    shape = stay.registers.shape;
    input = descriptor_both start.registers.input world.registers.input change.stream.descriptor stay.registers.input moves.descriptor;
    output = stay.registers.output;
    global = stay.registers.global;
  };
  graphs = stay.graphs;
  commands = stay.commands;
  written = stay.written;
  carried = stay.carried;
  came = (stay.came.0 ++ moves.came.0, moves.came.1 ∙ (ap (λ (xs : List Bool). xs ++ moves.came.0) stay.came.1 ∙ append_assoc start.came stay.came.0 moves.came.0));
}

leaves : (start : World) → Kept (StepsLeave start)
leaves start = record {
  codecs = record {
    hands = λ world stay can free. record {
      memory = stay.memory;
      registers = stay_corb start.registers world.registers _ stay.registers;
      graphs = graphs-with_codec _ _ (λ codec. refl) world.codecs ∙ stay.graphs;
      commands = went_on start.commands world.commands _ stay.commands;
      written = stay.written;
      carried = stay.carried;
      came = stay.came;
    };
    sends = λ world address item rest stay out room are. record {
      memory = stay.memory;
      registers = stay.registers;
      commands = stay.commands;
      written = stay.written;
      carried = stay.carried;
      came = stay.came;
      graphs = graphs-with_codec _ _ (λ codec. refl) world.codecs ∙ stay.graphs;
    };
    loses = λ world address stay out. record {
      memory = stay.memory;
      registers = stay.registers;
      commands = stay.commands;
      written = stay.written;
      carried = stay.carried;
      came = stay.came;
      graphs = graphs-with_codec _ _ (λ codec. refl) world.codecs ∙ stay.graphs;
    };
    plugs = λ world address nid present stay. record {
      memory = stay.memory;
      registers = stay.registers;
      commands = stay.commands;
      written = stay.written;
      carried = stay.carried;
      came = stay.came;
      graphs = graphs-with_codec address (λ codec. plugged codec nid present) (graph-plugged nid present) world.codecs ∙ stay.graphs;
    };
  };
  responds = λ world response rest stay can are. (
      let all = responses_stay (response ∷ rest) start.registers world.registers start.memory world.memory stay.registers stay.memory in
      record {
        memory = all.1;
        registers = stay_flag start.registers (after_responses world.registers (response ∷ rest)) all.0;
        graphs = stay.graphs;
        commands = stay.commands;
        written = went_on start.written world.written _ stay.written;
        carried = stay.carried;
        came = stay.came;
      });
  bytes = leaves_bytes start;
  input = by_moves (StepsLeave start) (input_leaves start);
  passes = λ world stay out still. leaves_passed start world stay out;
  frames = frames_after (StepsLeave start) (leaves_passed start) (leaves_frames start);
}

nothing_left : (world : World) → StepsLeave world world
nothing_left world = record {
  memory = record { size = refl; outside = λ still at apart. refl };
  registers = record { shape = refl; input = record { only = refl; run = inl refl; still = λ still. refl }; output = record { only = refl; run = inl refl; still = λ still. refl }; global = refl };
  graphs = refl;
  commands = ([], sym (append-nil world.commands));
  written = ([], sym (append-nil world.written));
  carried = ([], sym (append-nil world.carried));
  came = ([], sym (append-nil world.came));
}

pub steps_leave : (steps : List Step) (world : World) → StepsLeave world (after_steps steps world)
steps_leave steps world = kept_steps (StepsLeave world) (leaves world) steps world (nothing_left world)

-- ---- accesses

-- what a reset does to each codec leaves each part that it leaves at one
pub map-cleared : {A : Type 0} (part : CodecState → A) → ((codec : CodecState) → part (cleared codec) ≡ part codec) → (codecs : List CodecState) → map part (map cleared codecs) ≡ map part codecs
map-cleared part same [] = refl
map-cleared part same (codec ∷ codecs) = ap (λ x. x ∷ map part (map cleared codecs)) (same codec) ∙ ap (λ xs. part codec ∷ xs) (map-cleared part same codecs)

reset_leaves : (reset : Bool) (world : World) → AccessLeaves world (reset_if reset world) × ((reset_if reset world).memory ≡ world.memory) × ((reset_if reset world).registers ≡ world.registers)
reset_leaves true world = (
  record {
    commands = refl;
    written = refl;
    carried = refl;
    graphs = map-cleared (λ codec. codec.graph) (λ codec. refl) world.codecs;
    settings = map-cleared (λ codec. codec.settings) (λ codec. refl) world.codecs;
    present = map-cleared (λ codec. codec.present) (λ codec. refl) world.codecs;
  },
  refl,
  refl,
)
reset_leaves false world = (record { commands = refl; written = refl; carried = refl; graphs = refl; settings = refl; present = refl }, refl, refl)

-- counting the frames anew changes nothing else
counted_leaves : (anew : Bool) (world : World) → counted_anew_if anew world ≡ record world { frames = (counted_anew_if anew world).frames }
counted_leaves true world = refl
counted_leaves false world = refl

pub access_leaves : (world : World) (at value : ℕ) (width : Width) → AccessLeaves world (after_write at width value world)
access_leaves world at value width =
    let after_reset = reset_if (effects_of world.registers at width value).reset (registers_written (written world.registers at width value) world) in
    let left = (reset_leaves (effects_of world.registers at width value).reset (registers_written (written world.registers at width value) world)).0 in
    subst (AccessLeaves world) (sym (counted_leaves (effects_of world.registers at width value).left_reset after_reset))
    (record { commands = left.commands; written = left.written; carried = left.carried; graphs = left.graphs; settings = left.settings; present = left.present })

pub write_memory : (world : World) (at value : ℕ) (width : Width) → (after_write at width value world).memory ≡ world.memory
write_memory world at value width =
    ap (λ (after : World). after.memory) (counted_leaves (effects_of world.registers at width value).left_reset _)
    ∙ (reset_leaves (effects_of world.registers at width value).reset (registers_written (written world.registers at width value) world)).1

pub write_registers : (world : World) (at value : ℕ) (width : Width) → (after_write at width value world).registers ≡ streams_settled world.registers (written world.registers at width value)
write_registers world at value width =
    ap (λ (after : World). after.registers) (counted_leaves (effects_of world.registers at width value).left_reset _)
    ∙ (reset_leaves (effects_of world.registers at width value).reset (registers_written (written world.registers at width value) world)).2

-- a write without reset changes the registers, and where CRST rises the count of frames
no_reset : (reset : Bool) (world : World) → reset ≡ false → reset_if reset world ≡ world
no_reset reset world none = rw none refl

no_rise : (left : Bool) (world : World) → left ≡ false → counted_anew_if left world ≡ world
no_rise left world none = rw none refl

rises : (left : Bool) (world : World) → left ≡ true → counted_anew_if left world ≡ record world { frames = 0 }
rises left world is = rw is refl

-- a write that resets drops what waits
dropped : (reset left : Bool) (world : World) → reset ≡ true
    → counted_anew_if left (reset_if reset world) ≡ record world { codecs = map cleared world.codecs; waiting = []; frames = 0 }
dropped true true world is = refl
dropped true false world is = refl
dropped false left world is = cc

pub reset_write : (world : World) (at value : ℕ) (width : Width) → (effects_of world.registers at width value).reset ≡ true
    → after_write at width value world ≡ record (registers_written (written world.registers at width value) world) { codecs = map cleared world.codecs; waiting = []; frames = 0 }
reset_write world at value width is =
    dropped (effects_of world.registers at width value).reset (effects_of world.registers at width value).left_reset (registers_written (written world.registers at width value) world) is

pub plain_write : (world : World) (at value : ℕ) (width : Width) → (effects_of world.registers at width value).reset ≡ false
    → (effects_of world.registers at width value).left_reset ≡ false
    → after_write at width value world ≡ registers_written (written world.registers at width value) world
plain_write world at value width none still =
    ap (counted_anew_if (effects_of world.registers at width value).left_reset) (no_reset (effects_of world.registers at width value).reset (registers_written (written world.registers at width value) world) none)
    ∙ no_rise (effects_of world.registers at width value).left_reset _ still

pub rising_write : (world : World) (at value : ℕ) (width : Width) → (effects_of world.registers at width value).reset ≡ false
    → (effects_of world.registers at width value).left_reset ≡ true
    → after_write at width value world ≡ record (registers_written (written world.registers at width value) world) { frames = 0 }
rising_write world at value width none risen =
    ap (counted_anew_if (effects_of world.registers at width value).left_reset) (no_reset (effects_of world.registers at width value).reset (registers_written (written world.registers at width value) world) none)
    ∙ rises (effects_of world.registers at width value).left_reset _ risen

pub beside_write : (world : World) (at value : ℕ) (width : Width) → IsBesideRings at
    → after_write at width value world ≡ registers_written (written world.registers at width value) world
beside_write world at value width beside =
    let apart = not_control at beside.control in
    plain_write world at value width (keeps-reset world.registers at width value apart) (keeps-left world.registers at width value apart)

pub beside_rings : (world : World) (at value : ℕ) (width : Width) → IsBesideRings at → LeavesRings world.registers.global (after_write at width value world).registers.global
beside_rings world at value width beside =
    subst (λ (fields : Fields). LeavesRings world.registers.global fields.global) (sym (write_registers world at value width)) (leaves-rings world.registers at width value beside)

-- ---- codecs

find_step : (other : ℕ) (named : Bool) (codec changed : CodecState) (first second : Option CodecState)
    → (named ≡ true → (codec.graph.address == other) ≡ false) → changed.graph ≡ codec.graph → first ≡ second
    → cond ((if named then changed else codec).graph.address == other) (Some (if named then changed else codec)) first
    ≡ cond (codec.graph.address == other) (Some codec) second
find_step other true codec changed first second apart same rest =
    let here : (codec.graph.address == other) ≡ false = apart refl in
    let there : (changed.graph.address == other) ≡ false = ap (λ (graph : RawCodec). graph.address == other) same ∙ here in
    rw (here, there) rest
find_step other false codec changed first second apart same rest = ap (cond (codec.graph.address == other) (Some codec)) rest

-- a codec at one address is not at another
not_other : (here address other : ℕ) → other ≢ address → (here == address) ≡ true → (here == other) ≡ false
not_other here address other apart is = search (rules, tests)

pub found_apart : (address other : ℕ) (change : CodecState → CodecState) → ((codec : CodecState) → (change codec).graph ≡ codec.graph) → other ≢ address
    → (codecs : List CodecState) → codec_at other (with_codec address change codecs) ≡ codec_at other codecs
found_apart address other change keeps apart [] = refl
found_apart address other change keeps apart (codec ∷ codecs) =
    find_step other (codec.graph.address == address) codec (change codec) _ _ (not_other codec.graph.address address other apart) (keeps codec) (found_apart address other change keeps apart codecs)
