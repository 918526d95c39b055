-- That the device goes where the world goes in a link frame.
use Rattle.std.proofs.Common.{◌≡◌, ◌≤◌, ◌+◌, ◌==◌, ◌&&◌, ℕ, Bool, true, false, List, nat_lt, if◌then◌else◌, refl, sym, ap, subst, ◌∙◌, inl, inr, arith, ne_eqb, append-nil}
use Rattle.std.proofs.lemmas.Bool.{ltb-true, ltb-false}
use Rattle.codec_graph.specs.CodecStates.{CodecState}
use Rattle.hda_registers.specs.Fields.{Fields, Global, Descriptor, is_out_of_reset, is_running}
use Rattle.hda_registers.specs.Laws.{IsHeldInReset}
use Rattle.hda_registers.specs.Moves.{framed}
use Rattle.world_streams.specs.Streams.{StreamState, Stream}
use Rattle.world_streams.specs.Output.{Stopped, frame_of, after_frame}
use Rattle.world_streams.specs.Output as output
use Rattle.world_streams.specs.Input.{Intake}
use Rattle.world_streams.proofs.Callers.{move-stopped}
use Rattle.stream_descriptor.specs.declared.frame.Frame.{Frame}
use Rattle.stream_descriptor.specs.Frames.{IsAnswer}
use Rattle.stream_descriptor.specs.Running.{Playing, StandsFor, LeadsTo, stream_at, with_descriptor, found_at}
use Rattle.stream_descriptor.specs.Taking.{TakesFor}
use Rattle.stream_descriptor.proofs.Callers.{beside_output}
use Rattle.hda_world.specs.declared.step.TheConstants.{FRAMES_TO_DISCOVERY}
use Rattle.hda_world.specs.Worlds.{World, input_of, output_of}
use Rattle.hda_world.specs.Arriving.{arriving}
use Rattle.hda_world.specs.Steps.{discovered, discovered_at, passed, output_framed, with_intake, input_framed, frame_step}
use Rattle.device_core.specs.Captures.{CaptureState, IsSourceOf}
use Rattle.device_core.specs.Codecs.{addresses_of}
use Rattle.device_core.specs.Devices.{DeviceState, AreAlike, IsWorld, KeepsSound, is_counted, counted_on, discovered_next}
use Rattle.device_core.specs.Keeping.{IsDevice}
use Rattle.device_core.proofs.Standing.{device_from, held_on}
use Rattle.device_core.proofs.Hearing.{rests_in_reset}
use Rattle.device_core.proofs.Discovery.{discovered_leaves}
use Rattle.device_core.proofs.Steps.{stands_on}

-- ---- the count of link frames

framed_out : (fields : Fields) → is_out_of_reset fields.global ≡ false → framed fields ≡ fields
framed_out fields off = rw off refl

-- the frame of the discovery is past
past_none : (frames : ℕ) (codecs : List CodecState) (fields : Fields) → FRAMES_TO_DISCOVERY ≤ frames → discovered_at (frames + 1) codecs fields ≡ fields
past_none frames codecs fields past =
    let other : (frames + 1 == FRAMES_TO_DISCOVERY) ≡ false = ne_eqb (frames + 1) FRAMES_TO_DISCOVERY (λ same. omega (arith, past, same)) in
    ap (λ (now : Bool). if now then discovered codecs fields else fields) other

-- what the count comes to, and the registers after it
abbrev pub Counts : (frames passed count : ℕ) (codecs : List CodecState) (fields new : Fields) → Type 0
Counts frames passed count codecs fields new = (new ≡ discovered_at (passed + 1) codecs fields) × AreAlike count (passed + 1)

module _ (codecs : List CodecState) (fields : Fields) where
  abbrev Counted : ℕ → ℕ → Bool → Type 0
  Counted frames passed counts =
      Counts frames passed (if counts then frames + 1 else frames) codecs fields (if counts then discovered_at (frames + 1) codecs fields else fields)

  below_same : (frames : ℕ) (below : Bool) → nat_lt frames FRAMES_TO_DISCOVERY ≡ below → Counted frames frames below
  below_same frames true is = (refl, inl refl)
  below_same frames false is =
      let past : FRAMES_TO_DISCOVERY ≤ frames = ltb-false frames FRAMES_TO_DISCOVERY is in
      (sym (past_none frames codecs fields past), inr (past, omega (arith, past)))

  below_past : (frames passed : ℕ) (below : Bool) → nat_lt frames FRAMES_TO_DISCOVERY ≡ below → FRAMES_TO_DISCOVERY ≤ frames → FRAMES_TO_DISCOVERY ≤ passed → Counted frames passed below
  below_past frames passed true is first second = absurd (let less = ltb-true frames FRAMES_TO_DISCOVERY is in omega (arith, less, first))
  below_past frames passed false is first second = (sym (past_none passed codecs fields second), inr (first, omega (arith, second)))

  counted_below : (frames passed : ℕ) → AreAlike frames passed → Counted frames passed (nat_lt frames FRAMES_TO_DISCOVERY)
  counted_below frames passed (inl same) = subst (λ (passed : ℕ). Counted frames passed (nat_lt frames FRAMES_TO_DISCOVERY)) same (below_same frames _ refl)
  counted_below frames passed (inr past) = below_past frames passed _ refl past.0 past.1

  pub counted_out : (frames passed : ℕ) → is_out_of_reset fields.global ≡ true → AreAlike frames passed
      → Counts frames passed (counted_on fields frames) codecs fields (discovered_next frames codecs fields)
  counted_out frames passed out alike =
      let counts : is_counted fields frames ≡ nat_lt frames FRAMES_TO_DISCOVERY = ap (λ (t : Bool). t && nat_lt frames FRAMES_TO_DISCOVERY) out in
      subst (Counted frames passed) (sym counts) (counted_below frames passed alike)

  pub none_counted : (frames : ℕ) → is_out_of_reset fields.global ≡ false → (counted_on fields frames ≡ frames) × (discovered_next frames codecs fields ≡ fields)
  none_counted frames off =
      let none : is_counted fields frames ≡ false = ap (λ (t : Bool). t && nat_lt frames FRAMES_TO_DISCOVERY) off in
      (ap (λ (t : Bool). if t then frames + 1 else frames) none, ap (λ (t : Bool). if t then discovered_at (frames + 1) codecs fields else fields) none)

-- ---- the registers after it

discovery_leaves : (now : Bool) (codecs : List CodecState) (fields : Fields) → let after : Fields = if now then discovered codecs fields else fields in
    after ≡ record fields { global = record fields.global { state_status = after.global.state_status } }
discovery_leaves true codecs fields = discovered_leaves codecs fields
discovery_leaves false codecs fields = refl

-- the controller's part after a link frame in which the codecs may be discovered
abbrev passed_global : World → Global
passed_global world = (discovered_at (world.frames + 1) world.codecs (framed world.registers)).global

passed_only : (world : World) → discovered_at (world.frames + 1) world.codecs (framed world.registers) ≡ record world.registers { global = passed_global world }
passed_only world =
    let left = discovery_leaves (world.frames + 1 == FRAMES_TO_DISCOVERY) world.codecs (framed world.registers) in
    left ∙ ap (λ (g : Global). record world.registers { global = g }) (ap (λ (f : Fields). f.global) (sym left))

passed_reset : (world : World) → (passed_global world).controller_reset ≡ world.registers.global.controller_reset
passed_reset world = ap (λ (f : Fields). f.global.controller_reset) (discovery_leaves (world.frames + 1 == FRAMES_TO_DISCOVERY) world.codecs (framed world.registers))

-- ---- the output stream's part of a frame

-- the world after all that a link frame does but for the input stream
abbrev pub sent_step : World → World
sent_step world = if is_out_of_reset world.registers.global then output_framed (frame_of (output_of world)) (passed world) else world

module _ (memory : List ℕ) (old : DeviceState) (world : World) (is : IsWorld memory old world) where
  abbrev r : Fields
  r = world.registers

  abbrev stream : Stream
  stream = output_of world

  -- the registers that the output stream finds
  abbrev Finds : Bool → Fields → ℕ → Type 0
  Finds true found count = (found ≡ record r { global = passed_global world }) × AreAlike count (world.frames + 1)
  Finds false found count = (found ≡ r) × AreAlike count world.frames

  finds : (out : Bool) → is_out_of_reset r.global ≡ out → (found : Fields) (count : ℕ) → found ≡ discovered_next old.frames world.codecs (framed r) → count ≡ counted_on (framed r) old.frames → Finds out found count
  finds true out found count found_is count_is =
      let next = counted_out world.codecs (framed r) old.frames world.frames out is.frames_are in
      (found_is ∙ (next.0 ∙ passed_only world), subst (λ (n : ℕ). AreAlike n (world.frames + 1)) (sym count_is) next.1)
  finds false off found count found_is count_is =
      let none = none_counted world.codecs (framed r) old.frames off in
      (found_is ∙ (none.1 ∙ framed_out r off), subst (λ (n : ℕ). AreAlike n world.frames) (sym (count_is ∙ none.0)) is.frames_are)

  finds_stream : (out : Bool) (found : Fields) (count : ℕ) → Finds out found count → (found.shape ≡ r.shape) × (found.input ≡ r.input) × (found.output ≡ r.output)
  finds_stream true found count finds = (ap (λ (f : Fields). f.shape) finds.0, ap (λ (f : Fields). f.input) finds.0, ap (λ (f : Fields). f.output) finds.0)
  finds_stream false found count finds = (ap (λ (f : Fields). f.shape) finds.0, ap (λ (f : Fields). f.input) finds.0, ap (λ (f : Fields). f.output) finds.0)

  -- what it finds is what the world's stream finds
  finds_same : (out : Bool) → is_out_of_reset r.global ≡ out → (found : Fields) (count : ℕ) → Finds out found count
      → (found_at 1 found world.output ≡ found_at 1 r world.output) × (stream_at 1 found world.output ≡ stream)
  finds_same true out found count finds =
      let reset : found.global.controller_reset ≡ r.global.controller_reset = ap (λ (f : Fields). f.global.controller_reset) finds.0 ∙ passed_reset world in
      let same : stream_at 1 found world.output ≡ stream = ap (λ (f : Fields). stream_at 1 f world.output) finds.0 in
      (ap (λ (n : ℕ). if n == 1 then frame_of (stream_at 1 found world.output) else Stopped) reset ∙ ap (λ (s : Stream). if is_out_of_reset r.global then frame_of s else Stopped) same, same)
  finds_same false out found count finds = (ap (λ (f : Fields). found_at 1 f world.output) finds.0, ap (λ (f : Fields). stream_at 1 f world.output) finds.0)

  module _ (after : Playing) (found new : Fields) (count : ℕ) (input_index : old.input.playing.index ≡ 0) (index : after.index ≡ 1) where
    abbrev later : DeviceState
    later = record old { registers = new; frames = count; output = after }

    sent_on : (out : Bool) → is_out_of_reset r.global ≡ out → Finds out found count → LeadsTo after found new (after_frame (if out then frame_of stream else Stopped) stream)
        → IsWorld memory later (if out then output_framed (frame_of stream) (passed world) else world)
    sent_on true out finds leads =
        let descriptor : Descriptor = (after_frame (frame_of stream) stream).descriptor in
        let here : new ≡ record r { global = passed_global world; output = descriptor } =
        leads.registers ∙ (ap (λ (i : ℕ). with_descriptor i descriptor found) index ∙ ap (λ (f : Fields). record f { output = descriptor }) finds.0) in
        record {
          memory_is = is.memory_is;
          registers_are = sym here;
          codecs_are = is.codecs_are;
          waiting_is = is.waiting_is;
          frames_are = finds.1;
          captured = record { given_is = is.captured.given_is; came_is = is.captured.came_is };
          input_stands = beside_output old.input.playing old.registers new world.input input_index is.input_stands
              (ap (λ (f : Fields). f.shape) here ∙ ap (λ (f : Fields). f.shape) is.registers_are)
              (ap (λ (f : Fields). f.input) here ∙ ap (λ (f : Fields). f.input) is.registers_are);
          output_stands = leads.stands;
        }
    sent_on false out finds leads =
        let same : new ≡ r = leads.registers ∙ (ap (λ (i : ℕ). with_descriptor i r.output found) index ∙ ap (λ (f : Fields). record f { output = r.output }) finds.0) in
        record {
          memory_is = is.memory_is;
          registers_are = sym same;
          codecs_are = is.codecs_are;
          waiting_is = is.waiting_is;
          frames_are = finds.1;
          captured = record { given_is = is.captured.given_is; came_is = is.captured.came_is };
          input_stands = subst (λ (f : Fields). TakesFor old.input.playing f world.input) (sym (same ∙ is.registers_are)) is.input_stands;
          output_stands = leads.stands;
        }

-- what the output stream does in a frame, and what it answers
abbrev pub PassesFrame : (before after : Playing) (found new : Fields) → Type 0
PassesFrame before after found new =
    (state : StreamState) → StandsFor before found state → LeadsTo after found new (after_frame (found_at before.index found state) (stream_at before.index found state))

abbrev pub AnswersFrame : (before : Playing) (found : Fields) (into into_after : List ℕ) (answer : Frame) → Type 0
AnswersFrame before found into into_after answer =
    (state : StreamState) → StandsFor before found state → IsAnswer (stream_at before.index found state) (found_at before.index found state) into into_after answer

module _ (memory : List ℕ) (old : DeviceState) (world : World) (is : IsWorld memory old world) (found : Fields) (count : ℕ) (ticked : Fields) (tick : ticked ≡ framed old.registers)
    (found_is : found ≡ discovered_next old.frames old.codecs ticked) (count_is : count ≡ counted_on ticked old.frames) where
  framed_same : ticked ≡ framed world.registers
  framed_same = tick ∙ ap framed (sym is.registers_are)

  here_finds : Finds memory old world is (is_out_of_reset world.registers.global) found count
  here_finds = finds memory old world is (is_out_of_reset world.registers.global) refl found count
      (found_is ∙ (ap (λ (f : Fields). discovered_next old.frames old.codecs f) framed_same ∙ ap (λ (codecs : List CodecState). discovered_next old.frames codecs (framed world.registers)) (sym is.codecs_are)))
      (count_is ∙ ap (λ (f : Fields). counted_on f old.frames) framed_same)

  stands_there : StandsFor old.output found world.output
  stands_there =
      let same = finds_stream memory old world is (is_out_of_reset world.registers.global) found count here_finds in
      stands_on old.output old.registers found world.output is.output_stands
      (same.0 ∙ ap (λ (f : Fields). f.shape) is.registers_are) (same.1 ∙ ap (λ (f : Fields). f.input) is.registers_are) (same.2 ∙ ap (λ (f : Fields). f.output) is.registers_are)

  pub frame_answers : (into into_after : List ℕ) (answer : Frame) → old.output.index ≡ 1 → AnswersFrame old.output found into into_after answer
      → IsAnswer (output_of world) (found_at 1 world.registers world.output) into into_after answer
  frame_answers into into_after answer output_index answers =
      let same = finds_same memory old world is (is_out_of_reset world.registers.global) refl found count here_finds in
      let there = subst (λ (i : ℕ). IsAnswer (stream_at i found world.output) (found_at i found world.output) into into_after answer) output_index (answers world.output stands_there) in
      subst (λ (s : Stream). IsAnswer s (found_at 1 world.registers world.output) into into_after answer) same.1
      (subst (λ (f : output.Frame). IsAnswer (stream_at 1 found world.output) f into into_after answer) same.0 there)

  pub sent_moved : (after : Playing) (new : Fields) → old.input.playing.index ≡ 0 → old.output.index ≡ 1 → after.index ≡ old.output.index → PassesFrame old.output after found new
      → IsWorld memory (record old { registers = new; frames = count; output = after }) (sent_step world)
  sent_moved after new input_index output_index index passes =
      let same = finds_same memory old world is (is_out_of_reset world.registers.global) refl found count here_finds in
      let there = subst (λ (i : ℕ). LeadsTo after found new (after_frame (found_at i found world.output) (stream_at i found world.output))) output_index (passes world.output stands_there) in
      sent_on memory old world is after found new count input_index (index ∙ output_index) (is_out_of_reset world.registers.global) refl here_finds
      (subst (λ (s : Stream). LeadsTo after found new (after_frame (found_at 1 world.registers world.output) s)) same.1
      (subst (λ (f : output.Frame). LeadsTo after found new (after_frame f (stream_at 1 found world.output))) same.0 there))

-- ---- what that leaves

sent_still : (world : World) → is_out_of_reset world.registers.global ≡ false → (sent_step world).registers ≡ world.registers
sent_still world off = rw off refl

pub sent_came : (world : World) → (sent_step world).came ≡ world.came
sent_came world = by_out (is_out_of_reset world.registers.global)
  where
    by_out : (out : Bool) → (if out then output_framed (frame_of (output_of world)) (passed world) else world).came ≡ world.came
    by_out true = refl
    by_out false = refl

-- a link frame leaves the tag and the format
after_sound : (found : output.Frame) (stream : Stream) → ((after_frame found stream).descriptor.tag ≡ stream.descriptor.tag) × ((after_frame found stream).descriptor.format ≡ stream.descriptor.format)
after_sound output.Stopped s = (refl, refl)
after_sound output.Broken s = (refl, refl)
after_sound output.Gap s = (refl, refl)
after_sound output.Blocks s = (refl, refl)
after_sound output.Hole s = (refl, refl)

-- of the registers CRST and the output stream's tag and format stay
record SentLeaves (old new : Fields) : Type 0 where
  pub reset : new.global.controller_reset ≡ old.global.controller_reset
  pub sound : KeepsSound old new

sent_leaves : (world : World) → SentLeaves world.registers (sent_step world).registers
sent_leaves world = by_out (is_out_of_reset world.registers.global)
  where
    by_out : (out : Bool) → SentLeaves world.registers (if out then output_framed (frame_of (output_of world)) (passed world) else world).registers
    by_out true =
        let kept = after_sound (frame_of (output_of world)) (output_of world) in
        record { reset = passed_reset world; sound = record { tag = kept.0; format = kept.1 } }
    by_out false = record { reset = refl; sound = record { tag = refl; format = refl } }

module _ (memory : List ℕ) (old new : DeviceState) (world : World) (is : IsWorld memory old world) (now : IsWorld memory new (sent_step world)) where
  leaves : SentLeaves old.registers new.registers
  leaves =
      subst (λ (f : Fields). SentLeaves old.registers f) now.registers_are
      (subst (λ (f : Fields). SentLeaves f (sent_step world).registers) is.registers_are (sent_leaves world))

  pub sent_sound : KeepsSound old.registers new.registers
  sent_sound = leaves.sound

  -- what holds of a device at all times holds after it
  pub sent_keeps : IsDevice old → new.codecs ≡ old.codecs → new.input ≡ old.input → new.output.index ≡ old.output.index → IsDevice new
  sent_keeps keeps codecs input output =
      let still : is_out_of_reset old.registers.global ≡ false → new.registers ≡ old.registers =
      λ off. sym now.registers_are ∙ (sent_still world (ap (λ (f : Fields). is_out_of_reset f.global) is.registers_are ∙ off) ∙ is.registers_are) in
      device_from memory old new (sent_step world) keeps now (held_on old.registers new.registers keeps.held still leaves.reset)
      (ap addresses_of codecs)
      (subst (λ (capture : CaptureState). IsSourceOf capture.source new.codecs) (sym input) (subst (IsSourceOf old.input.source) (sym codecs) keeps.source_is))
      (ap (λ (capture : CaptureState). capture.playing.index) input) output

-- ---- the whole frame

-- an input stream that does not run has no block
framed_still : (world : World) → is_running world.registers.input ≡ false → input_framed world ≡ world
framed_still world stopped =
    ap (λ (intake : Intake). with_intake intake world) (move-stopped world.registers.shape.fifo (arriving world) (input_of world) stopped)
    ∙ ap (λ (came : List Bool). record world { came = came }) (append-nil world.came)

-- so it does not matter that the input stream has its part of the frame in reset too
pub frame_is : (world : World) → IsHeldInReset world.registers → input_framed (sent_step world) ≡ frame_step world
frame_is world held = by_out (is_out_of_reset world.registers.global) refl
  where
    by_out : (out : Bool) → is_out_of_reset world.registers.global ≡ out → input_framed (if out then output_framed (frame_of (output_of world)) (passed world) else world)
        ≡ (if out then input_framed (output_framed (frame_of (output_of world)) (passed world)) else world)
    by_out true is = refl
    by_out false is = framed_still world (rests_in_reset world.registers held is)
