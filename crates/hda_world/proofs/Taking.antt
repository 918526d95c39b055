-- What every move of the device keeps of the input stream.
use Rattle.std.proofs.Common.{◌≡◌, ◌+◌, ◌%◌, nat_lt, ℕ, Bool, true, false, zero, suc, List, [], ◌∷◌, ◌++◌, length, inl, inr, Option, Some, None, if◌then◌else◌, append_assoc, refl, sym, ap, subst, ◌∙◌, arith, length-append}
use Rattle.std.specs.Prelude.{All}
use Rattle.std.proofs.lemmas.Bool.{false≢true, ltb-true}
use Rattle.std.proofs.lemmas.List.Elements.{All-nil, All-append}
use Rattle.codec_sound.specs.declared.in_heard.InHeard.{InHeard}
use Rattle.codec_sound.specs.declared.in_heard.InHeard.TheVariants.{Silence, Pin, Altered}
use Rattle.hda_registers.specs.Fields.{Descriptor, Fields, is_running}
use Rattle.hda_registers.specs.Status.{worth}
use Rattle.stream_format.specs.Cadence.{blocks_of, bytes_of_block}
use Rattle.stream_format.specs.Layouts.{Layout, layout_of}
use Rattle.world_rings.proofs.Callers.{batch_registers}
use Rattle.world_streams.specs.Streams.{StreamState, Stream, is_ready}
use Rattle.world_streams.specs.Input.{given_blocks, kept_by_marks, marks_of, marks_after, entered_after, frame_took}
use Rattle.world_streams.proofs.Callers.{marks-length, entered-marks, entered-within, entered-longer, given-sizes, given-none}
use Rattle.world_steps.specs.declared.Step.{Step}
use Rattle.hda_world.specs.Worlds.{World, input_of}
use Rattle.hda_world.specs.Arriving.{listened, heard_sound, due_blocks, arriving}
use Rattle.hda_world.specs.Steps.{after_steps}
use Rattle.hda_world.specs.Kept.{Kept, KeptByInput}
use Rattle.hda_world.specs.Streaming.{IsWithinFifo, HoldsTaken, HasTakenPosition, ShowsTakenReady, AreGivenOrSilent, AreTaken, HasTakenBlocks, StaysUntaken}
use Rattle.hda_world.proofs.Stepping.{kept_steps, frames_after}
use Rattle.hda_world.proofs.Inputs.{by_stopped}

-- ---- relations of the input stream alone

-- one of its registers, its state and what came is kept where its own moves keep it
module _ (P : ℕ → Descriptor → StreamState → List Bool → List ℕ → Type 0) where
  abbrev pub OfInput : World → Type 0
  OfInput world = P world.registers.shape.fifo world.registers.input world.input world.came world.given

  pub input_kept : KeptByInput OfInput → Kept OfInput
  input_kept input = record {
    codecs = record {
      hands = λ world holds can free. holds;
      sends = λ world address item rest holds out room are. holds;
      loses = λ world address holds out. holds;
      plugs = λ world address nid present holds. holds;
    };
    responds = λ world response rest holds can are.
        subst (λ (fields : Fields). P fields.shape.fifo fields.input world.input world.came world.given) (sym (batch_registers response rest world.registers)) holds;
    bytes = record {
      comes = λ world holds can room good is. holds;
      ends = λ world holds can room good is. holds;
      breaks = λ world holds can room bad. holds;
      refuses = λ world holds must. holds;
    };
    input = input;
    passes = λ world holds out still. holds;
    frames = frames_after OfInput (λ world holds out. holds) (record {
      gaps = λ world holds can none. holds;
      sends = λ world holds can some enough. holds;
      misses = λ world holds can short. holds;
      stops = λ world holds must. holds;
    });
  }

-- ---- a link frame

-- what enters, and what stays of the registers
pub entered_took : (fifo : ℕ) (blocks : List (List ℕ)) (stream : Stream) → (frame_took fifo blocks stream).state.entered ≡ entered_after fifo stream.state.left stream.state.entered blocks
entered_took fifo [] stream = refl
entered_took fifo (block ∷ blocks) stream = refl

left_took : (fifo : ℕ) (blocks : List (List ℕ)) (stream : Stream) → (frame_took fifo blocks stream).state.left ≡ stream.state.left
left_took fifo [] stream = refl
left_took fifo (block ∷ blocks) stream = refl

pub format_took : (fifo : ℕ) (blocks : List (List ℕ)) (stream : Stream) → (frame_took fifo blocks stream).descriptor.format ≡ stream.descriptor.format
format_took fifo [] stream = refl
format_took fifo (block ∷ blocks) stream = refl

-- ---- the FIFO

abbrev InFifo : ℕ → Descriptor → StreamState → List Bool → List ℕ → Type 0
InFifo fifo descriptor state came sound = IsWithinFifo state.left (length state.entered) fifo

one_less : (left entered fifo : ℕ) → IsWithinFifo left entered fifo → nat_lt left entered ≡ true → IsWithinFifo (left + 1) entered fifo
one_less left entered fifo holds some =
    let less = ltb-true left entered some in
    let ahead = holds.ahead in
    record { behind = omega (arith, less); ahead = omega (arith, ahead) }

took_more : (fifo : ℕ) (blocks : List (List ℕ)) (stream : Stream) → IsWithinFifo stream.state.left (length stream.state.entered) fifo
    → IsWithinFifo (frame_took fifo blocks stream).state.left (length (frame_took fifo blocks stream).state.entered) fifo
took_more fifo blocks stream holds =
    let longer = entered-longer fifo stream.state.left stream.state.entered blocks in
    let behind = holds.behind in
    subst (λ (left : ℕ). IsWithinFifo left (length (frame_took fifo blocks stream).state.entered) fifo) (sym (left_took fifo blocks stream))
    (subst (λ (entered : List ℕ). IsWithinFifo stream.state.left (length entered) fifo) (sym (entered_took fifo blocks stream))
    (record { behind = omega (arith, behind, longer); ahead = entered-within fifo stream.state.left stream.state.entered blocks holds.ahead }))

pub keeps_taken : Kept HoldsTaken
keeps_taken = input_kept InFifo (record {
  stores = λ world holds can some good. one_less world.input.left (length world.input.entered) world.registers.shape.fifo holds some;
  jams = λ world holds can some bad. holds;
  takes = λ world holds can. took_more world.registers.shape.fifo (arriving world) (input_of world) holds;
  refuses = λ world holds must. holds;
})

-- ---- LPIB

abbrev Positioned : ℕ → Descriptor → StreamState → List Bool → List ℕ → Type 0
Positioned fifo descriptor state came sound = is_running descriptor ≡ true → descriptor.link_position ≡ length state.entered % descriptor.buffer_length

position_took : (fifo : ℕ) (blocks : List (List ℕ)) (stream : Stream) (came more : List Bool) (sound : List ℕ) → Positioned fifo stream.descriptor stream.state came sound
    → Positioned fifo (frame_took fifo blocks stream).descriptor (frame_took fifo blocks stream).state more sound
position_took fifo [] stream came more sound holds = holds
position_took fifo (block ∷ blocks) stream came more sound holds = λ runs. refl

pub keeps_taken_position : Kept HasTakenPosition
keeps_taken_position = input_kept Positioned (record {
  stores = λ world holds can some good. holds;
  jams = λ world holds can some bad runs. absurd (false≢true runs);
  takes = λ world holds can. position_took world.registers.shape.fifo (arriving world) (input_of world) world.came [] world.given holds;
  refuses = λ world holds must runs. absurd (false≢true runs);
})

-- ---- FIFORDY

abbrev Ready : ℕ → Descriptor → StreamState → List Bool → List ℕ → Type 0
Ready fifo descriptor state came sound = descriptor.fifo_ready ≡ worth (is_ready (record { descriptor = descriptor; state = state })) 0

ready_took : (fifo : ℕ) (blocks : List (List ℕ)) (stream : Stream) (came more : List Bool) (sound : List ℕ) → Ready fifo stream.descriptor stream.state came sound
    → Ready fifo (frame_took fifo blocks stream).descriptor (frame_took fifo blocks stream).state more sound
ready_took fifo [] stream came more sound holds = holds
ready_took fifo (block ∷ blocks) stream came more sound holds = refl

pub keeps_taken_ready : Kept ShowsTakenReady
keeps_taken_ready = input_kept Ready (record {
  stores = λ world holds can some good. refl;
  jams = λ world holds can some bad. refl;
  takes = λ world holds can. ready_took world.registers.shape.fifo (arriving world) (input_of world) world.came [] world.given holds;
  refuses = λ world holds must. refl;
})

-- ---- what was taken

abbrev TakenIn : ℕ → Descriptor → StreamState → List Bool → List ℕ → Type 0
TakenIn fifo descriptor state came sound = is_running descriptor ≡ true → (layout : Layout) → layout_of descriptor.format ≡ Some layout → AreTaken (bytes_of_block layout.channels layout.bits) sound came state.entered

-- marks of blocks in two rows
pub kept-append : (marks more : List Bool) (blocks others : List (List ℕ)) → length blocks ≡ length marks
    → kept_by_marks (marks ++ more) (blocks ++ others) ≡ kept_by_marks marks blocks ++ kept_by_marks more others
kept-append [] more [] others same = refl
kept-append [] more (block ∷ blocks) others same = absurd (omega (arith, same))
kept-append (mark ∷ marks) more [] others same = absurd (omega (arith, same))
kept-append (mark ∷ marks) more (block ∷ blocks) others same =
    let less : length blocks ≡ length marks = omega (arith, same) in
    ap (λ (rest : List ℕ). (if mark then block else []) ++ rest) (kept-append marks more blocks others less)
    ∙ sym (append_assoc (if mark then block else []) (kept_by_marks marks blocks) (kept_by_marks more others))

-- blocks that go on from others
given-on : (size : ℕ) (sound : List ℕ) (from : ℕ) (blocks others : List (List ℕ)) → AreGivenOrSilent size sound from blocks
    → AreGivenOrSilent size sound (from + length blocks) others → AreGivenOrSilent size sound from (blocks ++ others)
given-on size sound from [] others are more = subst (λ (start : ℕ). AreGivenOrSilent size sound start others) (omega arith) more
given-on size sound from (block ∷ blocks) others are more =
    (are.0, given-on size sound (from + 1) blocks others are.1 (subst (λ (start : ℕ). AreGivenOrSilent size sound start others) (omega arith) more))

-- blocks of one size come, those of the sound with the next numbers or silence
more_taken : (fifo left size : ℕ) (entered sound : List ℕ) (came : List Bool) (blocks : List (List ℕ)) → All (λ (block : List ℕ). length block ≡ size) blocks
    → AreGivenOrSilent size sound (length came) blocks → AreTaken size sound came entered
    → AreTaken size sound (came ++ marks_after fifo left entered blocks) (entered_after fifo left entered blocks)
more_taken fifo left size entered sound came blocks sizes next are =
    let marks = marks_after fifo left entered blocks in
    let count = are.count in
    let one = length-append are.blocks blocks in
    let other = length-append came marks in
    let marked = marks-length fifo left entered blocks in
    let start : length came ≡ 0 + length are.blocks = omega (arith, count) in
    record {
      blocks = are.blocks ++ blocks;
      each = All-append (λ (block : List ℕ). length block ≡ size) are.blocks blocks are.each sizes;
      given = given-on size sound 0 are.blocks blocks are.given (subst (λ (from : ℕ). AreGivenOrSilent size sound from blocks) start next);
      count = omega (arith, count, one, other, marked);
      bytes = (
          entered-marks fifo left entered blocks
          ∙ ap (λ (front : List ℕ). front ++ kept_by_marks marks blocks) are.bytes
          ∙ sym (kept-append came marks are.blocks blocks are.count));
    }

-- blocks of a sound, and of none
given-from : (size : ℕ) (sound : List ℕ) (from count : ℕ) → AreGivenOrSilent size sound from (given_blocks size sound from count)
given-from size sound from zero = tt
given-from size sound from (suc count) = (inl refl, given-from size sound (from + 1) count)

silent-from : (size : ℕ) (sound : List ℕ) (from count : ℕ) → AreGivenOrSilent size sound from (given_blocks size [] from count)
silent-from size sound from zero = tt
silent-from size sound from (suc count) = (inr (given-none size from), silent-from size sound (from + 1) count)

heard-from : (heard : InHeard) (size : ℕ) (sound : List ℕ) (from count : ℕ) → AreGivenOrSilent size sound from (given_blocks size (heard_sound heard sound) from count)
heard-from (Pin nid) size sound from count = given-from size sound from count
heard-from Silence size sound from count = silent-from size sound from count
heard-from Altered size sound from count = silent-from size sound from count

-- those that are due are so
due_given : (heard : Option InHeard) (found : Option Layout) (layout : Layout) (sound : List ℕ) (from frame : ℕ) → found ≡ Some layout
    → AreGivenOrSilent (bytes_of_block layout.channels layout.bits) sound from (due_blocks heard found sound from frame)
due_given None found layout sound from frame is = tt
due_given (Some heard) None layout sound from frame is = cc
due_given (Some heard) (Some other) layout sound from frame is =
    let same : layout ≡ other = cc in
    subst (λ (l : Layout). AreGivenOrSilent (bytes_of_block l.channels l.bits) sound from (due_blocks (Some heard) (Some other) sound from frame)) (sym same)
    (heard-from heard (bytes_of_block other.channels other.bits) sound from (blocks_of other.rate frame))

-- those that are due have the size of the format's blocks
due_sizes : (heard : Option InHeard) (found : Option Layout) (layout : Layout) (sound : List ℕ) (from frame : ℕ) → found ≡ Some layout
    → All (λ (block : List ℕ). length block ≡ bytes_of_block layout.channels layout.bits) (due_blocks heard found sound from frame)
due_sizes None found layout sound from frame is = All-nil (λ (block : List ℕ). length block ≡ bytes_of_block layout.channels layout.bits)
due_sizes (Some heard) None layout sound from frame is = cc
due_sizes (Some heard) (Some other) layout sound from frame is =
    let same : layout ≡ other = cc in
    subst (λ (l : Layout). All (λ (block : List ℕ). length block ≡ bytes_of_block l.channels l.bits) (due_blocks (Some heard) (Some other) sound from frame)) (sym same)
    (given-sizes (bytes_of_block other.channels other.bits) (heard_sound heard sound) from (blocks_of other.rate frame))

order_took : (world : World) → is_running world.registers.input ≡ true → HasTakenBlocks world
    → let took = frame_took world.registers.shape.fifo (arriving world) (input_of world) in
    TakenIn world.registers.shape.fifo took.descriptor took.state (world.came ++ marks_of world.registers.shape.fifo (arriving world) (input_of world)) world.given
order_took world ran holds runs layout found =
    let fifo = world.registers.shape.fifo in
    let blocks = arriving world in
    let is : layout_of world.registers.input.format ≡ Some layout = ap layout_of (sym (format_took fifo blocks (input_of world))) ∙ found in
    let size = bytes_of_block layout.channels layout.bits in
    let heard = listened world.registers.input.tag world.registers.input.format world.codecs in
    subst (AreTaken size world.given (world.came ++ marks_of fifo blocks (input_of world))) (sym (entered_took fifo blocks (input_of world)))
    (more_taken fifo world.input.left size world.input.entered world.given world.came blocks
    (due_sizes heard (layout_of world.registers.input.format) layout world.given (length world.came) world.input.frame is)
    (due_given heard (layout_of world.registers.input.format) layout world.given (length world.came) world.input.frame is) (holds ran layout is))

pub keeps_taken_order : Kept HasTakenBlocks
keeps_taken_order = input_kept TakenIn (record {
  stores = λ world holds can some good. holds;
  jams = λ world holds can some bad runs. absurd (false≢true runs);
  takes = λ world holds can. order_took world can.runs holds;
  refuses = λ world holds must runs. absurd (false≢true runs);
})

-- ---- a stream that does not run

record Stopped (old : Descriptor) (before : StreamState) (history : List Bool) (fifo : ℕ) (descriptor : Descriptor) (state : StreamState) (came : List Bool) (sound : List ℕ) : Type 0 where
  stopped : is_running descriptor ≡ false
  registers : descriptor ≡ old
  state_stays : state ≡ before
  came_stays : came ≡ history

pub steps_leave_untaken : (steps : List Step) (world : World) → is_running world.registers.input ≡ false
    → StaysUntaken world.registers.input world.input world.came (after_steps steps world)
steps_leave_untaken steps world still =
    let stays = kept_steps (OfInput (Stopped world.registers.input world.input world.came))
    (input_kept (Stopped world.registers.input world.input world.came) (by_stopped (OfInput (Stopped world.registers.input world.input world.came)) (λ now holds. holds.stopped))) steps world
    (record { stopped = still; registers = refl; state_stays = refl; came_stays = refl }) in
    record { stopped = stays.stopped; registers = stays.registers; state_stays = stays.state_stays; came_stays = stays.came_stays }

-- ---- the sound that pins are given

pub keeps_given : (sound : List ℕ) → Kept (λ (world : World). world.given ≡ sound)
keeps_given sound = record {
  codecs = record {
    hands = λ world holds can free. holds;
    sends = λ world address item rest holds out room are. holds;
    loses = λ world address holds out. holds;
    plugs = λ world address nid present holds. holds;
  };
  responds = λ world response rest holds can are. holds;
  bytes = record {
    comes = λ world holds can room good is. holds;
    ends = λ world holds can room good is. holds;
    breaks = λ world holds can room bad. holds;
    refuses = λ world holds must. holds;
  };
  input = record {
    stores = λ world holds can some good. holds;
    jams = λ world holds can some bad. holds;
    takes = λ world holds can. holds;
    refuses = λ world holds must. holds;
  };
  passes = λ world holds out still. holds;
  frames = record {
    gaps = λ world holds can none. holds;
    sends = λ world holds can some enough. holds;
    misses = λ world holds can short. holds;
    stops = λ world holds must. holds;
  };
}
