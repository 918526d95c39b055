-- What every move of the device keeps of the output stream.
use Rattle.std.proofs.Common.{◌≡◌, ◌<◌, ◌≤◌, ◌+◌, ◌-◌, ◌%◌, ◌&&◌, nat_lt, ℕ, Bool, true, false, List, [], ◌∷◌, ◌++◌, length, take, drop, Option, Some, None, if◌then◌else◌, append-nil, refl, sym, ap, ap₂, subst, ◌∙◌, arith, length-append}
use Rattle.std.proofs.Math.Seq.{take-add}
use Rattle.std.proofs.lemmas.List.{take-append-le, drop-append-le}
use Rattle.std.proofs.lemmas.Grind.{flat_map-append}
use Rattle.std.proofs.lemmas.Bool.{false≢true}
use Rattle.std.specs.Prelude.{All}
use Rattle.std.proofs.lemmas.List.Elements.{All-head, All-tail}
use Rattle.hda_registers.specs.Fields.{Descriptor, Fields, is_out_of_reset, is_running}
use Rattle.hda_registers.specs.Status.{worth}
use Rattle.world_streams.specs.Streams.{StreamState, is_ready}
use Rattle.world_rings.specs.declared.response.Response.{Response}
use Rattle.world_rings.specs.Entries.{after_response, after_responses}
use Rattle.world_rings.specs.declared.response.TheConstants.{MOST_WAITING}
use Rattle.world_rings.specs.Engines.{next_word, batch}
use Rattle.codec_graph.specs.declared.waiting.Waiting.{Waiting}
use Rattle.world_steps.specs.declared.Step.{Step}
use Rattle.world_steps.specs.declared.Step.TheVariants as step
use Rattle.hda_world.specs.Worlds.{World, CarriedFrame, codec_at}
use Rattle.hda_world.specs.Steps.{address_of, is_busy, handed_next, waiting_of, sent_first, responded, after_step, after_steps}
use Rattle.hda_world.specs.Kept.{Kept, KeptByBytes, KeptByFrames, unmoved}
use Rattle.hda_world.specs.Leaving.{StreamsStay, NamesNoStream}
use Rattle.hda_world.specs.Streaming.{IsWithinFifo, HoldsFifo, HasPosition, ShowsReady, bytes_of, carried_bytes, AreSent, HasSent, StaysStopped}
use Rattle.hda_world.proofs.Inputs.{by_moves}
use Rattle.hda_world.proofs.Stepping.{kept_steps, frames_after}

-- ---- the FIFO

one_more : (left entered fifo : ℕ) → IsWithinFifo left entered fifo → entered < left + fifo → IsWithinFifo left (entered + 1) fifo
one_more left entered fifo holds room = record { behind = omega (arith, holds.behind); ahead = omega (arith, room) }

came : (world : World) (byte : ℕ) → HoldsFifo world → length world.output.entered < world.output.left + world.registers.shape.fifo
    → IsWithinFifo world.output.left (length (world.output.entered ++ byte ∷ [])) world.registers.shape.fifo
came world byte holds room =
    let long : length (world.output.entered ++ byte ∷ []) ≡ length world.output.entered + 1 = length-append world.output.entered (byte ∷ []) in
    rw long (one_more _ _ _ holds room)

went : (left entered fifo more : ℕ) → IsWithinFifo left entered fifo → more ≤ entered - left → IsWithinFifo (left + more) entered fifo
went left entered fifo more holds enough = record { behind = omega (arith, holds.behind, enough); ahead = omega (arith, holds.ahead) }

-- ---- relations of the output stream alone

-- responses move the controller's part alone
global_after : (responses : List Response) (fields : Fields) → after_responses fields responses ≡ record fields { global = (after_responses fields responses).global }
global_after [] fields = refl
global_after (response ∷ responses) fields = global_after responses (after_response fields)

-- a relation of the output stream's registers and state is kept where the moves of the stream keep it
module _ (P : ℕ → Descriptor → StreamState → List CarriedFrame → Type 0) where
  abbrev pub OfOutput : World → Type 0
  OfOutput world = P world.registers.shape.fifo world.registers.output world.output world.carried

  pub stream_kept : KeptByBytes OfOutput → KeptByFrames OfOutput unmoved → Kept OfOutput
  stream_kept bytes frames = record {
    codecs = record {
      hands = λ world holds can free. holds;
      sends = λ world address item rest holds out room are. holds;
      loses = λ world address holds out. holds;
      plugs = λ world address nid present holds. holds;
    };
    responds = λ world response rest holds can are.
        subst (λ (fields : Fields). P fields.shape.fifo fields.output world.output world.carried) (sym (global_after (response ∷ rest) world.registers)) holds;
    bytes = bytes;
    input = by_moves OfOutput (λ world change holds moves. holds);
    passes = λ world holds out still. holds;
    frames = frames_after OfOutput (λ world holds out. holds) frames;
  }

abbrev InFifo : ℕ → Descriptor → StreamState → List CarriedFrame → Type 0
InFifo fifo descriptor state carried = IsWithinFifo state.left (length state.entered) fifo

pub keeps_fifo : Kept HoldsFifo
keeps_fifo = stream_kept InFifo (record {
  comes = λ world holds can room good is. came world _ holds room;
  ends = λ world holds can room good is. came world _ holds room;
  breaks = λ world holds can room bad. holds;
  refuses = λ world holds must. holds;
}) (record {
  gaps = λ world holds can none. holds;
  sends = λ world holds can some enough. went _ _ _ _ holds enough;
  misses = λ world holds can short. holds;
  stops = λ world holds must. holds;
})

-- ---- LPIB

abbrev Positioned : ℕ → Descriptor → StreamState → List CarriedFrame → Type 0
Positioned fifo descriptor state carried = is_running descriptor ≡ true → descriptor.link_position ≡ state.left % descriptor.buffer_length

pub keeps_position : Kept HasPosition
keeps_position = stream_kept Positioned (record {
  comes = λ world holds can room good is. holds;
  ends = λ world holds can room good is. holds;
  breaks = λ world holds can room bad runs. absurd (false≢true runs);
  refuses = λ world holds must runs. absurd (false≢true runs);
}) (record {
  gaps = λ world holds can none. holds;
  sends = λ world holds can some enough runs. refl;
  misses = λ world holds can short. holds;
  stops = λ world holds must runs. absurd (false≢true runs);
})

-- ---- FIFORDY

abbrev Ready : ℕ → Descriptor → StreamState → List CarriedFrame → Type 0
Ready fifo descriptor state carried = descriptor.fifo_ready ≡ worth (is_ready (record { descriptor = descriptor; state = state })) 0

pub keeps_ready : Kept ShowsReady
keeps_ready = stream_kept Ready (record {
  comes = λ world holds can room good is. refl;
  ends = λ world holds can room good is. refl;
  breaks = λ world holds can room bad. refl;
  refuses = λ world holds must. refl;
}) (record {
  gaps = λ world holds can none. holds;
  sends = λ world holds can some enough. refl;
  misses = λ world holds can short. holds;
  stops = λ world holds must. refl;
})

-- ---- what was sent

abbrev SentFrom : ℕ → ℕ → Descriptor → StreamState → List CarriedFrame → Type 0
SentFrom from fifo descriptor state carried = AreSent from state.frame state.left state.entered carried

-- a byte that enters changes nothing of what left
sent_byte : (from frame left byte : ℕ) (entered : List ℕ) (carried : List CarriedFrame) → AreSent from frame left entered carried → AreSent from frame left (entered ++ byte ∷ []) carried
sent_byte from frame left byte entered carried sent =
    let long = length-append entered (byte ∷ []) in
    let behind = sent.behind in
    record { frames = sent.frames; behind = rw long (omega arith); bytes = sent.bytes ∙ sym (take-append-le left entered (byte ∷ []) sent.behind) }

-- a frame that carried some bytes
sent_frame : (from frame left more : ℕ) (entered : List ℕ) (carried : List CarriedFrame) (one : CarriedFrame) → bytes_of one.carriage ≡ take more (drop left entered) → more ≤ length entered - left
    → AreSent from frame left entered carried → AreSent from (frame + 1) (left + more) entered (carried ++ one ∷ [])
sent_frame from frame left more entered carried one bytes enough sent =
    let frames = sent.frames in
    let behind = sent.behind in
    let long = length-append carried (one ∷ []) in
    let within : from ≤ length carried = omega (arith, frames) in
    record {
      frames = rw long (omega (arith, frames));
      behind = omega (arith, behind, enough);
      bytes = (
          ap carried_bytes (drop-append-le from carried (one ∷ []) within)
          ∙ flat_map-append (λ (frame : CarriedFrame). bytes_of frame.carriage) (drop from carried) (one ∷ [])
          ∙ ap₂ (λ (front back : List ℕ). front ++ back) sent.bytes (append-nil (bytes_of one.carriage) ∙ bytes)
          ∙ sym (take-add left more entered));
    }

nothing_sent : (from frame left : ℕ) (entered : List ℕ) (carried : List CarriedFrame) (one : CarriedFrame) → bytes_of one.carriage ≡ []
    → AreSent from frame left entered carried → AreSent from (frame + 1) left entered (carried ++ one ∷ [])
nothing_sent from frame left entered carried one none sent =
    let same : left + 0 ≡ left = omega arith in
    subst (λ (n : ℕ). AreSent from (frame + 1) n entered (carried ++ one ∷ [])) same (sent_frame from frame left 0 entered carried one (none ∙ refl) (omega arith) sent)

pub keeps_sent : (from : ℕ) → Kept (HasSent from)
keeps_sent from = stream_kept (SentFrom from) (record {
  comes = λ world sent can room good is. sent_byte from _ _ _ _ _ sent;
  ends = λ world sent can room good is. sent_byte from _ _ _ _ _ sent;
  breaks = λ world sent can room bad. sent;
  refuses = λ world sent must. sent;
}) (record {
  gaps = λ world sent can none. nothing_sent from _ _ _ _ _ refl sent;
  sends = λ world sent can some enough. sent_frame from _ _ _ _ _ _ refl enough sent;
  misses = λ world sent can short. nothing_sent from _ _ _ _ _ refl sent;
  stops = λ world sent must. sent;
})

-- ---- a stream that does not run

record Stopped (old : Descriptor) (before : StreamState) (history : List CarriedFrame) (fifo : ℕ) (descriptor : Descriptor) (state : StreamState) (carried : List CarriedFrame) : Type 0 where
  stopped : is_running descriptor ≡ false
  registers : descriptor ≡ old
  state_stays : state ≡ before
  carried_stays : carried ≡ history

not_both : {A : Type 0} (test : Bool) → test ≡ false → test ≡ true → A
not_both test off on = absurd (false≢true (sym off ∙ on))

module _ (old : Descriptor) (before : StreamState) (history : List CarriedFrame) where
  keeps_stopped : Kept (OfOutput (Stopped old before history))
  keeps_stopped = stream_kept (Stopped old before history) (record {
    comes = λ world holds can room good is. not_both _ holds.stopped can.runs;
    ends = λ world holds can room good is. not_both _ holds.stopped can.runs;
    breaks = λ world holds can room bad. not_both _ holds.stopped can.runs;
    refuses = λ world holds must. not_both _ holds.stopped must.runs;
  }) (record {
    gaps = λ world holds can none. not_both _ holds.stopped can.runs;
    sends = λ world holds can some enough. not_both _ holds.stopped can.runs;
    misses = λ world holds can short. not_both _ holds.stopped can.runs;
    stops = λ world holds must. not_both _ holds.stopped must.runs;
  })

pub steps_leave_stopped : (steps : List Step) (world : World) → is_running world.registers.output ≡ false
    → StaysStopped world.registers.output world.output world.carried (after_steps steps world)
steps_leave_stopped steps world still =
    let stays = kept_steps (OfOutput (Stopped world.registers.output world.output world.carried)) (keeps_stopped world.registers.output world.output world.carried) steps world
    (record { stopped = still; registers = refl; state_stays = refl; carried_stays = refl }) in
    record { stopped = stays.stopped; registers = stays.registers; state_stays = stays.state_stays; carried_stays = stays.carried_stays }

-- ---- steps that name no stream

pub streams_both : (first second third : World) → StreamsStay first second → StreamsStay second third → StreamsStay first third
streams_both first second third one other = record {
  input_registers = other.input_registers ∙ one.input_registers;
  output_registers = other.output_registers ∙ one.output_registers;
  input = other.input ∙ one.input;
  output = other.output ∙ one.output;
  carried = other.carried ∙ one.carried;
  came = other.came ∙ one.came;
}

pub streams_same : (world : World) → StreamsStay world world
streams_same world = record { input_registers = refl; output_registers = refl; input = refl; output = refl; carried = refl; came = refl }

streams_if : (test : Bool) (old one other : World) → StreamsStay old one → StreamsStay old other → StreamsStay old (if test then one else other)
streams_if true old one other first second = first
streams_if false old one other first second = second

handed_streams : (next : Option ℕ) (world : World) → StreamsStay world (handed_next next world)
handed_streams None world = streams_same world
handed_streams (Some word) world =
    streams_if (is_busy (codec_at (address_of word) world.codecs)) world world _ (streams_same world)
    (record { input_registers = refl; output_registers = refl; input = refl; output = refl; carried = refl; came = refl })

sent_streams : (items : List Waiting) (address : ℕ) (world : World) → StreamsStay world (sent_first address items world)
sent_streams [] address world = streams_same world
sent_streams (item ∷ items) address world = record { input_registers = refl; output_registers = refl; input = refl; output = refl; carried = refl; came = refl }

responded_streams : (responses : List Response) (world : World) → StreamsStay world (responded responses world)
responded_streams [] world = record { input_registers = refl; output_registers = refl; input = refl; output = refl; carried = refl; came = refl }
responded_streams (response ∷ responses) world =
    let same = global_after (response ∷ responses) world.registers in
    record {
      input_registers = ap (λ (fields : Fields). fields.input) same;
      output_registers = ap (λ (fields : Fields). fields.output) same;
      input = refl;
      output = refl;
      carried = refl;
      came = refl;
    }

pub step_leaves_streams : (step : Step) (world : World) → NamesNoStream step → StreamsStay world (after_step step world)
step_leaves_streams step.Corb world none = handed_streams (next_word world.registers world.memory) world
step_leaves_streams (step.Answer codec) world none =
    streams_if (is_out_of_reset world.registers.global && nat_lt (length world.waiting) MOST_WAITING) world _ world
    (sent_streams (waiting_of (codec_at codec world.codecs)) codec world) (streams_same world)
step_leaves_streams (step.Lose codec) world none =
    streams_if (is_out_of_reset world.registers.global) world _ world (record { input_registers = refl; output_registers = refl; input = refl; output = refl; carried = refl; came = refl }) (streams_same world)
step_leaves_streams step.Rirb world none = responded_streams (batch world.registers world.waiting) world
step_leaves_streams (step.Fetch stream most) world none = absurd none
step_leaves_streams (step.Link frames) world none = absurd none
step_leaves_streams (step.Plug codec nid) world none = record { input_registers = refl; output_registers = refl; input = refl; output = refl; carried = refl; came = refl }
step_leaves_streams (step.Unplug codec nid) world none = record { input_registers = refl; output_registers = refl; input = refl; output = refl; carried = refl; came = refl }

pub steps_leave_streams : (steps : List Step) (world : World) → All NamesNoStream steps → StreamsStay world (after_steps steps world)
steps_leave_streams [] world none = streams_same world
steps_leave_streams (step ∷ steps) world none =
    streams_both _ _ _ (step_leaves_streams step world (All-head NamesNoStream step steps none)) (steps_leave_streams steps (after_step step world) (All-tail NamesNoStream step steps none))
