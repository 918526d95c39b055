-- What a step adds to heard lists.
use Rattle.codec_graph.specs.declared.pin_kind.PinKind.{PinKind}
use Rattle.std.proofs.Common.{◌≡◌, ◌≤◌, ◌+◌, ◌*◌, ◌&&◌, ◌⊎◌, inl, inr, ℕ, zero, suc, Bool, true, false, nat_le, nat_lt, List, [], ◌∷◌, ◌++◌, length, map, take, Option, Some, None, if◌then◌else◌, refl, sym, ap, ◌∙◌, arith}
use Rattle.std.proofs.lemmas.List.{append-nil, append_assoc, take_at, length-take-le, length-drop}
use Rattle.std.proofs.lemmas.Bool.Decides.{nat_tests}
use Rattle.codec_graph.specs.declared.waiting.Waiting.{Waiting}
use Rattle.codec_graph.specs.CodecStates.{CodecState}
use Rattle.hda_registers.specs.Fields.{Fields, is_out_of_reset, is_running}
use Rattle.world_rings.specs.Engines.{next_word}
use Rattle.world_rings.specs.declared.response.TheConstants.{MOST_WAITING}
use Rattle.stream_format.specs.Layouts.{Layout, layout_of}
use Rattle.stream_format.specs.Cadence.{blocks_of, bytes_of_block}
use Rattle.world_streams.specs.Streams.{Stream, due, due_by, held, held_bytes, is_usable}
use Rattle.world_streams.specs.Output.{Carriage, Sent, Missed, carried_by, frame_of}
use Rattle.world_streams.specs.Output as output
use Rattle.stream_descriptor.specs.Running.{found_at, stream_at}
use Rattle.stream_descriptor.specs.Frames.{AreDue as AreDueOf}
use Rattle.codec_sound.specs.declared.signals.Signal.{Signal}
use Rattle.heard_frames.specs.HeardLists.{signal_with_as}
use Rattle.hda_world.specs.Worlds.{World, CarriedFrame, output_of, codec_at}
use Rattle.hda_world.specs.Steps as steps
use Rattle.hda_world.specs.Steps.{frame_carried, frame_step, output_framed, passed, times, waiting_of, is_busy, address_of}
use Rattle.device_core.specs.Devices.{DeviceState, KeepsSound}
use Rattle.heard_lists.specs.Listings.{Listing, grown_as, with_blocks}
use Rattle.heard_lists.proofs.Callers.{grown-append, grown-none, blocks-grow}
use Rattle.hda_controller.specs.Controllers.{signal_now}
use Rattle.hda_controller.specs.Hearing.{AreDue, CameAs, FramesHeardAs}

-- ---- worlds in turn

-- no link frame carried anything
pub grew_still : (kind : PinKind) (before after : World) (lists : List Listing) → after.carried ≡ before.carried → FramesHeardAs kind before after lists lists
grew_still kind before after lists stays = record { added = []; carried = stays ∙ sym (append-nil before.carried); lists = sym (grown-none kind lists) }

pub grew_on : (kind : PinKind) (before middle after : World) (old between new : List Listing) → FramesHeardAs kind before middle old between → FramesHeardAs kind middle after between new → FramesHeardAs kind before after old new
grew_on kind before middle after old between new first second = record {
  added = first.added ++ second.added;
  carried = second.carried ∙ (ap (λ (frames : List CarriedFrame). frames ++ second.added) first.carried ∙ append_assoc before.carried first.added second.added);
  lists = second.lists ∙ (ap (grown_as kind second.added) first.lists ∙ grown-append kind first.added second.added old);
}

-- no block came
pub came_still : (before after : World) (marks : List Bool) → after.came ≡ before.came → CameAs before after marks marks
came_still before after marks stays = record { added = []; came = stays ∙ sym (append-nil before.came); marks = sym (append-nil marks) }

pub came_on : (before middle after : World) (old between new : List Bool) → CameAs before middle old between → CameAs middle after between new → CameAs before after old new
came_on before middle after old between new first second = record {
  added = first.added ++ second.added;
  came = second.came ∙ (ap (λ (marks : List Bool). marks ++ second.added) first.came ∙ append_assoc before.came first.added second.added);
  marks = second.marks ∙ (ap (λ (marks : List Bool). marks ++ second.added) first.marks ∙ append_assoc old first.added second.added);
}

-- a move more
pub times-more : (count : ℕ) (move : World → World) (world : World) → times (suc count) move world ≡ move (times count move world)
times-more zero move world = refl
times-more (suc count) move world = times-more count move (move world)

pub times-one_more : (count : ℕ) (move : World → World) (world : World) → times (count + 1) move world ≡ move (times count move world)
times-one_more count move world = let e : count + 1 ≡ suc count = omega arith in ap (λ (n : ℕ). times n move world) e ∙ times-more count move world

-- ---- a link frame

module _ (kind : PinKind) (world : World) where
  abbrev found : output.Frame
  found = found_at 1 world.registers world.output

  carried_when : (out : Bool) → (if out then steps.input_framed (output_framed (frame_of (output_of world)) (passed world)) else world).carried
      ≡ world.carried ++ map (frame_carried world) (carried_by (if out then frame_of (stream_at 1 world.registers world.output) else output.Stopped) (output_of world))
  carried_when true = refl
  carried_when false = sym (append-nil world.carried)

  -- what a frame carried is what it found
  carried_found : (carriages : List Carriage) → carried_by found (output_of world) ≡ carriages → (frame_step world).carried ≡ world.carried ++ map (frame_carried world) carriages
  carried_found carriages is =
      carried_when (is_out_of_reset world.registers.global) ∙ ap (λ (list : List Carriage). world.carried ++ map (frame_carried world) list) is

  pub grew_idle : (lists : List Listing) → (found ≡ output.Stopped) ⊎ (found ≡ output.Broken) → FramesHeardAs kind world (frame_step world) lists lists
  grew_idle lists none = grew_still kind world (frame_step world) lists (carried_found [] (elim none [
    | inl stopped ↦ ap (λ (f : output.Frame). carried_by f (output_of world)) stopped
    | inr broken ↦ ap (λ (f : output.Frame). carried_by f (output_of world)) broken
  ]) ∙ append-nil world.carried)

  grew_one : (carriage : Carriage) (old new : List Listing) → carried_by found (output_of world) ≡ carriage ∷ [] → new ≡ grown_as kind (frame_carried world carriage ∷ []) old → FramesHeardAs kind world (frame_step world) old new
  grew_one carriage old new is lists = record { added = frame_carried world carriage ∷ []; carried = carried_found (carriage ∷ []) is; lists = lists }

  pub grew_gap : (old new : List Listing) → found ≡ output.Gap → new ≡ grown_as kind (frame_carried world (Sent []) ∷ []) old → FramesHeardAs kind world (frame_step world) old new
  grew_gap old new gap lists = grew_one (Sent []) old new (ap (λ (f : output.Frame). carried_by f (output_of world)) gap) lists

  pub grew_hole : (old new : List Listing) → found ≡ output.Hole → new ≡ grown_as kind (frame_carried world Missed ∷ []) old → FramesHeardAs kind world (frame_step world) old new
  grew_hole old new hole lists = grew_one Missed old new (ap (λ (f : output.Frame). carried_by f (output_of world)) hole) lists

  pub grew_blocks : (old new : List Listing) → found ≡ output.Blocks → new ≡ grown_as kind (frame_carried world (Sent (take (due (output_of world)) (held_bytes world.output))) ∷ []) old → FramesHeardAs kind world (frame_step world) old new
  grew_blocks old new blocks lists = grew_one (Sent (take (due (output_of world)) (held_bytes world.output))) old new (ap (λ (f : output.Frame). carried_by f (output_of world)) blocks) lists

-- ---- its blocks

-- the FIFO holds what is due
held_by : (runs usable none fits : Bool)
    → (if runs then (if usable then (if none then output.Gap else (if fits then output.Blocks else output.Hole)) else output.Broken) else output.Stopped) ≡ output.Blocks → fits ≡ true
held_by true true false true is = refl
held_by true true false false is = cc
held_by true true true fits is = cc
held_by true false none fits is = cc
held_by false usable none fits is = cc

found_by : (out : Bool) (stream : Stream) → (if out then frame_of stream else output.Stopped) ≡ output.Blocks → frame_of stream ≡ output.Blocks
found_by true stream is = is
found_by false stream is = cc

pub blocks_held : (stream : Stream) → frame_of stream ≡ output.Blocks → due stream ≤ held stream.state
blocks_held stream is =
    let fits : nat_le (due stream) (held stream.state) ≡ true = held_by (is_running stream.descriptor) (is_usable stream.descriptor) _ (nat_le (due stream) (held stream.state)) is in
    grind (arith, nat_tests)

-- the bytes that stand in front are those that the frame carried
pub front_sent : (stream : Stream) (rest : List ℕ) → due stream ≤ held stream.state → take (due stream) (take (due stream) (held_bytes stream.state) ++ rest) ≡ take (due stream) (held_bytes stream.state)
front_sent stream rest enough =
    let size : length (held_bytes stream.state) ≡ held stream.state = length-drop stream.state.left stream.state.entered in
    take_at (take (due stream) (held_bytes stream.state)) rest (due stream) (length-take-le (due stream) (held_bytes stream.state) (omega (arith, size, enough)))

due_laid : (stream : Stream) (blocks : ℕ) (layout : Layout) → layout_of stream.descriptor.format ≡ Some layout → blocks ≡ blocks_of layout.rate stream.state.frame
    → blocks * bytes_of_block layout.channels layout.bits ≡ due stream
due_laid stream blocks layout is count =
    ap (λ (n : ℕ). n * bytes_of_block layout.channels layout.bits) count ∙ sym (ap (λ (o : Option Layout). due_by o stream.state.frame) is)

-- the blocks are those of a format that the registers have after the frame too
pub due_here : (world : World) (blocks : ℕ) (old new : Fields) → world.registers ≡ old → KeepsSound old new → AreDueOf (output_of world) blocks → AreDue new.output.format blocks
due_here world blocks old new registers sound laid = record {
  layout = laid.0;
  frame = world.output.frame;
  format_is = ap layout_of (sound.format ∙ ap (λ (f : Fields). f.output.format) (sym registers)) ∙ laid.1;
  blocks_are = laid.2;
}

-- signals by the codecs, the tag and the format word of a moment
abbrev pub signals : PinKind → List CodecState → ℕ → ℕ → ℕ → ℕ → Signal
signals kind codecs tag word codec pin = signal_with_as kind (codec_at codec codecs) tag word (layout_of word) pin

same_signals : (kind : PinKind) (first second : List CodecState) (tag other word format : ℕ) → first ≡ second → tag ≡ other → word ≡ format → signals kind first tag word ≡ signals kind second other format
same_signals kind first second tag other word format codecs tags words =
    ap (λ (list : List CodecState). signals kind list tag word) codecs ∙ (ap (λ (t : ℕ). signals kind second t word) tags ∙ ap (λ (w : ℕ). signals kind second other w) words)

module _ (kind : PinKind) (world : World) (device : DeviceState) (blocks : ℕ) (bytes : List ℕ) (old new : List Listing) (rest : List ℕ)
    (codecs : device.codecs ≡ world.codecs) (tag : device.registers.output.tag ≡ world.registers.output.tag) (word : device.registers.output.format ≡ world.registers.output.format) where
  -- lists that heard the blocks by the signals of the device, which are those of the world, grew by the frame
  pub blocks_heard : found kind world ≡ output.Blocks → AreDueOf (output_of world) blocks → bytes ≡ take (due (output_of world)) (held_bytes world.output) ++ rest
      → ((layout : Layout) → layout_of device.registers.output.format ≡ Some layout → new ≡ map (with_blocks (signal_now kind device) layout (take (blocks * bytes_of_block layout.channels layout.bits) bytes)) old)
      → FramesHeardAs kind world (frame_step world) old new
  blocks_heard is laid stand heard =
      let layout = laid.0 in
      let stream = output_of world in
      let enough = blocks_held stream (found_by (is_out_of_reset world.registers.global) stream is) in
      let sent = take (due stream) (held_bytes world.output) in
      let front : take (blocks * bytes_of_block layout.channels layout.bits) bytes ≡ sent =
      ap (λ (n : ℕ). take n bytes) (due_laid stream blocks layout laid.1 laid.2) ∙ (ap (take (due stream)) stand ∙ front_sent stream rest enough) in
      let by_device : new ≡ map (with_blocks (signal_now kind device) layout (take (blocks * bytes_of_block layout.channels layout.bits) bytes)) old =
      heard layout (ap layout_of word ∙ laid.1) in
      let frame = frame_carried world (Sent sent) in
      grew_blocks kind world old new is
      (by_device
      ∙ (ap (λ (b : List ℕ). map (with_blocks (signal_now kind device) layout b) old) front
      ∙ (ap (λ (s : ℕ → ℕ → Signal). map (with_blocks s layout sent) old) (same_signals kind device.codecs world.codecs device.registers.output.tag world.registers.output.tag device.registers.output.format world.registers.output.format codecs tag word)
      ∙ blocks-grow kind frame layout sent old laid.1 refl)))

-- ---- steps that carry nothing

corb_busy : (world : World) (word : ℕ) (busy : Bool) → (if busy then world else steps.handed word world).carried ≡ world.carried
corb_busy world word true = refl
corb_busy world word false = refl

corb_next : (world : World) (next : Option ℕ) → (steps.handed_next next world).carried ≡ world.carried
corb_next world None = refl
corb_next world (Some word) = corb_busy world word (is_busy (codec_at (address_of word) world.codecs))

pub corb_carries : (world : World) → (steps.corb_step world).carried ≡ world.carried
corb_carries world = corb_next world (next_word world.registers world.memory)

answer_first : (world : World) (address : ℕ) (waiting : List Waiting) → (steps.sent_first address waiting world).carried ≡ world.carried
answer_first world address [] = refl
answer_first world address (item ∷ rest) = refl

answer_when : (world : World) (address : ℕ) (can : Bool) → (if can then steps.sent_first address (waiting_of (codec_at address world.codecs)) world else world).carried ≡ world.carried
answer_when world address true = answer_first world address (waiting_of (codec_at address world.codecs))
answer_when world address false = refl

pub answer_carries : (address : ℕ) (world : World) → (steps.answer_step address world).carried ≡ world.carried
answer_carries address world = answer_when world address (is_out_of_reset world.registers.global && nat_lt (length world.waiting) MOST_WAITING)

lose_when : (world : World) (address : ℕ) (out : Bool) → (if out then steps.lost address world else world).carried ≡ world.carried
lose_when world address true = refl
lose_when world address false = refl

pub lose_carries : (address : ℕ) (world : World) → (steps.lose_step address world).carried ≡ world.carried
lose_carries address world = lose_when world address (is_out_of_reset world.registers.global)

fetch_when : (world : World) (most : ℕ) (fetches stores : Bool) → (if fetches then steps.output_fetched most world else (if stores then steps.input_stored most world else world)).carried ≡ world.carried
fetch_when world most true stores = refl
fetch_when world most false true = refl
fetch_when world most false false = refl

pub fetch_carries : (stream most : ℕ) (world : World) → (steps.fetch_step stream most world).carried ≡ world.carried
fetch_carries stream most world = fetch_when world most _ _

-- ---- steps in which no block comes

corb_busy_brings : (world : World) (word : ℕ) (busy : Bool) → (if busy then world else steps.handed word world).came ≡ world.came
corb_busy_brings world word true = refl
corb_busy_brings world word false = refl

corb_next_brings : (world : World) (next : Option ℕ) → (steps.handed_next next world).came ≡ world.came
corb_next_brings world None = refl
corb_next_brings world (Some word) = corb_busy_brings world word (is_busy (codec_at (address_of word) world.codecs))

pub corb_brings : (world : World) → (steps.corb_step world).came ≡ world.came
corb_brings world = corb_next_brings world (next_word world.registers world.memory)

answer_first_brings : (world : World) (address : ℕ) (waiting : List Waiting) → (steps.sent_first address waiting world).came ≡ world.came
answer_first_brings world address [] = refl
answer_first_brings world address (item ∷ rest) = refl

answer_when_brings : (world : World) (address : ℕ) (can : Bool) → (if can then steps.sent_first address (waiting_of (codec_at address world.codecs)) world else world).came ≡ world.came
answer_when_brings world address true = answer_first_brings world address (waiting_of (codec_at address world.codecs))
answer_when_brings world address false = refl

pub answer_brings : (address : ℕ) (world : World) → (steps.answer_step address world).came ≡ world.came
answer_brings address world = answer_when_brings world address (is_out_of_reset world.registers.global && nat_lt (length world.waiting) MOST_WAITING)

lose_when_brings : (world : World) (address : ℕ) (out : Bool) → (if out then steps.lost address world else world).came ≡ world.came
lose_when_brings world address true = refl
lose_when_brings world address false = refl

pub lose_brings : (address : ℕ) (world : World) → (steps.lose_step address world).came ≡ world.came
lose_brings address world = lose_when_brings world address (is_out_of_reset world.registers.global)

fetch_when_brings : (world : World) (most : ℕ) (fetches stores : Bool) → (if fetches then steps.output_fetched most world else (if stores then steps.input_stored most world else world)).came ≡ world.came
fetch_when_brings world most true stores = refl
fetch_when_brings world most false true = refl
fetch_when_brings world most false false = refl

pub fetch_brings : (stream most : ℕ) (world : World) → (steps.fetch_step stream most world).came ≡ world.came
fetch_brings stream most world = fetch_when_brings world most _ _
