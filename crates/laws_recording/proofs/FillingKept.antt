-- Every move of the device keeps that the input stream fills the ring.
use Rattle.std.proofs.Common.{◌≡◌, ◌≤◌, ◌<◌, ◌+◌, ◌-◌, ◌*◌, ◌/◌, ◌%◌, ◌^◌, ◌==◌, ◌&&◌, ◌⊎◌, inl, inr, ℕ, zero, suc, not, Bool, true, false, List, [], ◌∷◌, length, if◌then◌else◌, refl, sym, ap, subst, ◌∙◌, arith, lit<, rules}
use Rattle.std.specs.Prelude.{slice_index, nat_le}
use Rattle.std.proofs.lemmas.Bool.{true≢false, false≢true, ltb-true}
use Rattle.std.proofs.lemmas.Nat.{div-add-mod'}
use Rattle.std.proofs.lemmas.List.{get_or_append_left}
use Rattle.std.proofs.Math.Nat.{mod-lt}
use Rattle.codec_graph.specs.CodecStates.{CodecState}
use Rattle.hda_registers.specs.Fields.{Fields, Descriptor, entries_of, list_address}
use Rattle.hda_registers.specs.Moves.{raised}
use Rattle.hda_registers.specs.declared.shapes.Raise.TheVariants as event
use Rattle.hda_registers.specs.declared.shapes.Shape.{Shape}
use Rattle.hda_registers.proofs.Callers.{some_entries}
use Rattle.world_rings.specs.declared.response.Response.{Response}
use Rattle.world_rings.specs.Entries.{response_bytes, response_place, response_stored}
use Rattle.world_rings.specs.Memory.{IsOutside, stored, PieceStored}
use Rattle.world_rings.proofs.Callers.{stored_outside, piece_is_stored}
use Rattle.stream_format.specs.Layouts.{layout_of}
use Rattle.stream_format.proofs.Callers.{read_back}
use Rattle.world_streams.specs.declared.buffers.Buffer.{Buffer}
use Rattle.world_streams.specs.declared.buffers.ListPlace.{ListPlace}
use Rattle.world_streams.specs.Lists.{is_good, after_byte, next_buffer}
use Rattle.world_streams.specs.Output.{next_of}
use Rattle.world_streams.specs.Streams.{StreamState, is_usable, is_format}
use Rattle.world_streams.specs.Input.{entered_after, marks_after, kept_by_marks, frame_took, byte_place, oldest_byte, without_byte, holds_byte}
use Rattle.world_streams.proofs.Callers.{entered-marks, entered-within, entered-longer}
use Rattle.hda_world.specs.Worlds.{World}
use Rattle.hda_world.specs.Arriving.{arriving}
use Rattle.hda_world.specs.Steps.{discovered}
use Rattle.hda_world.specs.Kept.{Kept, KeptByInput}
use Rattle.hda_world.specs.Streaming.{IsWithinFifo}
use Rattle.hda_world.proofs.Callers.{kept_singly}
use Rattle.period_writer.specs.Rings.{list_bytes}
use Rattle.period_writer.specs.Places.{place_of}
use Rattle.period_writer.specs.Standing.{Ring, IsRing, HasList, bytes_in, size_of, buffer_in, list_place}
use Rattle.period_writer.proofs.Callers.{BlockStays, BlocksStay, some_bytes, some_periods, is_in, list_stays, outside_rirb, places_differ, outside_by, list_differs, next_is, place_next}
use Rattle.laws_recording.specs.Filling.{StandInRing, FillsRingBy, FillsRing, block_in}
use Rattle.laws_recording.proofs.Wholes.{AreDue, arriving_due, entered_whole}

-- ---- the memory, where the ring's blocks stay

stand_stays : (ring : Ring) (old new taken : List ℕ) (number : ℕ) → length ring.periods ≡ ring.geometry.periods
    → ((index : ℕ) → index < ring.geometry.periods → BlockStays old new (slice_index ring.periods index) (bytes_in ring)) → StandInRing ring old taken number → StandInRing ring new taken number
stand_stays ring old new taken number long same stand at below again =
    let is = is_in ring at long in
    ap (slice_index new) is.place ∙ same is.index is.index_within is.offset is.offset_within ∙ ap (slice_index old) (sym is.place) ∙ stand at below again

pub memory_fills : (ring : Ring) (old new : List ℕ) (reset clock base : ℕ) (shape : Shape) (input : Descriptor) (frames : ℕ) (state : StreamState)
    → BlocksStay ring old new → FillsRingBy ring old reset clock base shape input frames state → FillsRingBy ring new reset clock base shape input frames state
memory_fills ring old new reset clock base shape input frames state same fills = record {
  set = fills.set;
  ring_is = subst (IsRing ring) (sym same.size) fills.ring_is;
  clock_is = fills.clock_is;
  position = fills.position;
  beside = fills.beside;
  list_stands = list_stays ring old new same.list fills.list_stands;
  fifo = fills.fifo;
  place = fills.place;
  whole = fills.whole;
  standing = stand_stays ring old new state.entered state.left fills.ring_is.number same.periods fills.standing;
}

-- ---- the stream and the memory, where it stores or takes

module _ (ring : Ring) (memory memory' : List ℕ) (reset clock base : ℕ) (shape : Shape) (input : Descriptor) (frames : ℕ) (state : StreamState) where
  stream_moved : (completion fifo_error ready position : ℕ) (state' : StreamState) → FillsRingBy ring memory reset clock base shape input frames state
      → length memory' ≡ length memory → HasList ring memory' → position ≡ length state'.entered % size_of ring → IsWithinFifo state'.left (length state'.entered) ring.geometry.fifo
      → state'.list ≡ list_place ring state'.left → length state'.entered % block_in ring ≡ 0 → StandInRing ring memory' state'.entered state'.left
      → FillsRingBy ring memory' reset clock base shape (record input { completion = completion; fifo_error = fifo_error; fifo_ready = ready; link_position = position }) frames state'
  stream_moved completion fifo_error ready position state' fills size list at fifo place whole standing = record {
    set = record {
      out = fills.set.out;
      fifo = fills.set.fifo;
      runs = fills.set.runs;
      no_error = fills.set.no_error;
      tag = fills.set.tag;
      length_is = fills.set.length_is;
      last = fills.set.last;
      format_is = fills.set.format_is;
      list_is = fills.set.list_is;
    };
    ring_is = subst (IsRing ring) (sym size) fills.ring_is;
    clock_is = fills.clock_is;
    position = at;
    beside = fills.beside;
    list_stands = list;
    fifo = fifo;
    place = place;
    whole = whole;
    standing = standing;
  }

-- ---- a byte is stored

-- a piece of one byte there is no piece elsewhere
one_only : (at there k : ℕ) → k < 1 → at ≡ there + k → at ≡ there
one_only at there k small same = omega (arith, small, same)

module _ (ring : Ring) (world : World) (fills : FillsRing ring world) where
  abbrev x : ℕ
  x = world.input.left

  abbrev index : ℕ
  index = (x / bytes_in ring) % ring.geometry.periods

  abbrev there : ℕ
  there = place_of (bytes_in ring) ring.periods x

  index_within : index < ring.geometry.periods
  index_within = mod-lt (x / bytes_in ring) (some_periods ring)

  -- the buffer of the next byte
  next : next_of world.memory (list_address world.registers.input) world.input ≡ buffer_in ring index
  next =
      ap (λ base. next_buffer world.memory base world.input.list) fills.set.list_is
      ∙ ap (next_buffer world.memory ring.list) fills.place
      ∙ next_is ring world.memory x fills.list_stands index_within

  good_by : (address bytes size : ℕ) → address % 128 ≡ 0 → 1 ≤ bytes → address + bytes ≤ size → ((address % 128 == 0) && not (bytes == 0) && nat_le (address + bytes) size) ≡ true
  good_by address bytes size aligned some inside = search (rules, aligned, some, inside)

  pub goes_good : is_good world.memory (next_of world.memory (list_address world.registers.input) world.input) ≡ true
  goes_good =
      ap (is_good world.memory) next
      ∙ good_by (buffer_in ring index).address (bytes_in ring) (length world.memory) (fills.ring_is.aligned index index_within) (some_bytes ring) (fills.ring_is.inside index index_within)

  -- it goes to the place of its position
  place_by : byte_place world.memory (list_address world.registers.input) world.input ≡ there
  place_by =
      let split = div-add-mod' x (bytes_in ring) in
      let rest : x % bytes_in ring ≡ x - bytes_in ring * (x / bytes_in ring) = omega (arith, split) in
      ap (λ (buffer : Buffer). buffer.address + world.input.list.fetched) next
      ∙ ap (λ (place : ListPlace). (buffer_in ring index).address + place.fetched) fills.place
      ∙ ap (λ n. slice_index ring.periods index + n) rest
      ∙ ap (λ n. slice_index ring.periods ((x / bytes_in ring) % n) + (x - bytes_in ring * (x / bytes_in ring))) (sym fills.ring_is.number)

  abbrev piece : List ℕ
  piece = oldest_byte world.input ∷ []

  abbrev new : List ℕ
  new = stored world.memory there piece

  fits : there + length piece ≤ length world.memory
  fits =
      let is = is_in ring x fills.ring_is.number in
      let place = is.place in
      let small = is.offset_within in
      let inside = fills.ring_is.inside is.index is.index_within in
      omega (arith, place, small, inside)

  piece_stored : PieceStored there piece world.memory new
  piece_stored = piece_is_stored there piece world.memory fits

  list_same : BlockStays world.memory new ring.list (list_bytes ring.geometry.periods)
  list_same here within = piece_stored.outside (ring.list + here) (outside_by there 1 (ring.list + here) (λ k small same.
      list_differs ring (length world.memory) fills.ring_is here x within (one_only (ring.list + here) there k small same)))

  stands_more : StandInRing ring new world.input.entered (x + 1)
  stands_more at below again = by (order at x (omega (arith, below))) where
    order : (a n : ℕ) → a ≤ n → (a < n) ⊎ (a ≡ n)
    order a n le = search (rules, le)

    by : (at < x) ⊎ (at ≡ x) → slice_index new (place_of (bytes_in ring) ring.periods at) ≡ slice_index world.input.entered at
    by (inl before) =
        piece_stored.outside (place_of (bytes_in ring) ring.periods at) (outside_by there 1 (place_of (bytes_in ring) ring.periods at) (λ k small same.
        places_differ ring (length world.memory) fills.ring_is at x before (omega (arith, again)) (one_only (place_of (bytes_in ring) ring.periods at) there k small same)))
        ∙ fills.standing at before (omega (arith, again))
    by (inr same) =
        let none : there + 0 ≡ there = omega arith in
        ap (λ n. slice_index new (place_of (bytes_in ring) ring.periods n)) same
        ∙ ap (slice_index new) (sym none)
        ∙ piece_stored.inside 0 (lit< tt)
        ∙ ap (slice_index world.input.entered) (sym same)

  list_on : after_byte world.registers.input.last_index (next_of world.memory (list_address world.registers.input) world.input) world.input.list ≡ list_place ring (x + 1)
  list_on =
      ap (λ last. after_byte last (next_of world.memory (list_address world.registers.input) world.input) world.input.list) fills.set.last
      ∙ ap (λ (buffer : Buffer). after_byte (ring.geometry.periods - 1) buffer world.input.list) next
      ∙ ap (after_byte (ring.geometry.periods - 1) (buffer_in ring index)) fills.place
      ∙ place_next ring x (some_periods ring) (some_bytes ring)

  pub byte_fills : holds_byte world.input ≡ true → (completion ready : ℕ)
      → FillsRingBy ring (stored world.memory (byte_place world.memory (list_address world.registers.input) world.input) (oldest_byte world.input ∷ []))
      world.registers.global.controller_reset world.registers.global.wall_clock world.registers.global.rirb_base world.registers.shape
      (record world.registers.input { completion = completion; fifo_ready = ready }) world.frames
      (without_byte world.memory (list_address world.registers.input) world.registers.input.last_index world.input)
  byte_fills some completion ready =
      let held = ltb-true world.input.left (length world.input.entered) some in
      let ahead = fills.fifo.ahead in
      subst (λ (place : ℕ). FillsRingBy ring (stored world.memory place (oldest_byte world.input ∷ [])) world.registers.global.controller_reset world.registers.global.wall_clock world.registers.global.rirb_base world.registers.shape
      (record world.registers.input { completion = completion; fifo_ready = ready }) world.frames (without_byte world.memory (list_address world.registers.input) world.registers.input.last_index world.input)) (sym place_by)
      (stream_moved ring world.memory new world.registers.global.controller_reset world.registers.global.wall_clock world.registers.global.rirb_base world.registers.shape world.registers.input world.frames world.input
      completion world.registers.input.fifo_error ready world.registers.input.link_position
      (without_byte world.memory (list_address world.registers.input) world.registers.input.last_index world.input)
      fills piece_stored.size (list_stays ring world.memory new list_same fills.list_stands) fills.position
      (record { behind = omega (arith, held); ahead = omega (arith, ahead) }) list_on fills.whole stands_more)

  -- ---- the stream is never broken

  sized : (last some : ℕ) → 2 ≤ some → last ≡ some - 1 → (last == 0) ≡ false
  sized last some many is = search (rules, many, is)

  long : (bytes number : ℕ) → 1 ≤ bytes → 1 ≤ number → (bytes * number == 0) ≡ false
  long bytes zero some many = absurd (omega (arith, many))
  long bytes (suc number) some many = let wide : bytes * (number + 1) ≡ bytes * number + bytes = omega arith in search (rules, some, wide)

  pub can_be_used : is_usable world.registers.input ≡ true
  can_be_used =
      let format : is_format (layout_of world.registers.input.format) ≡ true = ap (λ word. is_format (layout_of word)) fills.set.format_is ∙ ap is_format (read_back ring.geometry.format) in
      let length_some : (world.registers.input.buffer_length == 0) ≡ false = ap (λ n. n == 0) fills.set.length_is ∙ long (bytes_in ring) ring.geometry.periods (some_bytes ring) (some_periods ring) in
      let last_some = sized world.registers.input.last_index ring.geometry.periods ring.geometry.some_periods fills.set.last in
      rw (format, length_some, last_some) refl

-- ---- blocks come

module _ (ring : Ring) (memory : List ℕ) (reset clock base : ℕ) (shape : Shape) (input : Descriptor) (frames : ℕ) (state : StreamState) where
  stand_longer : (fifo : ℕ) (blocks : List (List ℕ)) → state.left ≤ length state.entered → StandInRing ring memory state.entered state.left
      → StandInRing ring memory (entered_after fifo state.left state.entered blocks) state.left
  stand_longer fifo blocks behind stand at below again =
      let kept = kept_by_marks (marks_after fifo state.left state.entered blocks) blocks in
      let front : slice_index (entered_after fifo state.left state.entered blocks) at ≡ slice_index state.entered at =
      ap (λ (all : List ℕ). slice_index all at) (entered-marks fifo state.left state.entered blocks) ∙ get_or_append_left state.entered (kept_by_marks (marks_after fifo state.left state.entered blocks) blocks) 0 at (omega (arith, behind, below)) in
      stand at below again ∙ sym front

  took_fills : (fifo : ℕ) (blocks : List (List ℕ)) → fifo ≡ ring.geometry.fifo → AreDue ring.geometry.format blocks → FillsRingBy ring memory reset clock base shape input frames state
      → FillsRingBy ring memory reset clock base shape (frame_took fifo blocks (record { descriptor = input; state = state })).descriptor frames (frame_took fifo blocks (record { descriptor = input; state = state })).state
  took_fills fifo [] is due fills =
      stream_moved ring memory memory reset clock base shape input frames state input.completion input.fifo_error input.fifo_ready input.link_position (record state { frame = state.frame + 1 }) fills refl fills.list_stands
      fills.position fills.fifo fills.place fills.whole fills.standing
  took_fills fifo (block ∷ blocks) is due fills =
      let entered = entered_after fifo state.left state.entered (block ∷ blocks) in
      let behind = fills.fifo.behind in
      let longer = entered-longer fifo state.left state.entered (block ∷ blocks) in
      let ahead : length state.entered ≤ state.left + fifo = (let ahead = fills.fifo.ahead in omega (arith, ahead, is)) in
      let within = entered-within fifo state.left state.entered (block ∷ blocks) ahead in
      stream_moved ring memory memory reset clock base shape input frames state input.completion _ _ (length (entered_after fifo state.left state.entered (block ∷ blocks)) % input.buffer_length)
      (record state { frame = state.frame + 1; entered = entered_after fifo state.left state.entered (block ∷ blocks) }) fills refl fills.list_stands
      (ap (λ (n : ℕ). length (entered_after fifo state.left state.entered (block ∷ blocks)) % n) fills.set.length_is)
      (record { behind = omega (arith, behind, longer); ahead = omega (arith, within, is) }) fills.place
      (entered_whole ring.geometry.format fifo state.left state.entered (block ∷ blocks) due fills.whole)
      (stand_longer fifo (block ∷ blocks) fills.fifo.behind fills.standing)

-- ---- every move

module _ (ring : Ring) where
  -- responses are written outside the ring's blocks
  blocks_apart : (world : World) (response : Response) → FillsRing ring world → BlocksStay ring world.memory (response_stored world.registers world.memory response)
  blocks_apart world response fills =
      let base = world.registers.global.rirb_base in
      let place = response_place world.registers in
      let stays = stored_outside (128 * base + 8 * place) (response_bytes response) world.memory in
      let long : length (response_bytes response) ≡ 8 = refl in
      let within : place < entries_of world.registers.shape.rirb = mod-lt _ (some_entries world.registers.shape.rirb) in
      let outside = λ (at : ℕ) (apart : IsOutside (128 * base + 8 * place) 8 at). stays.1 at (subst (λ (n : ℕ). IsOutside (128 * base + 8 * place) n at) (sym long) apart) in
      record {
        size = stays.0;
        list = λ here small. outside (ring.list + here) (outside_rirb base place ring.list _ here world.registers.shape within fills.beside.list small);
        periods = λ index below here small. outside _ (outside_rirb base place (slice_index ring.periods index) _ here world.registers.shape within (fills.beside.periods index below) small);
      }

  responded_fills : (world : World) (response : Response) → FillsRing ring world
      → FillsRingBy ring (response_stored world.registers world.memory response) world.registers.global.controller_reset world.registers.global.wall_clock world.registers.global.rirb_base
      world.registers.shape world.registers.input world.frames world.input
  responded_fills world response fills =
      memory_fills ring world.memory (response_stored world.registers world.memory response) world.registers.global.controller_reset world.registers.global.wall_clock world.registers.global.rirb_base
      world.registers.shape world.registers.input world.frames world.input (blocks_apart world response fills) fills

  -- the codecs' bits of the state change status are none of what it looks at
  announced_fills : (memory : List ℕ) (input : Descriptor) (shape : Shape) (frames : ℕ) (state : StreamState) (codecs : List CodecState) (fields : Fields)
      → FillsRingBy ring memory fields.global.controller_reset fields.global.wall_clock fields.global.rirb_base shape input frames state
      → FillsRingBy ring memory (discovered codecs fields).global.controller_reset (discovered codecs fields).global.wall_clock (discovered codecs fields).global.rirb_base shape input frames state
  announced_fills memory input shape frames state [] fields fills = fills
  announced_fills memory input shape frames state (codec ∷ codecs) fields fills =
      announced_fills memory input shape frames state codecs (raised fields (event.Codec codec.graph.address)) fills

  -- a tick more
  tick_is : (clock frames : ℕ) → clock ≡ (500 * frames) % 2 ^ 32 → (clock + 500) % 2 ^ 32 ≡ (500 * (frames + 1)) % 2 ^ 32
  tick_is clock frames is = omega (arith, is)

  ticked_fills : (world : World) → FillsRing ring world → (test : Bool) → test ≡ true
      → FillsRingBy ring world.memory world.registers.global.controller_reset (if test then (world.registers.global.wall_clock + 500) % 2 ^ 32 else world.registers.global.wall_clock)
      world.registers.global.rirb_base world.registers.shape world.registers.input (world.frames + 1) world.input
  ticked_fills world fills true is = record {
    set = fills.set;
    ring_is = fills.ring_is;
    clock_is = tick_is world.registers.global.wall_clock world.frames fills.clock_is;
    position = fills.position;
    beside = fills.beside;
    list_stands = fills.list_stands;
    fifo = fills.fifo;
    place = fills.place;
    whole = fills.whole;
    standing = fills.standing;
  }
  ticked_fills world fills false is = absurd (false≢true is)

  not_so : {A : Type 0} (test : Bool) → test ≡ true → test ≡ false → A
  not_so test on off = absurd (true≢false (sym on ∙ off))

  input_fills : KeptByInput (FillsRing ring)
  input_fills = record {
    stores = λ world fills can some good. byte_fills ring world fills some _ _;
    jams = λ world fills can some bad. not_so _ (goes_good ring world fills) bad;
    takes = λ world fills can.
        took_fills ring world.memory world.registers.global.controller_reset world.registers.global.wall_clock world.registers.global.rirb_base world.registers.shape world.registers.input world.frames world.input
        world.registers.shape.fifo (arriving world) fills.set.fifo (arriving_due ring.geometry.format world fills.set.format_is) fills;
    refuses = λ world fills must. not_so _ (can_be_used ring world fills) must.unusable;
  }

  pub fills_kept : Kept (FillsRing ring)
  fills_kept = kept_singly (FillsRing ring) (record {
    codecs = record {
      hands = λ world fills can free. fills;
      sends = λ world address item rest fills out room are. fills;
      loses = λ world address fills out. fills;
      plugs = λ world address nid present fills. fills;
    };
    writes = λ world response rest fills can are. responded_fills world response fills;
    flags = λ world fills can. fills;
    bytes = record {
      comes = λ world fills can room good is. fills;
      ends = λ world fills can room good is. fills;
      breaks = λ world fills can room bad. fills;
      refuses = λ world fills must. fills;
    };
    input = input_fills;
    ticks = λ world fills out. ticked_fills world fills _ out;
    announces = λ world fills out now. announced_fills world.memory world.registers.input world.registers.shape world.frames world.input world.codecs world.registers fills;
    frames = record {
      gaps = λ world fills can none. fills;
      sends = λ world fills can some enough. fills;
      misses = λ world fills can short. fills;
      stops = λ world fills must. fills;
    };
  })
