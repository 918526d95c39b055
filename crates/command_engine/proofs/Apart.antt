-- That the input stream lies apart from the rings' blocks is kept.
use Rattle.std.proofs.Common.{◌≡◌, ◌≢◌, ◌≤◌, ◌<◌, ◌⊎◌, ◌+◌, ◌-◌, ◌/◌, ℕ, true, false, List, slice_index, refl, sym, ap, subst, ◌∙◌, inl, inr, arith}
use Rattle.std.proofs.lemmas.Bool.{false≢true, cases_lt}
use Rattle.codec_graph.specs.CodecStates.{CodecState}
use Rattle.hda_registers.specs.declared.shapes.Width.{Width}
use Rattle.hda_registers.specs.declared.shapes.Width.TheVariants.{One}
use Rattle.hda_registers.specs.Fields.{Fields, is_running, list_address}
use Rattle.hda_registers.specs.Access.{written}
use Rattle.world_rings.specs.declared.response.Response.{Response}
use Rattle.world_rings.specs.Memory.{IsOutside}
use Rattle.world_streams.specs.Lists.{is_good}
use Rattle.world_streams.specs.Streams.{Stream, broke}
use Rattle.world_streams.specs.Output.{next_of}
use Rattle.world_streams.specs.Input.{byte_place, memory_with, byte_stored, frame_took}
use Rattle.hda_world.specs.Worlds.{World, TakenCommand, input_of}
use Rattle.hda_world.specs.Arriving.{arriving}
use Rattle.hda_world.specs.Buffers.{HasListApart}
use Rattle.hda_world.specs.Kept.{KeptByInput}
use Rattle.hda_world.specs.Events.{after_write}
use Rattle.hda_world.proofs.Callers.{ListStays, NamesNoMore, names_stay, names_took, names_stored, outside_still, place_before, apart_still, apart_stored, apart_took, byte_outside, input_stays, input_status, write_memory, write_registers}
use Rattle.command_engine.specs.declared.ring_places.RingPlaces.{RingPlaces}
use Rattle.command_engine.specs.Blocks.{corb_bytes, rirb_bytes}
use Rattle.command_engine.specs.Apart.{LiesBeside, IsInputApart, IsApartBy, InputIsApart}
use Rattle.command_engine.specs.Fetchings.{RingPart, IsBesideBlock, StandsBy}

-- ---- changes after which no buffer is named that was not named before

lies_still : (block size : ℕ) (old new : List ℕ) (before after : Stream) → NamesNoMore old new before after → LiesBeside block size old before → LiesBeside block size new after
lies_still block size old new before after no_more lies = record {
  list = place_before old new before after no_more (IsOutside block size) lies.list;
  buffers = λ place small. outside_still old new before after no_more (block + place) (lies.buffers place small);
}

apart_on : (corb rirb : ℕ) (old new : List ℕ) (before after : Stream) → NamesNoMore old new before after → HasListApart new after → IsInputApart corb rirb old before → IsInputApart corb rirb new after
apart_on corb rirb old new before after no_more has is = record {
  list = has;
  beside_corb = lies_still corb corb_bytes old new before after no_more is.beside_corb;
  beside_rirb = lies_still rirb rirb_bytes old new before after no_more is.beside_rirb;
}

-- ---- what others write to memory

memory_on : (corb rirb : ℕ) (old new : List ℕ) (stream : Stream) → ListStays old new stream.descriptor → IsInputApart corb rirb old stream → IsInputApart corb rirb new stream
memory_on corb rirb old new stream same is =
    let no_more = names_stay old new stream same in
    apart_on corb rirb old new stream stream no_more (apart_still old new stream stream no_more is.list.in_use is.list.listed is.list) is

-- into CORB's block
pub corb_written : (corb rirb : ℕ) (old new : List ℕ) (stream : Stream) → ((at : ℕ) → IsOutside corb corb_bytes at → slice_index new at ≡ slice_index old at)
    → IsApartBy corb rirb old stream → IsApartBy corb rirb new stream
corb_written corb rirb old new stream same apart runs =
    let is = apart runs in
    memory_on corb rirb old new stream (λ offset small. same (list_address stream.descriptor + offset) (is.beside_corb.list offset small)) is

-- into RIRB's block
pub rirb_written : (corb rirb : ℕ) (old new : List ℕ) (stream : Stream) → ((at : ℕ) → IsOutside rirb rirb_bytes at → slice_index new at ≡ slice_index old at)
    → IsApartBy corb rirb old stream → IsApartBy corb rirb new stream
rirb_written corb rirb old new stream same apart runs =
    let is = apart runs in
    memory_on corb rirb old new stream (λ offset small. same (list_address stream.descriptor + offset) (is.beside_rirb.list offset small)) is

-- ---- the moves of the input stream

pub stored_apart : (corb rirb : ℕ) (memory : List ℕ) (stream : Stream) → is_good memory (next_of memory (list_address stream.descriptor) stream.state) ≡ true → IsApartBy corb rirb memory stream
    → IsApartBy corb rirb (memory_with memory (list_address stream.descriptor) stream.state) (byte_stored memory stream)
stored_apart corb rirb memory stream good apart runs =
    let is = apart runs in
    apart_on corb rirb memory _ stream (byte_stored memory stream) (names_stored memory stream is.list good) (apart_stored memory stream is.list good) is

pub took_apart : (corb rirb : ℕ) (memory : List ℕ) (fifo : ℕ) (blocks : List (List ℕ)) (stream : Stream) → is_running stream.descriptor ≡ true → IsApartBy corb rirb memory stream
    → IsApartBy corb rirb memory (frame_took fifo blocks stream)
took_apart corb rirb memory fifo blocks stream runs apart now =
    let is = apart runs in
    apart_on corb rirb memory memory stream (frame_took fifo blocks stream) (names_took memory fifo blocks stream) (apart_took memory fifo blocks stream is.list) is

pub stopped_apart : (corb rirb : ℕ) (memory : List ℕ) (stream : Stream) → is_running stream.descriptor ≡ false → IsApartBy corb rirb memory stream
stopped_apart corb rirb memory stream stopped runs = absurd (false≢true (sym stopped ∙ runs))

-- each move keeps it apart
pub apart_moves : (corb rirb : ℕ) → KeptByInput (InputIsApart corb rirb)
apart_moves corb rirb = record {
  stores = λ world apart can some good. stored_apart corb rirb world.memory (input_of world) good apart;
  jams = λ world apart can some bad. stopped_apart corb rirb world.memory (broke (input_of world)) refl;
  takes = λ world apart can. took_apart corb rirb world.memory world.registers.shape.fifo (arriving world) (input_of world) can.runs apart;
  refuses = λ world apart must. stopped_apart corb rirb world.memory (broke (input_of world)) refl;
}

-- a byte that is stored lies beside a block that all buffers lie beside
pub byte_beside : (block size : ℕ) (memory : List ℕ) (stream : Stream) → HasListApart memory stream → is_good memory (next_of memory (list_address stream.descriptor) stream.state) ≡ true → LiesBeside block size memory stream
    → IsBesideBlock block size (byte_place memory (list_address stream.descriptor) stream.state) 1
byte_beside block size memory stream has good lies =
    by (byte_place memory (list_address stream.descriptor) stream.state) (λ place small. byte_outside memory stream has good (block + place) (lies.buffers place small))
  where
    by : (at : ℕ) → ((place : ℕ) → place < size → IsOutside at 1 (block + place)) → IsBesideBlock block size at 1
    by at outside = by_low (cases_lt at block)
      where
        none : block ≤ at → at < block + size → ⊥
        none from to =
            let there : block + (at - block) ≡ at = omega (arith, from) in
            let is : IsOutside at 1 at = subst (IsOutside at 1) there (outside (at - block) (omega (arith, from, to))) in
            elim is [ inl below ↦ absurd (omega (arith, below)) | inr above ↦ absurd (omega (arith, above)) ]

        by_high : block ≤ at → (at < block + size) ⊎ (block + size ≤ at) → IsBesideBlock block size at 1
        by_high from (inl within) = absurd (none from within)
        by_high from (inr over) = inr over

        by_low : (at < block) ⊎ (block ≤ at) → IsBesideBlock block size at 1
        by_low (inl below) = inl (omega (arith, below))
        by_low (inr from) = by_high from (cases_lt at (block + size))

-- ---- writes of registers

-- where the input stream and memory are the same
pub same_apart : (corb rirb : ℕ) (old new : World) → new.memory ≡ old.memory → input_of new ≡ input_of old → InputIsApart corb rirb old → InputIsApart corb rirb new
same_apart corb rirb old new memory input apart =
    subst (λ (memory : List ℕ). IsApartBy corb rirb memory (input_of new)) (sym memory) (subst (IsApartBy corb rirb old.memory) (sym input) apart)

pub write_apart : (corb rirb : ℕ) (world : World) (at value : ℕ) (width : Width) → at / 4 ≢ 2 → (at < 0x80) ⊎ (0xA0 ≤ at) → InputIsApart corb rirb world → InputIsApart corb rirb (after_write at width value world)
write_apart corb rirb world at value width control beside apart =
    same_apart corb rirb world (after_write at width value world) (write_memory world at value width) (input_stays world at value width control beside) apart

-- the input's status bits are none of what it looks at
cleared_apart : (corb rirb : ℕ) (memory : List ℕ) (stream : Stream) (completion fifo_error descriptor_error : ℕ) → IsApartBy corb rirb memory stream
    → IsApartBy corb rirb memory (record { descriptor = record stream.descriptor { completion = completion; fifo_error = fifo_error; descriptor_error = descriptor_error }; state = stream.state })
cleared_apart corb rirb memory stream completion fifo_error descriptor_error apart runs =
    let is = apart runs in
    let now : Stream = record { descriptor = record stream.descriptor { completion = completion; fifo_error = fifo_error; descriptor_error = descriptor_error }; state = stream.state } in
    let no_more : NamesNoMore memory memory stream now = record { address = refl; last = refl; named = λ buffer names. names } in
    apart_on corb rirb memory memory stream now no_more (apart_still memory memory stream now no_more is.list.in_use is.list.listed is.list) is

pub status_apart : (corb rirb value : ℕ) (world : World) → InputIsApart corb rirb world → InputIsApart corb rirb (after_write 0x83 One value world)
status_apart corb rirb value world apart =
    let new = (written world.registers 0x83 One value).input in
    subst (λ (memory : List ℕ). IsApartBy corb rirb memory (input_of (after_write 0x83 One value world))) (sym (write_memory world 0x83 value One))
    (subst (IsApartBy corb rirb world.memory) (sym (input_status world value)) (cleared_apart corb rirb world.memory (input_of world) new.completion new.fifo_error new.descriptor_error apart))

-- a write after which RUN is 0
pub stopped_write : (corb rirb : ℕ) (world : World) (at value : ℕ) (width : Width) → is_running (written world.registers at width value).input ≡ false → InputIsApart corb rirb (after_write at width value world)
stopped_write corb rirb world at value width stopped =
    stopped_apart corb rirb (after_write at width value world).memory (input_of (after_write at width value world)) (ap (λ (f : Fields). is_running f.input) (write_registers world at value width) ∙ stopped)

-- ---- how the engine stands, with another input stream that lies apart

module _ (from read corb rirb : ℕ) (rings : RingPlaces) (part : RingPart) (memory : List ℕ) (codecs : List CodecState) (waiting : List Response) (commands : List TakenCommand) (written : List Response) where
  pub with_apart : (old new : Stream) → IsApartBy corb rirb memory new → StandsBy from read corb rirb rings part memory codecs waiting commands written old
      → StandsBy from read corb rirb rings part memory codecs waiting commands written new
  with_apart old new apart holds = record {
    has_rings = holds.has_rings;
    blocks = holds.blocks;
    ascend = holds.ascend;
    reading = holds.reading;
    flag = holds.flag;
    few = holds.few;
    pointer = holds.pointer;
    standing = holds.standing;
    from_within = holds.from_within;
    fetching = holds.fetching;
    taken_by = holds.taken_by;
    on_its_way = holds.on_its_way;
    apart = apart;
  }
