-- The list of buffers of an input stream, and what it stores.
use Rattle.std.proofs.Common.{◌≡◌, ◌≤◌, ◌<◌, ◌+◌, ◌*◌, ℕ, suc, Bool, true, false, List, [], ◌∷◌, slice_index, Option, Some, None, unwrap_or, if◌then◌else◌, refl, sym, ap, subst, ◌∙◌, inl, inr, arith, lit<}
use Rattle.hda_registers.specs.Fields.{Descriptor, list_address}
use Rattle.world_rings.specs.Memory.{word_at, IsOutside}
use Rattle.world_rings.proofs.Callers.{stored_outside}
use Rattle.world_streams.specs.declared.buffers.Buffer.{Buffer}
use Rattle.world_streams.specs.declared.buffers.ListPlace.{ListPlace}
use Rattle.world_streams.specs.Lists.{buffer_of, is_good, is_last_byte, next_index, IsInUse}
use Rattle.world_streams.specs.Streams.{Stream}
use Rattle.world_streams.specs.Output.{next_of}
use Rattle.world_streams.specs.Input.{byte_place, oldest_byte, memory_with, byte_stored, frame_took}
use Rattle.world_streams.proofs.Callers.{byte-in-buffer, place-in-use, place-listed}
use Rattle.hda_world.specs.Buffers.{list_size, NamesBuffer, IsOutsideBuffers, HasListApart}

-- ---- entries that stay

-- a word is the same where its four bytes are
pub same_word : (old new : List ℕ) (at : ℕ) → ((byte : ℕ) → byte < 4 → slice_index new (at + byte) ≡ slice_index old (at + byte)) → word_at new at ≡ word_at old at
same_word old new at same =
    let e0 : slice_index new at ≡ slice_index old at = subst (λ (n : ℕ). slice_index new n ≡ slice_index old n) (omega arith) (same 0 (lit< tt)) in
    let e1 : slice_index new (suc at) ≡ slice_index old (suc at) = subst (λ (n : ℕ). slice_index new n ≡ slice_index old n) (omega arith) (same 1 (lit< tt)) in
    let e2 : slice_index new (suc (suc at)) ≡ slice_index old (suc (suc at)) = subst (λ (n : ℕ). slice_index new n ≡ slice_index old n) (omega arith) (same 2 (lit< tt)) in
    let e3 : slice_index new (suc (suc (suc at))) ≡ slice_index old (suc (suc (suc at))) = subst (λ (n : ℕ). slice_index new n ≡ slice_index old n) (omega arith) (same 3 (lit< tt)) in
    cc

-- the list's bytes are the same
abbrev pub ListStays : (old new : List ℕ) → Descriptor → Type 0
ListStays old new descriptor = (offset : ℕ) → offset < list_size descriptor
    → slice_index new (list_address descriptor + offset) ≡ slice_index old (list_address descriptor + offset)

word_in : (old new : List ℕ) (descriptor : Descriptor) (offset : ℕ) → ListStays old new descriptor → offset + 4 ≤ list_size descriptor
    → word_at new (list_address descriptor + offset) ≡ word_at old (list_address descriptor + offset)
word_in old new descriptor offset same within =
    same_word old new (list_address descriptor + offset)
    (λ byte small. subst (λ (n : ℕ). slice_index new n ≡ slice_index old n) (omega arith) (same (offset + byte) (omega (arith, within, small))))

entry_same : (old new : List ℕ) (descriptor : Descriptor) (index : ℕ) → ListStays old new descriptor → index ≤ descriptor.last_index
    → buffer_of new (list_address descriptor) index ≡ buffer_of old (list_address descriptor) index
entry_same old new descriptor index same listed =
    let base = list_address descriptor in
    let first : word_at new (base + 16 * index) ≡ word_at old (base + 16 * index) = word_in old new descriptor (16 * index) same (omega (arith, listed)) in
    let second : word_at new (base + 16 * index + 4) ≡ word_at old (base + 16 * index + 4) =
    subst (λ (n : ℕ). word_at new n ≡ word_at old n) (omega arith) (word_in old new descriptor (16 * index + 4) same (omega (arith, listed))) in
    let third : word_at new (base + 16 * index + 8) ≡ word_at old (base + 16 * index + 8) =
    subst (λ (n : ℕ). word_at new n ≡ word_at old n) (omega arith) (word_in old new descriptor (16 * index + 8) same (omega (arith, listed))) in
    let last : word_at new (base + 16 * index + 12) ≡ word_at old (base + 16 * index + 12) =
    subst (λ (n : ℕ). word_at new n ≡ word_at old n) (omega arith) (word_in old new descriptor (16 * index + 12) same (omega (arith, listed))) in
    rw (first, second, third, last) refl

-- ---- a change of memory and of the stream after which no buffer is named that was not named before

pub record NamesNoMore (old new : List ℕ) (before after : Stream) : Type 0 where
  pub address : after.descriptor.list_base ≡ before.descriptor.list_base
  pub last : after.descriptor.last_index ≡ before.descriptor.last_index
  pub named : (buffer : Buffer) → NamesBuffer new after buffer → NamesBuffer old before buffer

-- the list stays in memory, and the stream too
pub names_stay : (old new : List ℕ) (stream : Stream) → ListStays old new stream.descriptor → NamesNoMore old new stream stream
names_stay old new stream same = record { address = refl; last = refl; named = named }
  where
    named : (buffer : Buffer) → NamesBuffer new stream buffer → NamesBuffer old stream buffer
    named buffer (inl entry) = inl (entry.0, entry.1, entry.2 ∙ entry_same old new stream.descriptor entry.0 same entry.1)
    named buffer (inr used) = inr used

-- a link frame names none
pub names_took : (memory : List ℕ) (fifo : ℕ) (blocks : List (List ℕ)) (stream : Stream) → NamesNoMore memory memory stream (frame_took fifo blocks stream)
names_took memory fifo [] stream = record { address = refl; last = refl; named = λ buffer names. names }
names_took memory fifo (block ∷ blocks) stream = record { address = refl; last = refl; named = λ buffer names. names }

-- and leaves the place in the list
pub place_took : (fifo : ℕ) (blocks : List (List ℕ)) (stream : Stream) → (frame_took fifo blocks stream).state.list ≡ stream.state.list
place_took fifo [] stream = refl
place_took fifo (block ∷ blocks) stream = refl

-- what lay outside all buffers still does
pub outside_still : (old new : List ℕ) (before after : Stream) → NamesNoMore old new before after → (at : ℕ) → IsOutsideBuffers old before at → IsOutsideBuffers new after at
outside_still old new before after no_more at outside = λ buffer names. outside buffer (no_more.named buffer names)

-- a place of the list was one
pub place_before : (old new : List ℕ) (before after : Stream) → NamesNoMore old new before after → (P : ℕ → Type 0)
    → ((offset : ℕ) → offset < list_size before.descriptor → P (list_address before.descriptor + offset))
    → (offset : ℕ) → offset < list_size after.descriptor → P (list_address after.descriptor + offset)
place_before old new before after no_more P holds offset small =
    let at : list_address before.descriptor + offset ≡ list_address after.descriptor + offset = ap (λ (base : ℕ). 128 * base + offset) (sym no_more.address) in
    subst P at (holds offset (subst (λ (last : ℕ). offset < 16 * (last + 1)) no_more.last small))

-- so the list still lies apart, where the place in it is one
pub apart_still : (old new : List ℕ) (before after : Stream) → NamesNoMore old new before after → IsInUse after.state.list → after.state.list.index ≤ after.descriptor.last_index
    → HasListApart old before → HasListApart new after
apart_still old new before after no_more in_use listed has = record {
  in_use = in_use;
  listed = listed;
  apart = place_before old new before after no_more (IsOutsideBuffers new after) (λ offset small. outside_still old new before after no_more _ (has.apart offset small));
}

-- ---- a byte is stored

-- the buffer of the next byte is named
pub next_named : (memory : List ℕ) (stream : Stream) → stream.state.list.index ≤ stream.descriptor.last_index
    → NamesBuffer memory stream (next_of memory (list_address stream.descriptor) stream.state)
next_named memory stream listed = by stream.state.list.buffer refl
  where
    by : (buffer : Option Buffer) → stream.state.list.buffer ≡ buffer → NamesBuffer memory stream (unwrap_or buffer (buffer_of memory (list_address stream.descriptor) stream.state.list.index))
    by None is = inl (stream.state.list.index, listed, refl)
    by (Some buffer) is = inr is

-- an address outside a buffer is none of its bytes
other_place : (address bytes fetched at : ℕ) → fetched < bytes → IsOutside address bytes at → IsOutside (address + fetched) 1 at
other_place address bytes fetched at inside (inl below) = inl (omega (arith, below))
other_place address bytes fetched at inside (inr above) = inr (omega (arith, above, inside))

-- what lies outside all buffers that are named stays
pub byte_outside : (memory : List ℕ) (stream : Stream) → HasListApart memory stream → is_good memory (next_of memory (list_address stream.descriptor) stream.state) ≡ true
    → (at : ℕ) → IsOutsideBuffers memory stream at → IsOutside (byte_place memory (list_address stream.descriptor) stream.state) 1 at
byte_outside memory stream has good at outside =
    let next = next_of memory (list_address stream.descriptor) stream.state in
    other_place next.address next.bytes stream.state.list.fetched at (byte-in-buffer memory (list_address stream.descriptor) stream.state has.in_use good)
    (outside next (next_named memory stream has.listed))

pub byte_leaves : (memory : List ℕ) (stream : Stream) → HasListApart memory stream → is_good memory (next_of memory (list_address stream.descriptor) stream.state) ≡ true
    → (at : ℕ) → IsOutsideBuffers memory stream at → slice_index (memory_with memory (list_address stream.descriptor) stream.state) at ≡ slice_index memory at
byte_leaves memory stream has good at outside =
    (stored_outside (byte_place memory (list_address stream.descriptor) stream.state) (oldest_byte stream.state ∷ []) memory).1 at (byte_outside memory stream has good at outside)

-- so the list stays, and no more buffers are named
pub names_stored : (memory : List ℕ) (stream : Stream) → HasListApart memory stream → is_good memory (next_of memory (list_address stream.descriptor) stream.state) ≡ true
    → NamesNoMore memory (memory_with memory (list_address stream.descriptor) stream.state) stream (byte_stored memory stream)
names_stored memory stream has good = record { address = refl; last = refl; named = named }
  where
    base : ℕ
    base = list_address stream.descriptor

    next : Buffer
    next = next_of memory base stream.state

    stays : ListStays memory (memory_with memory (list_address stream.descriptor) stream.state) stream.descriptor
    stays offset small = byte_leaves memory stream has good (list_address stream.descriptor + offset) (has.apart offset small)

    used_before : (ends : Bool) (buffer : Buffer)
        → (let place : ListPlace = if ends then record { index = next_index stream.descriptor.last_index stream.state.list.index; buffer = None; fetched = 0 } else record { index = stream.state.list.index; buffer = Some (next_of memory (list_address stream.descriptor) stream.state); fetched = stream.state.list.fetched + 1 } in
        place.buffer ≡ Some buffer)
        → NamesBuffer memory stream buffer
    used_before true buffer used = cc
    used_before false buffer used =
        let same : next_of memory (list_address stream.descriptor) stream.state ≡ buffer = cc in
        subst (NamesBuffer memory stream) same (next_named memory stream has.listed)

    named : (buffer : Buffer) → NamesBuffer (memory_with memory (list_address stream.descriptor) stream.state) (byte_stored memory stream) buffer → NamesBuffer memory stream buffer
    named buffer (inl entry) = inl (entry.0, entry.1, entry.2 ∙ entry_same memory (memory_with memory (list_address stream.descriptor) stream.state) stream.descriptor entry.0 stays entry.1)
    named buffer (inr used) = used_before (is_last_byte (next_of memory (list_address stream.descriptor) stream.state) stream.state.list) buffer used

-- and the list still lies apart
pub apart_stored : (memory : List ℕ) (stream : Stream) → HasListApart memory stream → is_good memory (next_of memory (list_address stream.descriptor) stream.state) ≡ true
    → HasListApart (memory_with memory (list_address stream.descriptor) stream.state) (byte_stored memory stream)
apart_stored memory stream has good =
    apart_still memory _ stream (byte_stored memory stream) (names_stored memory stream has good)
    (place-in-use memory (list_address stream.descriptor) stream.descriptor.last_index stream.state has.in_use good)
    (place-listed memory (list_address stream.descriptor) stream.descriptor.last_index stream.state has.listed) has

-- a link frame leaves it apart too
pub apart_took : (memory : List ℕ) (fifo : ℕ) (blocks : List (List ℕ)) (stream : Stream) → HasListApart memory stream → HasListApart memory (frame_took fifo blocks stream)
apart_took memory fifo blocks stream has =
    let same = place_took fifo blocks stream in
    let no_more = names_took memory fifo blocks stream in
    apart_still memory memory stream (frame_took fifo blocks stream) no_more (subst IsInUse (sym same) has.in_use)
    (subst (λ (last : ℕ). (frame_took fifo blocks stream).state.list.index ≤ last) (sym no_more.last) (subst (λ (place : ListPlace). place.index ≤ stream.descriptor.last_index) (sym same) has.listed)) has
