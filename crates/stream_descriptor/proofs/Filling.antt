-- What a fetch of a stream that plays leads to.
use Rattle.std.proofs.Common.{◌≡◌, ◌%◌, ◌==◌, ◌&&◌, not, nat_le, ℕ, suc, Bool, true, false, List, [], length, Option, None, Some, if◌then◌else◌, refl, sym, ap, subst, ◌∙◌}
use Rattle.std.proofs.Math.Nat.{zero-mod}
use Rattle.std.proofs.lemmas.Option.{none-some}
use Rattle.hda_registers.specs.Fields.{Descriptor, Fields, is_out_of_reset, is_running, stream_of, list_address}
use Rattle.hda_registers.specs.Status.{worth}
use Rattle.stream_format.specs.declared.format.Format.{Format}
use Rattle.stream_format.specs.Cadence.{most_bytes}
use Rattle.stream_format.specs.Layouts.{Layout, layout_of}
use Rattle.world_streams.specs.Streams.{StreamState, Stream, begun, is_format, is_ready, is_usable, broke}
use Rattle.world_streams.specs.Output.{fetch, bytes_came, some_completes, some_breaks}
use Rattle.world_streams.proofs.Callers.{whole, fetch-whole, fetch-stopped, fetch-unusable, left-came, frame-came, not_ready}
use Rattle.stream_fetch.specs.Fetching.{Fetching}
use Rattle.stream_fetch.specs.Fetching as fetching
use Rattle.stream_descriptor.specs.Running.{Counts, Playing, StandsFor, StandsForBy, LeadsTo, LeadsToBy, CanPlay, sent_bytes, stream_at, with_descriptor, fetched_at, frame_cycle}
use Rattle.stream_descriptor.proofs.Placing.{leads_to, ready_is, held_is, runs_on, of_with, with_with}

module _ (counts : Counts) (playing : Playing) (fields : Fields) (format : Format) (state came : StreamState) (done : Bool)
    (stands : StandsForBy counts playing fields state) (can : CanPlay fields playing.index format)
    (frame : came.frame ≡ state.frame) (counted : counts came ≡ counts state) where
  abbrev old : Descriptor
  old = stream_of fields playing.index

  pub filled : (after : Fetching) (new : Fields) → fetching.StandsFor after came → after.capacity ≡ playing.fetch.capacity
      → new ≡ with_descriptor playing.index (record old { completion = if done then 1 else old.completion; fifo_ready = worth (nat_le (most_bytes format) (length after.bytes)) 0 }) fields
      → LeadsToBy counts (record playing { fetch = after }) fields new (whole done false came (stream_at playing.index fields state))
  filled after new held capacity is =
      let runs = stands.running can.runs in
      let ready : is_ready (stream_at playing.index fields came) ≡ nat_le (most_bytes format) (length after.bytes) =
      ready_is fields playing.index format came can ∙ ap (nat_le (most_bytes format)) (sym (held_is after came held)) in
      leads_to (record playing { fetch = after }) fields new (whole done false came (stream_at playing.index fields state))
      (is ∙ ap (λ (shown : Bool). with_descriptor playing.index (record old { completion = if done then 1 else old.completion; fifo_ready = worth shown 0 }) fields) (sym ready))
      (capacity ∙ stands.capacity) (λ off. runs_on _ can.runs off)
      (λ on. record {
        fetch = held;
        frame = runs.frame ∙ ap (λ (n : ℕ). n % frame_cycle) (sym frame);
        position = runs.position ∙ ap (λ (n : ℕ). n % old.buffer_length) (sym counted);
        ready = refl;
      })

  pub broken : (after : Playing) (new : Fields) → after.index ≡ playing.index → after.fetch.capacity ≡ playing.fetch.capacity → after.fetch.bytes ≡ []
      → new ≡ with_descriptor playing.index (record old { completion = if done then 1 else old.completion; descriptor_error = 1; run = 0; fifo_ready = 0 }) fields
      → LeadsToBy counts after fields new (whole done true came (stream_at playing.index fields state))
  broken after new index capacity empty is =
      leads_to after fields new (whole done true came (stream_at playing.index fields state))
      (is ∙ ap (λ (i : ℕ). with_descriptor i (record old { completion = if done then 1 else old.completion; descriptor_error = 1; run = 0; fifo_ready = 0 }) fields) (sym index))
      (capacity ∙ stands.capacity) (λ off. empty) (λ on. runs_on _ on refl)

-- RUN rose
pub started : (counts : Counts) → counts begun ≡ 0 → (index : ℕ) (after : Fetching) (fields new : Fields) → fetching.StandsFor after begun → after.capacity ≡ fields.shape.fifo
    → is_running (stream_of fields index) ≡ true → new ≡ with_descriptor index (record (stream_of fields index) { link_position = 0; fifo_ready = 0 }) fields
    → StandsForBy counts (record { index = index; fetch = after; frame = 0 }) new begun
started counts none index after fields new held capacity runs is =
    let d : Descriptor = record (stream_of fields index) { link_position = 0; fifo_ready = 0 } in
    (leads_to (record { index = index; fetch = after; frame = 0 }) fields new (record { descriptor = d; state = begun }) is capacity
    (λ off. runs_on _ runs off)
    (λ on. record { fetch = held; frame = refl; position = sym (ap (λ (n : ℕ). n % d.buffer_length) none ∙ zero-mod d.buffer_length); ready = sym (not_ready d) })).stands

-- ---- a fetch, call by call

-- BCIS and FIFORDY, one after the other
pub shown_ready : (index : ℕ) (fields one two : Fields) (completion ready : ℕ)
    → one ≡ with_descriptor index (record (stream_of fields index) { completion = completion }) fields
    → two ≡ with_descriptor index (record (stream_of one index) { fifo_ready = ready }) one
    → two ≡ with_descriptor index (record (stream_of fields index) { completion = completion; fifo_ready = ready }) fields
shown_ready index fields one two completion ready first second =
    let d : Descriptor = record (stream_of fields index) { completion = completion } in
    let here : stream_of one index ≡ d = ap (λ (f : Fields). stream_of f index) first ∙ of_with index d fields in
    second ∙ (ap (λ (d : Descriptor). with_descriptor index (record d { fifo_ready = ready }) one) here
    ∙ (ap (with_descriptor index (record d { fifo_ready = ready })) first ∙ with_with index d (record d { fifo_ready = ready }) fields))

-- and then DESE
pub shown_broken : (index : ℕ) (fields two three : Fields) (completion ready : ℕ)
    → two ≡ with_descriptor index (record (stream_of fields index) { completion = completion; fifo_ready = ready }) fields
    → three ≡ with_descriptor index (record (stream_of two index) { descriptor_error = 1; run = 0; fifo_ready = 0 }) two
    → three ≡ with_descriptor index (record (stream_of fields index) { completion = completion; descriptor_error = 1; run = 0; fifo_ready = 0 }) fields
shown_broken index fields two three completion ready first second =
    let d : Descriptor = record (stream_of fields index) { completion = completion; fifo_ready = ready } in
    let here : stream_of two index ≡ d = ap (λ (f : Fields). stream_of f index) first ∙ of_with index d fields in
    second ∙ (ap (λ (d : Descriptor). with_descriptor index (record d { descriptor_error = 1; run = 0; fifo_ready = 0 }) two) here
    ∙ (ap (with_descriptor index (record d { descriptor_error = 1; run = 0; fifo_ready = 0 })) first ∙ with_with index d _ fields))

module _ (playing last_playing : Playing) (after : Fetching) (fields one two three : Fields) (format : Format) (state : StreamState) (most address last : ℕ) (memory : List ℕ) (done broke : Bool)
    (stands : StandsFor playing fields state) (can : CanPlay fields playing.index format) where
  abbrev here : Descriptor
  here = stream_of fields playing.index

  abbrev stream : Stream
  stream = stream_at playing.index fields state

  abbrev came_state : StreamState
  came_state = bytes_came most fields.shape.fifo memory (list_address here) here.last_index state

  -- an answer of the fetch, at the place of the list and the size of the FIFO that the registers say
  at_place : (P : ℕ → ℕ → ℕ → Type 0) → address ≡ list_address here → last ≡ here.last_index → P playing.fetch.capacity address last
      → P fields.shape.fifo (list_address here) here.last_index
  at_place P address_is last_is holds =
      subst (λ (fifo : ℕ). P fifo (list_address here) here.last_index) stands.capacity
      (subst (λ (address : ℕ). P playing.fetch.capacity address here.last_index) address_is (subst (P playing.fetch.capacity address) last_is holds))

  pub fill_leads : address ≡ list_address here → last ≡ here.last_index
      → ((s : StreamState) → fetching.StandsFor playing.fetch s → fetching.StandsFor after (bytes_came most playing.fetch.capacity memory address last s))
      → ((s : StreamState) → fetching.StandsFor playing.fetch s → done ≡ some_completes most playing.fetch.capacity memory address last s)
      → ((s : StreamState) → fetching.StandsFor playing.fetch s → broke ≡ some_breaks most playing.fetch.capacity memory address last s)
      → after.capacity ≡ playing.fetch.capacity
      → one ≡ with_descriptor playing.index (record here { completion = if done then 1 else here.completion }) fields
      → two ≡ with_descriptor playing.index (record (stream_of one playing.index) { fifo_ready = worth (nat_le (most_bytes format) (length after.bytes)) 0 }) one
      → last_playing.index ≡ playing.index → last_playing.fetch.capacity ≡ after.capacity → (broke ≡ true → last_playing.fetch.bytes ≡ [])
      → (broke ≡ false → last_playing ≡ record playing { fetch = after })
      → (broke ≡ true → three ≡ with_descriptor playing.index (record (stream_of two playing.index) { descriptor_error = 1; run = 0; fifo_ready = 0 }) two)
      → (broke ≡ false → three ≡ two)
      → LeadsTo last_playing fields three (fetch most fields.shape.fifo memory stream)
  fill_leads address_is last_is held completes breaks capacity first second index kept_capacity empty kept broken_is whole_is =
      let runs = stands.running can.runs in
      let came : fetching.StandsFor after came_state =
      at_place (λ fifo address last. fetching.StandsFor after (bytes_came most fifo memory address last state)) address_is last_is (held state runs.fetch) in
      let done_is : done ≡ some_completes most fields.shape.fifo memory (list_address here) here.last_index state =
      at_place (λ fifo address last. done ≡ some_completes most fifo memory address last state) address_is last_is (completes state runs.fetch) in
      let broke_is : broke ≡ some_breaks most fields.shape.fifo memory (list_address here) here.last_index state =
      at_place (λ fifo address last. broke ≡ some_breaks most fifo memory address last state) address_is last_is (breaks state runs.fetch) in
      let frame = frame-came fields.shape.fifo memory most (list_address here) here.last_index state in
      let left = left-came fields.shape.fifo memory most (list_address here) here.last_index state in
      let shown = shown_ready playing.index fields one two _ _ first second in
      let by_broke : (b : Bool) → broke ≡ b → LeadsTo last_playing fields three (whole done b came_state stream) = λ b. elim b as (λ b. broke ≡ b → LeadsTo last_playing fields three (whole done b came_state stream)) [
        | true ↦ λ is. broken sent_bytes playing fields format state came_state done stands can frame left last_playing three index (kept_capacity ∙ capacity) (empty is)
            (shown_broken playing.index fields two three _ _ shown (broken_is is))
        | false ↦ λ is. subst (λ (p : Playing). LeadsTo p fields three (whole done false came_state stream)) (sym (kept is))
            (filled sent_bytes playing fields format state came_state done stands can frame left after three came capacity (whole_is is ∙ shown))
      ] in
      subst (LeadsTo last_playing fields three) (sym (fetch-whole fields.shape.fifo memory most stream can.runs can.usable runs.ready))
      (subst (λ (c : Bool). LeadsTo last_playing fields three (whole c (some_breaks most fields.shape.fifo memory (list_address here) here.last_index state) came_state stream)) done_is
      (subst (λ (b : Bool). LeadsTo last_playing fields three (whole done b came_state stream)) broke_is (by_broke broke refl)))

-- ---- where nothing is fetched

-- a stream that does not play is left
pub still_fetched : (index most : ℕ) (memory : List ℕ) (fields : Fields) (state : StreamState) → (is_out_of_reset fields.global && is_running (stream_of fields index)) ≡ false
    → fetched_at index most memory fields state ≡ stream_at index fields state
still_fetched index most memory fields state still = by_out (is_out_of_reset fields.global) still
  where
    by_out : (out : Bool) → (out && is_running (stream_of fields index)) ≡ false
        → (if out then fetch most fields.shape.fifo memory (stream_at index fields state) else stream_at index fields state) ≡ stream_at index fields state
    by_out true stopped = fetch-stopped fields.shape.fifo memory most (stream_at index fields state) stopped
    by_out false stopped = refl

-- a fetch of no byte leaves it
pub none_fetched : (index : ℕ) (memory : List ℕ) (fields : Fields) (state : StreamState) → fetched_at index 0 memory fields state ≡ stream_at index fields state
none_fetched index memory fields state = by_out (is_out_of_reset fields.global)
  where
    by_out : (out : Bool) → (if out then stream_at index fields state else stream_at index fields state) ≡ stream_at index fields state
    by_out true = refl
    by_out false = refl

-- a stream without a usable format can't be used
pub no_format : (d : Descriptor) → None ≡ (if is_usable d then layout_of d.format else None) → is_usable d ≡ false
no_format d none = by_format (layout_of d.format) refl none
  where
    usable_by : Option Layout → Bool
    usable_by found = is_format found && not (d.buffer_length == 0) && not (d.last_index == 0)

    by_test : (usable : Bool) (layout : Layout) → None ≡ (if usable then Some layout else None) → usable ≡ false
    by_test true layout h = absurd (none-some layout h)
    by_test false layout h = refl

    by_format : (found : Option Layout) → layout_of d.format ≡ found → None ≡ (if is_usable d then layout_of d.format else None) → is_usable d ≡ false
    by_format None is h = ap usable_by is
    by_format (Some layout) is h = by_test (is_usable d) layout (h ∙ ap (λ (found : Option Layout). if is_usable d then found else None) is)

pub both_out : (out runs : Bool) → (out && runs) ≡ true → (out ≡ true) × (runs ≡ true)
both_out true true h = (refl, refl)
both_out true false h = (refl, h)
both_out false true h = (h, refl)
both_out false false h = (h, h)

-- and stops where it plays
pub broke_fetched : (playing after : Playing) (most : ℕ) (memory : List ℕ) (fields new : Fields) (state : StreamState) → StandsFor playing fields state
    → (is_out_of_reset fields.global && is_running (stream_of fields playing.index)) ≡ true → is_usable (stream_of fields playing.index) ≡ false
    → after.index ≡ playing.index → after.fetch.capacity ≡ playing.fetch.capacity → after.fetch.bytes ≡ []
    → new ≡ with_descriptor playing.index (record (stream_of fields playing.index) { descriptor_error = 1; run = 0; fifo_ready = 0 }) fields
    → LeadsTo after fields new (fetched_at playing.index (suc most) memory fields state)
broke_fetched playing after most memory fields new state stands plays unusable index capacity empty is =
    let both = both_out (is_out_of_reset fields.global) (is_running (stream_of fields playing.index)) plays in
    let stream = stream_at playing.index fields state in
    let same : broke stream ≡ fetched_at playing.index (suc most) memory fields state =
    sym (fetch-unusable fields.shape.fifo memory most stream both.1 unusable)
    ∙ sym (ap (λ (out : Bool). if out then fetch (suc most) fields.shape.fifo memory stream else stream) both.0) in
    subst (LeadsTo after fields new) same
    (leads_to after fields new (broke stream)
    (is ∙ ap (λ (i : ℕ). with_descriptor i (record (stream_of fields playing.index) { descriptor_error = 1; run = 0; fifo_ready = 0 }) fields) (sym index))
    (capacity ∙ stands.capacity) (λ off. empty) (λ on. runs_on _ on refl))
