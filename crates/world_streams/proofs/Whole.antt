-- A fetch of a stream as a whole: all its bytes, then the interrupt of a buffer that ended, FIFORDY, and DESE.
use Rattle.std.proofs.Common.{◌≡◌, ◌||◌, ℕ, zero, suc, Bool, true, false, List, if◌then◌else◌, refl, sym, ap, ◌∙◌}
use Rattle.hda_registers.specs.Fields.{is_running, list_address}
use Rattle.hda_registers.specs.Status.{worth}
use Rattle.world_streams.specs.Lists.{is_good}
use Rattle.world_streams.specs.Streams.{StreamState, Stream, is_usable, is_ready, with_ready, broke}
use Rattle.world_streams.proofs.Coming.{cannot_full, cannot_bad, none_completes, none_breaks, stays, breaks_now, completes_or, breaks_later, came_on}
use Rattle.world_streams.specs.Output.{has_room, next_of, with_byte, completes, byte_came, fetched_one, fetch_move, moves, fetch, can_come, next_byte, bytes_came, some_completes, some_breaks}

-- FIFORDY shows whether the stream is ready
abbrev pub Shows : Stream → Type 0
Shows stream = stream.descriptor.fifo_ready ≡ worth (is_ready stream) 0

-- the stream after some bytes, by whether some completed a buffer, whether the list broke, and its state then
abbrev pub whole : (completes breaks : Bool) → StreamState → Stream → Stream
whole completes breaks state stream =
    let came : Stream = with_ready (record {
      descriptor = record stream.descriptor { completion = if completes then 1 else stream.descriptor.completion };
      state = state;
    }) in
    if breaks then broke came else came

-- the stream after a fetch of at most so many bytes
abbrev pub fetched_whole : ℕ → ℕ → List ℕ → Stream → Stream
fetched_whole n fifo memory stream =
    whole (some_completes n fifo memory (list_address stream.descriptor) stream.descriptor.last_index stream.state)
    (some_breaks n fifo memory (list_address stream.descriptor) stream.descriptor.last_index stream.state)
    (bytes_came n fifo memory (list_address stream.descriptor) stream.descriptor.last_index stream.state) stream

-- what is shown already stays
pub shows_same : (stream : Stream) → Shows stream → with_ready stream ≡ stream
shows_same stream shows = ap (λ (ready : ℕ). record stream { descriptor = record stream.descriptor { fifo_ready = ready } }) (sym shows)

one_completion : (first later : Bool) (old : ℕ) → let one : ℕ = if later then 1 else (if first then 1 else old) in one ≡ (if (first || later) then 1 else old)
one_completion true true old = refl
one_completion true false old = refl
one_completion false later old = refl

-- what comes after a byte, from before it
pub whole-byte : (memory : List ℕ) (first later breaks : Bool) (state : StreamState) (stream : Stream) → completes memory (list_address stream.descriptor) stream.state ≡ first
    → whole later breaks state (byte_came memory stream) ≡ whole (first || later) breaks state stream
whole-byte memory first later breaks state stream is =
    ap (λ (completion : ℕ). let came : Stream = with_ready (record { descriptor = record stream.descriptor { completion = completion }; state = state }) in if breaks then broke came else came)
    (ap (λ (c : Bool). let one : ℕ = if later then 1 else (if c then 1 else stream.descriptor.completion) in one) is ∙ one_completion first later stream.descriptor.completion)

pub whole_same : (c c' b b' : Bool) (s s' : StreamState) (stream : Stream) → c ≡ c' → b ≡ b' → s ≡ s' → whole c b s stream ≡ whole c' b' s' stream
whole_same c c' b b' s s' stream first second third = rw (first, second, third) refl

module _ (fifo : ℕ) (memory : List ℕ) where
  moves_stay : (n : ℕ) (stream : Stream) → fetch_move fifo memory stream ≡ stream → moves n (fetch_move fifo memory) stream ≡ stream
  moves_stay zero stream same = refl
  moves_stay (suc n) stream same = ap (moves n (fetch_move fifo memory)) same ∙ moves_stay n stream same

  pub fetch-stopped : (n : ℕ) (stream : Stream) → is_running stream.descriptor ≡ false → fetch n fifo memory stream ≡ stream
  fetch-stopped n stream stopped =
      moves_stay n stream (ap (λ (runs : Bool). if runs then (if is_usable stream.descriptor then fetched_one fifo memory stream else broke stream) else stream) stopped)

  pub fetch-unusable : (n : ℕ) (stream : Stream) → is_running stream.descriptor ≡ true → is_usable stream.descriptor ≡ false
      → fetch (suc n) fifo memory stream ≡ broke stream
  fetch-unusable n stream runs unusable =
      let one : fetch_move fifo memory stream ≡ broke stream = rw (runs, unusable) refl in
      ap (moves n (fetch_move fifo memory)) one ∙ fetch-stopped n (broke stream) refl

  usable_move : (stream : Stream) → is_running stream.descriptor ≡ true → is_usable stream.descriptor ≡ true → fetch_move fifo memory stream ≡ fetched_one fifo memory stream
  usable_move stream runs usable = rw (runs, usable) refl

  -- bytes that come change neither what was sent nor the frames
  same_rest : (base last : ℕ) (state : StreamState) (comes : Bool)
      → ((if comes then with_byte memory base last state else state).left ≡ state.left) × ((if comes then with_byte memory base last state else state).frame ≡ state.frame)
  same_rest base last state true = (refl, refl)
  same_rest base last state false = (refl, refl)

  pub left-came : (n base last : ℕ) (state : StreamState) → (bytes_came n fifo memory base last state).left ≡ state.left
  left-came zero base last state = refl
  left-came (suc n) base last state =
      left-came n base last (next_byte fifo memory base last state) ∙ (same_rest base last state (can_come fifo memory base state)).0

  pub frame-came : (n base last : ℕ) (state : StreamState) → (bytes_came n fifo memory base last state).frame ≡ state.frame
  frame-came zero base last state = refl
  frame-came (suc n) base last state =
      frame-came n base last (next_byte fifo memory base last state) ∙ (same_rest base last state (can_come fifo memory base state)).1

  no_room : (n : ℕ) (stream : Stream) → has_room fifo stream.state ≡ false → fetched_whole n fifo memory stream ≡ fetched_whole (suc n) fifo memory stream
  no_room n stream full =
      let base = list_address stream.descriptor in
      let last = stream.descriptor.last_index in
      let none = cannot_full fifo memory base last stream.state full in
      whole_same _ _ _ _ _ _ stream
      (none_completes fifo memory base last n stream.state none ∙ sym (none_completes fifo memory base last (suc n) stream.state none))
      (none_breaks fifo memory base last n stream.state full ∙ sym (none_breaks fifo memory base last (suc n) stream.state full))
      (stays fifo memory base last n stream.state none ∙ sym (stays fifo memory base last (suc n) stream.state none))

  bad_entry : (n : ℕ) (stream : Stream) → has_room fifo stream.state ≡ true → is_good memory (next_of memory (list_address stream.descriptor) stream.state) ≡ false
      → broke stream ≡ fetched_whole (suc n) fifo memory stream
  bad_entry n stream room bad =
      let base = list_address stream.descriptor in
      let last = stream.descriptor.last_index in
      let none = cannot_bad fifo memory base last stream.state bad in
      whole_same false _ true _ stream.state _ stream
      (sym (none_completes fifo memory base last (suc n) stream.state none))
      (sym (breaks_now fifo memory base last n stream.state room bad))
      (sym (stays fifo memory base last (suc n) stream.state none))

  good_entry : (n : ℕ) (stream : Stream) → has_room fifo stream.state ≡ true → is_good memory (next_of memory (list_address stream.descriptor) stream.state) ≡ true
      → fetched_whole n fifo memory (byte_came memory stream) ≡ fetched_whole (suc n) fifo memory stream
  good_entry n stream room good =
      let base = list_address stream.descriptor in
      let last = stream.descriptor.last_index in
      whole-byte memory _ _ _ _ stream refl
      ∙ whole_same _ _ _ _ _ _ stream
      (sym (completes_or fifo memory base last n stream.state room good))
      (sym (breaks_later fifo memory base last n stream.state room good))
      (sym (came_on fifo memory base last n stream.state room good))

  -- one move and then the rest
  cases_move : (n : ℕ) (stream : Stream) (room good : Bool) → has_room fifo stream.state ≡ room → is_good memory (next_of memory (list_address stream.descriptor) stream.state) ≡ good
      → fetch_move fifo memory stream ≡ fetched_one fifo memory stream
      → fetch n fifo memory stream ≡ fetched_whole n fifo memory stream
      → fetch n fifo memory (byte_came memory stream) ≡ fetched_whole n fifo memory (byte_came memory stream)
      → fetch (suc n) fifo memory stream ≡ fetched_whole (suc n) fifo memory stream
  cases_move n stream false good room_is good_is move same_rest byte_rest =
      ap (moves n (fetch_move fifo memory)) (move ∙ rw room_is refl) ∙ (same_rest ∙ no_room n stream room_is)
  cases_move n stream true false room_is good_is move same_rest byte_rest =
      ap (moves n (fetch_move fifo memory)) (move ∙ rw (room_is, good_is) refl) ∙ (fetch-stopped n (broke stream) refl ∙ bad_entry n stream room_is good_is)
  cases_move n stream true true room_is good_is move same_rest byte_rest =
      ap (moves n (fetch_move fifo memory)) (move ∙ rw (room_is, good_is) refl) ∙ (byte_rest ∙ good_entry n stream room_is good_is)

  pub fetch-whole : (n : ℕ) (stream : Stream) → is_running stream.descriptor ≡ true → is_usable stream.descriptor ≡ true → Shows stream
      → fetch n fifo memory stream ≡ fetched_whole n fifo memory stream
  fetch-whole zero stream runs usable shows = sym (shows_same stream shows)
  fetch-whole (suc n) stream runs usable shows =
      cases_move n stream _ _ refl refl (usable_move stream runs usable) (fetch-whole n stream runs usable shows)
      (fetch-whole n (byte_came memory stream) runs usable refl)
