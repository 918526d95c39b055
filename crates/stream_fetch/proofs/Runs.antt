-- Bytes of one buffer come one after the other.
use Rattle.std.proofs.Common.{◌≡◌, ◌<◌, ◌≤◌, ◌+◌, ◌==◌, ◌&&◌, ◌||◌, ℕ, zero, suc, Bool, true, false, not, List, [], ◌∷◌, ◌++◌, length, take, drop, Some, None, if◌then◌else◌, refl, sym, ap, ap₂, ◌∙◌, arith, rules, tests, length-append, append_assoc}
use Rattle.std.proofs.lemmas.List.{drop_more}
use Rattle.world_streams.specs.declared.buffers.Buffer.{Buffer}
use Rattle.world_streams.specs.declared.buffers.ListPlace.{ListPlace}
use Rattle.world_streams.specs.Lists.{after_byte, byte_of, is_good, is_last_byte, next_index}
use Rattle.world_streams.specs.Streams.{StreamState}
use Rattle.world_streams.specs.Output.{bytes_came, can_come, completes, has_room, next_byte, next_of, some_breaks, some_completes, with_byte}
use Rattle.world_streams.proofs.Callers.{breaks_later, can, come, completes_or}
use Rattle.stream_fetch.specs.Bytes.{after_bytes, with_bytes}

or_false : (done : Bool) → (done || false) ≡ done
or_false true = refl
or_false false = refl

-- where a buffer can be used, it lies in the region
pub ends_in : (memory : List ℕ) (buffer : Buffer) → is_good memory buffer ≡ true → buffer.address + buffer.bytes ≤ length memory
ends_in memory buffer good = search (rules, tests)

module _ (fifo : ℕ) (memory : List ℕ) (base last : ℕ) where
  -- ---- a fetch in two parts

  pub came_both : (a b n : ℕ) → n ≡ a + b → (state : StreamState)
      → bytes_came n fifo memory base last state ≡ bytes_came b fifo memory base last (bytes_came a fifo memory base last state)
  came_both zero b n same state = let all : n ≡ b = omega (arith, same) in ap (λ (n : ℕ). bytes_came n fifo memory base last state) all
  came_both (suc a) b zero same state = absurd (omega (arith, same))
  came_both (suc a) b (suc n) same state = came_both a b n (omega (arith, same)) (next_byte fifo memory base last state)

  or_assoc : (a b c : Bool) → (a || (b || c)) ≡ ((a || b) || c)
  or_assoc true b c = refl
  or_assoc false b c = refl

  pub completes_both : (a b n : ℕ) → n ≡ a + b → (state : StreamState) → some_completes n fifo memory base last state
      ≡ (some_completes a fifo memory base last state || some_completes b fifo memory base last (bytes_came a fifo memory base last state))
  completes_both zero b n same state = let all : n ≡ b = omega (arith, same) in ap (λ (n : ℕ). some_completes n fifo memory base last state) all
  completes_both (suc a) b zero same state = absurd (omega (arith, same))
  completes_both (suc a) b (suc n) same state =
      let next = next_byte fifo memory base last state in
      ap (λ (more : Bool). (can_come fifo memory base state && completes memory base state) || more) (completes_both a b n (omega (arith, same)) next)
      ∙ or_assoc _ (some_completes a fifo memory base last next) _

  pub breaks_both : (a b n : ℕ) → n ≡ a + b → (state : StreamState) → some_breaks n fifo memory base last state
      ≡ (some_breaks a fifo memory base last state || some_breaks b fifo memory base last (bytes_came a fifo memory base last state))
  breaks_both zero b n same state = let all : n ≡ b = omega (arith, same) in ap (λ (n : ℕ). some_breaks n fifo memory base last state) all
  breaks_both (suc a) b zero same state = absurd (omega (arith, same))
  breaks_both (suc a) b (suc n) same state =
      let next = next_byte fifo memory base last state in
      ap (λ (more : Bool). (has_room fifo state && not (is_good memory (next_of memory base state))) || more) (breaks_both a b n (omega (arith, same)) next)
      ∙ or_assoc _ (some_breaks a fifo memory base last next) _

  -- ---- so many bytes of one buffer

  -- there is room for so many, and the buffer of the next byte can be used and has as many left
  pub record HasBytes (count : ℕ) (state : StreamState) : Type 0 where
    pub room : length state.entered + count ≤ state.left + fifo
    pub good : is_good memory (next_of memory base state) ≡ true
    pub left : state.list.fetched + count ≤ (next_of memory base state).bytes

  roomy : (count : ℕ) (state : StreamState) → HasBytes (suc count) state → has_room fifo state ≡ true
  roomy count state has = let room : length state.entered < state.left + fifo = omega (arith, has.room) in search (rules, tests)

  comes : (count : ℕ) (state : StreamState) → HasBytes (suc count) state → next_byte fifo memory base last state ≡ with_byte memory base last state
  comes count state has = come fifo memory base last state (can fifo memory base last state (roomy count state has) has.good)

  -- the next byte is not the buffer's last where two are left
  not_last : (count : ℕ) (state : StreamState) → HasBytes (suc (suc count)) state → is_last_byte (next_of memory base state) state.list ≡ false
  not_last count state has = let more : state.list.fetched + 1 < (next_of memory base state).bytes = omega (arith, has.left) in search (rules, tests)

  inside : (count : ℕ) (state : StreamState) → HasBytes (suc (suc count)) state
      → after_byte last (next_of memory base state) state.list ≡ record { index = state.list.index; buffer = Some (next_of memory base state); fetched = state.list.fetched + 1 }
  inside count state has = let other = not_last count state has in search (rules, tests)

  -- the state after it, of which one byte less is left
  abbrev within : StreamState → StreamState
  within state = record state {
    entered = state.entered ++ byte_of memory (next_of memory base state) state.list.fetched ∷ [];
    list = record { index = state.list.index; buffer = Some (next_of memory base state); fetched = state.list.fetched + 1 };
  }

  goes_within : (count : ℕ) (state : StreamState) → HasBytes (suc (suc count)) state → with_byte memory base last state ≡ within state
  goes_within count state has =
      ap (λ (list : ListPlace). record state { entered = state.entered ++ byte_of memory (next_of memory base state) state.list.fetched ∷ []; list = list }) (inside count state has)

  has_less : (count : ℕ) (state : StreamState) → HasBytes (suc (suc count)) state → HasBytes (suc count) (within state)
  has_less count state has = record {
    room = rw (length-append state.entered (byte_of memory (next_of memory base state) state.list.fetched ∷ [])) (omega (arith, has.room));
    good = has.good;
    left = omega (arith, has.left);
  }

  -- the buffer lies in the region
  lies : (count : ℕ) (state : StreamState) → HasBytes (suc count) state → (next_of memory base state).address + state.list.fetched < length memory
  lies count state has =
      let buffer = next_of memory base state in
      let ends : buffer.address + buffer.bytes ≤ length memory = ends_in memory buffer has.good in omega (arith, ends, has.left)

  first_of : (count : ℕ) (state : StreamState) → HasBytes (suc count) state
      → drop ((next_of memory base state).address + state.list.fetched) memory
      ≡ byte_of memory (next_of memory base state) state.list.fetched ∷ drop ((next_of memory base state).address + state.list.fetched + 1) memory
  first_of count state has = drop_more memory ((next_of memory base state).address + state.list.fetched) 0 (lies count state has)

  -- so many bytes more
  bytes_come : (count : ℕ) (state : StreamState) → HasBytes (suc count) state → bytes_came (suc count) fifo memory base last state ≡ with_bytes (suc count) memory base last state
  bytes_come zero state has =
      comes zero state has
      ∙ ap (λ (bytes : List ℕ). record state { entered = state.entered ++ bytes; list = after_bytes 1 last (next_of memory base state) state.list })
      (sym (ap (take 1) (first_of zero state has)))
  bytes_come (suc count) state has =
      ap (bytes_came (suc count) fifo memory base last) (comes (suc count) state has ∙ goes_within count state has)
      ∙ bytes_come count (within state) (has_less count state has)
      ∙ ap₂ (λ (entered : List ℕ) (fetched : ℕ). record state {
        entered = entered;
        list = if fetched == (next_of memory base state).bytes then record { index = next_index last state.list.index; buffer = None; fetched = 0 }
            else record { index = state.list.index; buffer = Some (next_of memory base state); fetched = fetched };
      }) (all_entered) (omega arith)
    where
      byte : ℕ
      byte = byte_of memory (next_of memory base state) state.list.fetched

      place : ℕ
      place = (next_of memory base state).address + state.list.fetched

      all_entered : (state.entered ++ byte ∷ []) ++ take (suc count) (drop ((next_of memory base state).address + (state.list.fetched + 1)) memory) ≡ state.entered ++ take (suc (suc count)) (drop place memory)
      all_entered =
          append_assoc state.entered (byte ∷ []) _
          ∙ ap (λ (n : ℕ). state.entered ++ byte ∷ take (suc count) (drop n memory)) (omega arith)
          ∙ ap (λ (bytes : List ℕ). state.entered ++ bytes) (sym (ap (take (suc (suc count))) (first_of (suc count) state has)))

  -- they complete a buffer with IOC where the last of them is its last
  run_completes : (count : ℕ) (state : StreamState) → HasBytes (suc count) state
      → some_completes (suc count) fifo memory base last state ≡ ((state.list.fetched + suc count == (next_of memory base state).bytes) && (next_of memory base state).interrupts)
  run_completes zero state has = completes_or fifo memory base last zero state (roomy zero state has) has.good ∙ or_false (completes memory base state)
  run_completes (suc count) state has =
      completes_or fifo memory base last (suc count) state (roomy (suc count) state has) has.good
      ∙ ap (λ (ends : Bool). (ends && (next_of memory base state).interrupts) || some_completes (suc count) fifo memory base last (with_byte memory base last state)) (not_last count state has)
      ∙ ap (some_completes (suc count) fifo memory base last) (goes_within count state has)
      ∙ run_completes count (within state) (has_less count state has)
      ∙ ap (λ (fetched : ℕ). (fetched == (next_of memory base state).bytes) && (next_of memory base state).interrupts) (omega arith)

  -- and break nothing
  run_unbroken : (count : ℕ) (state : StreamState) → HasBytes (suc count) state → some_breaks (suc count) fifo memory base last state ≡ false
  run_unbroken zero state has = breaks_later fifo memory base last zero state (roomy zero state has) has.good
  run_unbroken (suc count) state has =
      breaks_later fifo memory base last (suc count) state (roomy (suc count) state has) has.good
      ∙ ap (some_breaks (suc count) fifo memory base last) (goes_within count state has)
      ∙ run_unbroken count (within state) (has_less count state has)

  -- ---- at least one

  pub some_come : (count : ℕ) → 1 ≤ count → (state : StreamState) → HasBytes count state → bytes_came count fifo memory base last state ≡ with_bytes count memory base last state
  some_come zero some state has = absurd (omega (arith, some))
  some_come (suc count) some state has = bytes_come count state has

  pub some_complete : (count : ℕ) → 1 ≤ count → (state : StreamState) → HasBytes count state
      → some_completes count fifo memory base last state ≡ ((state.list.fetched + count == (next_of memory base state).bytes) && (next_of memory base state).interrupts)
  some_complete zero some state has = absurd (omega (arith, some))
  some_complete (suc count) some state has = run_completes count state has

  pub none_break : (count : ℕ) → 1 ≤ count → (state : StreamState) → HasBytes count state → some_breaks count fifo memory base last state ≡ false
  none_break zero some state has = absurd (omega (arith, some))
  none_break (suc count) some state has = run_unbroken count state has
