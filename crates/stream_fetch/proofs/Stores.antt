-- Bytes go to one buffer one after the other.
use Rattle.std.proofs.Common.{◌≡◌, ◌<◌, ◌≤◌, ◌+◌, ◌==◌, ◌&&◌, ◌||◌, not, ℕ, zero, suc, Bool, true, false, List, [], ◌∷◌, ◌++◌, length, take, drop, Some, None, if◌then◌else◌, refl, sym, ap, ap₂, ◌∙◌, arith, rules, tests, length-append, append_assoc, length-drop}
use Rattle.std.proofs.lemmas.Bool.{le-leb, lt-ltb}
use Rattle.std.proofs.lemmas.List.{drop_more, length-take-le}
use Rattle.std.proofs.lemmas.Slice.{drop-append-drop}
use Rattle.std.proofs.Math.Seq.{take-append_seam}
use Rattle.world_rings.specs.Memory.{stored}
use Rattle.world_rings.proofs.Callers.{stored_outside}
use Rattle.world_streams.specs.declared.buffers.Buffer.{Buffer}
use Rattle.world_streams.specs.declared.buffers.ListPlace.{ListPlace}
use Rattle.world_streams.specs.Lists.{after_byte, is_good, is_last_byte, next_index}
use Rattle.world_streams.specs.Streams.{held_bytes}
use Rattle.world_streams.specs.Output.{completes, next_of}
use Rattle.world_streams.specs.Input.{Emptying, holds_byte, oldest_byte, byte_place, memory_with, can_go, byte_gone, next_gone, bytes_went, some_fills, some_jams}
use Rattle.world_streams.proofs.Callers.{goes, gone, jams_later, fills_or}
use Rattle.stream_fetch.specs.Bytes.{after_bytes}
use Rattle.stream_fetch.proofs.Runs.{ends_in}

-- ---- memory

-- a piece that fits, in the region
pub stored_is : (memory : List ℕ) (at : ℕ) (piece : List ℕ) → at + length piece ≤ length memory → stored memory at piece ≡ take at memory ++ (piece ++ drop (at + length piece) memory)
stored_is memory at piece fits =
    ap (λ (test : Bool). if test then take at memory ++ (piece ++ drop (at + length piece) memory) else memory) (le-leb (at + length piece) (length memory) fits)

-- a byte and then more
stored_more : (memory : List ℕ) (at one : ℕ) (rest : List ℕ) → at + (1 + length rest) ≤ length memory
    → stored (stored memory at (one ∷ [])) (at + 1) rest ≡ stored memory at (one ∷ rest)
stored_more memory at one rest fits =
    let front = take at memory ++ one ∷ [] in
    let front_long : length front ≡ at + 1 = length-append (take at memory) (one ∷ []) ∙ ap (λ (n : ℕ). n + 1) (length-take-le at memory (omega (arith, fits))) in
    let first : stored memory at (one ∷ []) ≡ front ++ drop (at + 1) memory = stored_is memory at (one ∷ []) (omega (arith, fits)) ∙ sym (append_assoc (take at memory) (one ∷ []) (drop (at + 1) memory)) in
    let size : length (stored memory at (one ∷ [])) ≡ length memory = (stored_outside at (one ∷ []) memory).0 in
    let begins : take (at + 1) (front ++ drop (at + 1) memory) ≡ front =
    ap (λ (n : ℕ). take n (front ++ drop (at + 1) memory)) (sym front_long) ∙ take-append_seam front (drop (at + 1) memory) in
    let ends : drop (at + 1 + length rest) (front ++ drop (at + 1) memory) ≡ drop (at + 1 + length rest) memory =
    drop-append-drop (at + 1) memory front (at + 1 + length rest) (omega arith) front_long in
    let place : at + 1 + length rest ≡ at + suc (length rest) = omega arith in
    stored_is (stored memory at (one ∷ [])) (at + 1) rest (omega (arith, fits, size))
    ∙ ap (λ (now : List ℕ). take (at + 1) now ++ (rest ++ drop (at + 1 + length rest) now)) first
    ∙ ap₂ (λ (front back : List ℕ). front ++ (rest ++ back)) begins ends
    ∙ append_assoc (take at memory) (one ∷ []) (rest ++ drop (at + 1 + length rest) memory)
    ∙ ap (λ (n : ℕ). take at memory ++ (one ∷ (rest ++ drop n memory))) place
    ∙ sym (stored_is memory at (one ∷ rest) (omega (arith, fits)))

pub or_false : (done : Bool) → (done || false) ≡ done
or_false true = refl
or_false false = refl

pub or_assoc : (a b c : Bool) → (a || (b || c)) ≡ ((a || b) || c)
or_assoc true b c = refl
or_assoc false b c = refl

-- so many bytes went to one buffer
abbrev pub with_stored : (count base last : ℕ) → Emptying → Emptying
with_stored count base last held = record {
  memory = stored held.memory (byte_place held.memory base held.state) (take count (held_bytes held.state));
  state = record held.state {
    left = held.state.left + count;
    list = after_bytes count last (next_of held.memory base held.state) held.state.list;
  };
}

-- a FIFO of which so many bytes left, in a buffer of which so many were stored
abbrev went_to : (memory : List ℕ) (left fetched last : ℕ) → Emptying → Buffer → Emptying
went_to memory left fetched last held buffer = record {
  memory = memory;
  state = record held.state {
    left = left;
    list = if fetched == buffer.bytes then record { index = next_index last held.state.list.index; buffer = None; fetched = 0 }
        else record { index = held.state.list.index; buffer = Some buffer; fetched = fetched };
  };
}

module _ (base last : ℕ) where
  -- ---- a store in two parts

  pub went_both : (a b n : ℕ) → n ≡ a + b → (held : Emptying) → bytes_went n base last held ≡ bytes_went b base last (bytes_went a base last held)
  went_both zero b n same held = let all : n ≡ b = omega (arith, same) in ap (λ (n : ℕ). bytes_went n base last held) all
  went_both (suc a) b zero same held = absurd (omega (arith, same))
  went_both (suc a) b (suc n) same held = went_both a b n (omega (arith, same)) (next_gone base last held)

  pub fills_both : (a b n : ℕ) → n ≡ a + b → (held : Emptying) → some_fills n base last held
      ≡ (some_fills a base last held || some_fills b base last (bytes_went a base last held))
  fills_both zero b n same held = let all : n ≡ b = omega (arith, same) in ap (λ (n : ℕ). some_fills n base last held) all
  fills_both (suc a) b zero same held = absurd (omega (arith, same))
  fills_both (suc a) b (suc n) same held =
      let next = next_gone base last held in
      ap (λ (more : Bool). (can_go base held && completes held.memory base held.state) || more) (fills_both a b n (omega (arith, same)) next)
      ∙ or_assoc _ (some_fills a base last next) _

  pub jams_both : (a b n : ℕ) → n ≡ a + b → (held : Emptying) → some_jams n base last held
      ≡ (some_jams a base last held || some_jams b base last (bytes_went a base last held))
  jams_both zero b n same held = let all : n ≡ b = omega (arith, same) in ap (λ (n : ℕ). some_jams n base last held) all
  jams_both (suc a) b zero same held = absurd (omega (arith, same))
  jams_both (suc a) b (suc n) same held =
      let next = next_gone base last held in
      ap (λ (more : Bool). (holds_byte held.state && not (is_good held.memory (next_of held.memory base held.state))) || more) (jams_both a b n (omega (arith, same)) next)
      ∙ or_assoc _ (some_jams a base last next) _

  -- ---- so many bytes of one buffer

  -- so many are held, and the buffer of the next byte can be used and has as many left
  pub record HoldsBytes (count : ℕ) (held : Emptying) : Type 0 where
    pub some : held.state.left + count ≤ length held.state.entered
    pub good : is_good held.memory (next_of held.memory base held.state) ≡ true
    pub left : held.state.list.fetched + count ≤ (next_of held.memory base held.state).bytes

  holding : (count : ℕ) (held : Emptying) → HoldsBytes (suc count) held → holds_byte held.state ≡ true
  holding count held has = lt-ltb held.state.left (length held.state.entered) (omega (arith, has.some))

  goes_on : (count : ℕ) (held : Emptying) → HoldsBytes (suc count) held → next_gone base last held ≡ byte_gone base last held
  goes_on count held has = gone base last held (goes base last held (holding count held has) has.good)

  -- the next byte is not the buffer's last where two are left
  not_last : (count : ℕ) (held : Emptying) → HoldsBytes (suc (suc count)) held → is_last_byte (next_of held.memory base held.state) held.state.list ≡ false
  not_last count held has = let more : held.state.list.fetched + 1 < (next_of held.memory base held.state).bytes = omega (arith, has.left) in search (rules, tests)

  -- what is left after it
  abbrev within : Emptying → Emptying
  within held = record {
    memory = memory_with held.memory base held.state;
    state = record held.state {
      left = held.state.left + 1;
      list = record { index = held.state.list.index; buffer = Some (next_of held.memory base held.state); fetched = held.state.list.fetched + 1 };
    };
  }

  inside : (count : ℕ) (held : Emptying) → HoldsBytes (suc (suc count)) held
      → after_byte last (next_of held.memory base held.state) held.state.list
      ≡ record { index = held.state.list.index; buffer = Some (next_of held.memory base held.state); fetched = held.state.list.fetched + 1 }
  inside count held has = let other = not_last count held has in search (rules, tests)

  goes_within : (count : ℕ) (held : Emptying) → HoldsBytes (suc (suc count)) held → byte_gone base last held ≡ within held
  goes_within count held has =
      ap (λ (list : ListPlace). record { memory = memory_with held.memory base held.state; state = record held.state { left = held.state.left + 1; list = list } }) (inside count held has)

  -- whether a buffer can be used depends on memory by its size alone
  good_kept : (one other : List ℕ) (buffer : Buffer) → length other ≡ length one → is_good one buffer ≡ true → is_good other buffer ≡ true
  good_kept one other buffer same good = search (rules, tests)

  has_less : (count : ℕ) (held : Emptying) → HoldsBytes (suc (suc count)) held → HoldsBytes (suc count) (within held)
  has_less count held has = record {
    some = omega (arith, has.some);
    good = good_kept held.memory _ (next_of held.memory base held.state) (stored_outside (byte_place held.memory base held.state) (oldest_byte held.state ∷ []) held.memory).0 has.good;
    left = omega (arith, has.left);
  }

  -- the buffer lies in the region
  lies : (count : ℕ) (held : Emptying) → HoldsBytes count held → byte_place held.memory base held.state + count ≤ length held.memory
  lies count held has =
      let buffer = next_of held.memory base held.state in
      let ends : buffer.address + buffer.bytes ≤ length held.memory = ends_in held.memory buffer has.good in omega (arith, ends, has.left)

  first_of : (count : ℕ) (held : Emptying) → HoldsBytes (suc count) held → held_bytes held.state ≡ oldest_byte held.state ∷ drop (held.state.left + 1) held.state.entered
  first_of count held has = drop_more held.state.entered held.state.left 0 (omega (arith, has.some))

  held_long : (count : ℕ) (held : Emptying) → HoldsBytes (suc count) held → length (take count (drop (held.state.left + 1) held.state.entered)) ≡ count
  held_long count held has =
      length-take-le count (drop (held.state.left + 1) held.state.entered) (rw (length-drop (held.state.left + 1) held.state.entered) (omega (arith, has.some)))

  -- so many bytes more
  bytes_go : (count : ℕ) (held : Emptying) → HoldsBytes (suc count) held → bytes_went (suc count) base last held ≡ with_stored (suc count) base last held
  bytes_go zero held has =
      goes_on zero held has
      ∙ ap (λ (bytes : List ℕ). record {
        memory = stored held.memory (byte_place held.memory base held.state) bytes;
        state = record held.state { left = held.state.left + 1; list = after_bytes 1 last (next_of held.memory base held.state) held.state.list };
      }) (sym (ap (take 1) (first_of zero held has)))
  bytes_go (suc count) held has =
      ap (bytes_went (suc count) base last) (goes_on (suc count) held has ∙ goes_within count held has)
      ∙ bytes_go count (within held) (has_less count held has)
      ∙ all_went
    where
      all_went : with_stored (suc count) base last (within held) ≡ with_stored (suc (suc count)) base last held
      all_went =
          let at = byte_place held.memory base held.state in
          let rest = take (suc count) (drop (held.state.left + 1) held.state.entered) in
          let build = λ (memory : List ℕ) (left fetched : ℕ). went_to memory left fetched last held (next_of held.memory base held.state) in
          let next : (next_of held.memory base held.state).address + (held.state.list.fetched + 1) ≡ at + 1 = omega arith in
          let long : length rest ≡ suc count = held_long (suc count) held has in
          let lie : at + suc (suc count) ≤ length held.memory = lies (suc (suc count)) held has in
          let memory : stored (memory_with held.memory base held.state) ((next_of held.memory base held.state).address + (held.state.list.fetched + 1)) rest
          ≡ stored held.memory at (take (suc (suc count)) (held_bytes held.state)) =
          ap (λ (n : ℕ). stored (memory_with held.memory base held.state) n rest) next
          ∙ stored_more held.memory at (oldest_byte held.state) rest (omega (arith, long, lie))
          ∙ ap (λ (bytes : List ℕ). stored held.memory at (take (suc (suc count)) bytes)) (sym (first_of (suc count) held has)) in
          let left : held.state.left + 1 + suc count ≡ held.state.left + suc (suc count) = omega arith in
          let fetched : held.state.list.fetched + 1 + suc count ≡ held.state.list.fetched + suc (suc count) = omega arith in
          ap (λ (now : List ℕ). build now (held.state.left + 1 + suc count) (held.state.list.fetched + 1 + suc count)) memory
          ∙ ap₂ (build (stored held.memory at (take (suc (suc count)) (held_bytes held.state)))) left fetched

  -- they fill a buffer with IOC where the last of them is its last
  run_fills : (count : ℕ) (held : Emptying) → HoldsBytes (suc count) held
      → some_fills (suc count) base last held ≡ ((held.state.list.fetched + suc count == (next_of held.memory base held.state).bytes) && (next_of held.memory base held.state).interrupts)
  run_fills zero held has = fills_or base last zero held (holding zero held has) has.good ∙ or_false (completes held.memory base held.state)
  run_fills (suc count) held has =
      fills_or base last (suc count) held (holding (suc count) held has) has.good
      ∙ ap (λ (ends : Bool). (ends && (next_of held.memory base held.state).interrupts) || some_fills (suc count) base last (byte_gone base last held)) (not_last count held has)
      ∙ ap (some_fills (suc count) base last) (goes_within count held has)
      ∙ run_fills count (within held) (has_less count held has)
      ∙ ap (λ (fetched : ℕ). (fetched == (next_of held.memory base held.state).bytes) && (next_of held.memory base held.state).interrupts) (omega arith)

  -- and jam nowhere
  run_unjammed : (count : ℕ) (held : Emptying) → HoldsBytes (suc count) held → some_jams (suc count) base last held ≡ false
  run_unjammed zero held has = jams_later base last zero held (holding zero held has) has.good
  run_unjammed (suc count) held has =
      jams_later base last (suc count) held (holding (suc count) held has) has.good
      ∙ ap (some_jams (suc count) base last) (goes_within count held has)
      ∙ run_unjammed count (within held) (has_less count held has)

  -- ---- at least one

  pub some_go : (count : ℕ) → 1 ≤ count → (held : Emptying) → HoldsBytes count held → bytes_went count base last held ≡ with_stored count base last held
  some_go zero some held has = absurd (omega (arith, some))
  some_go (suc count) some held has = bytes_go count held has

  pub some_fill : (count : ℕ) → 1 ≤ count → (held : Emptying) → HoldsBytes count held
      → some_fills count base last held ≡ ((held.state.list.fetched + count == (next_of held.memory base held.state).bytes) && (next_of held.memory base held.state).interrupts)
  some_fill zero some held has = absurd (omega (arith, some))
  some_fill (suc count) some held has = run_fills count held has

  pub none_jam : (count : ℕ) → 1 ≤ count → (held : Emptying) → HoldsBytes count held → some_jams count base last held ≡ false
  none_jam zero some held has = absurd (omega (arith, some))
  none_jam (suc count) some held has = run_unjammed count held has
