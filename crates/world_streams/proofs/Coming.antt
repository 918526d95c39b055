-- When the next byte of a list comes, and what stays where none does.
use Rattle.std.proofs.Common.{◌≡◌, ◌&&◌, ◌||◌, not, ℕ, zero, suc, Bool, true, false, List, if◌then◌else◌, refl, sym, ap, ◌∙◌}
use Rattle.std.proofs.lemmas.Bool.{true≢false, or_left, and_from}
use Rattle.world_streams.specs.Lists.{is_good}
use Rattle.world_streams.specs.Streams.{StreamState}
use Rattle.world_streams.specs.Output.{has_room, next_of, with_byte, completes, can_come, next_byte, bytes_came, some_completes, some_breaks}

pub and_none : (one other : Bool) → one ≡ false → (one && other) ≡ false
and_none false other h = refl
and_none true other h = absurd (true≢false h)

pub none_and : (one other : Bool) → other ≡ false → (one && other) ≡ false
none_and true other h = h
none_and false other h = refl

pub or_none : (one other : Bool) → one ≡ false → (one || other) ≡ other
or_none false other h = refl
or_none true other h = absurd (true≢false h)

pub turned : (one : Bool) → one ≡ true → not one ≡ false
turned true h = refl
turned false h = absurd (true≢false (sym h))

pub turned_on : (one : Bool) → one ≡ false → not one ≡ true
turned_on false h = refl
turned_on true h = absurd (true≢false h)

module _ (fifo : ℕ) (memory : List ℕ) (base last : ℕ) where
  pub can : (state : StreamState) → has_room fifo state ≡ true → is_good memory (next_of memory base state) ≡ true → can_come fifo memory base state ≡ true
  can state room good = and_from _ _ room good

  pub cannot_full : (state : StreamState) → has_room fifo state ≡ false → can_come fifo memory base state ≡ false
  cannot_full state full = and_none _ _ full

  pub cannot_bad : (state : StreamState) → is_good memory (next_of memory base state) ≡ false → can_come fifo memory base state ≡ false
  cannot_bad state bad = none_and _ _ bad

  pub come : (state : StreamState) → can_come fifo memory base state ≡ true → next_byte fifo memory base last state ≡ with_byte memory base last state
  come state is = ap (λ (comes : Bool). if comes then with_byte memory base last state else state) is

  pub not_come : (state : StreamState) → can_come fifo memory base state ≡ false → next_byte fifo memory base last state ≡ state
  not_come state none = ap (λ (comes : Bool). if comes then with_byte memory base last state else state) none

  -- where no byte comes the state stays
  pub stays : (n : ℕ) (state : StreamState) → can_come fifo memory base state ≡ false → bytes_came n fifo memory base last state ≡ state
  stays zero state none = refl
  stays (suc n) state none = ap (bytes_came n fifo memory base last) (not_come state none) ∙ stays n state none

  pub none_completes : (n : ℕ) (state : StreamState) → can_come fifo memory base state ≡ false → some_completes n fifo memory base last state ≡ false
  none_completes zero state none = refl
  none_completes (suc n) state none =
      or_none _ _ (and_none _ _ none) ∙ (ap (some_completes n fifo memory base last) (not_come state none) ∙ none_completes n state none)

  pub none_breaks : (n : ℕ) (state : StreamState) → has_room fifo state ≡ false → some_breaks n fifo memory base last state ≡ false
  none_breaks zero state full = refl
  none_breaks (suc n) state full =
      or_none _ _ (and_none _ _ full) ∙ (ap (some_breaks n fifo memory base last) (not_come state (cannot_full state full)) ∙ none_breaks n state full)

  pub breaks_now : (n : ℕ) (state : StreamState) → has_room fifo state ≡ true → is_good memory (next_of memory base state) ≡ false
      → some_breaks (suc n) fifo memory base last state ≡ true
  breaks_now n state room bad = or_left _ _ (and_from _ _ room (turned_on _ bad))

  -- after a byte that came
  pub breaks_later : (n : ℕ) (state : StreamState) → has_room fifo state ≡ true → is_good memory (next_of memory base state) ≡ true
      → some_breaks (suc n) fifo memory base last state ≡ some_breaks n fifo memory base last (with_byte memory base last state)
  breaks_later n state room good =
      or_none _ _ (none_and _ _ (turned _ good)) ∙ ap (some_breaks n fifo memory base last) (come state (can state room good))

  pub completes_or : (n : ℕ) (state : StreamState) → has_room fifo state ≡ true → is_good memory (next_of memory base state) ≡ true
      → some_completes (suc n) fifo memory base last state ≡ (completes memory base state || some_completes n fifo memory base last (with_byte memory base last state))
  completes_or n state room good =
      ap (λ (comes : Bool). (comes && completes memory base state) || some_completes n fifo memory base last (if comes then with_byte memory base last state else state))
      (can state room good)

  pub came_on : (n : ℕ) (state : StreamState) → has_room fifo state ≡ true → is_good memory (next_of memory base state) ≡ true
      → bytes_came (suc n) fifo memory base last state ≡ bytes_came n fifo memory base last (with_byte memory base last state)
  came_on n state room good = ap (bytes_came n fifo memory base last) (come state (can state room good))
