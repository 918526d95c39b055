-- When the oldest byte of a FIFO goes to a list of buffers, and what stays where none does.
use Rattle.std.proofs.Common.{◌≡◌, ◌&&◌, ◌||◌, ℕ, zero, suc, Bool, true, false, if◌then◌else◌, refl, ap, ◌∙◌}
use Rattle.std.proofs.lemmas.Bool.{or_left, and_from}
use Rattle.world_streams.specs.Lists.{is_good}
use Rattle.world_streams.specs.Output.{next_of, completes}
use Rattle.world_streams.specs.Input.{Emptying, holds_byte, can_go, byte_gone, next_gone, bytes_went, some_fills, some_jams}
use Rattle.world_streams.proofs.Coming.{and_none, none_and, or_none, turned, turned_on}

module _ (base last : ℕ) where
  pub goes : (held : Emptying) → holds_byte held.state ≡ true → is_good held.memory (next_of held.memory base held.state) ≡ true → can_go base held ≡ true
  goes held some good = and_from _ _ some good

  pub stays_empty : (held : Emptying) → holds_byte held.state ≡ false → can_go base held ≡ false
  stays_empty held none = and_none _ _ none

  pub stays_jammed : (held : Emptying) → is_good held.memory (next_of held.memory base held.state) ≡ false → can_go base held ≡ false
  stays_jammed held bad = none_and _ _ bad

  pub gone : (held : Emptying) → can_go base held ≡ true → next_gone base last held ≡ byte_gone base last held
  gone held is = ap (λ (go : Bool). if go then byte_gone base last held else held) is

  pub not_gone : (held : Emptying) → can_go base held ≡ false → next_gone base last held ≡ held
  not_gone held none = ap (λ (go : Bool). if go then byte_gone base last held else held) none

  -- where no byte goes all stays
  pub remains : (n : ℕ) (held : Emptying) → can_go base held ≡ false → bytes_went n base last held ≡ held
  remains zero held none = refl
  remains (suc n) held none = ap (bytes_went n base last) (not_gone held none) ∙ remains n held none

  pub none_fills : (n : ℕ) (held : Emptying) → can_go base held ≡ false → some_fills n base last held ≡ false
  none_fills zero held none = refl
  none_fills (suc n) held none =
      or_none _ _ (and_none _ _ none) ∙ (ap (some_fills n base last) (not_gone held none) ∙ none_fills n held none)

  pub none_jams : (n : ℕ) (held : Emptying) → holds_byte held.state ≡ false → some_jams n base last held ≡ false
  none_jams zero held empty = refl
  none_jams (suc n) held empty =
      or_none _ _ (and_none _ _ empty) ∙ (ap (some_jams n base last) (not_gone held (stays_empty held empty)) ∙ none_jams n held empty)

  pub jams_now : (n : ℕ) (held : Emptying) → holds_byte held.state ≡ true → is_good held.memory (next_of held.memory base held.state) ≡ false
      → some_jams (suc n) base last held ≡ true
  jams_now n held some bad = or_left _ _ (and_from _ _ some (turned_on _ bad))

  -- after a byte that went
  pub jams_later : (n : ℕ) (held : Emptying) → holds_byte held.state ≡ true → is_good held.memory (next_of held.memory base held.state) ≡ true
      → some_jams (suc n) base last held ≡ some_jams n base last (byte_gone base last held)
  jams_later n held some good =
      or_none _ _ (none_and _ _ (turned _ good)) ∙ ap (some_jams n base last) (gone held (goes held some good))

  pub fills_or : (n : ℕ) (held : Emptying) → holds_byte held.state ≡ true → is_good held.memory (next_of held.memory base held.state) ≡ true
      → some_fills (suc n) base last held ≡ (completes held.memory base held.state || some_fills n base last (byte_gone base last held))
  fills_or n held some good =
      ap (λ (go : Bool). (go && completes held.memory base held.state) || some_fills n base last (if go then byte_gone base last held else held))
      (goes held some good)

  pub went_on : (n : ℕ) (held : Emptying) → holds_byte held.state ≡ true → is_good held.memory (next_of held.memory base held.state) ≡ true
      → bytes_went (suc n) base last held ≡ bytes_went n base last (byte_gone base last held)
  went_on n held some good = ap (bytes_went n base last) (gone held (goes held some good))
