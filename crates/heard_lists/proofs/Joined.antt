-- Blocks after blocks.
use Rattle.std.proofs.Common.{◌≡◌, ◌<◌, ◌+◌, ◌*◌, ◌/◌, ℕ, List, [], ◌∷◌, ◌++◌, length, map, refl, sym, ap, ◌∙◌}
use Rattle.std.proofs.Common.{length-append}
use Rattle.std.proofs.Math.Nat.{mul-div_cancel, mul-add-div_right}
use Rattle.stream_format.specs.Layouts.{Layout}
use Rattle.heard_frames.specs.declared.heard.Heard.{Heard}
use Rattle.codec_sound.specs.declared.signals.Signal.{Signal}
use Rattle.heard_frames.specs.HeardLists.{block_size}
use Rattle.heard_lists.specs.Listings.{Listing, items_before, with_blocks, with_items}
use Rattle.heard_lists.proofs.Growing.{with_both}
use Rattle.heard_lists.proofs.Pieced.{before-on}

module _ (layout : Layout) (first second : List ℕ) (count : ℕ) (some : 0 < block_size layout)
    (whole : length first ≡ count * block_size layout) where
  first_count : length first / block_size layout ≡ count
  first_count = ap (λ (n : ℕ). n / block_size layout) whole ∙ mul-div_cancel count some

  -- as many blocks as the first bytes have, and then those of the second
  pub both_count : length (first ++ second) / block_size layout ≡ count + length second / block_size layout
  both_count =
      ap (λ (n : ℕ). n / block_size layout) (length-append first second ∙ ap (λ (n : ℕ). n + length second) whole)
      ∙ mul-add-div_right some count (length second)

  both_items : (heard : Signal) → items_before layout heard first (length first / block_size layout) ++ items_before
      layout heard second (length second / block_size layout)
      ≡ items_before layout heard (first ++ second) (length (first ++ second) / block_size layout)
  both_items heard =
      ap (λ (n : ℕ). items_before layout heard first n ++ items_before layout heard second
      (length second / block_size layout)) first_count
      ∙ (sym (before-on layout heard first second count (length second / block_size layout) whole)
      ∙ ap (items_before layout heard (first ++ second)) (sym both_count))

  -- lists that hear the first and then the second blocks hear all of them
  pub blocks-on : (signal : ℕ → ℕ → Signal) (lists : List Listing)
      → map (with_blocks signal layout second) (map (with_blocks signal layout first) lists) ≡ map
      (with_blocks signal layout (first ++ second)) lists
  blocks-on signal [] = refl
  blocks-on signal (listing ∷ lists) =
      let heard : Signal = signal listing.codec listing.pin in
      let one : with_blocks signal layout second (with_blocks signal layout first listing) ≡ with_blocks signal layout
      (first ++ second) listing =
      with_both listing (items_before layout heard first (length first / block_size layout))
      (items_before layout heard second (length second / block_size layout))
      ∙ ap (λ (items : List Heard). with_items items listing) (both_items heard) in
      ap (λ (l : Listing). l ∷ map (with_blocks signal layout second) (map (with_blocks signal layout first) lists)) one
      ∙ ap (λ (rest : List Listing). with_blocks signal layout (first ++ second) listing ∷ rest)
      (blocks-on signal lists)
