-- Turns that are put last, one after another.
use Rattle.std.proofs.Common.{◌≡◌, ◌≤◌, ◌<◌, ◌⊎◌, inl, inr, ℕ, ◌+◌, ◌*◌, ◌%◌, List, [], ◌∷◌, ◌++◌, refl, sym, ap, subst, ◌∙◌, add-one, zero-add, append_assoc, arith}
use Rattle.std.specs.Prelude.{sum}
use Rattle.std.specs.List.{flat_map}
use Rattle.std.proofs.lemmas.List.{append-nil}
use Rattle.std.proofs.lemmas.List.Sums.{sum_by-append}
use Rattle.std.proofs.lemmas.Grind.{flat_map-append}
use Rattle.schedule_reader.specs.declared.schedule.Item.{Item}
use Rattle.made_inputs.specs.MadeSound.{frames_for}
use Rattle.made_inputs.specs.MadeSchedule.{draw, turn_frames, turns, turn_items, AreTurns}

-- one turn more
pub turns_more : (number count : ℕ) → turns number (count + 1) ≡ turns number count ++ turn_frames number (count + 1) ∷ []
turns_more number count =
    ap (turns number) (add-one count) ∙ ap (λ (n : ℕ). turns number count ++ turn_frames number n ∷ []) (sym (add-one count))

pub draw_more : (number count : ℕ) → draw number (count + 1) ≡ (1103515245 * draw number count + 12345) % 2147483648
draw_more number count = ap (draw number) (add-one count)

pub sum_more : (number count : ℕ) → sum (turns number (count + 1)) ≡ sum (turns number count) + turn_frames number (count + 1)
sum_more number count =
    ap sum (turns_more number count)
    ∙ sum_by-append (λ (n : ℕ). n) (turns number count) (turn_frames number (count + 1) ∷ [])
    ∙ ap (λ (n : ℕ). sum (turns number count) + n) (zero-add (turn_frames number (count + 1)))

items_more : (number count : ℕ)
    → flat_map turn_items (turns number (count + 1)) ≡ flat_map turn_items (turns number count) ++ turn_items (turn_frames number (count + 1))
items_more number count =
    ap (flat_map turn_items) (turns_more number count)
    ∙ flat_map-append turn_items (turns number count) (turn_frames number (count + 1) ∷ [])

-- so many turns were put behind the first items: as yet none too many
pub record HasPushed (number : ℕ) (first : List Item) (last linked : ℕ) (items : List Item) : Type 0 where
  pub count : ℕ
  pub last_is : last ≡ draw number count
  pub linked_is : linked ≡ sum (turns number count)
  pub fewest : (fewer : ℕ) → fewer < count → sum (turns number fewer) < frames_for number
  pub items_are : items ≡ first ++ flat_map turn_items (turns number count)

pub none_pushed : (number : ℕ) (first : List Item) → HasPushed number first number 0 first
none_pushed number first = record {
  count = 0;
  last_is = refl;
  linked_is = refl;
  fewest = λ fewer less. absurd (omega (arith, less));
  items_are = sym (append-nil first);
}

below : (fewer count : ℕ) → fewer < count + 1 → (fewer < count) ⊎ (fewer ≡ count)
below fewer count less = grind arith

before : (number count fewer linked : ℕ) → linked ≡ sum (turns number count) → linked < frames_for number
    → ((fewer : ℕ) → fewer < count → sum (turns number fewer) < frames_for number)
    → (fewer < count) ⊎ (fewer ≡ count) → sum (turns number fewer) < frames_for number
before number count fewer linked is few fewest (inl less) = fewest fewer less
before number count fewer linked is few fewest (inr same) =
    subst (λ (n : ℕ). sum (turns number n) < frames_for number) (sym same) (subst (λ (n : ℕ). n < frames_for number) is few)

-- one turn more, where the link frames were too few
pub one_pushed : (number : ℕ) (first : List Item) (last linked : ℕ) (items : List Item) (next length : ℕ) (items' : List Item)
    → HasPushed number first last linked items → linked < frames_for number
    → next ≡ (1103515245 * last + 12345) % 2147483648 → length ≡ 16 + next % 32 → items' ≡ items ++ turn_items length
    → HasPushed number first next (linked + length) items'
one_pushed number first last linked items next length items' pushed few next_is length_is more =
    let count = pushed.count in
    let next' : next ≡ draw number (count + 1) =
    next_is ∙ ap (λ (n : ℕ). (1103515245 * n + 12345) % 2147483648) pushed.last_is ∙ sym (draw_more number count) in
    let length' : length ≡ turn_frames number (count + 1) = length_is ∙ ap (λ (n : ℕ). 16 + n % 32) next' in
    let so_far = pushed.linked_is in
    record {
      count = count + 1;
      last_is = next';
      linked_is = ap (λ (n : ℕ). n + length) so_far ∙ ap (λ (n : ℕ). sum (turns number count) + n) length' ∙ sym (sum_more number count);
      fewest = λ fewer less. before number count fewer linked so_far few pushed.fewest (below fewer count less);
      items_are =
          more
          ∙ ap (λ (front : List Item). front ++ turn_items length) pushed.items_are
          ∙ append_assoc first (flat_map turn_items (turns number count)) (turn_items length)
          ∙ ap (λ (n : ℕ). first ++ (flat_map turn_items (turns number count) ++ turn_items n)) length'
          ∙ ap (λ (back : List Item). first ++ back) (sym (items_more number count));
    }

-- they are enough once they have as many link frames
pub turns_are : (number : ℕ) (first : List Item) (last linked : ℕ) (items : List Item) → HasPushed number first last linked items
    → frames_for number ≤ linked
    → (count : ℕ) × AreTurns number count × (items ≡ first ++ flat_map turn_items (turns number count))
turns_are number first last linked items pushed many = (
  pushed.count,
  record { enough = subst (λ (n : ℕ). frames_for number ≤ n) pushed.linked_is many; fewest = pushed.fewest },
  pushed.items_are,
)
