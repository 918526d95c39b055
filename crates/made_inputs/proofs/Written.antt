-- The made schedules with their repeats written out.
use Rattle.std.proofs.Common.{◌≡◌, ℕ, zero, suc, ◌+◌, List, [], ◌∷◌, ◌++◌, length, replicate, refl, ap, subst, ◌∙◌, add-one, arith, length-append}
use Rattle.std.specs.List.{flat_map}
use Rattle.std.proofs.lemmas.List.{append-nil}
use Rattle.schedule_reader.specs.declared.schedule.Item.{Item}
use Rattle.schedule_reader.specs.Counts.{items_of}
use Rattle.made_inputs.specs.MadeSchedule.{turn_frames, turns, reset_items, command_items, sound_items, schedule_with}
use Rattle.made_inputs.proofs.Turns.{turns_more}

-- the reset and the commands
unfoldable pub bring_up_items : List Item
bring_up_items = reset_items ++ flat_map (λ (items : List Item). items) (replicate 44 command_items)

pub items_are : (number count : ℕ) → items_of (schedule_with number count) ≡ bring_up_items ++ sound_items number count
unfolding bring_up_items
items_are number count =
    ap (λ (back : List Item). bring_up_items ++ back)
    (append-nil (sound_items number count ++ []) ∙ append-nil (sound_items number count))

pub length_turns : (number count : ℕ) → length (turns number count) ≡ count
length_turns number zero = refl
length_turns number (suc count) =
    let one = length_turns number count in
    let more = ap length (turns_more number count) ∙ length-append (turns number count) (turn_frames number (count + 1) ∷ []) in
    subst (λ (n : ℕ). length (turns number n) ≡ n) (add-one count) (omega (arith, one, more))
